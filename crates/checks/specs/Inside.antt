-- What the inner functions ask of the tables that they are lent: a passed check 2, and counts within their room. Nobody needs it to know what the check is (Check).
-- Assumes nothing: these are definitions.
use Rattle.std.specs.Prelude.{ℕ, ◌*◌, ◌≤◌, ◌≡◌, List, true, length, Float}
use Rattle.layout.specs.Widths.{home_wide, members_wide, queue_wide, home_room, member_room, place_nums_wide, place_reals_wide}
use Rattle.model.specs.Sizes.{most_grains, least_room, most_room, fewest_cells, most_cells}
use Rattle.model.specs.declared.Place.{Place}
use Rattle.tables.specs.declared.Sizes.{Sizes}
use Rattle.tables.specs.Lengths.{lists_need, grains_need, queue_need, events_need, order_need}
use Rattle.tables.specs.Decode.{Tables, sizes_of, flags_fine, homes_part, members_part, places_of}
use Rattle.checks.specs.Check.{counts_within}

-- check 2 is passed
pub record Sized (z : Sizes) (t : Tables) : Type 0 where
  pub sizes : z ≡ sizes_of t.lists
  pub grains_most : z.grains ≤ most_grains
  pub cells_least : fewest_cells ≤ z.cells
  pub cells_most : z.cells ≤ most_cells
  pub room_least : least_room ≤ z.room
  pub room_most : z.room ≤ most_room
  pub lists_long : lists_need z ≤ length t.lists
  pub grains_long : grains_need z ≤ length t.grains
  pub queue_long : queue_need z ≤ length t.queue
  pub events_long : events_need z ≤ length t.events
  pub order_long : order_need ≤ length t.order

-- ---- counts are within their room: just n rows, each w wide, whose counts are at most v; and all rows of the tables, whose flags are 0 or 1
pub record Rowed (v w n : ℕ) (l : List ℕ) : Type 0 where
  pub counts : counts_within v w n l ≡ true
  pub whole : length l ≡ n * w

pub record Legible (z : Sizes) (l q : List ℕ) : Type 0 where
  pub flags : flags_fine l ≡ true
  pub homes : counts_within home_room home_wide z.grains (homes_part l) ≡ true
  pub members : counts_within member_room members_wide z.cells (members_part z.grains l) ≡ true
  pub events : counts_within z.room (queue_wide z.room) z.cells q ≡ true

-- the numbers and the floats of just these places
pub record Used (nums : List ℕ) (reals : List Float) (ps : List Place) : Type 0 where
  pub nums_whole : length nums ≡ length ps * place_nums_wide
  pub reals_whole : length reals ≡ length ps * place_reals_wide
  pub places : places_of (length ps) nums reals ≡ ps
