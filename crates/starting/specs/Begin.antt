-- What the inner functions of a start ask, and what an accepted start leaves. Assumes nothing: these are definitions.
use Rattle.std.specs.Prelude.{ℕ, ◌*◌, ◌≤◌, ◌≡◌, List, Float}
use Rattle.halting.specs.Out.{Out}
use Rattle.layout.specs.Widths.{input_wide, order_wide}
use Rattle.model.specs.declared.Domain.{Domain}
use Rattle.model.specs.Grid.{cells}
use Rattle.model.specs.Sizes.{most_grains, least_room, most_room}
use Rattle.model.specs.State.{State, marked}
use Rattle.model.specs.Start.{clear}
use Rattle.cell.specs.declared.Grid.{Grid}
use Rattle.cell.specs.Cell.{Laid}
use Rattle.tables.specs.declared.Sizes.{Sizes}
use Rattle.tables.specs.Decode.{Tables}
use Rattle.tables.specs.Holds.{Holds}
use Rattle.tables.specs.Lengths.{lists_need, grains_need, queue_need, events_need}
use Rattle.acts.specs.Tell.{At}
use Rattle.step.specs.declared.World.{World}
use Rattle.tables.specs.Encode.{encoded}
use Rattle.starting.specs.Cleared.{cleared}

-- checks 1 and 2 are passed, by the lengths of the tables
pub record Startable (z : Sizes) (b : Domain) (g : Grid) (inputs l t q e o : ℕ) : Type 0 where
  pub laid : Laid b g
  pub cells_are : z.cells ≡ cells b
  pub grains_most : z.grains ≤ most_grains
  pub room_least : least_room ≤ z.room
  pub room_most : z.room ≤ most_room
  pub inputs_long : z.grains * input_wide ≤ inputs
  pub lists_long : lists_need z ≤ l
  pub grains_long : grains_need z ≤ t
  pub queue_long : queue_need z ≤ q
  pub events_long : events_need z ≤ e
  pub order_long : order_wide ≤ o

-- the parts behind the headers hold a state of this box at this clock
pub record Filled (w : World) (l : List ℕ) (t : List Float) (q : List ℕ) (e : List Float) (o : List ℕ) (s : State) : Type 0 where
  pub at : At w.domain w.clock s
  pub holds : Holds w.sizes l t q e o s

-- they hold the cleared state
pub record Filling (w : World) (inputs : ℕ) (l : List ℕ) (t : List Float) (q : List ℕ) (e : List Float) (o : List ℕ) : Type 0 where
  pub held : Filled w l t q e o (clear w.domain w.sizes.room w.sizes.grains)
  pub inputs_long : w.sizes.grains * input_wide ≤ inputs

-- the number of the outcome, and tables that hold its state with that mark over cleared ones
pub record Began (o : Out State) (r : ℕ) (t u : Tables) : Type 0 where
  pub number : r ≡ o.num
  pub left : u ≡ encoded (marked o.num o.st) (cleared t)
