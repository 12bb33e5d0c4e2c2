-- What it means that the tables, behind their headers, hold a state. Assumes nothing: these are definitions.
use Rattle.std.specs.Prelude.{ℕ, ◌≤◌, ◌<◌, ◌≡◌, List, ◌++◌, length, Float}
use Rattle.halting.specs.Every.{All}
use Rattle.chunks.specs.Flat.{flat}
use Rattle.halting.specs.Out.{Out}
use Rattle.layout.specs.Widths.{heap_wide, home_room, member_room}
use Rattle.scheduler.specs.declared.Scheduler.{Scheduler}
use Rattle.model.specs.declared.Particle.{Particle}
use Rattle.model.specs.declared.Place.{Place}
use Rattle.model.specs.Sizes.{most_grains, most_room, most_cells}
use Rattle.model.specs.State.{Row, State}
use Rattle.tables.specs.declared.Sizes.{Sizes}
use Rattle.tables.specs.Layout.{places, grain_reals, row_nums, place_nums, place_reals, queue_nums, queue_reals, order_bytes}

-- the counts are in range
pub record Ranged (z : Sizes) : Type 0 where
  pub grains_most : z.grains ≤ most_grains
  pub cells_most : z.cells ≤ most_cells
  pub room_some : 0 < z.room
  pub room_most : z.room ≤ most_room

-- ---- grains
pub record Grained (z : Sizes) (t : List Float) (gs : List Particle) : Type 0 where
  pub is : t ≡ flat grain_reals gs
  pub many : length gs ≡ z.grains

-- ---- rows of numbers: w places each, every number in use below n
pub record Rows (m w n : ℕ) (rs : List (Row ℕ)) : Type 0 where
  pub many : length rs ≡ m
  pub wide : All (λ (r : Row ℕ). length (places r) ≡ w) rs
  pub below : All (λ (r : Row ℕ). All (λ (x : ℕ). x < n) r.live) rs

pub record Listed (z : Sizes) (t : List ℕ) (hs ms : List (Row ℕ)) : Type 0 where
  pub is : t ≡ flat row_nums hs ++ flat row_nums ms
  pub homes : Rows z.grains home_room z.cells hs
  pub members : Rows z.cells member_room z.grains ms

-- ---- a run of places in two parts of tables
pub record Run (nums : List ℕ) (reals : List Float) (ps : List Place) : Type 0 where
  pub nums_is : nums ≡ flat place_nums ps
  pub reals_is : reals ≡ flat place_reals ps

-- a row of `room` places
abbrev pub Full : ℕ → Row Place → Type 0
Full room r = length (places r) ≡ room

pub record Tabled (z : Sizes) (queue : List ℕ) (events : List Float) (qs : List (Row Place)) : Type 0 where
  pub queue_is : queue ≡ flat queue_nums qs
  pub events_is : events ≡ flat queue_reals qs
  pub many : length qs ≡ z.cells
  pub full : All (Full z.room) qs

-- ---- the heap and its lookups
pub record Heaped (z : Sizes) (t : List ℕ) (h : Scheduler) : Type 0 where
  pub is : t ≡ order_bytes h
  pub heap_long : length h.heap ≡ heap_wide
  pub lookups_long : length h.lookups ≡ heap_wide
  pub cells_is : h.cells ≡ z.cells

-- ---- the queues with the heap, and all of it
pub record Queued (z : Sizes) (queue : List ℕ) (events : List Float) (order : List ℕ) (s : State) : Type 0 where
  pub ranged : Ranged z
  pub tables : Tabled z queue events s.queues
  pub heap : Heaped z order s.sched
  pub room_is : s.room ≡ z.room

pub record Holds (z : Sizes) (lists : List ℕ) (grains : List Float) (queue : List ℕ) (events : List Float) (order : List ℕ) (s : State) : Type 0 where
  pub listed : Listed z lists s.homes s.members
  pub grained : Grained z grains s.grains
  pub queued : Queued z queue events order s

-- they hold some state
abbrev pub Ready : Sizes → List ℕ → List Float → List ℕ → Type 0
Ready z queue events order = (s : State) × Queued z queue events order s

-- what an act answers and leaves is the outcome o of the model's
abbrev pub Told : Sizes → List ℕ → List Float → List ℕ → ℕ → Out State → Type 0
Told z queue events order r o = (r ≡ o.num) × Queued z queue events order o.st
