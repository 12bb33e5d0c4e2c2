-- What it means that the tables hold a state of this box at this clock, and what an act over them answers and leaves. Assumes nothing: these are definitions.
use Rattle.std.specs.Prelude.{ℕ, ◌<◌, ◌≡◌, Bool, true, false, List, Float}
use Rattle.halting.specs.Out.{Out}
use Rattle.cell.specs.declared.Cell.{Cell}
use Rattle.cell.specs.Cell.{IsCell}
use Rattle.model.specs.declared.Event.{Event}
use Rattle.model.specs.declared.Event.TheVariants.{InterParticleCollision, MoveToNeighbour, MoveOutOfCell, WallReflection, Synchronisation}
use Rattle.model.specs.State.{State}
use Rattle.model.specs.Standing.{Standing}
use Rattle.model.specs.Check.{Fitted}
use Rattle.tables.specs.declared.Sizes.{Sizes}
use Rattle.tables.specs.Holds.{Grained, Listed, Holds}
use Rattle.acts.specs.declared.queue.Queues.{Queues}
use Rattle.acts.specs.Tell.{At, InQueues, Pair}
use Rattle.step.specs.declared.World.{World}

-- a cell of the box
pub record Celled (w : World) (c : Cell) : Type 0 where
  pub is : IsCell w.domain c
  pub inside : c.index < w.sizes.cells

-- grains and queues hold the state's, and it has this box and clock
pub record Seen (w : World) (grains : List Float) (q : Queues) (s : State) : Type 0 where
  pub at : At w.domain w.clock s
  pub grained : Grained w.sizes grains s.grains
  pub queued : InQueues w.sizes q s

-- the lists too
pub record Held (w : World) (lists : List ℕ) (grains : List Float) (q : Queues) (s : State) : Type 0 where
  pub listed : Listed w.sizes lists s.homes s.members
  pub seen : Seen w grains q s

-- lists and queues hold the state's
pub record Listing (z : Sizes) (lists : List ℕ) (q : Queues) (s : State) : Type 0 where
  pub listed : Listed z lists s.homes s.members
  pub queued : InQueues z q s

-- the tables hold the state, it has this box, and the standing facts hold in it
pub record Steady (w : World) (lists : List ℕ) (grains : List Float) (q : Queues) (s : State) : Type 0 where
  pub holds : Holds w.sizes lists grains q.queue.now q.events.now q.order.now s
  pub box : s.box ≡ w.domain
  pub standing : Standing s
  pub fitted : Fitted s

-- of two worlds: all but the clock is the same
pub record SameBox (old new : World) : Type 0 where
  pub sizes : new.sizes ≡ old.sizes
  pub domain : new.domain ≡ old.domain
  pub grid : new.grid ≡ old.grid

-- some state is so
abbrev pub Some : (State → Type 0) → Type 0
Some P = (s : State) × P s

-- of an act that answered r: the number is the outcome's, and the outcome's state is so
abbrev pub Says : (State → Type 0) → ℕ → Out State → Type 0
Says Q r o = (r ≡ o.num) × Q o.st

-- whatever state was so before
pub record Does (P Q : State → Type 0) (r : ℕ) (act : State → Out State) : Type 0 where
  pub says : (s : State) → P s → Says Q r (act s)

-- what an execution asks: grains and cells in range, and in a leaving that the pair list each other
abbrev pub Apt : Sizes → Event → State → Type 0
Apt z (InterParticleCollision p q x y v u k) s = (p < z.grains) × (q < z.grains)
Apt z (MoveToNeighbour p x k) s = (p < z.grains) × (k < z.cells)
Apt z (MoveOutOfCell p x k) s = (p < z.grains) × (k < z.cells) × Pair p k s
Apt z (WallReflection p x v k) s = (p < z.grains) × Unit {0}
Apt z Synchronisation s = (0 < z.cells) × Unit {0}

abbrev pub is_sync : Event → Bool
is_sync (InterParticleCollision p q x y v u k) = false
is_sync (MoveToNeighbour p x k) = false
is_sync (MoveOutOfCell p x k) = false
is_sync (WallReflection p x v k) = false
is_sync Synchronisation = true
