-- What the acts on the lists, on the grains and on the queues ask, and what they answer and leave: the tables hold some state, and afterwards the outcome's. Assumes nothing: these are definitions.
use Rattle.std.specs.Prelude.{ℕ, ◌≡◌, true, List, Float}
use Rattle.halting.specs.Out.{Out}
use Rattle.model.specs.declared.Domain.{Domain}
use Rattle.model.specs.State.{State, has, home, listed}
use Rattle.tables.specs.declared.Sizes.{Sizes}
use Rattle.tables.specs.Holds.{Listed, Grained, Queued}
use Rattle.acts.specs.declared.queue.Queues.{Queues}

-- ---- the lists
abbrev pub InLists : Sizes → List ℕ → State → Type 0
InLists z l s = Listed z l s.homes s.members

abbrev pub Lists : Sizes → List ℕ → Type 0
Lists z l = (s : State) × InLists z l s

-- grain g and cell c list each other
abbrev pub Pair : ℕ → ℕ → State → Type 0
Pair g c s = (has g (listed s c) ≡ true) × (has c (home s g) ≡ true)

abbrev pub ListsPair : Sizes → List ℕ → ℕ → ℕ → Type 0
ListsPair z l g c = (s : State) × InLists z l s × Pair g c s

abbrev pub ListsTold : Sizes → List ℕ → ℕ → Out State → Type 0
ListsTold z l r o = (r ≡ o.num) × InLists z l o.st

-- ---- the grains
abbrev pub InGrains : Sizes → List Float → State → Type 0
InGrains z t s = Grained z t s.grains

abbrev pub Grains : Sizes → List Float → Type 0
Grains z t = (s : State) × InGrains z t s

abbrev pub GrainsTold : Sizes → List Float → ℕ → Out State → Type 0
GrainsTold z t r o = (r ≡ o.num) × InGrains z t o.st

-- the box and the clock, which travel by value, are the state's
abbrev pub At : Domain → Float → State → Type 0
At b t s = (s.box ≡ b) × (s.clock ≡ t)

-- ---- the queues with the heap
abbrev pub InQueues : Sizes → Queues → State → Type 0
InQueues z q s = Queued z q.queue.now q.events.now q.order.now s

abbrev pub IsReady : Sizes → Queues → Type 0
IsReady z q = (s : State) × InQueues z q s

abbrev pub QueuesTold : Sizes → Queues → ℕ → Out State → Type 0
QueuesTold z q r o = (r ≡ o.num) × InQueues z q o.st

-- the tables that are lent stay the same ones
pub record SameTables (old new : Queues) : Type 0 where
  pub queue : new.queue.ghost_name ≡ old.queue.ghost_name
  pub events : new.events.ghost_name ≡ old.events.ghost_name
  pub order : new.order.ghost_name ≡ old.order.ghost_name
