-- The state that 01's rules work on: what the tables hold. Assumes nothing: these are definitions.
use Rattle.std.specs.Prelude.{ℕ, List, [], ◌∷◌, ◌++◌, Bool, false, ◌||◌, cond, eqb, get_or, set, drop, Float}
use Rattle.order.specs.Numbers.{fzero}
use Rattle.scheduler.specs.declared.Scheduler.{Scheduler}
use Rattle.scheduler.specs.Head.{Head}
use Rattle.scheduler.specs.Heap.{updated}
use Rattle.model.specs.declared.Domain.{Domain}
use Rattle.model.specs.declared.Particle.{Particle}
use Rattle.model.specs.declared.Place.{Place}
use Rattle.model.specs.Stepping.{grain_of}
use Rattle.model.specs.Events.{zero_v, head_time}

-- a fixed run of places: those in use in order, then those beyond
pub record Row (A : Type 0) : Type 0 where
  pub live : List A
  pub spare : List A

abbrev pub row : {A : Type 0} → List A → List A → Row A
row l s = record { live = l; spare = s }

abbrev pub none : {A : Type 0} → Row A
none = row [] []

-- box, clock, halt mark and room; the grains; per grain the cells that list it, per cell the grains that it lists and its pending events; the scheduler
pub record State : Type 0 where
  pub box : Domain
  pub clock : Float
  pub mark : ℕ
  pub room : ℕ
  pub grains : List Particle
  pub homes : List (Row ℕ)
  pub members : List (Row ℕ)
  pub queues : List (Row Place)
  pub sched : Scheduler

abbrev pub zero_g : Particle
zero_g = grain_of zero_v zero_v fzero fzero fzero

-- reading
abbrev pub grain : State → ℕ → Particle
grain s g = get_or s.grains g zero_g

abbrev pub live_at : {A : Type 0} → List (Row A) → ℕ → List A
live_at rs i = (get_or rs i none).live

-- the cells that list grain g; the grains that cell c lists; the events that cell c holds
abbrev pub home : State → ℕ → List ℕ
home s g = live_at s.homes g

abbrev pub listed : State → ℕ → List ℕ
listed s c = live_at s.members c

abbrev pub queue : State → ℕ → List Place
queue s c = live_at s.queues c

-- each cell's head
unfoldable pub heads : List (Row Place) → ℕ → Head
heads qs c = head_time (live_at qs c)

-- writing
abbrev pub with_grains : List Particle → State → State
with_grains x s = record { box = s.box; clock = s.clock; mark = s.mark; room = s.room; grains = x; homes = s.homes; members = s.members; queues = s.queues; sched = s.sched }

abbrev pub with_lists : List (Row ℕ) → List (Row ℕ) → State → State
with_lists h m s = record { box = s.box; clock = s.clock; mark = s.mark; room = s.room; grains = s.grains; homes = h; members = m; queues = s.queues; sched = s.sched }

abbrev pub with_queues : List (Row Place) → Scheduler → State → State
with_queues q h s = record { box = s.box; clock = s.clock; mark = s.mark; room = s.room; grains = s.grains; homes = s.homes; members = s.members; queues = q; sched = h }

abbrev pub with_clock : Float → State → State
with_clock t s = record { box = s.box; clock = t; mark = s.mark; room = s.room; grains = s.grains; homes = s.homes; members = s.members; queues = s.queues; sched = s.sched }

abbrev pub marked : ℕ → State → State
marked r s = record { box = s.box; clock = s.clock; mark = r; room = s.room; grains = s.grains; homes = s.homes; members = s.members; queues = s.queues; sched = s.sched }

-- cell c gets a new row of events, and the heap its update
unfoldable pub requeued : ℕ → Row Place → State → State
requeued c r s =
    let qs = set s.queues c r in
    with_queues qs (updated (heads qs) s.sched c (heads s.queues c) (head_time r.live)) s

-- lists of numbers: whether x is there, and all but the first x; "appending goes to the end of a list, removal keeps order", a place given up is cleared
unfoldable pub has : ℕ → List ℕ → Bool
has x [] = false
has x (y ∷ ys) = eqb x y || has x ys

unfoldable pub but : ℕ → List ℕ → List ℕ
but x [] = []
but x (y ∷ ys) = cond (eqb x y) ys (y ∷ but x ys)

abbrev pub pushed : ℕ → Row ℕ → Row ℕ
pushed x r = row (r.live ++ x ∷ []) (drop 1 r.spare)

abbrev pub pulled : ℕ → Row ℕ → Row ℕ
pulled x r = row (but x r.live) (0 ∷ r.spare)
