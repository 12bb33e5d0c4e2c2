-- 01, "Doing an event": "a pending event carries its kind and the floats that its kind needs". An event, the place of the tables that holds one,
-- and a cell's list of them in time order. Assumes nothing: these are definitions.
use Rattle.std.specs.Prelude.{ℕ, zero, suc, Bool, false, ◌&&◌, ◌||◌, cond, List, [], ◌∷◌, eqb, Float, Some, None}
use Rattle.std.specs.Float.Ieee.{le, lt}
use Rattle.std.specs.Float.Ieee.Scale.{finite}
use Rattle.order.specs.Numbers.{fzero, f64_max}
use Rattle.scheduler.specs.Head.{Head}
use Rattle.myvec.specs.declared.MyVec.{MyVec}
use Rattle.myvec.specs.Vec.{vec}
use Rattle.model.specs.declared.Event.{Event}
use Rattle.model.specs.declared.Event.TheVariants.{InterParticleCollision, MoveToNeighbour, MoveOutOfCell, WallReflection, Synchronisation}
use Rattle.model.specs.declared.Pending.{Pending}
use Rattle.model.specs.declared.Place.{Place}

abbrev pub zero_v : MyVec
zero_v = vec fzero fzero

abbrev pub zero_p : Place
zero_p = record { kind = 0; p = 0; q = 0; cell = 0; time = fzero; a = zero_v; b = zero_v; c = zero_v; d = zero_v; val = fzero }

-- how an event is written at a place; a number or float that its kind does not need is 0
abbrev pub place_of_event : Float → Event → Place
place_of_event t (InterParticleCollision p q pp qp pv qv v) = record { kind = 1; p = p; q = q; cell = 0; time = t; a = pp; b = qp; c = pv; d = qv; val = v }
place_of_event t (MoveToNeighbour p x k) = record { kind = 2; p = p; q = 0; cell = k; time = t; a = x; b = zero_v; c = zero_v; d = zero_v; val = fzero }
place_of_event t (MoveOutOfCell p x k) = record { kind = 3; p = p; q = 0; cell = k; time = t; a = x; b = zero_v; c = zero_v; d = zero_v; val = fzero }
place_of_event t (WallReflection p x v w) = record { kind = 4; p = p; q = 0; cell = 0; time = t; a = x; b = zero_v; c = v; d = zero_v; val = w }
place_of_event t Synchronisation = record { kind = 5; p = 0; q = 0; cell = 0; time = t; a = zero_v; b = zero_v; c = zero_v; d = zero_v; val = fzero }

abbrev pub place_of : Pending → Place
place_of e = place_of_event e.time e.event

-- the event that a place holds, by its kind number; every other number reads as a synchronisation
abbrev pub event_of : ℕ → Place → Event
event_of zero s = Synchronisation
event_of (suc zero) s = InterParticleCollision s.p s.q s.a s.b s.c s.d s.val
event_of (suc (suc zero)) s = MoveToNeighbour s.p s.a s.cell
event_of (suc (suc (suc zero))) s = MoveOutOfCell s.p s.a s.cell
event_of (suc (suc (suc (suc zero)))) s = WallReflection s.p s.a s.c s.val
event_of (suc (suc (suc (suc (suc n))))) s = Synchronisation

abbrev pub pending_of : Place → Pending
pending_of s = record { time = s.time; event = event_of s.kind s }

-- whether an event names the grain g
abbrev pub names : Event → ℕ → Bool
names (InterParticleCollision p q pp qp pv qv v) g = eqb p g || eqb q g
names (MoveToNeighbour p x k) g = eqb p g
names (MoveOutOfCell p x k) g = eqb p g
names (WallReflection p x v w) g = eqb p g
names Synchronisation g = false

-- e goes after every event that is not later
unfoldable pub insert_by : Place → List Place → List Place
insert_by e [] = e ∷ []
insert_by e (x ∷ xs) = cond (le x.time e.time) (x ∷ insert_by e xs) (e ∷ x ∷ xs)

-- of some events those that do not name g, in order, and how many do
unfoldable pub keep_by : ℕ → List Place → List Place
keep_by g [] = []
keep_by g (x ∷ xs) = cond (names (event_of x.kind x) g) (keep_by g xs) (x ∷ keep_by g xs)

unfoldable pub gone_by : ℕ → List Place → ℕ
gone_by g [] = 0
gone_by g (x ∷ xs) = cond (names (event_of x.kind x) g) (suc (gone_by g xs)) (gone_by g xs)

-- the head of some events: empty where there is none, else the time of the first; and that event
abbrev pub head_time : List Place → Head
head_time [] = None
head_time (x ∷ xs) = Some x.time

abbrev pub head_place : List Place → Place
head_place [] = zero_p
head_place (x ∷ xs) = x

-- rule 5: every number that would be stored is finite, and the time is below f64::MAX
abbrev pub fine_v : MyVec → Bool
fine_v v = finite v.x && finite v.y

unfoldable pub fine_place : Place → Bool
fine_place s = (finite s.time && lt s.time f64_max) && (fine_v s.a && (fine_v s.b && (fine_v s.c && (fine_v s.d && finite s.val))))
