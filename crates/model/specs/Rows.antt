-- 01's acts as data, and every execution and a start as a row of them, in 01's order. Assumes nothing: these are definitions.
use Rattle.std.specs.Prelude.{ℕ, zero, suc, List, [], ◌∷◌, Bool, false, ◌||◌, cond, eqb, length, get_or, Float, Some, Ok}
use Rattle.std.specs.Float.{binary64}
use Rattle.std.specs.Float.Ieee.{add, sub}
use Rattle.halting.specs.Out.{Out, out, then}
use Rattle.order.specs.Numbers.{fzero}
use Rattle.myvec.specs.declared.MyVec.{MyVec}
use Rattle.model.specs.declared.Bound.{Bound}
use Rattle.model.specs.declared.Bound.TheVariants.{ToNeighbour, OutOfCell, Wall}
use Rattle.model.specs.declared.Domain.{Domain}
use Rattle.model.specs.declared.Particle.{Particle}
use Rattle.model.specs.Plans.{Plan}
use Rattle.model.specs.declared.Event.{Event}
use Rattle.model.specs.declared.Event.TheVariants.{InterParticleCollision, MoveToNeighbour, MoveOutOfCell, WallReflection, Synchronisation}
use Rattle.model.specs.Stepping.{new_pos, landed, renewed, at_zero}
use Rattle.model.specs.Collision.{collision}
use Rattle.model.specs.Moves.{to_neighbour, out_of_cell}
use Rattle.model.specs.Walls.{wall}
use Rattle.model.specs.Grid.{cells}
use Rattle.model.specs.FromPToC.{cells_of_grain}
use Rattle.model.specs.State.{State, zero_g, grain, home, listed}
use Rattle.model.specs.Acts.{store, put, cancel, enter, leave}

-- what a scheduling looks for: a collision of two grains; what a grain meets at its cell's bounds in a direction (entry, leaving or wall); the next synchronisation
pub data Rule : Type 0 where
  pair : ℕ → ℕ → Rule
  bound : Bound → ℕ → ℕ → Rule
  sync : Rule

-- the grains that a rule is about
abbrev pub about : Rule → ℕ → Bool
about (pair p q) g = eqb p g || eqb q g
about (bound b p d) g = eqb p g
about sync g = false

abbrev pub Finder : Type 0
Finder = ℕ → Domain → Float → ℕ → ℕ → Particle → Plan

abbrev pub finder : Bound → Finder
finder ToNeighbour = to_neighbour
finder OutOfCell = out_of_cell
finder Wall = wall

-- ---- the acts. Storing a grain's new numbers is two: a move gives a place and a time and keeps velocity, value and radius, a turn gives all five;
-- a try puts in what a rule found; then cancelling in one cell, an entry in both lists, a leaving
pub data Act : Type 0 where
  moving : ℕ → MyVec → Float → Act
  turning : ℕ → Particle → Act
  trying : ℕ → Rule → Plan → Act
  cancelling entering leaving : ℕ → ℕ → Act

abbrev pub perform : Act → State → Out State
perform (moving g x t) s = store g (landed x t (grain s g)) s
perform (turning g p) s = store g p s
perform (trying c r x) s = put c x s
perform (cancelling g c) s = cancel g c s
perform (entering g c) s = enter g c s
perform (leaving g c) s = leave g c s

-- ---- rows of acts in 01's order: which acts are still to do depends on the state that the one before left
pub data Acts : Type 0 where
  ended : Acts
  act : Act → (State → Acts) → Acts

-- done one after another, up to the first that is refused
unfoldable pub doing : Acts → State → Out State
doing ended s = out 0 s
doing (act a f) s = then (perform a s) (λ u. doing (f u) u)

-- one act alone
abbrev pub only : Act → State → Acts
only a s = act a (λ u. ended)

-- a row, and what is to do from the state that it leaves
unfoldable pub before : Acts → (State → Acts) → State → Acts
before ended g s = g s
before (act a f) g s = act a (λ u. before (f u) g u)

infixr 5 ◌⨟◌
-- one after the other
abbrev pub ◌⨟◌ : (State → Acts) → (State → Acts) → State → Acts
◌⨟◌ f g s = before (f s) g s

-- for each of a list; for c, c + 1, .., m of them
unfoldable pub of_each : (ℕ → State → Acts) → List ℕ → State → Acts
of_each f [] s = ended
of_each f (x ∷ xs) s = (f x ⨟ of_each f xs) s

unfoldable pub in_turn : (ℕ → State → Acts) → ℕ → ℕ → State → Acts
in_turn f zero c s = ended
in_turn f (suc m) c s = (f c ⨟ in_turn f m (suc c)) s

-- ---- the acts of schedule_events and of the five executions, as event.rs orders them
-- a grain steps to the clock
abbrev pub stepping : ℕ → State → Acts
stepping g s = let p = grain s g in only (moving g (new_pos s.box p.pos p.vel (sub binary64 s.clock p.time)) s.clock) s

-- what scheduling a collision of p and q finds goes in
abbrev pub colliding : ℕ → ℕ → ℕ → State → Acts
colliding c p q s = only (trying c (pair p q) (collision s.box s.clock c p q (grain s p) (grain s q))) s

-- what is found at a bound in one direction goes in
abbrev pub finding : Bound → ℕ → ℕ → ℕ → State → Acts
finding b c p d s = only (trying c (bound b p d) (finder b d s.box s.clock c p (grain s p))) s

-- moves to the neighbour, moves out of the cell, walls, each in both directions
abbrev pub bounding : ℕ → ℕ → State → Acts
bounding c p = in_turn (finding ToNeighbour c p) 2 0 ⨟ in_turn (finding OutOfCell c p) 2 0 ⨟ in_turn (finding Wall c p) 2 0

-- all but p, in order
unfoldable pub others : ℕ → List ℕ → List ℕ
others p [] = []
others p (q ∷ qs) = cond (eqb p q) (others p qs) (q ∷ others p qs)

-- schedule_events of p in cell c: the others that it lists step, then collisions with them, then boundaries
abbrev pub scheduling : ℕ → ℕ → State → Acts
scheduling p c s = let qs = others p (listed s c) in (of_each stepping qs ⨟ of_each (colliding c p) qs ⨟ bounding c p) s

-- in each cell that lists p, in order: its events are scheduled, its events are cancelled
abbrev pub reschedules : ℕ → State → Acts
reschedules p s = of_each (scheduling p) (home s p) s

abbrev pub forgets : ℕ → State → Acts
forgets p s = of_each (λ c. only (cancelling p c)) (home s p) s

-- a synchronisation goes in
abbrev pub syncing : Float → Act
syncing t = trying 0 sync (Ok (Some (record { time = t; event = Synchronisation })))

-- the five executions
abbrev pub acts_of : Float → Event → State → Acts
acts_of rate (InterParticleCollision p q x y v w k) s =
    (only (turning p (renewed x v s.clock k (grain s p))) ⨟ only (turning q (renewed y w s.clock k (grain s q))) ⨟ forgets p ⨟ forgets q ⨟ reschedules p ⨟ reschedules q) s
acts_of rate (MoveToNeighbour p x k) s = (only (moving p x s.clock) ⨟ only (entering p k) ⨟ scheduling p k) s
acts_of rate (MoveOutOfCell p x k) s = (only (moving p x s.clock) ⨟ only (cancelling p k) ⨟ only (leaving p k)) s
acts_of rate (WallReflection p x v w) s = (only (turning p (renewed x v s.clock w (grain s p))) ⨟ forgets p ⨟ reschedules p) s
acts_of rate Synchronisation s = (in_turn stepping (length s.grains) 0 ⨟ only (syncing (add binary64 s.clock rate))) s

-- ---- the acts of a start, in 01's order
-- a grain's numbers, then its entries
abbrev pub goes : List Particle → ℕ → State → Acts
goes gs i = let p = get_or gs i zero_g in only (turning i (at_zero p)) ⨟ (λ u. of_each (λ c. only (entering i c)) (cells_of_grain u.box p) u)

-- each with those after it
unfoldable pub pairing : ℕ → List ℕ → State → Acts
pairing c [] s = ended
pairing c (p ∷ qs) s = (of_each (colliding c p) qs ⨟ pairing c qs) s

-- the first synchronisation, in cell 0
abbrev pub first_sync : ℕ → State → Acts
first_sync zero s = only (syncing fzero) s
first_sync (suc c) s = ended

-- init_events in one cell
abbrev pub initiates : ℕ → State → Acts
initiates c = first_sync c ⨟ (λ u. pairing c (listed u c) u) ⨟ (λ w. of_each (bounding c) (listed w c) w)

-- all grains, then all cells
abbrev pub start_acts : Domain → List Particle → State → Acts
start_acts b gs = in_turn (goes gs) (length gs) 0 ⨟ in_turn initiates (cells b) 0
