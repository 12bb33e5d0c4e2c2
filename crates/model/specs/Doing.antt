-- For the inner functions, which do one part of an execution or of a start each: the same orders as Rows has, as calls within calls. No promise of a public call speaks of them:
-- `execute_is` and `begin_is` (proofs, Performs) say that `execution` is `execute` and `beginning` is `begin`. Assumes nothing: these are definitions.
use Rattle.std.specs.Prelude.{ℕ, zero, suc, List, [], ◌∷◌, length, get_or, Float}
use Rattle.std.specs.Float.{binary64}
use Rattle.std.specs.Float.Ieee.{add}
use Rattle.halting.specs.Out.{Out, out, then, each, each_of}
use Rattle.order.specs.Numbers.{fzero}
use Rattle.myvec.specs.declared.MyVec.{MyVec}
use Rattle.model.specs.declared.Domain.{Domain}
use Rattle.model.specs.declared.Particle.{Particle}
use Rattle.model.specs.declared.Place.{Place}
use Rattle.model.specs.declared.Event.{Event}
use Rattle.model.specs.declared.Event.TheVariants.{InterParticleCollision, MoveToNeighbour, MoveOutOfCell, WallReflection, Synchronisation}
use Rattle.model.specs.Grid.{cells}
use Rattle.model.specs.Stepping.{stepped, landed, renewed, at_zero}
use Rattle.model.specs.FromPToC.{cells_of_grain}
use Rattle.model.specs.Collision.{collision}
use Rattle.model.specs.Moves.{to_neighbour, out_of_cell}
use Rattle.model.specs.Walls.{wall}
use Rattle.model.specs.Events.{place_of}
use Rattle.model.specs.State.{State, zero_g, grain, home, listed}
use Rattle.model.specs.Acts.{store, insert, put, cancel, enter, leave}
use Rattle.model.specs.Rows.{Finder, others}
use Rattle.model.specs.Start.{clear}

-- ---- schedule_events
-- a grain steps to the clock
unfoldable pub step_grain : ℕ → State → Out State
step_grain g s = store g (stepped s.box s.clock (grain s g)) s

-- the scheduling of each kind, from the state
abbrev pub schedule_collision : ℕ → ℕ → ℕ → State → Out State
schedule_collision c p q s = put c (collision s.box s.clock c p q (grain s p) (grain s q)) s

abbrev pub schedule_by : Finder → ℕ → ℕ → ℕ → State → Out State
schedule_by f c p d s = put c (f d s.box s.clock c p (grain s p)) s

-- each kind in both directions
unfoldable pub boundaries : ℕ → ℕ → State → Out State
boundaries c p s =
    then (each (schedule_by to_neighbour c p) 2 0 s)
    (λ u. then (each (schedule_by out_of_cell c p) 2 0 u)
    (λ w. each (schedule_by wall c p) 2 0 w))

unfoldable pub schedule_with : ℕ → ℕ → List ℕ → State → Out State
schedule_with p c qs s =
    then (each_of step_grain qs s)
    (λ u. then (each_of (schedule_collision c p) qs u)
    (λ w. boundaries c p w))

unfoldable pub schedule_events : ℕ → ℕ → State → Out State
schedule_events p c s = schedule_with p c (others p (listed s c)) s

-- ---- the five executions
-- in each cell that lists p, in order: its events are scheduled, its events are cancelled
unfoldable pub again : ℕ → State → Out State
again p s = each_of (λ c. schedule_events p c) (home s p) s

unfoldable pub forget : ℕ → State → Out State
forget p s = each_of (λ c. cancel p c) (home s p) s

unfoldable pub do_collision : ℕ → ℕ → Particle → Particle → State → Out State
do_collision p q x y s =
    then (store p x s) (λ s1. then (store q y s1)
    (λ s2. then (forget p s2) (λ s3. then (forget q s3)
    (λ s4. then (again p s4) (λ s5. again q s5)))))

unfoldable pub do_neighbour : ℕ → MyVec → ℕ → State → Out State
do_neighbour p x k s = then (store p (landed x s.clock (grain s p)) s) (λ s1. then (enter p k s1) (λ s2. schedule_events p k s2))

unfoldable pub do_out : ℕ → MyVec → ℕ → State → Out State
do_out p x k s = then (store p (landed x s.clock (grain s p)) s) (λ s1. then (cancel p k s1) (λ s2. leave p k s2))

unfoldable pub do_wall : ℕ → Particle → State → Out State
do_wall p x s = then (store p x s) (λ s1. then (forget p s1) (λ s2. again p s2))

abbrev pub sync_at : Float → Place
sync_at t = place_of (record { time = t; event = Synchronisation })

unfoldable pub do_sync : Float → State → Out State
do_sync rate s = then (each step_grain (length s.grains) 0 s) (λ u. insert 0 (sync_at (add binary64 s.clock rate)) u)

abbrev pub execution : Float → Event → State → Out State
execution rate (InterParticleCollision p q x y v w k) s = do_collision p q (renewed x v s.clock k (grain s p)) (renewed y w s.clock k (grain s q)) s
execution rate (MoveToNeighbour p x k) s = do_neighbour p x k s
execution rate (MoveOutOfCell p x k) s = do_out p x k s
execution rate (WallReflection p x v w) s = do_wall p (renewed x v s.clock w (grain s p)) s
execution rate Synchronisation s = do_sync rate s

-- ---- a start
-- a grain's numbers, its time 0, and its entries
unfoldable pub goes_in : List Particle → ℕ → State → Out State
goes_in gs i s = let p = get_or gs i zero_g in then (store i (at_zero p) s) (λ u. each_of (λ c. enter i c) (cells_of_grain u.box p) u)

-- init_events in one cell
unfoldable pub pairs : ℕ → List ℕ → State → Out State
pairs c [] s = out 0 s
pairs c (p ∷ qs) s = then (each_of (λ q. schedule_collision c p q) qs s) (pairs c qs)

abbrev pub sync_in : ℕ → State → Out State
sync_in zero s = insert 0 (sync_at fzero) s
sync_in (suc c) s = out 0 s

unfoldable pub init_cell : ℕ → State → Out State
init_cell c s = then (sync_in c s) (λ u. then (pairs c (listed u c) u) (λ w. each_of (λ p. boundaries c p) (listed w c) w))

unfoldable pub beginning : Domain → ℕ → List Particle → Out State
beginning b room gs = then (each (goes_in gs) (length gs) 0 (clear b room (length gs))) (λ s. each init_cell (cells b) 0 s)
