-- 01, "Standing facts, tested by each unhalted run", as the test that the code makes, in its order: each part over the rows that it reads. And the run behind its checks: 2, the
-- halt mark, 3, 10. That the test passes exactly if the facts stand: `says_standing` (proofs, Reflect). Assumes nothing: these are definitions.
use Rattle.std.specs.Prelude.{ℕ, ◌+◌, List, [], ◌∷◌, Bool, true, not, ◌&&◌, ◌||◌, cond, T, eqb, leb, ltb, length, get_or, Float}
use Rattle.std.specs.List.{list_all}
use Rattle.std.specs.Float.{binary64}
use Rattle.std.specs.Float.Ieee.{le, fits}
use Rattle.std.specs.Float.Ieee.Scale.{finite}
use Rattle.halting.specs.Every.{every, All}
use Rattle.order.specs.Numbers.{fzero}
use Rattle.scheduler.specs.Head.{Head, earlier}
use Rattle.scheduler.specs.Heap.{time_in, parent}
use Rattle.model.specs.declared.Domain.{Domain}
use Rattle.model.specs.declared.Particle.{Particle}
use Rattle.model.specs.declared.Place.{Place}
use Rattle.model.specs.declared.Event.{Event}
use Rattle.model.specs.declared.Event.TheVariants.{InterParticleCollision, MoveToNeighbour, MoveOutOfCell, WallReflection, Synchronisation}
use Rattle.layout.specs.Widths.{home_room, member_room}
use Rattle.model.specs.Sizes.{box_ok, counts_ok, most_cells, cells_ok, rated}
use Rattle.model.specs.Grid.{length_of, cells}
use Rattle.model.specs.Events.{event_of, fine_place}
use Rattle.model.specs.State.{Row, State, queue, live_at, heads, has}
use Rattle.model.specs.Acts.{fine_grain}
use Rattle.model.specs.Run.{refused, Ran, run_from}
use Rattle.model.specs.Standing.{syncs}

-- each of a list; and each with its number, from i on
abbrev pub all : {A : Type 0} → (A → Bool) → List A → Bool
all p xs = list_all p xs

unfoldable pub walk : {A : Type 0} → (ℕ → A → Bool) → ℕ → List A → Bool
walk p i [] = true
walk p i (x ∷ xs) = p i x && walk p (i + 1) xs

-- ---- the mark, the clock, the box, which has n cells, and the grains
abbrev pub box_with : Domain → ℕ → Bool
box_with b n = box_ok b && eqb (cells b) n

abbrev pub timely : Float → Particle → Bool
timely t p = fine_grain p && le p.time t

unfoldable pub settled : ℕ → Float → Domain → ℕ → List Particle → Bool
settled mark t b n gs = eqb mark 0 && (finite t && (box_with b n && all (timely t) gs))

-- ---- lists of numbers: below n, once each, in k places
abbrev pub once : List ℕ → Bool
once [] = true
once (x ∷ xs) = not (has x xs) && once xs

abbrev pub numbers : ℕ → ℕ → Row ℕ → Bool
numbers n k r = eqb (length r.live + length r.spare) k && (all (λ x. ltb x n) r.live && once r.live)

-- each that row i lists, lists i
abbrev pub back_row : List (Row ℕ) → ℕ → Row ℕ → Bool
back_row os i r = all (λ c. has i (live_at os c)) r.live

abbrev pub housed : Row ℕ → Bool
housed r = leb 1 (length r.live)

-- g grains and n cells list each other, once each, and each grain is in some cell
abbrev pub linked : ℕ → ℕ → List (Row ℕ) → List (Row ℕ) → Bool
linked g n hs ms = (all (numbers n home_room) hs && all (numbers g member_room) ms) && ((walk (back_row ms) 0 hs && walk (back_row hs) 0 ms) && all housed hs)

-- ---- queues: in time order from t on
abbrev pub rising : Float → List Place → Bool
rising t [] = true
rising t (x ∷ xs) = le t x.time && rising x.time xs

-- an event of cell c of n, which lists the grains l
abbrev pub named : ℕ → ℕ → List ℕ → Event → Bool
named n c l (InterParticleCollision p q x y v w k) = has p l && (has q l && not (eqb p q))
named n c l (MoveToNeighbour p x k) = has p l && ltb k n
named n c l (MoveOutOfCell p x k) = has p l && eqb k c
named n c l (WallReflection p x v w) = has p l
named n c l Synchronisation = eqb c 0

-- its kind is one of the five, its floats are fine, and it names what it may
abbrev pub kind_ok : Place → Bool
kind_ok e = leb 1 e.kind && leb e.kind 5

abbrev pub held : ℕ → ℕ → List ℕ → Place → Bool
held n c l e = kind_ok e && (fine_place e && named n c l (event_of e.kind e))

abbrev pub queue_ok : Float → ℕ → ℕ → ℕ → List ℕ → Row Place → Bool
queue_ok t room n c l r = eqb (length r.live + length r.spare) room && (rising t r.live && all (held n c l) r.live)

-- all of them, of cells that list the rows ms; and one synchronisation, in cell 0
unfoldable pub queued : Float → ℕ → ℕ → List (Row ℕ) → List (Row Place) → Bool
queued t room n ms qs = walk (λ c r. queue_ok t room n c (live_at ms c) r) 0 qs && eqb (syncs (live_at qs 0)) 1

-- ---- the heap of n cells by their heads h, and its lookups
abbrev pub leads_back : List ℕ → List ℕ → ℕ → ℕ → Bool
leads_back a b n i = ltb (get_or a i 0) n && eqb (get_or b (get_or a i 0) 0) i

abbrev pub inverse : ℕ → List ℕ → List ℕ → Bool
inverse n a b = every (leads_back a b n) n 0

abbrev pub in_order : (ℕ → Head) → List ℕ → ℕ → ℕ → Bool
in_order h heap n i = eqb i 0 || not (earlier (time_in h heap n i) (time_in h heap n (parent i)))

unfoldable pub heaped : (ℕ → Head) → ℕ → List ℕ → List ℕ → Bool
heaped h n heap lookups = inverse n heap lookups && (inverse n lookups heap && every (in_order h heap n) n 0)

-- ---- counts in range, and as many rows and places as they say: what tables that are long enough always hold
abbrev pub counts : State → Bool
counts s = counts_ok s.room (length s.grains)

abbrev pub shaped : State → Bool
shaped s =
    counts s &&
    ((eqb (length s.homes) (length s.grains) && (eqb (length s.members) s.sched.cells && eqb (length s.queues) s.sched.cells)) &&
    (leb s.sched.cells most_cells && (eqb (length s.sched.heap) 256 && eqb (length s.sched.lookups) 256)))

-- ---- all of them
unfoldable pub standing : State → Bool
standing s = let n = s.sched.cells in
    shaped s && (settled s.mark s.clock s.box n s.grains && (linked (length s.grains) n s.homes s.members &&
    (queued s.clock s.room n s.members s.queues && heaped (heads s.queues) n s.sched.heap s.sched.lookups)))

-- what every owned float gives, so that every caller has it: times and lengths are 64-bit floats
pub record Fitted (s : State) : Type 0 where
  pub clock : T (fits binary64 s.clock)
  pub times : (c : ℕ) → All (λ e. T (fits binary64 e.time)) (queue s c)

pub record Fits (b : Domain) : Type 0 where
  pub first : T (fits binary64 (length_of 0 b))
  pub second : T (fits binary64 (length_of 1 b))

-- ---- the run: 2, the mark, 3, 10
abbrev pub sized : State → Bool
sized s = counts s && cells_ok s.sched.cells

abbrev pub halt : ℕ → Bool
halt m = leb 5 m && leb m 9

-- a refusal that changes nothing: the number and zeros
abbrev pub refusal : ℕ → State → Ran
refusal r s = record { how = refused r; clock = fzero; count = 0; state = s }

-- the checks in 01's order, of which the mark is one: what is given by the number that refuses, else what is behind them
abbrev pub run_checks : {A : Type 0} → Bool → ℕ → Bool → Bool → (ℕ → A) → A → A
run_checks sized mark rated standing by else = cond sized (cond (halt mark) (by mark) (cond rated (cond standing else (by 10)) (by 3))) (by 2)

unfoldable pub run_all : Float → ℕ → State → Ran
run_all rate b s = run_checks (sized s) s.mark (rated rate) (standing s) (λ r. refusal r s) (run_from rate b 0 s)
