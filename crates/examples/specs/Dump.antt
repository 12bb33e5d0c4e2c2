-- A state as the oracle dumps it, and whether a start of 01's rules and the steps after it give the states that it dumped. Floats are
-- compared by their bits; where several stand together, they are one number, 64 bits each, the first one highest. Assumes nothing: these are definitions.
use Rattle.std.specs.Prelude.{ℕ, zero, suc, ◌+◌, ◌*◌, ◌^◌, List, [], ◌∷◌, Bool, true, false, ◌&&◌, eqb, take, Float}
use Rattle.std.specs.Float.{binary64}
use Rattle.std.specs.Float.Ieee.{of_bits, to_bits}
use Rattle.order.specs.Numbers.{fzero}
use Rattle.myvec.specs.Vec.{vec}
use Rattle.model.proofs.Starred.{same_list}
use Rattle.model.specs.declared.Domain.{Domain}
use Rattle.model.specs.declared.Particle.{Particle}
use Rattle.model.specs.declared.Place.{Place}
use Rattle.model.specs.Grid.{box_of}
use Rattle.model.specs.Stepping.{grain_of}
use Rattle.model.specs.State.{Row, State}
use Rattle.model.specs.Execute.{Stepped, done, synchronised, halted, step}
use Rattle.model.specs.Start.{Begun, refused, started, start}

-- ---- a dump
-- a pending event: its time, its grains, the cell that it enters or leaves, and its floats
pub data Pending : Type 0 where
  S : ℕ → Pending
  C : ℕ → ℕ → ℕ → ℕ → Pending
  N : ℕ → ℕ → ℕ → ℕ → Pending
  O : ℕ → ℕ → ℕ → ℕ → Pending
  W : ℕ → ℕ → ℕ → ℕ → ℕ → Pending

-- a grain's seven floats and the cells that list it; the grains that a cell lists and its events
pub data GrainDump : Type 0 where
  g : ℕ → List ℕ → GrainDump

pub data Cell : Type 0 where
  c : List ℕ → List Pending → Cell

-- clock, mark, grains, cells, heap and lookups
pub data Dump : Type 0 where
  dump : ℕ → ℕ → List GrainDump → List Cell → List ℕ → List ℕ → Dump

-- ---- whether a state is as dumped
abbrev joined : ℕ → List Float → ℕ
joined n [] = n
joined n (x ∷ xs) = joined (n * 2 ^ 64 + to_bits binary64 x) xs

abbrev same_grains : List Particle → List (Row ℕ) → List GrainDump → Bool
same_grains [] [] [] = true
same_grains [] [] (x ∷ xs) = false
same_grains [] (r ∷ rs) xs = false
same_grains (p ∷ ps) [] xs = false
same_grains (p ∷ ps) (r ∷ rs) [] = false
same_grains (p ∷ ps) (r ∷ rs) (g f l ∷ xs) =
    eqb (joined 0 (p.pos.x ∷ p.pos.y ∷ p.vel.x ∷ p.vel.y ∷ p.time ∷ p.val ∷ p.rad ∷ [])) f && (same_list r.live l && same_grains ps rs xs)

-- all numbers and floats of a place
abbrev holds : Place → ℕ → ℕ → ℕ → ℕ → ℕ → Bool
holds s k p q cell f =
    (eqb s.kind k && (eqb s.p p && (eqb s.q q && eqb s.cell cell))) &&
    eqb (joined 0 (s.time ∷ s.a.x ∷ s.a.y ∷ s.b.x ∷ s.b.y ∷ s.c.x ∷ s.c.y ∷ s.d.x ∷ s.d.y ∷ s.val ∷ [])) f

-- what its kind does not need is 0
abbrev same_place : Place → Pending → Bool
same_place s (S t) = holds s 5 0 0 0 (t * 2 ^ 576)
same_place s (C t p q f) = holds s 1 p q 0 (t * 2 ^ 576 + f)
same_place s (N t p cell x) = holds s 2 p 0 cell (t * 2 ^ 576 + x * 2 ^ 448)
same_place s (O t p cell x) = holds s 3 p 0 cell (t * 2 ^ 576 + x * 2 ^ 448)
same_place s (W t p x v w) = holds s 4 p 0 0 (t * 2 ^ 576 + x * 2 ^ 448 + v * 2 ^ 192 + w)

abbrev same_places : List Place → List Pending → Bool
same_places [] [] = true
same_places [] (y ∷ ys) = false
same_places (x ∷ xs) [] = false
same_places (x ∷ xs) (y ∷ ys) = same_place x y && same_places xs ys

abbrev same_cells : List (Row ℕ) → List (Row Place) → List Cell → Bool
same_cells [] [] [] = true
same_cells [] [] (x ∷ xs) = false
same_cells [] (q ∷ qs) xs = false
same_cells (m ∷ ms) [] xs = false
same_cells (m ∷ ms) (q ∷ qs) [] = false
same_cells (m ∷ ms) (q ∷ qs) (c l es ∷ xs) = same_list m.live l && (same_places q.live es && same_cells ms qs xs)

abbrev pub same : State → Dump → Bool
same s (dump t r gs cs heap lookups) =
    (eqb (to_bits binary64 s.clock) t && eqb s.mark r) &&
    ((same_grains s.grains s.homes gs && same_cells s.members s.queues cs) &&
    (same_list (take s.sched.cells s.sched.heap) heap && same_list (take s.sched.cells s.sched.lookups) lookups))

-- ---- a start
pub record Opening : Type 0 where
  pub rate : Float
  pub box : Domain
  pub room : ℕ
  pub grains : List Particle

abbrev pub opening : ℕ → ℕ → Bool → Bool → ℕ → List Particle → ℕ → Opening
opening l0 l1 p0 p1 room gs rate =
    record { rate = of_bits binary64 rate; box = box_of (vec (of_bits binary64 l0) (of_bits binary64 l1)) p0 p1; room = room; grains = gs }

abbrev pub grain_bits : ℕ → ℕ → ℕ → ℕ → ℕ → ℕ → Particle
grain_bits x y vx vy val rad = grain_of (vec (of_bits binary64 x) (of_bits binary64 y)) (vec (of_bits binary64 vx) (of_bits binary64 vy)) fzero (of_bits binary64 val) (of_bits binary64 rad)

abbrev pub opened_by : Opening → Begun
opened_by o = start o.box o.room o.grains

-- ---- a trace: the state after the start, and after each step; the last step may halt
abbrev steps : Float → State → List Dump → Bool
steps rate s [] = true
steps rate s (d ∷ ds) = same (step rate s).state d && steps rate (step rate s).state ds

abbrev follows_from : Begun → Float → List Dump → Bool
follows_from (refused r i) rate ds = false
follows_from (started s) rate [] = false
follows_from (started s) rate (d ∷ ds) = same s d && steps rate s ds

-- what was given to the oracle, and what it dumped
pub data Trace : Type 0 where
  trace : Opening → List Dump → Trace

abbrev pub follows : Trace → Bool
follows (trace o ds) = follows_from (opened_by o) o.rate ds

-- ---- a refusal: of the start, with the grain for 4; or a halt, in the start or in the first of 64 steps that is not whole
pub data Ending : Type 0 where
  refusal : ℕ → ℕ → Ending
  halt : Dump → Ending

abbrev halts_in : Stepped → State → Dump → (State → Bool) → Bool
halts_in done s d k = k s
halts_in synchronised s d k = k s
halts_in (halted r) s d k = same s d

abbrev halts_within : ℕ → Float → Dump → State → Bool
halts_within zero rate d s = false
halts_within (suc n) rate d s = halts_in (step rate s).how (step rate s).state d (halts_within n rate d)

abbrev halts_by : ℕ → Float → Dump → State → Bool
halts_by zero rate d s = halts_within 64 rate d s
halts_by (suc m) rate d s = same s d

abbrev ends_by : Begun → Float → Ending → Bool
ends_by (refused r i) rate (refusal q j) = eqb r q && eqb i j
ends_by (refused r i) rate (halt d) = false
ends_by (started s) rate (refusal q j) = false
ends_by (started s) rate (halt d) = halts_by s.mark rate d s

-- what was given to the oracle, and what it answered
pub data Answer : Type 0 where
  answer : Opening → Ending → Answer

abbrev pub answers_so : Answer → Bool
answers_so (answer o e) = ends_by (opened_by o) o.rate e
