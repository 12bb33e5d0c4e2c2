-- WHAT IS NOT SO, each shown by a reached and unhalted state that the definitions compute from one of the oracle's starts: that every moving grain is named by an event, and that
-- a pending collision is of the last try of its pair. Assumes nothing.
use Prim.Native.Nat.{ℕ, ◌<◌}
use mathlib.Core.Path.{◌≡◌, refl}
use mathlib.Core.Logic.{inl}
use mathlib.Core.List.{List, [], ◌∷◌}
use mathlib.Core.Bool.{Bool, true, false, not, ◌&&◌}
use native.Mathlib.Omega.{arith}
use lib.Dec.{T, eqb, ltb, lit≤}
use borrow.Author.Tests.{eqb-true, ltb-true}
use lib.Count.{count_leading_zeros}
use lib.ListN.{length}
use lib.Ieee.{binary64, of_bits, round, add, sub, mul, div, neg, lt, le, eq, of_int, to_unsigned, fits}
use Rattle.root.specs.Isqrt.{near, root}
use Rattle.root.specs.Root.{root_of, sqrt_of}
use Rattle.halting.specs.Every.{every, All}
use Rattle.halting.proofs.Bools.{clash, and_l, and_r}
use Rattle.halting.proofs.Tests.{true_every}
use Rattle.order.specs.Numbers.{fzero}
use Rattle.myvec.specs.Vec.{vec}
use Rattle.scheduler.specs.Heap.{time_in, swap_at, child_in, down, downshifted, parent_in, up, upshifted, updated, numbered, start_heap}
use Rattle.model.proofs.Exhibits.{passes, exhibit, both_passed}
use Rattle.model.specs.declared.Domain.{Domain}
use Rattle.model.specs.declared.Particle.{Particle}
use Rattle.model.specs.declared.Place.{Place}
use Rattle.model.specs.Sizes.{first_bad}
use Rattle.model.specs.Grid.{box_of, across, cells, position}
use Rattle.model.specs.Stepping.{grain_of, new_pos}
use Rattle.model.specs.Periodic.{apart}
use Rattle.model.specs.FromPToC.{up_from, reached, cells_at, cells_of_grain}
use Rattle.model.specs.Collision.{collision}
use Rattle.model.specs.Moves.{later, to_neighbour, out_of_cell}
use Rattle.model.specs.Walls.{wall}
use Rattle.model.specs.Events.{zero_p, names, event_of, insert_by, keep_by, gone_by, fine_place}
use Rattle.model.specs.State.{State, grain, listed, queue, heads, requeued, has, but}
use Rattle.model.specs.Acts.{fine_grain, store, insert, cancelled, enter, leave, taken}
use Rattle.model.specs.Execute.{event, step}
use Rattle.model.specs.Run.{run_from}
use Rattle.model.specs.Start.{clear, begin, start}
use Rattle.model.specs.Standing.{syncs}
use Rattle.model.specs.Check.{Fits, all, walk, settled, queued, heaped, standing, run_all}
use Rattle.model.specs.Reached.{Call, after, Reached, steps}
use Rattle.model.specs.Rows.{pair, before, of_each, in_turn, pairing, others, doing}
use Rattle.model.specs.History.{History, row_done, step_done, steps_done, calls_done, start_done, history, latest, Dated, dated_at, named_by, insert_dated, keep_dated, dated}
use Rattle.model.specs.Missing.{tried, Among}

-- 9 by 9, periodic, rate 1, room 64, value and radius 0.5; two runs of one event each
abbrev box : Domain
box = box_of (vec (of_bits binary64 0x4022000000000000) (of_bits binary64 0x4022000000000000)) true true

box_fits : Fits box
unfolding fits of_bits
box_fits = record { first = tt; second = tt }

abbrev at : ℕ → ℕ → ℕ → ℕ → Particle
at x y v w = grain_of (vec (of_bits binary64 x) (of_bits binary64 y)) (vec (of_bits binary64 v) (of_bits binary64 w)) fzero (of_bits binary64 0x3fe0000000000000) (of_bits binary64 0x3fe0000000000000)

abbrev one : Call
one = record { rate = of_bits binary64 0x3ff0000000000000; budget = 1; small = lit≤ tt }

abbrev two : List Call
two = one ∷ one ∷ []

-- ---- the two starts, and what is tested of the states that they come to
-- (3.5, 4.5) with (-1, 0), (5.5, 4.5) with (-2, 0): after the synchronisation at 0 and their collision
abbrev leaving : List Particle
leaving = at 0x400c000000000000 0x4012000000000000 0xbff0000000000000 0x0000000000000000 ∷ at 0x4016000000000000 0x4012000000000000 0xc000000000000000 0x0000000000000000 ∷ []

-- grain 0 moves, cell 4 lists it, and no pending event of any cell names it
abbrev unnamed : Place → Bool
unnamed e = not (names (event_of e.kind e) 0)

abbrev unwatched : History → State → Bool
unwatched h s = lt (grain s 0).vel.x fzero && (has 0 (listed s 4) && every (λ c. all unnamed (queue s c)) (cells s.box) 0)

-- two grains that graze at time 0: after the synchronisation and their collision
abbrev grazing : List Particle
grazing = at 0x4012cb6a4a4aa53f 0x4012542bc09d1761 0x3fea05b55f80add6 0xc03fb5ec9be167b3 ∷ at 0x40159e9f102b66c6 0x400efe7262f61758 0x3ff25254263b277a 0xc03f61294401db01 ∷ []

-- the first event of cell 4 is a collision of 0 and 1, and was put in before the last try of that pair there, in either order
abbrev first_of : List Dated → Dated
first_of [] = dated_at zero_p 0
first_of (d ∷ l) = d

abbrev older : History → State → Bool
older h s = let d = first_of (dated h 4) in ltb 0 (length (dated h 4)) && (eqb d.event.kind 1 && (named_by d 0 && (named_by d 1 && ltb d.by (tried h 4 (pair 0 1)))))

abbrev one_is : Bool
one_is = passes box 64 leaving two unwatched (start box 64 leaving)

abbrev other_is : Bool
other_is = passes box 64 grazing two older (start box 64 grazing)

computed : T (one_is && other_is)
unfolding round add sub mul div neg lt le eq of_int to_unsigned of_bits root_of sqrt_of near root count_leading_zeros across position insert_by keep_by gone_by fine_place new_pos apart up_from
    reached cells_at cells_of_grain heads requeued has but fine_grain store insert cancelled enter leave taken later collision to_neighbour out_of_cell wall others doing event step
    first_bad clear begin start time_in swap_at child_in down downshifted parent_in up upshifted updated numbered start_heap every syncs walk settled queued heaped standing run_from
    run_all before of_each in_turn pairing row_done step_done steps_done start_done latest insert_dated keep_dated dated after calls_done steps
computed = tt

-- ---- 1. LISTED IS NOT WATCHED
pub record Unwatched : Type 0 where
  pub state : State
  pub reached : Reached state
  pub unhalted : state.mark ≡ 0
  pub moves : lt (grain state 0).vel.x fzero ≡ true
  pub listed_by : has 0 (listed state 4) ≡ true
  pub named_by_none : (c : ℕ) → c < cells state.box → All (λ e. names (event_of e.kind e) 0 ≡ false) (queue state c)

none_named : (l : List Place) → all unnamed l ≡ true → All (λ e. names (event_of e.kind e) 0 ≡ false) l
none_named [] e = tt
none_named (x ∷ l) e = (by (names (event_of x.kind x) 0) (and_l (unnamed x) (all unnamed l) e), none_named l (and_r (unnamed x) (all unnamed l) e))
  where
    by : (b : Bool) → not b ≡ true → b ≡ false
    by true q = clash q
    by false q = refl

pub listed_not_watched : Unwatched
listed_not_watched =
    let w = exhibit box 64 leaving two unwatched box_fits (both_passed one_is other_is computed).0 in
    let s = w.state in
    let rest = and_r (lt (grain s 0).vel.x fzero) _ w.passed in
    record {
      state = s;
      reached = w.reached;
      unhalted = w.unhalted;
      moves = and_l (lt (grain s 0).vel.x fzero) _ w.passed;
      listed_by = and_l (has 0 (listed s 4)) _ rest;
      named_by_none = λ c C. none_named (queue s c) (true_every (λ i. all unnamed (queue s i)) (cells s.box) 0 (and_r (has 0 (listed s 4)) _ rest) c (omega arith) (omega (arith, C)));
    }

-- ---- 2. PENDING TWICE
pub record Twice : Type 0 where
  pub state : State
  pub reached : Reached state
  pub unhalted : state.mark ≡ 0
  pub pending : Dated
  pub there : Among pending (dated (history state reached) 4)
  pub collision : (pending.event.kind ≡ 1) × (named_by pending 0 ≡ true) × (named_by pending 1 ≡ true)
  pub tried_since : pending.by < tried (history state reached) 4 (pair 0 1)

first_among : (l : List Dated) → 0 < length l → Among (first_of l) l
first_among [] h = absurd (omega (arith, h))
first_among (d ∷ l) h = inl refl

pub pending_twice : Twice
pending_twice =
    let w = exhibit box 64 grazing two older box_fits (both_passed one_is other_is computed).1 in
    let h = history w.state w.reached in
    let d = first_of (dated h 4) in
    let a = and_r (ltb 0 (length (dated h 4))) _ w.passed in
    let b = and_r (eqb d.event.kind 1) _ a in
    let c = and_r (named_by d 0) _ b in
    record {
      state = w.state;
      reached = w.reached;
      unhalted = w.unhalted;
      pending = d;
      there = first_among (dated h 4) (ltb-true _ _ (and_l (ltb 0 (length (dated h 4))) _ w.passed));
      collision = (eqb-true _ _ (and_l (eqb d.event.kind 1) _ a), and_l (named_by d 0) _ b, and_l (named_by d 1) _ c);
      tried_since = ltb-true _ _ (and_r (named_by d 1) _ c);
    }
