-- NOT VACUOUS: a reached state whose two runs did a synchronisation, an entry, a collision, leavings, a reflection and a second synchronisation, computed by
-- the definitions. Two grains in a box of 9.3 by 9.7 with walls in direction 1 meet, part and come to a wall; the rate is 5. Assumes nothing.
use Prim.Native.Nat.{ℕ, zero, suc, ◌≤◌}
use mathlib.Core.Path.{◌≡◌, refl}
use mathlib.Core.List.{List, [], ◌∷◌}
use mathlib.Core.Bool.{Bool, true, false, ◌&&◌}
use lib.Dec.{T, eqb, lit≤}
use borrow.Author.Tests.{eqb-true}
use lib.Count.{count_leading_zeros}
use lib.Ieee.{Float, binary64, of_bits, round, add, sub, mul, div, neg, lt, le, eq, of_int, to_unsigned, fits}
use lib.Ieee.Bits.{is_true}
use Rattle.root.specs.Isqrt.{near, root}
use Rattle.root.specs.Root.{root_of, sqrt_of}
use Rattle.halting.specs.Every.{every}
use Rattle.order.specs.Numbers.{fzero, half}
use Rattle.myvec.specs.Vec.{vec}
use Rattle.scheduler.specs.Heap.{time_in, swap_at, child_in, down, downshifted, parent_in, up, upshifted, updated, numbered, start_heap}
use Rattle.model.specs.declared.Domain.{Domain}
use Rattle.model.specs.declared.Particle.{Particle}
use Rattle.model.specs.Grid.{box_of, across, position}
use Rattle.model.specs.Stepping.{grain_of, new_pos}
use Rattle.model.specs.Periodic.{apart}
use Rattle.model.specs.FromPToC.{up_from, reached, cells_at, cells_of_grain}
use Rattle.model.specs.Collision.{collision}
use Rattle.model.specs.Moves.{later, to_neighbour, out_of_cell}
use Rattle.model.specs.Walls.{wall}
use Rattle.model.specs.Events.{insert_by, keep_by, gone_by, fine_place}
use Rattle.model.specs.State.{State, heads, requeued, has, but}
use Rattle.model.specs.Acts.{fine_grain, store, insert, cancelled, enter, leave, head, taken}
use Rattle.model.specs.Sizes.{first_bad}
use Rattle.model.specs.Rows.{others, doing, before, of_each, in_turn, pairing}
use Rattle.model.specs.Execute.{event, step}
use Rattle.model.specs.Run.{How, spent, refused, Ran, run_from}
use Rattle.model.specs.Start.{Begun, refused as turned, started, clear, begin, start}
use Rattle.model.specs.Standing.{syncs}
use Rattle.model.specs.Check.{Fits, walk, settled, queued, heaped, standing, run_all}
use Rattle.model.specs.Reached.{most, Call, after, Reached}
use Rattle.halting.proofs.Bools.{clash, and_l, and_r}
use Rattle.model.proofs.Queue.{T_of}
use Rattle.model.proofs.Starred.{same_list, same_list_lem}

abbrev pub box : Domain
box = box_of (vec (of_bits binary64 0x402299999999999a) (of_bits binary64 0x4023666666666666)) true false

abbrev pub grains : List Particle
grains =
    grain_of (vec (of_bits binary64 0x4010666666666666) (of_bits binary64 0x400199999999999a)) (vec (of_bits binary64 0x3fc0a3d70a3d70a4) (of_bits binary64 0x3ff199999999999a)) fzero (of_bits binary64 0x3fd3333333333333) half ∷
    grain_of (vec (of_bits binary64 0x401199999999999a) (of_bits binary64 0x4015333333333333)) (vec (of_bits binary64 0x3fb1eb851eb851ec) (of_bits binary64 0xbfeccccccccccccd)) fzero (of_bits binary64 0x3fe6666666666666) half ∷
    []

abbrev pub rate : Float
rate = of_bits binary64 0x4014000000000000

-- the kinds of the next n events: 1 collision, 2 entry, 3 leaving, 4 reflection, 5 synchronisation
abbrev kinds : ℕ → State → List ℕ
kinds zero s = []
kinds (suc n) s = (head s).kind ∷ kinds n (step rate s).state

-- it synchronised, after n events
abbrev synced : How → Bool
synced How.synchronised = true
synced spent = false
synced (refused r) = false

abbrev synced_after : ℕ → Ran → Bool
synced_after n r = synced r.how && eqb r.count n

-- twelve events from the start's state: the first run does one of them, the second eleven
abbrev expected : List ℕ
expected = 5 ∷ 2 ∷ 1 ∷ 3 ∷ 2 ∷ 2 ∷ 2 ∷ 2 ∷ 3 ∷ 3 ∷ 4 ∷ 5 ∷ []

abbrev tested : Begun → Bool
tested (turned r i) = false
tested (started s) = same_list (kinds 12 s) expected && (synced_after 1 (run_all rate 1 s) && synced_after 11 (run_all rate 65536 (run_all rate 1 s).state))

computed : T (tested (start box 16 grains))
unfolding round add sub mul div neg lt le eq of_int to_unsigned of_bits root_of sqrt_of near root count_leading_zeros across position insert_by keep_by gone_by fine_place new_pos apart up_from
    reached cells_at cells_of_grain heads requeued has but fine_grain store insert cancelled enter leave taken later collision to_neighbour out_of_cell wall others doing before of_each
    in_turn pairing event step first_bad clear begin start time_in swap_at child_in down downshifted parent_in up upshifted updated numbered start_heap every syncs walk settled queued
    heaped standing run_from run_all
computed = tt

pub box_fits : Fits box
unfolding fits of_bits
box_fits = record { first = tt; second = tt }

pub record Exhibit : Type 0 where
  pub begun : State
  pub accepted : start box 16 grains ≡ started begun
  pub done : kinds 12 begun ≡ expected
  pub first_run : ((run_all rate 1 begun).how ≡ How.synchronised) × ((run_all rate 1 begun).count ≡ 1)
  pub second_run : ((run_all rate 65536 (run_all rate 1 begun).state).how ≡ How.synchronised) × ((run_all rate 65536 (run_all rate 1 begun).state).count ≡ 11)
  pub reached : Reached (run_all rate 65536 (run_all rate 1 begun).state).state

synced_is : (h : How) → synced h ≡ true → h ≡ How.synchronised
synced_is How.synchronised e = refl
synced_is spent e = clash e
synced_is (refused r) e = clash e

after_is : (n : ℕ) (r : Ran) → synced_after n r ≡ true → (r.how ≡ How.synchronised) × (r.count ≡ n)
after_is n r e = (synced_is r.how (and_l (synced r.how) (eqb r.count n) e), eqb-true r.count n (and_r (synced r.how) (eqb r.count n) e))

abbrev call : (b : ℕ) → b ≤ most → Call
call b h = record { rate = rate; budget = b; small = h }

exhibit_of : (o : Begun) → start box 16 grains ≡ o → T (tested o) → Exhibit
exhibit_of (turned r i) e t = absurd t
exhibit_of (started s) e t =
    let all : tested (started s) ≡ true = is_true (tested (started s)) t in
    let rest : (synced_after 1 (run_all rate 1 s) && synced_after 11 (run_all rate 65536 (run_all rate 1 s).state)) ≡ true = and_r (same_list (kinds 12 s) expected) _ all in
    record {
      begun = s;
      accepted = e;
      done = same_list_lem (kinds 12 s) expected (T_of (same_list (kinds 12 s) expected) (and_l (same_list (kinds 12 s) expected) _ all));
      first_run = after_is 1 (run_all rate 1 s) (and_l (synced_after 1 (run_all rate 1 s)) _ rest);
      second_run = after_is 11 (run_all rate 65536 (run_all rate 1 s).state) (and_r (synced_after 1 (run_all rate 1 s)) _ rest);
      reached = record {
        box = box;
        fits = box_fits;
        room = 16;
        grains = grains;
        begun = s;
        accepted = e;
        calls = call 1 (lit≤ tt) ∷ call 65536 (lit≤ tt) ∷ [];
        there = unfold after in refl;
      };
    }

pub not_vacuous : Exhibit
not_vacuous = exhibit_of (start box 16 grains) refl computed
