-- Runs along a trace of the oracle: how each ends, the events that it does, its clock and the state that it leaves; and runs that are refused, which
-- answer their number with zeros and leave all. Assumes nothing: these are definitions.
use Rattle.std.specs.Prelude.{ℕ, zero, suc, List, [], ◌∷◌, Bool, true, false, ◌&&◌, eqb, set, Float}
use Rattle.std.specs.Float.{binary64}
use Rattle.std.specs.Float.Ieee.{of_bits, to_bits}
use Rattle.order.specs.Numbers.{one}
use Rattle.model.specs.State.{State, with_queues, marked}
use Rattle.model.specs.Start.{Begun, refused as not_begun, started}
use Rattle.model.specs.Run.{How, synchronised, spent, refused, Ran}
use Rattle.model.specs.Check.{run_all}
use Rattle.examples.specs.Dump.{Dump, dump, Trace, trace, opened_by, same}

-- ---- how runs end: a run's budget, and the events that it does
pub data RunEnd : Type 0 where
  synchronises spends : ℕ → ℕ → RunEnd

abbrev budget : RunEnd → ℕ
budget (synchronises b n) = b
budget (spends b n) = b

abbrev ends_so : How → ℕ → RunEnd → Bool
ends_so synchronised k (synchronises b n) = eqb k n
ends_so synchronised k (spends b n) = false
ends_so spent k (synchronises b n) = false
ends_so spent k (spends b n) = eqb k n
ends_so (refused r) k e = false

abbrev leaves : State → Float → Dump → Bool
leaves s t (dump u r gs cs h l) = eqb (to_bits binary64 t) u && same s (dump u r gs cs h l)

-- the state and clock are those of the last event done, and the dumps after it are left
abbrev last_of : ℕ → Dump → List Dump → (Dump → List Dump → Bool) → Bool
last_of zero d ds k = k d ds
last_of (suc n) d [] k = false
last_of (suc n) d (e ∷ ds) k = last_of n e ds k

abbrev runs_along : Float → State → Dump → List Dump → List RunEnd → Bool
runs_along rate s d ds [] = true
runs_along rate s d ds (e ∷ es) =
    let r = run_all rate (budget e) s in
    ends_so r.how r.count e && last_of r.count d ds (λ f fs. leaves r.state r.clock f && runs_along rate r.state f fs es)

abbrev runs_from : Begun → Float → List Dump → List RunEnd → Bool
runs_from (not_begun r i) rate ds es = false
runs_from (started s) rate [] es = false
runs_from (started s) rate (d ∷ ds) es = runs_along rate s d ds es

abbrev pub runs : Trace → List RunEnd → Bool
runs (trace o ds) es = runs_from (opened_by o) o.rate ds es

-- ---- refused runs: the number, and zeros
abbrev refused_by : How → ℕ → Bool
refused_by synchronised n = false
refused_by spent n = false
refused_by (refused r) n = eqb r n

abbrev refuses : Ran → ℕ → Bool
refuses r n = refused_by r.how n && (eqb (to_bits binary64 r.clock) 0 && eqb r.count 0)

-- 2 ^ -21 and a NaN
abbrev too_fine : Float
too_fine = of_bits binary64 0x3ea0_0000_0000_0000

abbrev no_number : Float
no_number = of_bits binary64 0x7ff8_0000_0000_0000

-- a room that is out of range, and lookups that are not the heap's
abbrev crowded : State → State
crowded s = record { box = s.box; clock = s.clock; mark = s.mark; room = 257; grains = s.grains; homes = s.homes; members = s.members; queues = s.queues; sched = s.sched }

abbrev mixed : State → State
mixed s = with_queues s.queues (record { heap = s.sched.heap; lookups = set (set s.sched.lookups 3 4) 4 3; cells = s.sched.cells }) s

-- 2 before the halt mark before 3 before 10, from a state that stands
abbrev all_refused : State → Bool
all_refused s =
    (refuses (run_all too_fine 5 s) 3 && refuses (run_all no_number 5 s) 3) &&
    ((refuses (run_all one 5 (crowded (marked 9 s))) 2 && refuses (run_all no_number 5 (marked 9 s)) 9) &&
    ((refuses (run_all no_number 5 (marked 4 s)) 3 && refuses (run_all one 5 (marked 4 s)) 10) && refuses (run_all one 5 (mixed s)) 10))

abbrev refused_from : Begun → Bool
refused_from (not_begun r i) = false
refused_from (started s) = all_refused s

abbrev pub refusals : Trace → Bool
refusals (trace o ds) = refused_from (opened_by o)
