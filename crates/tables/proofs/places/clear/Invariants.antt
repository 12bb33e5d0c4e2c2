use mathlib.Core.List.{List, ◌++◌}
use Rattle.model.specs.declared.Place.{Place}
use Rattle.tables.specs.Holds.{Run}
use mathlib.Core.Path.{◌≡◌}
use Prim.Native.Nat.{◌≤◌, ◌-◌, ◌+◌}
use lib.ListN.{length}
use Rattle.tables.proofs.Runs.{Clearing}
use Rattle.tables.proofs.places.clear.Given as goal

abbrev pub invariant-loop-i : goal.invariant-loop-i
invariant-loop-i l = (l.from ≤ l.i) × (l.i ≤ l.n) × (length l.nums ≡ length l.initial.nums) × (length l.reals ≡ length l.initial.reals)
    × ((kept given rest : List Place) → l.from ≡ length kept → l.n ≡ length kept + length given → Run l.initial.nums l.initial.reals (kept ++ (given ++ rest)) → Clearing kept given rest l.from l.i l.nums l.reals)

abbrev pub decreases-loop-i : goal.decreases-loop-i
decreases-loop-i l = l.n - l.i
