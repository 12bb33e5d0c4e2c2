use mathlib.Core.List.{List, ◌++◌}
use Rattle.model.specs.declared.Place.{Place}
use Rattle.tables.specs.Holds.{Run}
use mathlib.Core.Path.{◌≡◌}
use Prim.Native.Nat.{◌≤◌, ◌-◌}
use lib.ListN.{length}
use Rattle.tables.specs.Places.{Keeping}
use Rattle.tables.proofs.places.keep.Given as goal

abbrev pub invariant-loop-i : goal.invariant-loop-i
invariant-loop-i l = (l.kept ≤ l.i) × (l.i ≤ l.n) × (length l.nums ≡ length l.initial.nums) × (length l.reals ≡ length l.initial.reals)
    × ((live rest : List Place) → l.n ≡ length live → Run l.initial.nums l.initial.reals (live ++ rest) → Keeping l.g live rest l.i l.kept l.nums l.reals)

abbrev pub decreases-loop-i : goal.decreases-loop-i
decreases-loop-i l = l.n - l.i
