use mathlib.Core.List.{List, ◌++◌}
use Rattle.model.specs.declared.Place.{Place}
use Rattle.tables.specs.Holds.{Run}
use mathlib.Core.Path.{◌≡◌}
use lib.ListN.{length}
use Rattle.tables.proofs.Runs.{Passing}
use Rattle.tables.proofs.places.passed.Given as goal

abbrev pub invariant-loop-i : goal.invariant-loop-i
invariant-loop-i l = (live rest : List Place) → l.n ≡ length live → Run l.nums l.reals (live ++ rest) → Passing l.s live l.i
