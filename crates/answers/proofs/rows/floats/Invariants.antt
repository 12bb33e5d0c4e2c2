use mathlib.Core.Path.{◌≡◌}
use mathlib.Core.List.{map}
use lib.ListN.{length, take}
use Rattle.answers.specs.Answer.{float}
use Rattle.answers.proofs.rows.floats.Given as goal

abbrev pub invariant-loop-i : goal.invariant-loop-i
invariant-loop-i l = (length l.out ≡ length l.bits) × (take l.i l.out ≡ map float (take l.i l.bits))
