-- `root_of` obeys 01's rule at every argument (`root_rule`), and nothing else does (`root_only`). Assumes nothing.
use mathlib.Core.Path.{◌≡◌, refl, sym, ap, ◌∙◌}
use Prim.Native.Nat.{ℕ, zero, suc}
use native.Mathlib.Nat.{zero-lt-suc}
use native.Mathlib.Omega.{arith}
use mathlib.Core.Bool.{true, false}
use lib.Dec.{T, ltb, lt→ltb}
use lib.Ieee.{Float, nan, inf, fin, binary64, fits}
use lib.Ieee.Positive.{positive}
use Rattle.std.specs.Prelude.{Option, Some, None}
use Rattle.root.specs.Root.{root_of, sqrt_of}
use Rattle.root.specs.Rule.{Rooted, number, value, RootSays, RootRule}
use Rattle.root.proofs.Law.{sqrt_lawful, sqrt_fits}
use Rattle.root.proofs.Unique.{rooted_unique}
use Rattle.root.proofs.Cases.{positive_is}

only : (x y : Float) → T (fits binary64 x) → T (positive x) → T (fits binary64 y) → Rooted x y → root_of x ≡ Some y
only x y F P G r = sym (positive_is x P) ∙ ap Some (rooted_unique x (sqrt_of x) y (sqrt_fits x) G (sqrt_lawful x F P) r)

above_zero : (m : ℕ) → T (ltb 0 (suc m))
above_zero m = lt→ltb 0 (suc m) (zero-lt-suc m)

-- 5 is a refusal's number, and 0 a value's
five : (r : Option Float) → number r ≡ 5 → r ≡ None
five (Some y) h = absurd (omega (arith, h))
five None h = refl

none : (r : Option Float) → number r ≡ 0 → r ≡ Some (value r)
none (Some y) h = refl
none None h = absurd (omega (arith, h))

-- `root_of` has it, and only `root_of`
pub root_rule : (x : Float) → T (fits binary64 x) → RootRule x (root_of x)
unfolding RootSays root_of
root_rule nan F = refl
root_rule (inf true) F = refl
root_rule (inf false) F = (refl, refl)
root_rule (fin s zero e) F = (refl, refl)
root_rule (fin true (suc m) e) F = refl
root_rule (fin false (suc m) e) F = let x = fin false (suc m) e in (refl, sqrt_fits x, sqrt_lawful x F (above_zero m))

pub root_only : (x : Float) (r : Option Float) → T (fits binary64 x) → RootRule x r → r ≡ root_of x
unfolding RootSays root_of
root_only nan r F h = five r h
root_only (inf true) r F h = five r h
root_only (inf false) r F h = none r h.0 ∙ ap Some h.1
root_only (fin s zero e) r F h = none r h.0 ∙ ap Some h.1
root_only (fin true (suc m) e) r F h = five r h
root_only (fin false (suc m) e) r F h = none r h.0 ∙ sym (only (fin false (suc m) e) (value r) F (above_zero m) h.1 h.2)
