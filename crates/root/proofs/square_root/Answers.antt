use mathlib.Core.Path.{◌≡◌, sym, ap, ◌∙◌, subst}
use mathlib.Core.Bool.{not}
use Prim.Native.Nat.{ℕ}
use lib.Dec.{T}
use lib.Ieee.{Float, binary64, fits, of_bits, nan_bits, div}
use lib.Ieee.Positive.{positive}
use Rattle.std.specs.Prelude.{Option, Some}
use Rattle.root.specs.Root.{root_of}
use Rattle.root.specs.Rule.{RootRule}
use Rattle.root.proofs.Law.{pattern_range}
use Rattle.root.proofs.Rule.{root_rule}
use Rattle.root.proofs.Cases.{at_nan, at_zero, at_negative, at_top, the_rest, positive_is, no_nan, no_nan_bits, sqrt_is}
use Rattle.root.proofs.square_root.Goals.{Start, Else-x-3, then-is_nan-via-then-is_nan, then-is_nan-via-else-is_nan+then-x, then-x-2-via-then-x-2, then-x-2-via-else-x-2+then-x-3}
use Rattle.root.proofs.square_root.Goals as goal

held : (c : Start) → T (fits binary64 c.args.x)
held c = subst T (sym c.well_formed.0.1) tt

both : (c : Start) (r : Option Float) → r ≡ root_of c.args.x → record { value : r ≡ root_of c.args.x; root_rule : RootRule c.args.x r }
both c r e = record { value = e; root_rule = subst (RootRule c.args.x) (sym e) (root_rule c.args.x (held c)) }

-- past the tests x is positive and finite
is_positive : (c : Else-x-3) → T (positive c.args.x)
unfolding of_bits div
is_positive c = the_rest _ (sym c.is_nan.ensures.value ∙ c.if-is_nan.false) c.if-x-2.false c.if-x.false c.if-x-3.false

pub returns-then-is_nan : goal.returns-then-is_nan
unfolding of_bits
returns-then-is_nan c = both (goal.at.returns-then-is_nan c).Start _ (elim c.then-is_nan.branch [
  | then-is_nan-via-then-is_nan w ↦ at_nan _ (sym c.is_nan.ensures.value ∙ w.if-is_nan.true)
  | then-is_nan-via-else-is_nan+then-x w ↦ at_negative _ w.if-x.true
])

pub returns-then-x-2 : goal.returns-then-x-2
unfolding of_bits div
returns-then-x-2 c = both (goal.at.returns-then-x-2 c).Start _ (elim c.then-x-2.branch [
  | then-x-2-via-then-x-2 w ↦ at_zero _ w.if-x-2.true
  | then-x-2-via-else-x-2+then-x-3 w ↦ at_top _ w.if-x-3.true
])

pub float_to_bits-x : goal.float_to_bits-x
float_to_bits-x c = no_nan c.args.x (is_positive c)

pub root_bits-requires : goal.root_bits-requires
root_bits-requires c = pattern_range c.args.x (held (goal.at.root_bits-requires c).Start) (is_positive c)

pub float_from_bits-result : goal.float_from_bits-result
float_from_bits-result c =
    let at = goal.at.float_from_bits-result c in
    subst (λ (n : ℕ). T (not (nan_bits binary64 n))) (sym c.root_bits.ensures)
    (no_nan_bits c.args.x (held at.Start) (is_positive at.Else-x-3))

pub returns : goal.returns
returns c =
    let at = goal.at.returns c in
    both at.Start _
    (ap (λ (n : ℕ). Some (of_bits binary64 n)) c.root_bits.ensures
    ∙ ap Some (sqrt_is c.args.x)
    ∙ positive_is c.args.x (is_positive at.Else-x-3))
