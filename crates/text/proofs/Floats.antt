-- NaNs: the float of a NaN's pattern, and the test that tells one. Assumes nothing.
use mathlib.Core.Path.{◌≡◌, refl, sym, ap, ◌∙◌, subst}
use mathlib.Core.Bool.{Bool, true, false, not}
use Prim.Native.Nat.{ℕ, ◌%◌, ◌≤◌, ◌<◌}
use lib.Dec.{T}
use lib.Ieee.{Float, nan, inf, fin, binary64, of_bits, to_bits, nan_bits, is_nan, ne}
use lib.Ieee.Bits.{nan_bits_is, nan_bits_above}
use lib.Ieee.Compare.{differs_from_itself}
use borrow.Author.Tests.{lt-ltb, le-ltb}

the_nan : (x : Float) → is_nan x ≡ true → x ≡ nan
unfolding is_nan
the_nan nan h = refl
the_nan (inf s) h = absurd (subst T (sym h) tt)
the_nan (fin s m e) h = absurd (subst T (sym h) tt)

module _ (b : ℕ) where
  pub pattern_no_nan : b % 9223372036854775808 ≤ 9218868437227405312 → T (not (nan_bits binary64 b))
  pattern_no_nan h = subst (λ (t : Bool). T (not t)) (sym (nan_bits_above binary64 b ∙ le-ltb 9218868437227405312 (b % 9223372036854775808) h)) tt

  pub pattern_nan : 9218868437227405312 < b % 9223372036854775808 → of_bits binary64 b ≡ nan
  pattern_nan h = the_nan (of_bits binary64 b) (sym (nan_bits_is binary64 b) ∙ nan_bits_above binary64 b ∙ lt-ltb 9218868437227405312 (b % 9223372036854775808) h)

pub unlike_itself : (x : Float) → ne x x ≡ true → 9221120237041090560 ≡ to_bits binary64 x
unfolding to_bits
unlike_itself x h = sym (ap (to_bits binary64) (differs_from_itself x (subst T (sym h) tt)))

pub like_itself : (x : Float) → ne x x ≡ false → T (not (is_nan x))
unfolding ne is_nan
like_itself nan h = absurd (subst T h tt)
like_itself (inf s) h = tt
like_itself (fin s m e) h = tt
