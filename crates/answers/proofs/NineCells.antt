-- A box that is not too large, with lengths in range, has nine cells: a length below 12 is at most the float before 12, and a third of that is cut to 3. Assumes nothing.
use Prim.Native.Nat.{ℕ, zero, suc, ◌*◌, ◌^◌, ◌≤◌, ◌<◌}
use mathlib.Core.Path.{◌≡◌, refl, sym, ◌∙◌, subst}
use mathlib.Core.Bool.{Bool, true, false, ◌&&◌}
use native.Mathlib.Omega.{arith}
use lib.IntN.{pos, negsuc}
use lib.Dec.{T, leb}
use lib.Pow.{pow_mono}
use lib.Ieee.{Float, nan, inf, fin, binary64, of_bits, fits, le, div, to_unsigned}
use lib.Ieee.Positive.{num, den, positive}
use borrow.Author.Tests.{leb-true, leb-false}
use Rattle.order.specs.Numbers.{nine, three, fortyeight}
use Rattle.order.proofs.Value.{fitting}
use Rattle.order.proofs.Mono.{plain, positive_plain, le→fr, fr→le, div_mono}
use Rattle.order.proofs.Cut.{cut_mono}
use Rattle.order.proofs.Compare.{yes}
use Rattle.model.specs.declared.Domain.{Domain}
use Rattle.model.specs.Grid.{length_of, cells_of, across, cells}
use Rattle.model.specs.Sizes.{within, box_ok}
use Rattle.halting.proofs.Bools.{and_l, and_r}
use Rattle.model.proofs.Eighths.{facts}
use Rattle.listing_text.specs.Size.{twelve, long_length}

-- ---- the float before 12
abbrev before : Float
before = of_bits binary64 0x4027_ffff_ffff_ffff

nine_plain : T (plain nine)
unfolding of_bits
nine_plain = tt

twelve_plain : T (plain twelve)
unfolding of_bits
twelve_plain = tt

before_plain : T (plain before)
unfolding of_bits
before_plain = tt

three_positive : T (positive three)
unfolding of_bits
three_positive = tt

third : to_unsigned 64 (div binary64 before three) ≡ 3
unfolding of_bits div to_unsigned
third = refl

-- a significand below 2 ^ 53 over a power of two: from 9 on the power is at most 2 ^ 49
whole_part : (N : ℕ) → N < 12 → N * 562949953421312 ≤ 6755399441055743
whole_part N h = omega arith

power_part : (m k : ℕ) → m < 2 ^ 53 → 9 * 2 ^ suc k ≤ m → m < 12 * 2 ^ suc k → m * 562949953421312 ≤ 6755399441055743 * 2 ^ suc k
power_part m k h a b = by (leb k 48) refl
  where
    by : (x : Bool) → leb k 48 ≡ x → m * 562949953421312 ≤ 6755399441055743 * 2 ^ suc k
    by true e = let g : suc k ≤ 49 = (let q = leb-true k 48 e in omega (arith, q)) in let p : 2 ^ suc k ≤ 2 ^ 49 = pow_mono g in omega (arith, p, b)
    by false e = let g : 50 ≤ suc k = (let q = leb-false k 48 e in omega (arith, q)) in let p : 2 ^ 50 ≤ 2 ^ suc k = pow_mono g in absurd (omega (arith, p, a, h))

fraction : (l : Float) → T (positive l) → T (fits binary64 l) → 9 * den l ≤ num l → num l < 12 * den l → num l * 562949953421312 ≤ 6755399441055743 * den l
fraction nan p f a b = absurd p
fraction (inf s) p f a b = absurd p
fraction (fin true m e) p f a b = absurd p
fraction (fin false zero e) p f a b = absurd p
fraction (fin false (suc m) (pos k)) p f a b = let q = whole_part (suc m * 2 ^ k) (omega (arith, b)) in omega (arith, q)
fraction (fin false (suc m) (negsuc k)) p f a b = let d = (fitting binary64 false m (negsuc k) f).digits in let q = power_part (suc m) k d (omega (arith, a)) (omega (arith, b)) in omega (arith, q)

at_most : (l : Float) → T (positive l) → T (fits binary64 l) → T (le nine l) → (T (le twelve l) → ⊥) → T (le l before)
unfolding of_bits
at_most l p f h k =
    let q = positive_plain l p in
    let a = le→fr nine l nine_plain q h in
    let b : num l < 12 * den l = under (leb (12 * den l) (num l)) refl in
    let w = fraction l p f (omega (arith, a)) b in
    fr→le l before q before_plain w
  where
    under : (x : Bool) → leb (12 * den l) (num l) ≡ x → num l < 12 * den l
    under true e = absurd (k (fr→le twelve l twelve_plain (positive_plain l p) (let w = leb-true (12 * den l) (num l) e in omega (arith, w))))
    under false e = leb-false (12 * den l) (num l) e

-- ---- so three cells along it, and nine in all
three_cells : (l : Float) → T (fits binary64 l) → within nine fortyeight l ≡ true → long_length l ≡ false → cells_of l ≡ 3
three_cells l f h k =
    let a : T (le nine l) = yes _ (and_l (le nine l) (le l fortyeight) h) in
    let b : T (le l fortyeight) = yes _ (and_r (le nine l) (le l fortyeight) h) in
    let p = (facts l a b).length_positive in
    let m = div_mono binary64 l before three three (positive_plain l p) before_plain three_positive three_positive (at_most l p f a short) three-self in
    let c : to_unsigned 64 (div binary64 l three) ≤ 3 = subst (λ (x : ℕ). to_unsigned 64 (div binary64 l three) ≤ x) third (cut_mono 64 (div binary64 l three) (div binary64 before three) m) in
    omega (arith, c)
  where
    three-self : T (le three three)
    three-self = fr→le three three (positive_plain three three_positive) (positive_plain three three_positive) (omega arith)

    short : T (le twelve l) → ⊥
    short t = by (le twelve l) t k
      where
        by : (x : Bool) → T x → (x && le l fortyeight) ≡ false → ⊥
        by true t e = absurd (subst T (sym (and_r (le nine l) (le l fortyeight) h) ∙ e) tt)
        by false t e = t

pub nine_cells : (b : Domain) → T (fits binary64 (length_of 0 b)) → T (fits binary64 (length_of 1 b)) → box_ok b ≡ true → long_length (length_of 0 b) ≡ false → long_length (length_of 1 b) ≡ false → cells b ≡ 9
unfolding across
nine_cells b f g h j k =
    let u = three_cells (length_of 0 b) f (and_l (within nine fortyeight (length_of 0 b)) (within nine fortyeight (length_of 1 b)) h) j in
    let v = three_cells (length_of 1 b) g (and_r (within nine fortyeight (length_of 0 b)) (within nine fortyeight (length_of 1 b)) h) k in
    λ i. u i * v i
