-- A float cut to a whole number as Rust's `as usize` does (`to_unsigned 64`): it keeps the order (`cut_mono`), and it is at most n where the float was capped by n (`cut_capped`). Assumes nothing.
use mathlib.Core.Path.{◌≡◌, refl, sym, ap, ◌∙◌, subst}
use Prim.Native.Nat.{ℕ, zero, suc, ◌+◌, ◌-◌, ◌*◌, ◌/◌, ◌^◌, ◌≤◌, ◌<◌, min, zero-le}
use native.Mathlib.Nat.{le_refl, le_of_eq, le_trans, mul-pos, mul-one, zero-div, suc-mul, lt_irrefl, lt_of_lt_of_le, one-mul, le-add_right, le-div_iff_mul-le}
use native.Mathlib.Omega.{arith}
use mathlib.Core.Bool.{Bool, true, false, not, cond}
use lib.IntN.{pos}
use lib.Dec.{T, lt→ltb, T_not}
use lib.Pow.{pow_pos}
use lib.Ieee.{Float, nan, inf, fin, Format, up, down, lt, le, to_unsigned, in_unsigned, is_nan, of_int, in_float}
use lib.Ieee.Fits.{down_pos}
use lib.Ieee.Casts.{to_unsigned-lt}
use lib.Ieee.Nearest as Near
use lib.Ieee.Back.{unsigned_back}
use Rattle.order.proofs.Order.{le→leq, not_lt→le}

-- ---- cut
min_mono : (a b c : ℕ) → a ≤ b → min a c ≤ min b c
min_mono a b c h = omega arith

min_zero : (a c : ℕ) → a ≡ 0 → min a c ≤ 0
min_zero a c h = omega arith

left_zero : (a b : ℕ) → a + b ≤ 0 → a ≡ 0
left_zero a b h = omega arith

under : (a c : ℕ) → a < c → a ≤ c - 1
under a c h = omega arith

-- a product with d above 0 is 0
factor : (a d : ℕ) → 0 < d → a * d ≡ 0 → a ≡ 0
factor zero d D h = refl
factor (suc a) d D h = absurd (none d (a * d) D (sym (suc-mul a d) ∙ h))
  where
    none : (d r : ℕ) → 0 < d → r + d ≡ 0 → ⊥
    none d r D h = omega arith

pub cut_mono : (w : ℕ) (x y : Float) → T (le x y) → to_unsigned w x ≤ to_unsigned w y
unfolding to_unsigned
cut_mono w nan y h = absurd (unfold le in h)
cut_mono w (inf true) y h = zero-le
cut_mono w (inf false) nan h = absurd (unfold le in h)
cut_mono w (inf false) (inf true) h = absurd (unfold le in h)
cut_mono w (inf false) (inf false) h = le_refl (2 ^ w - 1)
cut_mono w (inf false) (fin t n d) h = absurd (unfold le in h)
cut_mono w (fin true m e) y h = zero-le
cut_mono w (fin false m e) nan h = absurd (unfold le in h)
cut_mono w (fin false m e) (inf true) h = absurd (unfold le in h)
cut_mono w (fin false m e) (inf false) h = under (to_unsigned w (fin false m e)) (2 ^ w) (to_unsigned-lt w (fin false m e))
cut_mono w (fin false m e) (fin false n d) h =
    min_mono (m * up e / down e) (n * up d / down d) (2 ^ w - 1) (Near.div_mono (m * up e) (down e) (n * up d) (down d) (down_pos e) (down_pos d) (le→leq false m e false n d h))
cut_mono w (fin false m e) (fin true n d) h =
    min_zero (m * up e / down e) (2 ^ w - 1)
    (ap (λ (z : ℕ). z / down e) (factor (m * up e) (down d) (down_pos d) (left_zero (m * up e * down d) (n * up d * down e) (le→leq false m e true n d h))) ∙ zero-div (down e))

cut_nan : (w : ℕ) (a : Float) → T (is_nan a) → to_unsigned w a ≡ 0
unfolding to_unsigned is_nan
cut_nan w nan h = refl
cut_nan w (inf s) h = absurd h
cut_nan w (fin s m e) h = absurd h

of_int_no_nan : (f : Format) (w n : ℕ) → T (in_float f (pos n)) → n < 2 ^ w → T (not (is_nan (of_int f (pos n))))
of_int_no_nan f w n t N = go (of_int f (pos n)) (unsigned_back f w n t N).0
  where
    go : (x : Float) → T (in_unsigned f w x) → T (not (is_nan x))
    go nan h = absurd (unfold in_unsigned in h)
    go (inf s) h = unfold is_nan in tt
    go (fin s m e) h = unfold is_nan in tt

-- min(a, n as f64) as usize, at most n: for any a, a NaN too
pub cut_capped : (f : Format) (w : ℕ) (a : Float) (n : ℕ) → T (in_float f (pos n)) → n < 2 ^ w → to_unsigned w (cond (lt (of_int f (pos n)) a) (of_int f (pos n)) a) ≤ n
cut_capped f w a n t N = go (lt (of_int f (pos n)) a) refl
  where
    z : Float
    z = of_int f (pos n)

    is : to_unsigned w z ≡ n
    is = (unsigned_back f w n t N).1

    go : (b : Bool) → lt z a ≡ b → to_unsigned w (cond b z a) ≤ n
    go true h = le_of_eq is
    go false h = nan? (is_nan a) refl
      where
        nan? : (c : Bool) → is_nan a ≡ c → to_unsigned w a ≤ n
        nan? true k = subst (λ (q : ℕ). q ≤ n) (sym (cut_nan w a (subst T (sym k) tt))) zero-le
        nan? false k = le_trans (cut_mono w a z (not_lt→le z a (of_int_no_nan f w n t N) (subst (λ (c : Bool). T (not c)) (sym k) tt) (subst (λ (c : Bool). T (not c)) (sym h) tt))) (le_of_eq is)

-- ---- the two ends: `cut` above 2 ^ 64, and below 0
capped : (a c : ℕ) → c ≤ a → min a (c - 1) ≡ c - 1
capped a c h = omega arith

pub cut_above : (w : ℕ) (x : Float) → T (le (fin false 1 (pos w)) x) → to_unsigned w x ≡ 2 ^ w - 1
unfolding to_unsigned
cut_above w nan h = absurd (unfold le in h)
cut_above w (inf true) h = absurd (unfold le in h)
cut_above w (inf false) h = refl
cut_above w (fin true m e) h = absurd (not_zero (2 ^ w) (down e) (m * up e * 1) (pow_pos w) (down_pos e) (le→leq false 1 (pos w) true m e h))
  where
    not_zero : (p d r : ℕ) → 0 < p → 0 < d → 1 * p * d + r ≤ 0 → ⊥
    not_zero p d r P D h = lt_irrefl 0 (lt_of_lt_of_le (mul-pos (subst (λ (z : ℕ). 0 < z) (sym (one-mul p)) P) D) (le_trans (le-add_right (1 * p * d) r) h))
cut_above w (fin false m e) h =
    capped (m * up e / down e) (2 ^ w)
    ((le-div_iff_mul-le (down_pos e)).1 (le_trans (le_of_eq (ap (λ (z : ℕ). z * down e) (sym (one-mul (2 ^ w))))) (le_trans (le→leq false 1 (pos w) false m e h) (le_of_eq (mul-one (m * up e))))))

-- not above -1: a NaN, or below 0
pub cut_below : (w : ℕ) (x : Float) → T (not (lt (fin true 1 (pos 0)) x)) → to_unsigned w x ≡ 0
unfolding to_unsigned
cut_below w nan h = refl
cut_below w (inf true) h = refl
cut_below w (inf false) h = absurd (unfold lt in h)
cut_below w (fin true m e) h = refl
cut_below w (fin false m e) h = absurd (T_not (lt (fin true 1 (pos 0)) (fin false m e)) h (unfold lt in lt→ltb 0 (1 * 1 * down e + m * up e * 1) (lt_of_lt_of_le (down_pos e) (some (down e) (m * up e * 1)))))
  where
    some : (d r : ℕ) → d ≤ 1 * 1 * d + r
    some d r = omega arith

-- a failed `x < 2 ^ w` of an x that is no NaN
pub cut_not_below : (w : ℕ) (x : Float) → T (not (is_nan x)) → T (not (lt x (fin false 1 (pos w)))) → to_unsigned w x ≡ 2 ^ w - 1
cut_not_below w x p h = cut_above w x (not_lt→le x (fin false 1 (pos w)) p (unfold is_nan in tt) h)
