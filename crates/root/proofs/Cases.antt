-- What the tests of `square_root` say of x, and what `root_of` is there. Assumes nothing.
use mathlib.Core.Path.{◌≡◌, refl, sym, ap, ◌∙◌, subst}
use Prim.Native.Nat.{ℕ, zero, suc, ◌+◌, ◌*◌, ◌<◌}
use native.Mathlib.Nat.{zero-mul, zero-lt-suc, mul-pos, lt_irrefl, le-add_right, lt_of_lt_of_le}
use native.Mathlib.Omega.{arith}
use mathlib.Core.Bool.{Bool, true, false, not, ◌||◌, beq}
use lib.IntN.{ℤ, pos}
use lib.Dec.{T, eqb, ltb→lt, lt→ltb, eqb→eq}
use lib.Ieee.{Float, nan, inf, fin, binary64, up, down, lt, eq, is_nan, fits, of_bits, to_bits, nan_bits}
use lib.Ieee.Fits.{up_pos, and_l, and_i, eq→eqb}
use lib.Ieee.Bits.{nan_bits_is}
use lib.Ieee.Exact.{HasValue}
use lib.Ieee.Positive.{positive}
use Rattle.std.specs.Prelude.{Some, None}
use Rattle.root.specs.Bits.{root_bits}
use Rattle.root.specs.Root.{root_of, sqrt_of}
use Rattle.order.proofs.Order.{or_r}
use Rattle.order.proofs.Compare.{yes}
use Rattle.root.proofs.Law.{sqrt_lawful}

abbrev fz : Float
fz = fin false 0 (pos 0)

-- the size of a zero, and of what is not
none : (e : ℤ) (k : ℕ) → 0 * up e * k ≡ 0
none e k = ap (λ (x : ℕ). x * k) (zero-mul (up e)) ∙ zero-mul k

some : (m : ℕ) (e : ℤ) → 0 < suc m * up e * 1
some m e = mul-pos (mul-pos (zero-lt-suc m) (up_pos e)) (zero-lt-suc 0)

clash : (a b : ℕ) → 0 < a → a ≡ b → b ≡ 0 → ⊥
clash a b h p q = omega arith

pub at_nan : (x : Float) → is_nan x ≡ true → None ≡ root_of x
unfolding is_nan
at_nan nan h = unfold root_of in refl
at_nan (inf s) h = absurd (yes false h)
at_nan (fin s m e) h = absurd (yes false h)

pub at_zero : (x : Float) → eq x fz ≡ true → Some x ≡ root_of x
at_zero nan h = absurd (unfold eq in yes (eq nan fz) h)
at_zero (inf s) h = absurd (unfold eq in yes (eq (inf s) fz) h)
at_zero (fin s zero e) h = unfold root_of in refl
at_zero (fin s (suc m) e) h =
    absurd (clash (suc m * up e * 1) (0 * 1 * down e) (some m e)
    (eqb→eq (suc m * up e * 1) (0 * 1 * down e) (and_l (eqb (suc m * up e * 1) (0 * 1 * down e)) (beq s false || eqb (suc m * up e * 1) 0) (unfold eq in yes (eq (fin s (suc m) e) fz) h)))
    (none (pos 0) (down e)))

pub at_negative : (x : Float) → lt x fz ≡ true → None ≡ root_of x
at_negative nan h = unfold root_of in refl
at_negative (inf true) h = unfold root_of in refl
at_negative (inf false) h = absurd (unfold lt in yes (lt (inf false) fz) h)
at_negative (fin true zero e) h = absurd (nothing (0 * up e * 1) (0 * 1 * down e) (none e 1) (none (pos 0) (down e)) (ltb→lt 0 (0 * up e * 1 + 0 * 1 * down e) (unfold lt in yes (lt (fin true zero e) fz) h)))
  where
    nothing : (a b : ℕ) → a ≡ 0 → b ≡ 0 → 0 < a + b → ⊥
    nothing a b p q h = omega arith
at_negative (fin true (suc m) e) h = unfold root_of in refl
at_negative (fin false m e) h = absurd (nothing (m * up e * 1) (0 * 1 * down e) (none (pos 0) (down e)) (ltb→lt (m * up e * 1) (0 * 1 * down e) (unfold lt in yes (lt (fin false m e) fz) h)))
  where
    nothing : (a b : ℕ) → b ≡ 0 → a < b → ⊥
    nothing a b q h = omega arith

pub at_top : (x : Float) → eq x (inf false) ≡ true → Some x ≡ root_of x
at_top nan h = absurd (unfold eq in yes (eq nan (inf false)) h)
at_top (inf true) h = absurd (unfold eq in yes (eq (inf true) (inf false)) h)
at_top (inf false) h = unfold root_of in refl
at_top (fin s m e) h = absurd (unfold eq in yes (eq (fin s m e) (inf false)) h)

never : (b : Bool) → T b → b ≡ false → ⊥
never b t h = subst T h t

zero_is : (s : Bool) (e : ℤ) → T (eq (fin s zero e) fz)
unfolding eq
zero_is s e =
    let p : 0 * up e * 1 ≡ 0 = none e 1 in
    let q : 0 * 1 * down e ≡ 0 = none (pos 0) (down e) in
    and_i (eqb (0 * up e * 1) (0 * 1 * down e)) (beq s false || eqb (0 * up e * 1) 0) (eq→eqb (p ∙ sym q)) (or_r (beq s false) (eqb (0 * up e * 1) 0) (eq→eqb p))

-- none of the tests: x is positive and finite
pub the_rest : (x : Float) → is_nan x ≡ false → eq x fz ≡ false → lt x fz ≡ false → eq x (inf false) ≡ false → T (positive x)
the_rest nan a b c d = absurd (never (is_nan nan) (unfold is_nan in tt) a)
the_rest (inf true) a b c d = absurd (never (lt (inf true) fz) (unfold lt in tt) c)
the_rest (inf false) a b c d = absurd (never (eq (inf false) (inf false)) (unfold eq in tt) d)
the_rest (fin s zero e) a b c d = absurd (never (eq (fin s zero e) fz) (zero_is s e) b)
the_rest (fin true (suc m) e) a b c d = absurd (never (lt (fin true (suc m) e) fz) (unfold lt in lt→ltb 0 (suc m * up e * 1 + 0 * 1 * down e) (lt_of_lt_of_le (some m e) (le-add_right (suc m * up e * 1) (0 * 1 * down e)))) c)
the_rest (fin false (suc m) e) a b c d = lt→ltb 0 (suc m) (zero-lt-suc m)

pub positive_is : (x : Float) → T (positive x) → Some (sqrt_of x) ≡ root_of x
positive_is nan p = absurd p
positive_is (inf s) p = absurd p
positive_is (fin true m e) p = absurd p
positive_is (fin false zero e) p = absurd (lt_irrefl 0 (ltb→lt 0 0 p))
positive_is (fin false (suc m) e) p = unfold root_of in refl

pub no_nan : (x : Float) → T (positive x) → T (not (is_nan x))
unfolding is_nan
no_nan nan p = absurd p
no_nan (inf s) p = tt
no_nan (fin s m e) p = tt

has_value : (x : Float) (a c : ℕ) → HasValue x false a c → T (not (is_nan x))
unfolding is_nan
has_value nan a c h = absurd h
has_value (inf s) a c h = tt
has_value (fin s m e) a c h = tt

pub sqrt_is : (x : Float) → of_bits binary64 (root_bits (to_bits binary64 x)) ≡ sqrt_of x
unfolding sqrt_of
sqrt_is x = refl

pub no_nan_bits : (x : Float) → T (fits binary64 x) → T (positive x) → T (not (nan_bits binary64 (root_bits (to_bits binary64 x))))
no_nan_bits x F P =
    let r = sqrt_lawful x F P in
    subst (λ (b : Bool). T (not b)) (sym (nan_bits_is binary64 (root_bits (to_bits binary64 x)) ∙ ap is_nan (sqrt_is x))) (has_value (sqrt_of x) (r.r * up r.e) (down r.e) r.is)
