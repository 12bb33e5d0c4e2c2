-- The definition `sqrt_of` obeys 01's rule at every positive finite value (`sqrt_lawful`). Assumes nothing.
use mathlib.Core.Path.{◌≡◌, refl, sym, ap, ◌∙◌, subst}
use mathlib.Core.Logic.{◌⊎◌, inl, inr}
use Prim.Native.Nat.{ℕ, zero, suc, ◌+◌, ◌-◌, ◌*◌, ◌/◌, ◌%◌, ◌^◌, ◌≤◌, ◌<◌}
use native.Mathlib.Nat as N
use native.Mathlib.Nat.{le_trans, le_of_eq, lt_of_lt_of_le, lt_of_le_of_lt, lt_of_not-le, not-le_of_lt, lt_irrefl, zero-lt-suc, mul_comm, mul_assoc, mul_left_comm, mul_right_comm, mul-one, one-mul, eq_of_mul-eq-mul_right, mod-eq_of_lt, mul-le-mul_right}
use native.Mathlib.Omega.{arith}
use mathlib.Core.Bool.{Bool, true, false, not, cond}
use lib.Dec
use lib.Ieee.Fits
use lib.Dec.{T, leb, eqb, leb→le, eqb→eq, nleb→lt, not_T, lit<}
use lib.Pow.{pow-add, pow_pos, pow_mono}
use lib.Count.{count_leading_zeros, leading_top}
use lib.Ieee.{Float, nan, inf, fin, binary64, up, down, minus, odd, of_fields, of_bits, to_bits, fits}
use lib.Ieee.Bits.{is_false, is_true, cond_no, of_bits-fits, of_bits-to_bits}
use lib.Ieee.Digits.{minus_val}
use lib.Ieee.Exact.{HasValue, odd_sign}
use lib.Ieee.Positive.{positive}
use Rattle.root.specs.Isqrt.{near}
use Rattle.root.specs.Rule.{Nearest, Rooted}
use Rattle.root.proofs.Isqrt.{root_lt, near_law}
use Rattle.root.specs.Bits.{bits_of_root, significand, exponent, root_bits}
use Rattle.root.specs.Root.{sqrt_of}

-- ---- a value by another fraction of the same size
pub rescale : (x : Float) (s : Bool) (a c a' c' : ℕ) → 0 < c → a * c' ≡ a' * c → HasValue x s a c → HasValue x s a' c'
rescale nan s a c a' c' C h v = v
rescale (inf t) s a c a' c' C h v = v
rescale (fin t m e) s a c a' c' C h v = (
  v.0,
  eq_of_mul-eq-mul_right c C (m * up e * c') (a' * down e)
      (mul_right_comm (m * up e) c' c ∙ ap (λ (x : ℕ). x * c') v.1 ∙ mul_right_comm a (down e) c' ∙ ap (λ (x : ℕ). x * down e) h ∙ mul_right_comm a' c (down e)),
)

-- ---- the numbers: M = m * 2 ^ (b % 2) * 4 ^ 26, and its nearest root
even_or_odd : (b : ℕ) → (b % 2 ≡ 0) ⊎ (b % 2 ≡ 1)
even_or_odd b = go (b % 2) (omega arith)
  where
    go : (j : ℕ) → j < 2 → (j ≡ 0) ⊎ (j ≡ 1)
    go zero h = inl refl
    go (suc j) h = inr (omega arith)

pub record Sized (M : ℕ) : Type 0 where
  pub from : 2 ^ 104 ≤ M
  pub to : M ≤ 2 ^ 106 - 2 ^ 53

pub sized : (m b : ℕ) → 2 ^ 52 ≤ m → m < 2 ^ 53 → Sized (m * 2 ^ (b % 2) * 4 ^ 26)
sized m b l u = elim (even_or_odd b) [
  | inl h ↦ subst (λ (j : ℕ). Sized (m * 2 ^ j * 4 ^ 26)) (sym h) (record { from = omega arith; to = omega arith })
  | inr h ↦ subst (λ (j : ℕ). Sized (m * 2 ^ j * 4 ^ 26)) (sym h) (record { from = omega arith; to = omega arith })
]

-- the nearest root has 53 digits
pub near_digits : (M r : ℕ) → Sized M → Nearest M r → (2 ^ 52 ≤ r) × (r < 2 ^ 53)
near_digits M r s n =
    let a : 2 ^ 53 < 2 * r + 1 = root_lt (2 ^ 53) (2 * r + 1) (low M r s.from n.high) in
    let b : 2 * r - 1 < 2 ^ 54 - 1 = root_lt (2 * r - 1) (2 ^ 54 - 1) (high M r s.to n.low) in
    (omega arith, omega arith)
  where
    low : (M r : ℕ) → 2 ^ 104 ≤ M → 4 * M < (2 * r + 1) * (2 * r + 1) → 2 ^ 53 * 2 ^ 53 < (2 * r + 1) * (2 * r + 1)
    low M r h k = lt_of_le_of_lt (go M h) k
      where
        go : (M : ℕ) → 2 ^ 104 ≤ M → 2 ^ 53 * 2 ^ 53 ≤ 4 * M
        go M h = omega arith

    high : (M r : ℕ) → M ≤ 2 ^ 106 - 2 ^ 53 → (2 * r - 1) * (2 * r - 1) < 4 * M → (2 * r - 1) * (2 * r - 1) < (2 ^ 54 - 1) * (2 ^ 54 - 1)
    high M r h k = lt_of_lt_of_le k (go M h)
      where
        go : (M : ℕ) → M ≤ 2 ^ 106 - 2 ^ 53 → 4 * M ≤ (2 ^ 54 - 1) * (2 ^ 54 - 1)
        go M h = omega arith

under_4 : (M : ℕ) → Sized M → M < 4 ^ 53
under_4 M s = let h = s.to in omega arith

pos_4 : (M : ℕ) → Sized M → 0 < M
pos_4 M s = let h = s.from in omega arith

pub near_of : (M : ℕ) → Sized M → Nearest M (near M)
near_of M s = near_law M (pos_4 M s) (under_4 M s)

-- ---- what a pattern stands for
of_bits_is : (b : ℕ) → of_bits binary64 b ≡ of_fields binary64 (leb (2 ^ 63) b) (b % 2 ^ 63 / 2 ^ 52) (b % 2 ^ 52)
unfolding of_bits
of_bits_is b = refl

differ : (x : ℕ) → suc x < 2047 → suc x ≡ 2047 → ⊥
differ x h e = omega arith

under_ones : (t x : ℕ) → suc x < 2047 → of_fields binary64 false (suc x) t ≡ odd 53 false (2 ^ 52 + t) x 1074
unfolding of_fields
under_ones t x h = cond_no (eqb (suc x) 2047) (cond (eqb t 0) (inf false) nan) (odd 53 false (2 ^ 52 + t) x 1074) (not_T (eqb (suc x) 2047) (λ (u : T (eqb (suc x) 2047)). differ x h (eqb→eq (suc x) 2047 u)))

at_zero : (t : ℕ) → of_fields binary64 false 0 t ≡ odd 53 false t 0 1074
unfolding of_fields
at_zero t = refl

sign_clear : (b : ℕ) → b < 2 ^ 63 → of_bits binary64 b ≡ of_fields binary64 false (b / 2 ^ 52) (b % 2 ^ 52)
sign_clear b u =
    of_bits_is b
    ∙ ap (λ (s : Bool). of_fields binary64 s (b % 2 ^ 63 / 2 ^ 52) (b % 2 ^ 52)) (is_false (leb (2 ^ 63) b) (not_T (leb (2 ^ 63) b) (λ (t : T (leb (2 ^ 63) b)). not-le_of_lt u (leb→le (2 ^ 63) b t))))
    ∙ ap (λ (x : ℕ). of_fields binary64 false (x / 2 ^ 52) (b % 2 ^ 52)) (mod-eq_of_lt u)

-- field x + 1 and digits t
pub normal_value : (b x t : ℕ) → b ≡ suc x * 2 ^ 52 + t → t < 2 ^ 52 → suc x < 2047 → HasValue (of_bits binary64 b) false ((2 ^ 52 + t) * 2 ^ x) (2 ^ 1074)
normal_value b x t e u f =
    subst (λ (z : Float). HasValue z false ((2 ^ 52 + t) * 2 ^ x) (2 ^ 1074))
    (sym (sign_clear b (range b x t e u f) ∙ ap (λ (k : ℕ). of_fields binary64 false k (b % 2 ^ 52)) (field b x t e u) ∙ ap (λ (k : ℕ). of_fields binary64 false (suc x) k) (digits b x t e u) ∙ under_ones t x f))
    (odd_sign 53 false (2 ^ 52 + t) x 1074)
  where
    range : (b x t : ℕ) → b ≡ suc x * 2 ^ 52 + t → t < 2 ^ 52 → suc x < 2047 → b < 2 ^ 63
    range b x t e u f = omega arith

    field : (b x t : ℕ) → b ≡ suc x * 2 ^ 52 + t → t < 2 ^ 52 → b / 2 ^ 52 ≡ suc x
    field b x t e u = omega arith

    digits : (b x t : ℕ) → b ≡ suc x * 2 ^ 52 + t → t < 2 ^ 52 → b % 2 ^ 52 ≡ t
    digits b x t e u = omega arith

pub subnormal_value : (b : ℕ) → b < 2 ^ 52 → HasValue (of_bits binary64 b) false (b * 2 ^ 0) (2 ^ 1074)
subnormal_value b u =
    subst (λ (z : Float). HasValue z false (b * 2 ^ 0) (2 ^ 1074))
    (sym (sign_clear b (omega arith) ∙ ap (λ (k : ℕ). of_fields binary64 false k (b % 2 ^ 52)) (field b u) ∙ ap (λ (k : ℕ). of_fields binary64 false 0 k) (mod-eq_of_lt u) ∙ at_zero b))
    (odd_sign 53 false b 0 1074)
  where
    field : (b : ℕ) → b < 2 ^ 52 → b / 2 ^ 52 ≡ 0
    field b u = omega arith

-- ---- at full width: significand * 2 ^ exponent / 2 ^ 1126
pub record Full (p m b : ℕ) : Type 0 where
  pub from : 2 ^ 52 ≤ m
  pub to : m < 2 ^ 53
  pub small : b ≤ 2097
  pub value : HasValue (of_bits binary64 p) false (m * 2 ^ b) (2 ^ 1126)

shift_up : (t j : ℕ) → 2 ^ j ≤ t → t < 2 ^ suc j → j ≤ 51 → (2 ^ 52 ≤ t * 2 ^ (52 - j)) × (t * 2 ^ (52 - j) < 2 ^ 53)
shift_up t j l u h =
    let e : 2 ^ j * 2 ^ (52 - j) ≡ 2 ^ 52 = sym (pow-add 2 j (52 - j)) ∙ ap (λ (k : ℕ). 2 ^ k) (whole j h) in
    let f : 2 ^ suc j * 2 ^ (52 - j) ≡ 2 ^ 53 = sym (pow-add 2 (suc j) (52 - j)) ∙ ap (λ (k : ℕ). 2 ^ k) (whole' j h) in
    (le_trans (le_of_eq (sym e)) (mul-le-mul_right (2 ^ (52 - j)) l), lt_of_lt_of_le (N.mul-lt-mul_of_pos_right u (pow_pos (52 - j))) (le_of_eq f))
  where
    whole : (j : ℕ) → j ≤ 51 → j + (52 - j) ≡ 52
    whole j h = omega arith

    whole' : (j : ℕ) → j ≤ 51 → suc j + (52 - j) ≡ 53
    whole' j h = omega arith

pub below_52 : (j t : ℕ) → 2 ^ j ≤ t → t < 2 ^ 52 → j ≤ 51
below_52 j t l u = N.le_of_suc-le-suc (lt_of_not-le (λ (g : 52 ≤ j). lt_irrefl t (lt_of_lt_of_le u (le_trans (pow_mono g) l))))

leading : (z j : ℕ) → z + suc j ≡ 64 → j ≤ 51 → (z - 11 ≡ 52 - j) × (63 - z ≡ j)
leading z j h k = (omega arith, omega arith)

low_full : (t : ℕ) → 0 < t → t < 2 ^ 52 → Full t (t * 2 ^ (count_leading_zeros 64 t - 11)) (63 - count_leading_zeros 64 t)
low_full t P u =
    let r = leading_top 64 t P (N.lt_trans u (lit< tt)) in
    let j = r.0 in
    let J : j ≤ 51 = below_52 j t r.2 u in
    let z = leading (count_leading_zeros 64 t) j r.1 J in
    let w = shift_up t j r.2 r.3 J in
    subst (λ (k : ℕ). Full t (t * 2 ^ k) (63 - count_leading_zeros 64 t)) (sym z.0)
    (subst (λ (k : ℕ). Full t (t * 2 ^ (52 - j)) k) (sym z.1)
    (record {
      from = w.0;
      to = w.1;
      small = omega arith;
      value =
          rescale (of_bits binary64 t) false (t * 2 ^ 0) (2 ^ 1074) (t * 2 ^ (52 - j) * 2 ^ j) (2 ^ 1126) (pow_pos 1074)
          (same t (2 ^ (52 - j) * 2 ^ j) (sym (pow-add 2 (52 - j) j) ∙ ap (λ (k : ℕ). 2 ^ k) (whole j J)) ∙ ap (λ (x : ℕ). x * 2 ^ 1074) (sym (mul_assoc t (2 ^ (52 - j)) (2 ^ j))))
          (subnormal_value t u);
    }))
  where
    whole : (j : ℕ) → j ≤ 51 → 52 - j + j ≡ 52
    whole j h = omega arith

    same : (t w : ℕ) → w ≡ 2 ^ 52 → t * 2 ^ 0 * 2 ^ 1126 ≡ t * w * 2 ^ 1074
    same t w h = ap (λ (x : ℕ). x * 2 ^ 1126) (mul-one t) ∙ ap (λ (x : ℕ). t * x) (pow-add 2 52 1074) ∙ sym (mul_assoc t (2 ^ 52) (2 ^ 1074)) ∙ ap (λ (x : ℕ). t * x * 2 ^ 1074) (sym h)

high_full : (p x t : ℕ) → p ≡ suc x * 2 ^ 52 + t → t < 2 ^ 52 → suc x < 2047 → Full p (t + 2 ^ 52) (suc x + 51)
high_full p x t e u f =
    record {
      from = omega arith;
      to = omega arith;
      small = omega arith;
      value =
          rescale (of_bits binary64 p) false ((2 ^ 52 + t) * 2 ^ x) (2 ^ 1074) ((t + 2 ^ 52) * 2 ^ (suc x + 51)) (2 ^ 1126) (pow_pos 1074)
          (same (2 ^ 52 + t) x ∙ ap (λ (y : ℕ). y * 2 ^ (suc x + 51) * 2 ^ 1074) (N.add_comm (2 ^ 52) t))
          (normal_value p x t e u f);
    }
  where
    count : (x : ℕ) → suc x + 51 ≡ x + 52
    count x = omega arith

    same : (m x : ℕ) → m * 2 ^ x * 2 ^ 1126 ≡ m * 2 ^ (suc x + 51) * 2 ^ 1074
    same m x =
        ap (λ (y : ℕ). m * 2 ^ x * y) (pow-add 2 52 1074)
        ∙ sym (mul_assoc (m * 2 ^ x) (2 ^ 52) (2 ^ 1074))
        ∙ ap (λ (y : ℕ). y * 2 ^ 1074) (mul_assoc m (2 ^ x) (2 ^ 52) ∙ ap (λ (y : ℕ). m * y) (sym (pow-add 2 x 52) ∙ ap (λ (k : ℕ). 2 ^ k) (sym (count x))))

pub full : (p : ℕ) → 0 < p → p < 0x7ff0_0000_0000_0000 → Full p (significand p) (exponent p)
full p P u = go (eqb (p / 2 ^ 52) 0) (eqb→eq (p / 2 ^ 52) 0) (λ (h : T (not (eqb (p / 2 ^ 52) 0))). neq p h)
  where
    neq : (p : ℕ) → T (not (eqb (p / 2 ^ 52) 0)) → p / 2 ^ 52 ≡ 0 → ⊥
    neq p h e = lib.Dec.T_not (eqb (p / 2 ^ 52) 0) h (lib.Ieee.Fits.eq→eqb e)

    low : (p : ℕ) → p / 2 ^ 52 ≡ 0 → p % 2 ^ 52 ≡ p
    low p e = omega arith

    high : (p : ℕ) → (p / 2 ^ 52 ≡ 0 → ⊥) → suc (p / 2 ^ 52 - 1) ≡ p / 2 ^ 52
    high p n = omega arith

    whole : (p : ℕ) → (p / 2 ^ 52 ≡ 0 → ⊥) → p ≡ suc (p / 2 ^ 52 - 1) * 2 ^ 52 + p % 2 ^ 52
    whole p n = omega arith

    go : (b : Bool) → (T b → p / 2 ^ 52 ≡ 0) → (T (not b) → p / 2 ^ 52 ≡ 0 → ⊥)
        → Full p (cond b (p % 2 ^ 52 * 2 ^ (count_leading_zeros 64 (p % 2 ^ 52) - 11)) (p % 2 ^ 52 + 2 ^ 52)) (cond b (63 - count_leading_zeros 64 (p % 2 ^ 52)) (p / 2 ^ 52 + 51))
    go true e n =
        let h = e tt in
        subst (λ (t : ℕ). Full p (t * 2 ^ (count_leading_zeros 64 t - 11)) (63 - count_leading_zeros 64 t)) (sym (low p h)) (low_full p P (omega arith))
    go false e n =
        let h = n tt in
        subst (λ (x : ℕ). Full p (p % 2 ^ 52 + 2 ^ 52) (x + 51)) (high p h) (high_full p (p / 2 ^ 52 - 1) (p % 2 ^ 52) (whole p h) (omega arith) (omega arith))

-- ---- the root has the rule
scaled : (m j h w u d p q : ℕ) → 0 < w → u * p ≡ h * d → p * p ≡ q * w → m * (j * (h * h)) * (d * d) ≡ m * j * w * (u * u) * q
scaled m j h w u d p q W e f =
    eq_of_mul-eq-mul_right w W (m * (j * (h * h)) * (d * d)) (m * j * w * (u * u) * q)
    (left ∙ ap (λ (x : ℕ). m * j * w * (x * x)) (sym e) ∙ mid ∙ ap (λ (x : ℕ). m * j * w * (u * u) * x) f ∙ sym (mul_assoc (m * j * w * (u * u)) q w))
  where
    left : m * (j * (h * h)) * (d * d) * w ≡ m * j * w * (h * d * (h * d))
    left = simp (mul_assoc, mul_comm, mul_left_comm)

    mid : m * j * w * (u * p * (u * p)) ≡ m * j * w * (u * u) * (p * p)
    mid = simp (mul_assoc, mul_comm, mul_left_comm)

halves : (b : ℕ) → b ≡ b % 2 + (b / 2 + b / 2)
halves b = omega arith

split_pow : (b : ℕ) → 2 ^ b ≡ 2 ^ (b % 2) * (2 ^ (b / 2) * 2 ^ (b / 2))
split_pow b = ap (λ (k : ℕ). 2 ^ k) (halves b) ∙ pow-add 2 (b % 2) (b / 2 + b / 2) ∙ ap (λ (x : ℕ). 2 ^ (b % 2) * x) (pow-add 2 (b / 2) (b / 2))

exp_is : (h : ℕ) → up (minus h 589) * 2 ^ 589 ≡ 2 ^ h * down (minus h 589)
exp_is h = ap (λ (x : ℕ). x * 2 ^ 589) (sym (one-mul (up (minus h 589)))) ∙ minus_val 1 h 589 ∙ ap (λ (x : ℕ). x * down (minus h 589)) (one-mul (2 ^ h))

-- the value of the bits of the root
finish_value : (h r : ℕ) → h ≤ 1048 → 2 ^ 52 ≤ r → r < 2 ^ 53 → HasValue (of_bits binary64 ((h + 485) * 2 ^ 52 + r)) false (r * up (minus h 589)) (down (minus h 589))
finish_value h r H l u =
    rescale (of_bits binary64 ((h + 485) * 2 ^ 52 + r)) false ((2 ^ 52 + (r - 2 ^ 52)) * 2 ^ (h + 485)) (2 ^ 1074) (r * up (minus h 589)) (down (minus h 589)) (pow_pos 1074)
    (ap (λ (x : ℕ). x * 2 ^ (h + 485) * down (minus h 589)) (N.add-sub_of_le l)
    ∙ ap (λ (x : ℕ). r * x * down (minus h 589)) (pow-add 2 h 485)
    ∙ arrange r (2 ^ h) (2 ^ 485) (down (minus h 589))
    ∙ ap (λ (x : ℕ). r * (x * 2 ^ 485)) (sym (exp_is h))
    ∙ ap (λ (x : ℕ). r * x) (mul_assoc (up (minus h 589)) (2 ^ 589) (2 ^ 485) ∙ ap (λ (x : ℕ). up (minus h 589) * x) (sym (pow-add 2 589 485)))
    ∙ sym (mul_assoc r (up (minus h 589)) (2 ^ 1074)))
    (normal_value ((h + 485) * 2 ^ 52 + r) (h + 485) (r - 2 ^ 52) (omega arith) (omega arith) (omega arith))
  where
    arrange : (r a c d : ℕ) → r * (a * c) * d ≡ r * (a * d * c)
    arrange r a c d = mul_assoc r (a * c) d ∙ ap (λ (x : ℕ). r * x) (mul_right_comm a c d)

half_le : (b : ℕ) → b ≤ 2097 → b / 2 ≤ 1048
half_le b h = omega arith

below_106 : (M : ℕ) → M ≤ 2 ^ 106 - 2 ^ 53 → M < 2 ^ 106
below_106 M h = omega arith

pub lawful : (p m b : ℕ) → Full p m b → Rooted (of_bits binary64 p) (of_bits binary64 (bits_of_root m b))
lawful p m b f =
    let M = m * 2 ^ (b % 2) * 4 ^ 26 in
    let s = sized m b f.from f.to in
    let n = near_of M s in
    let d = near_digits M (near M) s n in
    let e = minus (b / 2) 589 in
    record {
      M = M;
      r = near M;
      e = e;
      from = s.from;
      to = below_106 M s.to;
      of =
          rescale (of_bits binary64 p) false (m * 2 ^ b) (2 ^ 1126) (M * (up e * up e)) (down e * down e) (pow_pos 1126)
          (ap (λ (x : ℕ). m * x * (down e * down e)) (split_pow b)
          ∙ scaled m (2 ^ (b % 2)) (2 ^ (b / 2)) (4 ^ 26) (up e) (down e) (2 ^ 589) (2 ^ 1126) (lit< tt) (exp_is (b / 2)) refl)
          f.value;
      nearest = n;
      is = finish_value (b / 2) (near M) (half_le b f.small) d.0 d.1;
    }

-- ---- the pattern of a positive finite value
yes_or_no : (a : Bool) → T a ⊎ T (not a)
yes_or_no true = inl tt
yes_or_no false = inr tt

odd_neg : (d q k l : ℕ) → T (positive (odd d true q k l)) → ⊥
unfolding odd
odd_neg d zero k l p = p
odd_neg d (suc q) k l p = p

fields_neg : (x t : ℕ) → T (positive (of_fields binary64 true x t)) → ⊥
unfolding of_fields
fields_neg zero t p = odd_neg 53 t 0 1074 p
fields_neg (suc x) t p = go (eqb (suc x) 2047) (eqb t 0) p
  where
    go : (a b : Bool) → T (positive (cond a (cond b (inf true) nan) (odd 53 true (2 ^ 52 + t) x 1074))) → ⊥
    go true true q = q
    go true false q = q
    go false b q = odd_neg 53 (2 ^ 52 + t) x 1074 q

at_ones : (t : ℕ) → T (positive (of_fields binary64 false 2047 t)) → ⊥
unfolding of_fields
at_ones t p = go (eqb t 0) p
  where
    go : (b : Bool) → T (positive (cond b (inf false) nan)) → ⊥
    go true q = q
    go false q = q

the_field : (i : ℕ) → 0x7ff0_0000_0000_0000 ≤ i → i < 2 ^ 63 → i / 2 ^ 52 ≡ 2047
the_field i l u = omega arith

zero_not : T (positive (of_bits binary64 0)) → ⊥
unfolding of_bits
zero_not p = p

pub pattern_range : (x : Float) → T (fits binary64 x) → T (positive x) → (0 < to_bits binary64 x) × (to_bits binary64 x < 0x7ff0_0000_0000_0000)
pattern_range x F P =
    let i = to_bits binary64 x in
    let p : T (positive (of_bits binary64 i)) = subst (λ (w : Float). T (positive w)) (sym (of_bits-to_bits binary64 x F)) P in
    (above_zero i p, below_inf i p)
  where
    above_zero : (i : ℕ) → T (positive (of_bits binary64 i)) → 0 < i
    above_zero zero p = absurd (zero_not p)
    above_zero (suc i) p = zero-lt-suc i

    below_inf : (i : ℕ) → T (positive (of_bits binary64 i)) → i < 0x7ff0_0000_0000_0000
    below_inf i p =
        lt_of_not-le (λ (g : 0x7ff0_0000_0000_0000 ≤ i). elim (yes_or_no (leb (2 ^ 63) i)) [
          | inl h ↦ fields_neg (i % 2 ^ 63 / 2 ^ 52) (i % 2 ^ 52) (subst (λ (w : Float). T (positive w)) (of_bits_is i ∙ ap (λ (s : Bool). of_fields binary64 s (i % 2 ^ 63 / 2 ^ 52) (i % 2 ^ 52)) (is_true (leb (2 ^ 63) i) h)) p)
          | inr h ↦ let u : i < 2 ^ 63 = nleb→lt (2 ^ 63) i h in at_ones (i % 2 ^ 52) (subst (λ (w : Float). T (positive w)) (sign_clear i u ∙ ap (λ (x : ℕ). of_fields binary64 false x (i % 2 ^ 52)) (the_field i g u)) p)
        ])

pub sqrt_lawful : (x : Float) → T (fits binary64 x) → T (positive x) → Rooted x (sqrt_of x)
unfolding sqrt_of
sqrt_lawful x F P =
    let i = to_bits binary64 x in
    let r = pattern_range x F P in
    subst (λ (w : Float). Rooted w (of_bits binary64 (root_bits i))) (of_bits-to_bits binary64 x F) (lawful i (significand i) (exponent i) (full i r.0 r.1))

pub sqrt_fits : (x : Float) → T (fits binary64 (sqrt_of x))
unfolding sqrt_of
sqrt_fits x = of_bits-fits binary64 (root_bits (to_bits binary64 x))
