-- Only one value has the rule of the square root at a given value (`rooted_unique`). Assumes nothing.
use mathlib.Core.Path.{◌≡◌, refl, sym, ap, ◌∙◌, subst}
use Prim.Native.Nat.{ℕ, zero, suc, ◌+◌, ◌*◌, ◌^◌, ◌≤◌, ◌<◌}
use native.Mathlib.Nat.{zero-lt-suc, mul-pos, mul_comm, mul_assoc, mul_left_comm, mul_right_comm, mul-one, eq_of_mul-eq-mul_right, pow-succ', mul-le-mul_left, mul-mul-mul_comm, suc_inj}
use native.Mathlib.Omega.{arith}
use mathlib.Core.Bool.{Bool, false}
use lib.IntN.{ℤ, pos, negsuc}
use lib.Dec.{T}
use lib.Pow.{pow-add, pow_pos}
use lib.Ieee.{Float, nan, inf, fin, binary64, up, down, fits}
use lib.Ieee.Fits.{down_pos}
use lib.Ieee.Exact.{HasValue}
use Rattle.order.proofs.Value.{no_sum, value_unique}
use Rattle.root.proofs.Isqrt.{near_unique}
use Rattle.root.specs.Rule.{Nearest, Rooted}

-- two fractions that a value equals
crossed : (x : Float) (s : Bool) (a c b d : ℕ) → HasValue x s a c → HasValue x s b d → a * d ≡ b * c
crossed nan s a c b d v w = absurd v
crossed (inf t) s a c b d v w = absurd v
crossed (fin t m e) s a c b d v w =
    eq_of_mul-eq-mul_right (down e) (down_pos e) (a * d) (b * c)
    (mul_right_comm a d (down e) ∙ ap (λ (x : ℕ). x * d) (sym v.1) ∙ mul_right_comm (m * up e) c d ∙ ap (λ (x : ℕ). x * c) w.1 ∙ mul_right_comm b (down e) c)

double : (n : ℕ) → 2 ^ suc n * 2 ^ suc n ≡ 4 * (2 ^ n * 2 ^ n)
double n = ap (λ (x : ℕ). x * x) (pow-succ' 2 n) ∙ mul-mul-mul_comm 2 (2 ^ n) 2 (2 ^ n)

module _ (M L : ℕ) (a : 2 ^ 104 ≤ M) (b : M < 2 ^ 106) (c : 2 ^ 104 ≤ L) (d : L < 2 ^ 106) where
  too_large : (m l p : ℕ) → m < 2 ^ 106 → 2 ^ 104 ≤ l → 0 < p → m * (2 ^ 0 * 2 ^ 0) ≡ l * (4 * p) → ⊥
  too_large m l p u v P e =
      let q : l * (4 * 1) ≤ l * (4 * p) = mul-le-mul_left l (mul-le-mul_left 4 P) in
      omega arith

  same_pow : (k l : ℕ) → M * (2 ^ k * 2 ^ k) ≡ L * (2 ^ l * 2 ^ l) → (M ≡ L) × (k ≡ l)
  same_pow zero zero h = (omega arith, refl)
  same_pow zero (suc l) h = absurd (too_large M L (2 ^ l * 2 ^ l) b c (mul-pos (pow_pos l) (pow_pos l)) (h ∙ ap (λ (x : ℕ). L * x) (double l)))
  same_pow (suc k) zero h = absurd (too_large L M (2 ^ k * 2 ^ k) d a (mul-pos (pow_pos k) (pow_pos k)) (sym h ∙ ap (λ (x : ℕ). M * x) (double k)))
  same_pow (suc k) (suc l) h =
      let r = same_pow k l (eq_of_mul-eq-mul_right 4 (zero-lt-suc 3) (M * (2 ^ k * 2 ^ k)) (L * (2 ^ l * 2 ^ l))
      (mul_comm (M * (2 ^ k * 2 ^ k)) 4 ∙ mul_left_comm 4 M (2 ^ k * 2 ^ k) ∙ ap (λ (x : ℕ). M * x) (sym (double k)) ∙ h ∙ ap (λ (x : ℕ). L * x) (double l) ∙ mul_left_comm L 4 (2 ^ l * 2 ^ l) ∙ mul_comm 4 (L * (2 ^ l * 2 ^ l)))) in
      (r.0, ap suc r.1)

  joined : (n k l : ℕ) → n * (2 ^ k * 2 ^ k) * (2 ^ l * 2 ^ l) ≡ n * (2 ^ (k + l) * 2 ^ (k + l))
  joined n k l = mul_assoc n (2 ^ k * 2 ^ k) (2 ^ l * 2 ^ l) ∙ ap (λ (x : ℕ). n * x) (mul-mul-mul_comm (2 ^ k) (2 ^ k) (2 ^ l) (2 ^ l) ∙ ap (λ (x : ℕ). x * x) (sym (pow-add 2 k l)))

  same_exp : (e g : ℤ) → M * (up e * up e) * (down g * down g) ≡ L * (up g * up g) * (down e * down e) → (M ≡ L) × (e ≡ g)
  same_exp (pos k) (pos l) h = let r = same_pow k l (sym (mul-one (M * (2 ^ k * 2 ^ k))) ∙ h ∙ mul-one (L * (2 ^ l * 2 ^ l))) in (r.0, ap pos r.1)
  same_exp (pos k) (negsuc l) h = absurd (no_sum k l (same_pow (k + suc l) 0 (sym (joined M k (suc l)) ∙ h ∙ mul-one (L * 1))).1)
  same_exp (negsuc k) (pos l) h = absurd (no_sum l k (sym (same_pow 0 (l + suc k) (sym (mul-one (M * 1)) ∙ h ∙ joined L l (suc k))).1))
  same_exp (negsuc k) (negsuc l) h =
      let r = same_pow (suc l) (suc k) (ap (λ (x : ℕ). x * (2 ^ suc l * 2 ^ suc l)) (sym (mul-one M)) ∙ h ∙ ap (λ (x : ℕ). x * (2 ^ suc k * 2 ^ suc k)) (mul-one L)) in
      (r.0, ap negsuc (sym (suc_inj r.1)))

pub rooted_unique : (x y z : Float) → T (fits binary64 y) → T (fits binary64 z) → Rooted x y → Rooted x z → y ≡ z
rooted_unique x y z F G p q =
    let s = same_exp p.M q.M p.from p.to q.from q.to p.e q.e
    (crossed x false (p.M * (up p.e * up p.e)) (down p.e * down p.e) (q.M * (up q.e * up q.e)) (down q.e * down q.e) p.of q.of) in
    let n : p.r ≡ q.r = near_unique p.M p.r q.r p.nearest (subst (λ (M : ℕ). Nearest M q.r) (sym s.0) q.nearest) in
    value_unique binary64 y z false (p.r * up p.e) (down p.e) (down_pos p.e) F G p.is
    (subst (λ (r : ℕ). HasValue z false (r * up p.e) (down p.e)) (sym n) (subst (λ (e : ℤ). HasValue z false (q.r * up e) (down e)) (sym s.1) q.is))
