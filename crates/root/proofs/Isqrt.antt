-- Laws of the whole-number square root: `near_law` is the rule of 01, (2r-1)² < 4M < (2r+1)², and `near_unique` that only one r has it.
-- Assumes nothing.
use mathlib.Core.Path.{◌≡◌, sym, ap, ◌∙◌, subst}
use Prim.Native.Nat.{ℕ, zero, suc, ◌+◌, ◌-◌, ◌*◌, ◌/◌, ◌^◌, ◌≤◌, ◌<◌}
use native.Mathlib.Nat.{le_antisymm, lt_of_le_of_lt, lt_of_not-le, not-le_of_lt, mul-le-mul, mul-add, add-mul, mul_comm, mul_assoc, mul_left_comm, pow-suc, div-lt_iff_lt-mul}
use native.Mathlib.Nat as N
use native.Mathlib.Omega.{arith}
use mathlib.Core.Bool.{Bool, true, false, not, cond}
use lib.Dec.{T, leb, ltb, leb→le, nleb→lt, ltb→lt, nltb→le}
use Rattle.root.specs.Isqrt.{grow, root, closer, near}
use Rattle.root.specs.Rule.{Nearest}

-- ---- squares
pub square_double : (q : ℕ) → 2 * q * (2 * q) ≡ 4 * (q * q)
square_double q = mul_assoc 2 q (2 * q) ∙ ap (λ (x : ℕ). 2 * x) (mul_left_comm q 2 q) ∙ sym (mul_assoc 2 2 (q * q))

pub square_sum : (x y : ℕ) → (x + y) * (x + y) ≡ x * x + 2 * (x * y) + y * y
square_sum x y =
    let a = add-mul x y (x + y) in
    let b = mul-add x x y in
    let c = mul-add y x y in
    let d = mul_comm y x in
    omega arith

pub square_one : (a : ℕ) → (a + 1) * (a + 1) ≡ a * a + 2 * a + 1
square_one a = let p = square_sum a 1 in omega arith

pub square_odd : (q : ℕ) → (2 * q + 1) * (2 * q + 1) ≡ 4 * (q * q) + 4 * q + 1
square_odd q = let p = square_one (2 * q) in let r = square_double q in omega arith

-- q is the root of M
pub record Floor (M q : ℕ) : Type 0 where
  pub low : q * q ≤ M
  pub high : M < (q + 1) * (q + 1)

pub grow_floor : (q M : ℕ) → Floor (M / 4) q → Floor M (grow q M)
grow_floor q M f = go (leb ((2 * q + 1) * (2 * q + 1)) M) (leb→le ((2 * q + 1) * (2 * q + 1)) M) (nleb→lt ((2 * q + 1) * (2 * q + 1)) M)
  where
    go : (b : Bool) → (T b → (2 * q + 1) * (2 * q + 1) ≤ M) → (T (not b) → M < (2 * q + 1) * (2 * q + 1)) → Floor M (cond b (2 * q + 1) (2 * q))
    go true h k =
        let a = square_one q in
        let b = square_one (2 * q + 1) in
        let c = square_odd q in
        let l = f.high in
        record { low = h tt; high = omega arith }
    go false h k =
        let a = square_double q in
        let l = f.low in
        record { low = omega arith; high = k tt }

pub root_floor : (k M : ℕ) → M < 4 ^ k → Floor M (root k M)
unfolding root
root_floor zero M h = record { low = omega arith; high = omega arith }
root_floor (suc k) M h = grow_floor (root k (M / 4)) M (root_floor k (M / 4) ((div-lt_iff_lt-mul (omega arith)).1 (subst (λ (x : ℕ). M < x) (pow-suc 4 k) h)))

-- two squares in order have roots in order
pub root_lt : (a b : ℕ) → a * a < b * b → a < b
root_lt a b h = lt_of_not-le (λ (g : b ≤ a). not-le_of_lt h (mul-le-mul g g))

le_of_lt_one : (p q : ℕ) → p < q + 1 → p ≤ q
le_of_lt_one p q h = omega arith

pub floor_unique : (M p q : ℕ) → Floor M p → Floor M q → p ≡ q
floor_unique M p q f g =
    le_antisymm (le_of_lt_one p q (root_lt p (q + 1) (lt_of_le_of_lt f.low g.high))) (le_of_lt_one q p (root_lt q (p + 1) (lt_of_le_of_lt g.low f.high)))

-- ---- the nearest
-- (2q-1)² for a q above 0
square_less : (q : ℕ) → 0 < q → (2 * q - 1) * (2 * q - 1) + 4 * q ≡ 4 * (q * q) + 1
square_less q h =
    let a = square_one (2 * q - 1) in
    let b : 2 * q - 1 + 1 ≡ 2 * q = omega arith in
    let c : (2 * q - 1 + 1) * (2 * q - 1 + 1) ≡ 4 * (q * q) = ap (λ (x : ℕ). x * x) b ∙ square_double q in
    omega arith

pub closer_law : (q M : ℕ) → 0 < q → Floor M q → Nearest M (closer q M)
closer_law q M Q f = go (ltb (q * q + q) M) (ltb→lt (q * q + q) M) (nltb→le (q * q + q) M)
  where
    go : (b : Bool) → (T b → q * q + q < M) → (T (not b) → M ≤ q * q + q) → Nearest M (cond b (q + 1) q)
    go true h k =
        let a = square_odd q in
        let b : 2 * (q + 1) - 1 ≡ 2 * q + 1 = omega arith in
        let c : (2 * (q + 1) - 1) * (2 * (q + 1) - 1) ≡ (2 * q + 1) * (2 * q + 1) = ap (λ (x : ℕ). x * x) b in
        let d = square_odd (q + 1) in
        let l = f.high in
        let m = h tt in
        record { low = omega arith; high = omega arith }
    go false h k =
        let a = square_odd q in
        let b = square_less q Q in
        let l = f.low in
        let m = k tt in
        record { low = omega arith; high = omega arith }

root_pos : (M q : ℕ) → 0 < M → Floor M q → 0 < q
root_pos M zero h f = absurd (go M h f.high)
  where
    go : (M : ℕ) → 0 < M → M < (0 + 1) * (0 + 1) → ⊥
    go M h k = omega arith
root_pos M (suc q) h f = omega arith

pub near_law : (M : ℕ) → 0 < M → M < 4 ^ 53 → Nearest M (near M)
unfolding near
near_law M P h = closer_law (root 53 M) M (root_pos M (root 53 M) P (root_floor 53 M h)) (root_floor 53 M h)

half_lt : (p q : ℕ) → 2 * p - 1 < 2 * q + 1 → p ≤ q
half_lt p q h = omega arith

pub near_unique : (M p q : ℕ) → Nearest M p → Nearest M q → p ≡ q
near_unique M p q f g =
    le_antisymm (half_lt p q (root_lt (2 * p - 1) (2 * q + 1) (N.lt_trans f.low g.high))) (half_lt q p (root_lt (2 * q - 1) (2 * p + 1) (N.lt_trans g.low f.high)))

-- a root that is the floor gives the nearest
pub near_is : (M q : ℕ) → M < 4 ^ 53 → Floor M q → near M ≡ closer q M
unfolding near
near_is M q h f = ap (λ (x : ℕ). closer x M) (floor_unique M (root 53 M) q (root_floor 53 M h) f)
