-- The digits of `near_root`: what its loop keeps, how many digits each part adds, and that the last of them round to the nearest. Assumes nothing.
use mathlib.Core.Path.{◌≡◌, refl, sym, ap, ◌∙◌}
use Prim.Native.Nat.{ℕ, ◌+◌, ◌*◌, ◌/◌, ◌%◌, ◌^◌, ◌≤◌, ◌<◌}
use native.Mathlib.Nat.{lt_of_le_of_lt, mul-le-mul, mul_assoc, pow-suc, pow-le-pow_right}
use native.Mathlib.Numerals.{add-one}
use native.Mathlib.Omega.{arith}
use mathlib.Core.Bool.{Bool, cond}
use borrow.Author.Tests.{lt-ltb, le-ltb}
use Rattle.root.specs.declared.Digits.{Digits}
use Rattle.root.specs.Isqrt.{closer, near}
use Rattle.root.specs.Step.{taken, DigitsOf, ReadyOne, ReadyMore}
use Rattle.root.proofs.Isqrt.{Floor, square_one, root_lt, near_is}

-- ---- a root with its remainder
module _ (M : ℕ) (s : Digits) (d : DigitsOf M s) where
  pub floored : Floor M s.q
  floored = let a = square_one s.q in let v = d.value in let l = d.rest in record { low = omega arith; high = omega arith }

  pub below : (k : ℕ) → M < k * k → s.q < k
  below k h = root_lt s.q k (lt_of_le_of_lt floored.low h)

  pub at_least : (k : ℕ) → k * k ≤ M → k ≤ s.q
  at_least k h = let a = root_lt k (s.q + 1) (lt_of_le_of_lt h floored.high) in omega arith

-- ---- the loop over the first 14 digits, A: with i digits of the root found, what was taken of A * 4 ^ i, and in reg what comes next
pub record Going (A i reg : ℕ) (s : Digits) : Type 0 where
  pub rest : s.rem ≤ 2 * s.q
  pub wide : reg < 4 ^ 7
  pub value : taken s * 4 ^ 7 + reg ≡ A * 4 ^ i

few : (v reg n : ℕ) → v * 4 ^ 7 + reg ≡ n → n ≤ 4 ^ 7 * 4 ^ 7 → v ≤ 4 ^ 7
few v reg n h k = omega arith

pub ready_one : (A i reg : ℕ) (s : Digits) → A ≤ 4 ^ 7 → i ≤ 7 → Going A i reg s → ReadyOne s (reg / 2 ^ 12)
ready_one A i reg s l h g =
    let v = few (taken s) reg (A * 4 ^ i) g.value (mul-le-mul l (pow-le-pow_right (omega arith) h)) in
    let w = g.wide in
    record { small = below (taken s) s (record { value = refl; rest = g.rest }) (2 ^ 53) (omega arith); rest = g.rest; next = omega arith }

shifted : (v w reg n : ℕ) → w ≡ v * 4 + reg / 2 ^ 12 → v * 4 ^ 7 + reg ≡ n → w * 4 ^ 7 + reg % 2 ^ 12 * 4 ≡ n * 4
shifted v w reg n h k = omega arith

pub again : (A i reg : ℕ) (s r : Digits) → Going A i reg s → DigitsOf (taken s * 4 + reg / 2 ^ 12) r → Going A (i + 1) (reg % 2 ^ 12 * 4) r
again A i reg s r g d =
    record {
      rest = d.rest;
      wide = omega arith;
      value =
          shifted (taken s) (taken r) reg (A * 4 ^ i) d.value g.value
          ∙ mul_assoc A (4 ^ i) 4
          ∙ ap (λ (x : ℕ). A * x) (sym (ap (λ (n : ℕ). 4 ^ n) (add-one i) ∙ pow-suc 4 i));
    }

whole : (v reg A : ℕ) → v * 4 ^ 7 + reg ≡ A * 4 ^ 7 → reg < 4 ^ 7 → v ≡ A
whole v reg A h k = omega arith

pub looped : (A i reg : ℕ) (s : Digits) → Going A i reg s → i ≡ 7 → DigitsOf A s
looped A i reg s g e = record { value = whole (taken s) reg A (g.value ∙ ap (λ (n : ℕ). A * 4 ^ n) e) g.wide; rest = g.rest }

-- ---- the steps that double the digits
pub goes_on : (M N unit next : ℕ) (s r : Digits) → DigitsOf M s → DigitsOf (taken s * (unit * unit) + next) r → M * (unit * unit) + next ≡ N → DigitsOf N r
goes_on M N unit next s r d e h = record { value = e.value ∙ ap (λ (x : ℕ). x * (unit * unit) + next) d.value ∙ h; rest = e.rest }

-- a root from k on has enough digits for a unit of twice k
pub ready_more : (M : ℕ) (s : Digits) (k unit high low : ℕ) → DigitsOf M s → M < 2 ^ 54 → k * k ≤ M → unit ≤ 2 * k → high < unit → low < unit → ReadyMore s unit high low
ready_more M s k unit high low d m h u x y =
    let a = at_least M s d k h in
    record { small = below M s d (2 ^ 27) m; rest = d.rest; enough = omega arith; first = x; second = y }

-- ---- the nearest
bounded : (a : ℕ) → a < 2 ^ 54 → a * 4 ^ 26 < 4 ^ 53
bounded a h = omega arith

pick_up : (M q : ℕ) → q * q + q < M → closer q M ≡ q + 1
pick_up M q h = ap (λ (b : Bool). cond b (q + 1) q) (lt-ltb (q * q + q) M h)

pick_down : (M q : ℕ) → M ≤ q * q + q → closer q M ≡ q
pick_down M q h = ap (λ (b : Bool). cond b (q + 1) q) (le-ltb (q * q + q) M h)

module _ (a : ℕ) (s : Digits) (d : DigitsOf (a * 4 ^ 26) s) (A : a < 2 ^ 54) where
  nearest : near (a * 4 ^ 26) ≡ closer s.q (a * 4 ^ 26)
  nearest = near_is (a * 4 ^ 26) s.q (bounded a A) (floored (a * 4 ^ 26) s d)

  pub root_small : s.q < 2 ^ 53
  root_small = below (a * 4 ^ 26) s d (2 ^ 53) (bounded a A)

  pub up : s.q < s.rem → s.q + 1 ≡ near (a * 4 ^ 26)
  up h = let v = d.value in sym (nearest ∙ pick_up (a * 4 ^ 26) s.q (omega arith))

  pub down : s.rem ≤ s.q → s.q ≡ near (a * 4 ^ 26)
  down h = let v = d.value in sym (nearest ∙ pick_down (a * 4 ^ 26) s.q (omega arith))
