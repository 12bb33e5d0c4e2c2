-- More digits of a root, and what is left of the argument: one digit by a comparison, or as many as there are by a division. Assumes nothing.
use mathlib.Core.Path.{◌≡◌, ap}
use Prim.Native.Nat.{ℕ, ◌+◌, ◌-◌, ◌*◌, ◌/◌, ◌%◌, ◌^◌, ◌≤◌, ◌<◌}
use native.Mathlib.Nat.{le_trans, le_of_eq, mul-pos, mul-le-mul, mul-le-mul_right, add-mul, mul_comm, mul_assoc, mul_right_comm, mul-mul-mul_comm, div-lt_iff_lt-mul, div-add-mod, mod-lt}
use native.Mathlib.Omega.{arith}
use Rattle.root.specs.declared.Digits.{Digits}
use Rattle.root.specs.Step.{taken, DigitsOf, ReadyMore}
use Rattle.root.proofs.Isqrt.{square_sum, square_one, root_lt}

-- ---- as many as there are
-- with Q and U, the parts of a division by 2 * S, (S * B + Q)² is beside the number whose root is asked
beside : (S R B h l Q U : ℕ) → S * 2 * Q + U ≡ R * B + h → (S * B + Q) * (S * B + Q) + (U * B + l) ≡ (S * S + R) * (B * B) + (h * B + l) + Q * Q
beside S R B h l Q U e =
    let a = square_sum (S * B) Q in
    let b = add-mul (S * S) R (B * B) in
    let c = mul-mul-mul_comm S S B B in
    let d = mul_assoc R B B in
    let f = add-mul (R * B) h B in
    let g = add-mul (S * 2 * Q) U B in
    let i = ap (λ (x : ℕ). x * B) e in
    let j : S * 2 * Q * B ≡ 2 * (S * B * Q) = simp (mul_assoc, mul_comm) in
    omega arith

-- one step back where the square is above
back : (P L K M : ℕ) → P * P + L ≡ M + K → L < K → K ≤ L + (P * 2 - 1) → 0 < P → DigitsOf M (record { q = P - 1; rem = L + (P * 2 - 1) - K })
back P L K M e l k p =
    let a = square_one (P - 1) in
    let b : P - 1 + 1 ≡ P = omega arith in
    let c = ap (λ (x : ℕ). x * x) b in
    record { value = omega arith; rest = omega arith }

-- none where it is not
stays : (P L K M : ℕ) → P * P + L ≡ M + K → K ≤ L → L ≤ 2 * P → DigitsOf M (record { q = P; rem = L - K })
stays P L K M e k l = record { value = omega arith; rest = omega arith }

-- how large the numbers on the way are
pub record Sizes (s : Digits) (unit N Q L : ℕ) : Type 0 where
  pub divisor : 0 < s.q * 2
  pub next : N < 2 ^ 57
  pub digits : Q ≤ unit
  pub square : Q * Q ≤ s.q * unit * 2
  pub left : L < s.q * unit * 2
  pub root : s.q * unit ≤ 2 ^ 55
  pub positive : 0 < s.q * unit

module _ (s : Digits) (unit high low : ℕ) (r : ReadyMore s unit high low) where
  abbrev next : ℕ
  next = s.rem * unit + high

  abbrev twice : ℕ
  twice = s.q * 2

  abbrev digits : ℕ
  digits = next / twice

  abbrev left : ℕ
  left = next % twice * unit + low

  abbrev q : ℕ
  q = s.q * unit + digits

  divisor : 0 < twice
  divisor = let a = r.enough in let b = r.first in omega arith

  doubled : twice * unit ≡ s.q * unit * 2
  doubled = mul_right_comm s.q 2 unit

  digits_within : digits ≤ unit
  digits_within =
      let a : s.rem ≤ twice = let a = r.rest in omega arith in
      let b = mul-le-mul_right unit a in
      let c = add-mul unit 1 twice in
      let d = mul_comm twice unit in
      let e = r.enough in
      let f = r.first in
      let g : next / twice < unit + 1 = (div-lt_iff_lt-mul divisor).1 (omega arith) in
      omega arith

  left_within : left < s.q * unit * 2
  left_within =
      let a : next % twice + 1 ≤ twice = let a = mod-lt next divisor in omega arith in
      let b = mul-le-mul_right unit a in
      let c = add-mul (next % twice) 1 unit in
      let d = doubled in
      let e = r.second in
      omega arith

  pub sizes : Sizes s unit next digits left
  sizes =
      let rem : s.rem ≤ 2 ^ 28 = let a = r.rest in let b = r.small in omega arith in
      let root : s.q ≤ 2 ^ 27 = let a = r.small in omega arith in
      let narrow : unit ≤ 2 ^ 28 = let a = r.enough in let b = r.small in omega arith in
      let few : digits ≤ twice = let a = r.enough in let b = digits_within in omega arith in
      let some : 0 < s.q = let a = divisor in omega arith in
      let unit-some : 0 < unit = let a = r.first in omega arith in
      record {
        divisor = divisor;
        next = let a = mul-le-mul rem narrow in let b = r.first in omega arith;
        digits = digits_within;
        square = le_trans (mul-le-mul few digits_within) (le_of_eq doubled);
        left = left_within;
        root = mul-le-mul root narrow;
        positive = mul-pos some unit-some;
      }

  -- the root so far, and its remainder with the square of the new digits
  beside_all : q * q + left ≡ taken s * (unit * unit) + (high * unit + low) + digits * digits
  beside_all = beside s.q s.rem unit high low digits (next % twice) (div-add-mod next twice)

  pub enough_left : left < digits * digits → digits * digits ≤ left + (q * 2 - 1)
  enough_left h = let z = sizes in let a = root_lt 0 digits (omega arith) in omega arith

  pub step_back : left < digits * digits → DigitsOf (taken s * (unit * unit) + (high * unit + low)) (record { q = q - 1; rem = left + (q * 2 - 1) - digits * digits })
  step_back h = let z = sizes in back q left (digits * digits) (taken s * (unit * unit) + (high * unit + low)) beside_all h (enough_left h) (omega arith)

  pub no_step : digits * digits ≤ left → DigitsOf (taken s * (unit * unit) + (high * unit + low)) (record { q = q; rem = left - digits * digits })
  no_step h = let z = sizes in stays q left (digits * digits) (taken s * (unit * unit) + (high * unit + low)) beside_all h (omega arith)
