-- What `finished` and `root_bits` ask of numbers. Assumes nothing.
use mathlib.Core.Path.{◌≡◌, sym, ap, ◌∙◌, subst}
use Prim.Native.Nat.{ℕ, ◌+◌, ◌-◌, ◌*◌, ◌/◌, ◌%◌, ◌^◌, ◌≤◌, ◌<◌}
use native.Mathlib.Nat.{mul-one, mod-eq_of_lt}
use native.Mathlib.Nat as N
use native.Mathlib.Omega.{arith}
use mathlib.Core.Bool.{Bool, cond}
use borrow.Author.Tests.{eq-eqb}
use lib.Dec.{lit<}
use lib.Count.{count_leading_zeros, leading_top}
use Rattle.root.specs.Isqrt.{near}
use Rattle.root.proofs.Law.{Sized, sized, near_of, near_digits, full, Full, below_52}
use Rattle.root.specs.Bits.{bits_of_root, root_bits}

-- ---- m * 2 ^ (b % 2) has 53 or 54 digits, so that its bits fit and its root's too
within : (x : ℕ) → Sized (x * 4 ^ 26) → (2 ^ 52 ≤ x) × (x < 2 ^ 54)
within x s = let a = s.from in let b = s.to in (omega arith, omega arith)

module _ (m b : ℕ) (l : 2 ^ 52 ≤ m) (u : m < 2 ^ 53) where
  pub small : near (m * 2 ^ (b % 2) * 4 ^ 26) < 2 ^ 53
  small = (near_digits (m * 2 ^ (b % 2) * 4 ^ 26) (near (m * 2 ^ (b % 2) * 4 ^ 26)) (sized m b l u) (near_of (m * 2 ^ (b % 2) * 4 ^ 26) (sized m b l u))).1

  pub bounds : (2 ^ 52 ≤ m * 2 ^ (b % 2)) × (m * 2 ^ (b % 2) < 2 ^ 54)
  bounds = within (m * 2 ^ (b % 2)) (sized m b l u)

  pub shifted : m * 2 ^ (b % 2) % 2 ^ 64 ≡ m * 2 ^ (b % 2)
  shifted = mod-eq_of_lt (N.lt_trans bounds.1 (lit< tt))

-- ---- the bits of a positive finite value
module _ (p : ℕ) (P : 0 < p) (u : p < 0x7ff0_0000_0000_0000) where
  pub low : p / 2 ^ 52 ≡ 0 → Full p (p % 2 ^ 52 * 2 ^ (count_leading_zeros 64 (p % 2 ^ 52) - 11)) (63 - count_leading_zeros 64 (p % 2 ^ 52))
  low h =
      subst (λ (b : Bool). Full p (cond b (p % 2 ^ 52 * 2 ^ (count_leading_zeros 64 (p % 2 ^ 52) - 11)) (p % 2 ^ 52 + 2 ^ 52)) (cond b (63 - count_leading_zeros 64 (p % 2 ^ 52)) (p / 2 ^ 52 + 51))) (eq-eqb (p / 2 ^ 52) 0 h) (full p P u)

  pub zeros : p / 2 ^ 52 ≡ 0 → (11 ≤ count_leading_zeros 64 (p % 2 ^ 52)) × (count_leading_zeros 64 (p % 2 ^ 52) ≤ 63)
  zeros h =
      let r = leading_top 64 (p % 2 ^ 52) (omega arith) (omega arith) in
      let J : r.0 ≤ 51 = below_52 r.0 (p % 2 ^ 52) r.2 (omega arith) in
      let e = r.1 in
      (omega arith, omega arith)

  pub unshifted : p / 2 ^ 52 ≡ 0 → p % 2 ^ 52 * 2 ^ (count_leading_zeros 64 (p % 2 ^ 52) - 11) % 2 ^ 64 ≡ p % 2 ^ 52 * 2 ^ (count_leading_zeros 64 (p % 2 ^ 52) - 11)
  unshifted h = mod-eq_of_lt (N.lt_trans (low h).to (lit< tt))

  pub low_bits : p / 2 ^ 52 ≡ 0 → bits_of_root (p % 2 ^ 52 * 2 ^ (count_leading_zeros 64 (p % 2 ^ 52) - 11) % 2 ^ 64) (63 - count_leading_zeros 64 (p % 2 ^ 52)) ≡ root_bits p
  low_bits h =
      ap (λ (m : ℕ). bits_of_root m (63 - count_leading_zeros 64 (p % 2 ^ 52))) (unshifted h)
      ∙ ap (λ (b : Bool). bits_of_root (cond b (p % 2 ^ 52 * 2 ^ (count_leading_zeros 64 (p % 2 ^ 52) - 11)) (p % 2 ^ 52 + 2 ^ 52)) (cond b (63 - count_leading_zeros 64 (p % 2 ^ 52)) (p / 2 ^ 52 + 51))) (sym (eq-eqb (p / 2 ^ 52) 0 h))
