-- Hexadecimal digits: a digit and its byte, and digits shifted into a number that held anything. Assumes nothing.
use mathlib.Core.Path.{◌≡◌, refl, sym, ap, ◌∙◌, subst}
use mathlib.Core.Bool.{Bool, true, false, cond}
use Prim.Native.Nat.{ℕ, zero, suc, ◌+◌, ◌-◌, ◌*◌, ◌/◌, ◌%◌, ◌^◌, ◌<◌}
use native.Mathlib.Nat.{mod-lt, mod-eq_of_lt, add-mul-mod_self_right, div-add-mod', mul_assoc, mul_comm, pow-suc, mul-pos, add_comm}
use native.Mathlib.Omega.{arith}
use lib.Dec.{ltb, lit<}
use lib.Pow.{pow-add}
use borrow.Author.Tests.{lt-ltb, le-ltb, ltb-true, ltb-false}
use Rattle.text.specs.Numerals.{glyph, hex_val}
use Rattle.text.specs.Reading.{shifted}

pub val_glyph : (d : ℕ) → d < 16 → hex_val (glyph d) ≡ d
val_glyph d h = go (ltb d 10) refl
  where
    go : (b : Bool) → ltb d 10 ≡ b → hex_val (cond b (48 + d) (55 + d)) ≡ d
    go true e = let k = ltb-true d 10 e in simp (le-ltb (48 + d) 48 (omega arith), lt-ltb (48 + d) 58 (omega arith)) (omega arith)
    go false e = let k = ltb-false d 10 e in simp (le-ltb (55 + d) 48 (omega arith), le-ltb (55 + d) 58 (omega arith), le-ltb (55 + d) 65 (omega arith), lt-ltb (55 + d) 71 (omega arith)) (omega arith)

pub glyph_val : (b : ℕ) → hex_val b < 16 → glyph (hex_val b) ≡ b
glyph_val b h = go (ltb b 48) refl (ltb b 58) refl (ltb b 65) refl (ltb b 71) refl h
  where
    go : (p : Bool) → ltb b 48 ≡ p → (q : Bool) → ltb b 58 ≡ q → (r : Bool) → ltb b 65 ≡ r → (s : Bool) → ltb b 71 ≡ s
        → cond p 16 (cond q (b - 48) (cond r 16 (cond s (b - 55) 16))) < 16
        → glyph (cond p 16 (cond q (b - 48) (cond r 16 (cond s (b - 55) 16)))) ≡ b
    go true p q hq r hr s hs h = absurd (omega arith)
    go false p true q r hr s hs h = let x = ltb-false b 48 p in let y = ltb-true b 58 q in simp (lt-ltb (b - 48) 10 (omega arith)) (omega arith)
    go false p false q true r s hs h = absurd (omega arith)
    go false p false q false r true s h = let x = ltb-false b 65 r in let y = ltb-true b 71 s in simp (le-ltb (b - 55) 10 (omega arith)) (omega arith)
    go false p false q false r false s h = absurd (omega arith)

pow16_pos : (k : ℕ) → 0 < 16 ^ k
pow16_pos zero = lit< tt
pow16_pos (suc k) = subst (λ (z : ℕ). 0 < z) (sym (pow-suc 16 k)) (mul-pos (pow16_pos k) (lit< tt))

mod_digit : (b d m : ℕ) → 0 < m → d < 16 → (b * 16 + d) % (m * 16) ≡ b % m * 16 + d
mod_digit b d m M D =
    let q = b / m in
    let t = b % m in
    let e : b * 16 + d ≡ t * 16 + d + q * (m * 16) = ap (λ (z : ℕ). z * 16 + d) (sym (div-add-mod' b m)) ∙ split q t m in
    let l : t < m = mod-lt b M in
    ap (λ (z : ℕ). z % (m * 16)) e ∙ add-mul-mod_self_right (t * 16 + d) q (m * 16) ∙ mod-eq_of_lt (omega arith)
  where
    split : (q t m : ℕ) → (q * m + t) * 16 + d ≡ t * 16 + d + q * (m * 16)
    split q t m = let a : q * (m * 16) ≡ q * m * 16 = sym (mul_assoc q m 16) in omega arith

mod_again : (a m p : ℕ) → 0 < m → a % (m * p) % m ≡ a % m
mod_again a m p M =
    let e : a ≡ a % (m * p) + a / (m * p) * p * m = sym (div-add-mod' a (m * p)) ∙ add_comm (a / (m * p) * (m * p)) (a % (m * p)) ∙ ap (λ (z : ℕ). a % (m * p) + z) (ap (λ (z : ℕ). a / (m * p) * z) (mul_comm m p) ∙ sym (mul_assoc (a / (m * p)) p m)) in
    sym (ap (λ (z : ℕ). z % m) e ∙ add-mul-mod_self_right (a % (m * p)) (a / (m * p) * p) m)

-- 16 ^ 15 as a product
top_split : (i k : ℕ) → i + suc k ≡ 16 → 1152921504606846976 ≡ 16 ^ i * 16 ^ k
top_split i k e = let h : 15 ≡ i + k = omega arith in ap (λ (z : ℕ). 16 ^ z) h ∙ pow-add 16 i k

-- the last i + 1 digits after a shift
pub shifted_mod : (a d i k : ℕ) → d < 16 → i + suc k ≡ 16 → shifted a d % 16 ^ suc i ≡ a % 16 ^ i * 16 + d
shifted_mod a d i k D e =
    ap (λ (z : ℕ). shifted a d % z) (pow-suc 16 i)
    ∙ mod_digit (a % 1152921504606846976) d (16 ^ i) (pow16_pos i) D
    ∙ ap (λ (z : ℕ). a % z % 16 ^ i * 16 + d) (top_split i k e)
    ∙ ap (λ (z : ℕ). z * 16 + d) (mod_again a (16 ^ i) (16 ^ k) (pow16_pos i))

pub shifted_lt : (a d : ℕ) → d < 16 → shifted a d < 18446744073709551616
shifted_lt a d h = omega (arith, mod-lt a {m = 1152921504606846976} (lit< tt))

pub digit_of : (a d : ℕ) → d < 16 → (a * 16 + d) % 16 ≡ d
digit_of a d h = omega arith

pub rest_of_lem : (a d : ℕ) → d < 16 → (a * 16 + d) / 16 ≡ a
rest_of_lem a d h = omega arith
