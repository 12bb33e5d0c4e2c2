-- One field stands for one number: digits, flags and decimal numbers by their text. Assumes nothing.
use mathlib.Core.Path.{◌≡◌, refl, sym, ap, ◌∙◌}
use mathlib.Core.List.{List, [], ◌∷◌, ◌++◌}
use mathlib.Core.Bool.{Bool, true, false, cond}
use Prim.Native.Nat.{ℕ, zero, suc, ◌+◌, ◌*◌, ◌/◌, ◌%◌, ◌^◌, ◌≤◌, ◌<◌}
use native.Mathlib.Nat.{div-div-eq-div-mul, div-one, mod-lt, div-add-mod', pow-suc}
use native.Mathlib.Omega.{arith}
use lib.Dec.{ltb, lit<}
use lib.ListN.{get_or, drop}
use Rattle.text.specs.Numerals.{glyph, hex_val, spell, hex, decimal, Word}
use Rattle.text.specs.Lines.{flag_field}
use Rattle.text.proofs.HexDigits.{val_glyph}
use Rattle.text.proofs.DecimalDigits.{shown, shown_is, digits_of}

-- ---- hexadecimal digits
glyph_same : (a b : ℕ) → a < 16 → b < 16 → glyph a ≡ glyph b → a ≡ b
glyph_same a b h k e = sym (val_glyph a h) ∙ ap hex_val e ∙ val_glyph b k

-- what stands before the last k digits, and these
spell_same : (k v w : ℕ) → v / 16 ^ k ≡ w / 16 ^ k → spell k v ≡ spell k w → v ≡ w
spell_same zero v w a e = sym (div-one v) ∙ a ∙ div-one w
spell_same (suc k) v w a e =
    let d = glyph_same (v / 16 ^ k % 16) (w / 16 ^ k % 16) (mod-lt (v / 16 ^ k) (lit< tt)) (mod-lt (w / 16 ^ k) (lit< tt)) (ap (λ (l : List ℕ). get_or l 0 0) e) in
    let up : (x : ℕ) → x / 16 ^ suc k ≡ x / 16 ^ k / 16 = λ (x : ℕ). ap (λ (z : ℕ). x / z) (pow-suc 16 k) ∙ sym (div-div-eq-div-mul x (16 ^ k) 16) in
    let q : v / 16 ^ k / 16 ≡ w / 16 ^ k / 16 = sym (up v) ∙ a ∙ up w in
    spell_same k v w (sym (div-add-mod' (v / 16 ^ k) 16) ∙ (λ t. q t * 16 + d t) ∙ div-add-mod' (w / 16 ^ k) 16) (ap (drop 1) e)

pub hex_same : (v w : ℕ) → Word v → Word w → hex v ≡ hex w → v ≡ w
hex_same v w a b e = spell_same 16 v w (none v w a b) e
  where
    none : (v w : ℕ) → v < 18446744073709551616 → w < 18446744073709551616 → v / 18446744073709551616 ≡ w / 18446744073709551616
    none v w a b = omega arith

pub glyph_big : (d : ℕ) → 48 ≤ glyph d
glyph_big d = go (ltb d 10)
  where
    go : (b : Bool) → 48 ≤ cond b (48 + d) (55 + d)
    go true = omega arith
    go false = omega arith

-- ---- flags, and decimal numbers
pub flag_split : (p q : Bool) (s t : List ℕ) → flag_field p ++ (44 ∷ s) ≡ flag_field q ++ (44 ∷ t) → (p ≡ q) × (s ≡ t)
flag_split false false s t e = (refl, ap (drop 2) e)
flag_split true true s t e = (refl, ap (drop 2) e)
flag_split false true s t e = absurd (let z : ◌≡◌ {A = ℕ} 48 49 = ap (λ (l : List ℕ). get_or l 0 0) e in omega arith)
flag_split true false s t e = absurd (let z : ◌≡◌ {A = ℕ} 49 48 = ap (λ (l : List ℕ). get_or l 0 0) e in omega arith)

shown_split : (ds es s t : List ℕ) → shown ds ++ (13 ∷ s) ≡ shown es ++ (13 ∷ t) → s ≡ t
shown_split [] [] s t e = ap (drop 1) e
shown_split [] (x ∷ es) s t e = absurd (let z : 13 ≡ 48 + x = ap (λ (l : List ℕ). get_or l 0 0) e in omega arith)
shown_split (d ∷ ds) [] s t e = absurd (let z : 48 + d ≡ 13 = ap (λ (l : List ℕ). get_or l 0 0) e in omega arith)
shown_split (d ∷ ds) (x ∷ es) s t e = shown_split ds es s t (ap (drop 1) e)

pub decimal_split : (n m : ℕ) (s t : List ℕ) → decimal n ++ (13 ∷ s) ≡ decimal m ++ (13 ∷ t) → s ≡ t
decimal_split n m s t e =
    let (d, ds, u) = digits_of n in
    let (x, xs, w) = digits_of m in
    shown_split (d ∷ ds) (x ∷ xs) s t (ap (λ (l : List ℕ). l ++ (13 ∷ s)) (sym (shown_is d ds n u)) ∙ e ∙ ap (λ (l : List ℕ). l ++ (13 ∷ t)) (shown_is x xs m w))
