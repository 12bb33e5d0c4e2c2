-- One text stands for one input (`one_input`), and one input has one text but for its last CR LF (`one_text`);
-- so a text of 2 ^ 64 grains or more is not accepted (`uncounted_refused`). Assumes nothing.
use mathlib.Core.Path.{◌≡◌, refl, sym, ap, ◌∙◌, subst}
use mathlib.Core.Logic.{◌⊎◌, inl, inr}
use mathlib.Core.List.{List, [], ◌∷◌, ◌++◌, map, append_assoc, append-nil, append_cancel_right}
use mathlib.Core.Bool.{Bool, true, false}
use Prim.Native.Nat.{ℕ, ◌+◌, ◌/◌, ◌%◌, ◌^◌, ◌≤◌, ◌<◌}
use native.Mathlib.Omega.{arith}
use lib.Dec.{lit<}
use lib.ListN.{length, get_or, take, drop}
use Rattle.text.specs.Bytes.{bytes}
use Rattle.text.specs.Numerals.{glyph, hex, decimal}
use Rattle.text.specs.Lines.{line, field_wide, flag_field}
use Rattle.text.proofs.Single.{hex_same, glyph_big, flag_split, decimal_split}
use Rattle.listing_text.specs.Grammar.{Grain, Input, EachWord, AllWords, Words, columns_of, column_names, box_line, grain_line, grain_lines, text_of, Text}
use Rattle.listing_text.specs.Rows.{first_grain}
use Rattle.listing_text.specs.Reading.{start_of, feed_all, closed_of, fine_of}
use Rattle.listing_text.proofs.Backward.{accepted_text}

-- ---- the lines of grains, and what follows that is no digit
abbrev Stop : List ℕ → Type 0
Stop s = get_or s 0 0 < 48

no_line : {A : Type 0} (s : List ℕ) (h : Grain) (t : List ℕ) → Stop s → s ≡ grain_line h ++ t → A
no_line s h t l e =
    let b = glyph_big (h.x / 16 ^ 15 % 16) in
    let q : get_or s 0 0 ≡ glyph (h.x / 16 ^ 15 % 16) = ap (λ (l : List ℕ). get_or l 0 0) e in
    absurd (omega arith)

-- a line of numbers, and what follows
numbers_same : (a b s t : List ℕ) → length a ≡ length b → EachWord a → EachWord b → line (map hex a) ++ s ≡ line (map hex b) ++ t → (a ≡ b) × (s ≡ t)
numbers_same [] [] s t l u w e = (refl, ap (drop 2) e)
numbers_same [] (y ∷ b) s t l u w e = absurd (omega arith)
numbers_same (x ∷ a) [] s t l u w e = absurd (omega arith)
numbers_same (x ∷ []) (y ∷ []) s t l u w e = (ap (λ (v : ℕ). v ∷ []) (hex_same x y u.0 w.0 (ap (take 16) e)), ap (drop (field_wide + 1)) e)
numbers_same (x ∷ []) (y ∷ z ∷ b) s t l u w e = absurd (omega arith)
numbers_same (x ∷ z ∷ a) (y ∷ []) s t l u w e = absurd (omega arith)
numbers_same (x ∷ v ∷ a) (y ∷ z ∷ b) s t l u w e =
    let (p, q) = numbers_same (v ∷ a) (z ∷ b) s t (omega arith) u.1 w.1 (ap (drop field_wide) e) in
    ((λ k. hex_same x y u.0 w.0 (ap (take 16) e) k ∷ p k), q)

line_same : (g h : Grain) (s t : List ℕ) → EachWord (columns_of g) → EachWord (columns_of h) → grain_line g ++ s ≡ grain_line h ++ t → (g ≡ h) × (s ≡ t)
line_same g h s t u w e = let (p, q) = numbers_same (columns_of g) (columns_of h) s t refl u w e in (ap first_grain p, q)

lines_same : (gs hs : List Grain) (s t : List ℕ) → AllWords gs → AllWords hs → Stop s → Stop t → grain_lines gs ++ s ≡ grain_lines hs ++ t → (gs ≡ hs) × (s ≡ t)
lines_same [] [] s t u w a b e = (refl, e)
lines_same [] (h ∷ hs) s t u w a b e = no_line s h (grain_lines hs ++ t) a (e ∙ append_assoc (grain_line h) (grain_lines hs) t)
lines_same (g ∷ gs) [] s t u w a b e = no_line t g (grain_lines gs ++ s) b (sym e ∙ append_assoc (grain_line g) (grain_lines gs) s)
lines_same (g ∷ gs) (h ∷ hs) s t u w a b e =
    let (p, q) = line_same g h (grain_lines gs ++ s) (grain_lines hs ++ t) u.0 w.0 (sym (append_assoc (grain_line g) (grain_lines gs) s) ∙ e ∙ append_assoc (grain_line h) (grain_lines hs) t) in
    let (p1, q1) = lines_same gs hs s t u.1 w.1 a b q in
    ((λ k. p k ∷ p1 k), q1)

-- ---- whole texts
input_same : (i j : Input) → i.l0 ≡ j.l0 → i.l1 ≡ j.l1 → i.p0 ≡ j.p0 → i.p1 ≡ j.p1 → i.rate ≡ j.rate → i.grains ≡ j.grains → i ≡ j
input_same i j a b c d e f = λ k. record { l0 = a k; l1 = b k; p0 = c k; p1 = d k; rate = e k; grains = f k }

abbrev fields : Input → List ℕ → List ℕ
fields i s = hex i.l0 ++ (44 ∷ (hex i.l1 ++ (44 ∷ (flag_field i.p0 ++ (44 ∷ (flag_field i.p1 ++ (44 ∷ (hex i.rate ++ (44 ∷ (decimal (length i.grains) ++ (13 ∷ 10 ∷ s)))))))))))

six_fields : (a b c d e f s : List ℕ) → line (a ∷ b ∷ c ∷ d ∷ e ∷ f ∷ []) ++ s ≡ a ++ (44 ∷ (b ++ (44 ∷ (c ++ (44 ∷ (d ++ (44 ∷ (e ++ (44 ∷ (f ++ (13 ∷ 10 ∷ s)))))))))))
six_fields a b c d e f s = simp append_assoc

text_fields : (i : Input) (s : List ℕ) → text_of i ++ s ≡ bytes "l0,l1,p0,p1,rate,n\r\n" ++ fields i (column_names ++ (grain_lines i.grains ++ s))
text_fields i s =
    ap (λ (l : List ℕ). bytes "l0,l1,p0,p1,rate,n\r\n" ++ l)
    (append_assoc (box_line i) (column_names ++ grain_lines i.grains) s
    ∙ six_fields (hex i.l0) (hex i.l1) (flag_field i.p0) (flag_field i.p1) (hex i.rate) (decimal (length i.grains)) (column_names ++ (grain_lines i.grains ++ s)))

fields_same : (i j : Input) (s t : List ℕ) → Words i → Words j → Stop s → Stop t → fields i (column_names ++ (grain_lines i.grains ++ s)) ≡ fields j (column_names ++ (grain_lines j.grains ++ t)) → (i ≡ j) × (s ≡ t)
fields_same i j s t u w a b e =
    let (p, q) = flag_split i.p0 j.p0 _ _ (ap (drop (field_wide + field_wide)) e) in
    let (p1, q1) = flag_split i.p1 j.p1 _ _ q in
    let (g, r) = lines_same i.grains j.grains s t u.grain_words w.grain_words a b (ap (drop (1 + length column_names)) (decimal_split (length i.grains) (length j.grains) _ _ (ap (drop field_wide) q1))) in (
      input_same i j
          (hex_same i.l0 j.l0 u.l0_word w.l0_word (ap (take 16) e))
          (hex_same i.l1 j.l1 u.l1_word w.l1_word (ap (λ (l : List ℕ). take 16 (drop field_wide l)) e))
          p p1
          (hex_same i.rate j.rate u.rate_word w.rate_word (ap (take 16) q1))
          g,
      r,
    )

text_same : (i j : Input) (s t : List ℕ) → Words i → Words j → Stop s → Stop t → text_of i ++ s ≡ text_of j ++ t → (i ≡ j) × (s ≡ t)
text_same i j s t u w a b e = fields_same i j s t u w a b (ap (drop 20) (sym (text_fields i s) ∙ e ∙ text_fields j t))

not_nil : {A : Type 0} → ◌≡◌ {A = List ℕ} (13 ∷ 10 ∷ []) [] → A
not_nil e = absurd (let z : ◌≡◌ {A = ℕ} 2 0 = ap length e in omega arith)

-- a text has one reading
pub one_input : (s : List ℕ) (i j : Input) → Words i → Words j → Text s i → Text s j → i ≡ j
one_input s i j u w (inl e) (inl f) = (text_same i j [] [] u w (lit< tt) (lit< tt) (append-nil (text_of i) ∙ sym e ∙ f ∙ sym (append-nil (text_of j)))).0
one_input s i j u w (inl e) (inr f) = not_nil (text_same i j (bytes "\r\n") [] u w (lit< tt) (lit< tt) (ap (λ (l : List ℕ). l ++ bytes "\r\n") (sym e) ∙ f ∙ sym (append-nil (text_of j)))).1
one_input s i j u w (inr e) (inl f) = not_nil (sym (text_same i j [] (bytes "\r\n") u w (lit< tt) (lit< tt) (append-nil (text_of i) ∙ sym e ∙ ap (λ (l : List ℕ). l ++ bytes "\r\n") f)).1)
one_input s i j u w (inr e) (inr f) = (text_same i j [] [] u w (lit< tt) (lit< tt) (append-nil (text_of i) ∙ sym e ∙ f ∙ sym (append-nil (text_of j)))).0

-- an input has one text, but for its last CR LF
pub one_text : (s t : List ℕ) (i : Input) → Text s i → Text t i → (s ≡ t) ⊎ ((s ++ bytes "\r\n" ≡ t) ⊎ (s ≡ t ++ bytes "\r\n"))
one_text s t i (inl e) (inl f) = inl (e ∙ sym f)
one_text s t i (inl e) (inr f) = inr (inr (e ∙ sym f))
one_text s t i (inr e) (inl f) = inr (inl (e ∙ sym f))
one_text s t i (inr e) (inr f) = inl (append_cancel_right s t (bytes "\r\n") (e ∙ sym f))

-- more grains than 64 bits count are refused
pub uncounted_refused : (s : List ℕ) (i : Input) → Words i → 2 ^ 64 ≤ length i.grains → Text s i → fine_of (closed_of (feed_all start_of s)) ≡ false
uncounted_refused s i w h t = go (fine_of (closed_of (feed_all start_of s))) refl
  where
    go : (b : Bool) → fine_of (closed_of (feed_all start_of s)) ≡ b → b ≡ false
    go false e = refl
    go true e =
        let a = accepted_text s e in
        let k : length i.grains < 2 ^ 64 = subst (λ (j : Input). length j.grains < 2 ^ 64) (one_input s a.input i a.input_words w a.is_text t) a.countable in
        absurd (not_both (length i.grains) (2 ^ 64) k h)
      where
        not_both : (a b : ℕ) → a < b → b ≤ a → ⊥
        not_both a b h k = omega arith
