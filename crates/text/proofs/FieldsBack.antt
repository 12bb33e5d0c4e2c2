-- Where the rest of a text is accepted, it goes on with the field that the plan shows. Assumes nothing.
use mathlib.Core.Path.{◌≡◌, refl, sym, ap, ◌∙◌, subst}
use mathlib.Core.Logic.{inl, inr}
use mathlib.Core.List.{List, [], ◌∷◌, ◌++◌}
use mathlib.Core.Bool.{Bool, true, false, cond}
use Prim.Native.Nat.{ℕ, zero, suc, ◌+◌, ◌-◌, ◌*◌, ◌/◌, ◌%◌, ◌^◌, ◌<◌}
use native.Mathlib.Nat.{div-div-eq-div-mul, div-one, add-suc, suc-add, pow-suc}
use native.Mathlib.Omega.{arith}
use lib.Dec.{T, ltb, eqb}
use lib.ListN.{length, get_or, drop, set, replicate}
use borrow.Author.Tests.{ne_eqb, ltb-true, ltb-false, eqb-true, eqb-false}
use Rattle.std.specs.Prelude.{Option, Some, None, unwrap_or}
use Rattle.std.specs.Option.{option_eq}
use Rattle.text.specs.declared.reader.Reader.{Reader}
use Rattle.text.specs.Letters.{numbers_held, hex_letter, flag_letter}
use Rattle.text.specs.Numerals.{glyph, hex_val, spell, hex, decimal, Word}
use Rattle.text.specs.Lines.{flag_field, bit_of}
use Rattle.text.specs.Reading.{last_of, place, reader_with, stuck_of, stepped_of, shifted, numbered_of, hexed_of, flagged_of, matched_of, counted_of, first_of, more_of, feed_all, fine_of}
use Rattle.text.specs.Plan.{plain}
use Rattle.text.proofs.HexDigits.{glyph_val, digit_of, rest_of_lem}
use Rattle.text.proofs.DecimalDigits.{value_from, Digits, shown, shown_is}
use Rattle.text.proofs.Turns.{hexed_bad}
use Rattle.text.proofs.Places.{here, Open, stuck_stays, step_in, hex_turn, hex_fed, flag_turn, first_turn, more_turn, plain_turn}
use Rattle.text.proofs.Fields.{OpenTo, open_now, open_next, hex_field}

false_true : {A : Type 0} → ◌≡◌ {A = Bool} false true → A
false_true e = absurd (subst T (sym e) tt)

-- ---- a digit before k others, and the others; a first decimal digit and the others
digits_before : (k v a d : ℕ) → d < 16 → v / 16 ^ k ≡ a * 16 + d → v / 16 ^ suc k ≡ a
digits_before k v a d D q = ap (λ (z : ℕ). v / z) (pow-suc 16 k) ∙ sym (div-div-eq-div-mul v (16 ^ k) 16) ∙ ap (λ (z : ℕ). z / 16) q ∙ rest_of_lem a d D

digits_joined : (k v a b : ℕ) (s t : List ℕ) → hex_val b < 16 → v / 16 ^ k ≡ a * 16 + hex_val b → s ≡ spell k v ++ t → b ∷ s ≡ spell (suc k) v ++ t
digits_joined k v a b s t D q x =
    let g : glyph (v / 16 ^ k % 16) ≡ b = ap (λ (z : ℕ). glyph (z % 16)) q ∙ ap glyph (digit_of a (hex_val b) D) ∙ glyph_val b D in
    λ i. sym g i ∷ x i

decimal_joined : (d : ℕ) (ds s t u : List ℕ) → d < 10 → Digits ds → (d ≡ 0 → ds ≡ []) → s ≡ (48 + d) ∷ t → t ≡ shown ds ++ (13 ∷ u) → s ≡ decimal (value_from d ds) ++ (13 ∷ u)
decimal_joined d ds s t u D L z p q =
    p ∙ ap (λ (y : List ℕ). (48 + d) ∷ y) q
    ∙ ap (λ (y : List ℕ). y ++ (13 ∷ u)) (sym (shown_is d ds (value_from d ds) (record { all_digits = (D, L); no_zero_first = z; value = refl })))

module _ (plan : List ℕ) (line : ℕ) where
  -- the rest s of a text, read on from r, is accepted
  abbrev pub Ends : Reader → List ℕ → Type 0
  Ends r s = fine_of line (feed_all plan line r s) ≡ true

  -- a text is not over at an open place
  pub open_ends : {A : Type 0} (r : Reader) → Open plan line r (place r) → Ends r [] → A
  open_ends r (inl h) e = false_true (sym (not_there r.at (λ (k : place r ≡ line). omega arith) (eqb r.seen r.n)) ∙ e)
    where
      not_there : (at : Option ℕ) → (unwrap_or at 18446744073709551615 ≡ line → ⊥) → (all : Bool) → cond (option_eq eqb at (Some line)) all false ≡ false
      not_there None h all = refl
      not_there (Some k) h all = simp (ne_eqb k line h)
  open_ends r (inr h) e = false_true (sym (not-all r (λ (k : r.seen ≡ r.n). omega arith) (option_eq eqb r.at (Some line))) ∙ e)
    where
      not-all : (r : Reader) → (r.seen ≡ r.n → ⊥) → (b : Bool) → cond b (eqb r.seen r.n) false ≡ false
      not-all r h true = ne_eqb r.seen r.n h
      not-all r h false = refl

-- a plan that has a place behind it, and a line that begins within it
module _ (plan : List ℕ) (line : ℕ) (short : Word (length plan)) (within : line < length plan) where
  stuck_all : (s : List ℕ) (r : Reader) → feed_all plan line (stuck_of r) s ≡ stuck_of r
  stuck_all [] r = refl
  stuck_all (b ∷ s) r = ap (λ (w : Reader). feed_all plan line w s) (stuck_stays plan line short r b) ∙ stuck_all s r

  stuck_not : (r : Reader) → fine_of line (stuck_of r) ≡ false
  stuck_not r = refl

  pub stuck_ends : {A : Type 0} (s : List ℕ) (r : Reader) → Ends plan line (stuck_of r) s → A
  stuck_ends s r e = false_true (sym (ap (fine_of line) (stuck_all s r) ∙ stuck_not r) ∙ e)

  -- ---- bytes of the plan's own
  pub matched_ends : {A : Type 0} (r : Reader) (b c : ℕ) (s : List ℕ) → Ends plan line (matched_of (last_of plan) line r b c) s → (b ≡ c → Ends plan line (stepped_of (last_of plan) line r) s → A) → A
  unfolding matched_of
  matched_ends {A} r b c s e k = go (eqb b c) refl e
    where
      go : (t : Bool) → eqb b c ≡ t → Ends plan line (cond t (stepped_of (last_of plan) line r) (stuck_of r)) s → A
      go true q e = k (eqb-true b c q) e
      go false q e = stuck_ends s r e

  -- at a byte of the plan's own the text goes on with it
  pub mark_ends : (r : Reader) (c : ℕ) (s : List ℕ) → T (plain c) → get_or plan (place r) 0 ≡ c → suc (place r) < length plan → Open plan line r (place r) → Ends plan line r s
      → (t : List ℕ) × (s ≡ c ∷ t) × Ends plan line (reader_with r (Some (suc (place r))) r.n r.numbers) t
  mark_ends r c [] l p h o e = open_ends plan line r o e
  mark_ends r c (b ∷ s) l p h o e =
      matched_ends r b c s (subst (λ (w : Reader). Ends plan line w s) (plain_turn plan line r b c l p (omega arith) o) e)
      (λ (q : b ≡ c) (e : Ends plan line (stepped_of (last_of plan) line r) s). (s, ap (λ (z : ℕ). z ∷ s) q, subst (λ (w : Reader). Ends plan line w s) (step_in plan line r h) e))

  -- ---- hexadecimal digits, after a number that they go on
  hexed_ends : {A : Type 0} (r : Reader) (b j : ℕ) (s : List ℕ) → Ends plan line (hexed_of (last_of plan) line r b j) s → (hex_val b < 16 → A) → A
  hexed_ends {A} r b j s e k = go (ltb (hex_val b) 16) refl
    where
      go : (t : Bool) → ltb (hex_val b) 16 ≡ t → A
      go true q = k (ltb-true (hex_val b) 16 q)
      go false q = stuck_ends s r (subst (λ (w : Reader). Ends plan line w s) (sym (hexed_bad (last_of plan) line r b j (ltb-false (hex_val b) 16 q))) e)

  digits_end : (k a : ℕ) (r : Reader) (j : ℕ) (cs s : List ℕ) → j < numbers_held → drop (place r) plan ≡ replicate k (hex_letter + j) ++ cs → place r + k < length plan → OpenTo plan line r (place r + k) → Ends plan line r s
      → (v : ℕ) × (t : List ℕ) × (v / 16 ^ k ≡ a) × (s ≡ spell k v ++ t)
  digits_end zero a r j cs s J l h o e = (a, s, div-one a, refl)
  digits_end (suc k) a r j cs [] J l h o e = open_ends plan line r (open_now plan line r k o) e
  digits_end (suc k) a r j cs (b ∷ s) J l h o e =
      let d = hex_val b in
      let p = here plan (place r) (hex_letter + j) (replicate k (hex_letter + j) ++ cs) l in
      let op = open_now plan line r k o in
      let m : suc (place r) < length plan = omega (arith, add-suc (place r) k, h) in
      let next : Reader = reader_with r (Some (suc (place r))) r.n (set r.numbers j (shifted (get_or r.numbers j 0) d)) in
      let D : d < 16 = hexed_ends r b j s (subst (λ (w : Reader). Ends plan line w s) (hex_turn plan line r b j J p.0 (omega (arith, m)) op) e) (λ (x : d < 16). x) in
      let e' : Ends plan line next s = subst (λ (w : Reader). Ends plan line w s) (hex_fed plan line r b j d refl J D p.0 m op) e in
      let (v, t, q, x) = digits_end k (a * 16 + d) next j cs s J p.1 (omega (arith, add-suc (place r) k, suc-add (place r) k, h)) (open_next plan line r k o) e' in
      (v, t, digits_before k v a d D q, digits_joined k v a b s t D q x)

  -- a field of sixteen digits
  pub hex_ends : (r : Reader) (j : ℕ) (cs s : List ℕ) → r.at ≡ Some (place r) → j < numbers_held → length r.numbers ≡ numbers_held → drop (place r) plan ≡ replicate 16 (hex_letter + j) ++ cs → place r + 16 < length plan → OpenTo plan line r (place r + 16) → Ends plan line r s
      → (v : ℕ) × (t : List ℕ) × Word v × (s ≡ hex v ++ t) × Ends plan line (reader_with r (Some (place r + 16)) r.n (set r.numbers j v)) t
  hex_ends r j cs s A J N l h o e =
      let (v, t, z, q) = digits_end 16 0 r j cs s J l h o e in
      let w : Word v = small v z in
      (v, t, w, q, ap (fine_of line) (sym (ap (feed_all plan line r) q ∙ hex_field plan line r j v cs t A w J N l h o)) ∙ e)
    where
      small : (v : ℕ) → v / 18446744073709551616 ≡ 0 → v < 18446744073709551616
      small v z = omega arith

  -- ---- flags
  flagged_ends : {A : Type 0} (r : Reader) (b j : ℕ) (s : List ℕ) → suc (place r) < length plan → Ends plan line (flagged_of (last_of plan) line r b j) s
      → ((p : Bool) → b ∷ s ≡ flag_field p ++ s → Ends plan line (reader_with r (Some (suc (place r))) r.n (set r.numbers j (bit_of p))) s → A) → A
  unfolding flagged_of
  flagged_ends {A} r b j s h e k = go (eqb b 48) refl (eqb b 49) refl e
    where
      go : (t : Bool) → eqb b 48 ≡ t → (u : Bool) → eqb b 49 ≡ u
          → Ends plan line (cond t (stepped_of (last_of plan) line (numbered_of r j 0)) (cond u (stepped_of (last_of plan) line (numbered_of r j 1)) (stuck_of r))) s → A
      go true q u v e = k false (ap (λ (z : ℕ). z ∷ s) (eqb-true b 48 q)) (subst (λ (w : Reader). Ends plan line w s) (step_in plan line (numbered_of r j 0) h) e)
      go false q true v e = k true (ap (λ (z : ℕ). z ∷ s) (eqb-true b 49 v)) (subst (λ (w : Reader). Ends plan line w s) (step_in plan line (numbered_of r j 1) h) e)
      go false q false v e = stuck_ends s r e

  pub flag_ends : (r : Reader) (j : ℕ) (s : List ℕ) → j < numbers_held → get_or plan (place r) 0 ≡ flag_letter + j → suc (place r) < length plan → Open plan line r (place r) → Ends plan line r s
      → (p : Bool) × (t : List ℕ) × (s ≡ flag_field p ++ t) × Ends plan line (reader_with r (Some (suc (place r))) r.n (set r.numbers j (bit_of p))) t
  flag_ends r j [] J p h o e = open_ends plan line r o e
  flag_ends r j (b ∷ s) J p h o e =
      flagged_ends r b j s h (subst (λ (w : Reader). Ends plan line w s) (flag_turn plan line r b j J p (omega arith) o) e)
      (λ (p : Bool) (q : b ∷ s ≡ flag_field p ++ s) (e : Ends plan line (reader_with r (Some (suc (place r))) r.n (set r.numbers j (bit_of p))) s). (p, s, q, e))

  -- ---- n, and the CR after it
  abbrev First : Reader → List ℕ → Type 0
  First r s = (d : ℕ) × (t : List ℕ) × (d < 10) × (s ≡ (48 + d) ∷ t) × Ends plan line (reader_with r (Some (suc (place r))) d r.numbers) t

  first_ends : (r : Reader) (s : List ℕ) → get_or plan (place r) 0 ≡ 35 → suc (place r) < length plan → place r < line → Ends plan line r s → First r s
  unfolding first_of
  first_ends r [] p h o e = open_ends plan line r (inl o) e
  first_ends r (b ∷ s) p h o e = go (ltb b 48) refl (ltb 57 b) refl (subst (λ (w : Reader). Ends plan line w s) (first_turn plan line r b p (omega arith) (inl o)) e)
    where
      go : (t : Bool) → ltb b 48 ≡ t → (u : Bool) → ltb 57 b ≡ u
          → Ends plan line (cond t (stuck_of r) (cond u (stuck_of r) (stepped_of (last_of plan) line (reader_with r r.at (b - 48) r.numbers)))) s → First r (b ∷ s)
      go true q u v e = stuck_ends s r e
      go false q true v e = stuck_ends s r e
      go false q false v e =
          let x = ltb-false b 48 q in
          let y = ltb-false 57 b v in
          let z : b ≡ 48 + (b - 48) = omega arith in
          (b - 48, s, omega arith, ap (λ (w : ℕ). w ∷ s) z, subst (λ (w : Reader). Ends plan line w s) (step_in plan line (reader_with r r.at (b - 48) r.numbers) h) e)

  -- the digits after n, and the CR
  abbrev Others : Reader → List ℕ → Type 0
  Others r s = (ds : List ℕ) × (t : List ℕ) × Digits ds × (r.n ≡ 0 → ds ≡ []) × Word (value_from r.n ds) × (s ≡ shown ds ++ (13 ∷ t)) × Ends plan line (reader_with r (Some (suc (place r))) (value_from r.n ds) r.numbers) t

  counted_ends : {A : Type 0} (r : Reader) (d : ℕ) (s : List ℕ) → d < 10 → Ends plan line (counted_of r d) s → (Word (r.n * 10 + d) → Ends plan line (reader_with r r.at (r.n * 10 + d) r.numbers) s → A) → A
  unfolding counted_of
  counted_ends {A} r d s h e k = go (ltb ((18446744073709551615 - d) / 10) r.n) refl e
    where
      go : (t : Bool) → ltb ((18446744073709551615 - d) / 10) r.n ≡ t → Ends plan line (cond t (stuck_of r) (reader_with r r.at (r.n * 10 + d) r.numbers)) s → A
      go true q e = stuck_ends s r e
      go false q e = let x = ltb-false ((18446744073709551615 - d) / 10) r.n q in k (omega arith) e

  others_end : (s : List ℕ) (r : Reader) → get_or plan (place r) 0 ≡ 43 → suc (place r) < length plan → place r < line → Word r.n → Ends plan line r s → Others r s
  unfolding more_of
  others_end [] r p h o w e = open_ends plan line r (inl o) e
  others_end (b ∷ s) r p h o w e =
      go (eqb b 13) refl (ltb b 48) refl (ltb 57 b) refl (eqb r.n 0) refl (subst (λ (w : Reader). Ends plan line w s) (more_turn plan line r b p (omega arith) (inl o)) e)
      (λ (m : ℕ). others_end s (reader_with r r.at m r.numbers) p h o)
    where
      more : b ≡ 48 + (b - 48) → b - 48 < 10 → (r.n ≡ 0 → ⊥) → Others (reader_with r r.at (r.n * 10 + (b - 48)) r.numbers) s → Others r (b ∷ s)
      more x h z (ds, t, d, f, v, q, e) = ((b - 48) ∷ ds, t, (h, d), (λ (y : r.n ≡ 0). absurd (z y)), v, ap (λ (c : ℕ). c ∷ s) x ∙ ap (λ (l : List ℕ). (48 + (b - 48)) ∷ l) q, e)

      go : (p : Bool) → eqb b 13 ≡ p → (q : Bool) → ltb b 48 ≡ q → (u : Bool) → ltb 57 b ≡ u → (v : Bool) → eqb r.n 0 ≡ v
          → Ends plan line (cond p (stepped_of (last_of plan) line r) (cond q (stuck_of r) (cond u (stuck_of r) (cond v (stuck_of r) (counted_of r (b - 48)))))) s
          → ((m : ℕ) → Word m → Ends plan line (reader_with r r.at m r.numbers) s → Others (reader_with r r.at m r.numbers) s) → Others r (b ∷ s)
      go true p q hq u hu v hv e again = ([], s, tt, (λ (z : r.n ≡ 0). refl), w, ap (λ (z : ℕ). z ∷ s) (eqb-true b 13 p), subst (λ (x : Reader). Ends plan line x s) (step_in plan line r h) e)
      go false p true q u hu v hv e again = stuck_ends s r e
      go false p false q true u v hv e again = stuck_ends s r e
      go false p false q false u true v e again = stuck_ends s r e
      go false p false q false u false v e again =
          let x = ltb-false b 48 q in
          let y = ltb-false 57 b u in
          let h : b - 48 < 10 = omega arith in
          counted_ends r (b - 48) s h e
          (λ (k : Word (r.n * 10 + (b - 48))) (e' : Ends plan line (reader_with r r.at (r.n * 10 + (b - 48)) r.numbers) s). more (omega arith) h (eqb-false r.n 0 v) (again (r.n * 10 + (b - 48)) k e'))

  digit_word : (d : ℕ) → d < 10 → Word d
  digit_word d h = omega arith

  pub decimal_ends : (r : Reader) (s : List ℕ) → get_or plan (place r) 0 ≡ 35 → get_or plan (suc (place r)) 0 ≡ 43 → suc (suc (place r)) < length plan → suc (place r) < line → Ends plan line r s
      → (n : ℕ) × (t : List ℕ) × Word n × (s ≡ decimal n ++ (13 ∷ t)) × Ends plan line (reader_with r (Some (suc (suc (place r)))) n r.numbers) t
  decimal_ends r s p p' h o e =
      let (d, t, D, q, e1) = first_ends r s p (omega arith) (omega arith) e in
      let (ds, u, L, z, k, q1, e2) = others_end t (reader_with r (Some (suc (place r))) d r.numbers) p' h o (digit_word d D) e1 in
      (value_from d ds, u, k, decimal_joined d ds s t u D L z q q1, e2)
