-- What the reader makes of each field of a text that a plan shows. Assumes nothing.
use mathlib.Core.Path.{◌≡◌, refl, sym, ap, ◌∙◌, subst}
use mathlib.Core.Logic.{◌⊎◌, inl, inr}
use mathlib.Core.List.{List, [], ◌∷◌, ◌++◌}
use mathlib.Core.Bool.{Bool, true, false}
use Prim.Native.Nat.{ℕ, zero, suc, ◌+◌, ◌-◌, ◌*◌, ◌/◌, ◌%◌, ◌^◌, ◌≤◌, ◌<◌}
use native.Mathlib.Nat.{div-div-eq-div-mul, div-one, mod-lt, mod-eq_of_lt, div-add-mod', add-suc, add-zero, suc-add, pow-suc}
use native.Mathlib.Omega.{arith}
use lib.Dec.{T, lit<}
use lib.ListN.{length, get_or, drop, set, replicate, length-set}
use lib.Seq.{get_or-set_same, set-get_or, set-set}
use borrow.Author.Tests.{le-ltb, ne_eqb, eq-eqb}
use Rattle.std.specs.Prelude.{Option, Some}
use Rattle.text.specs.declared.reader.Reader.{Reader}
use Rattle.text.specs.Letters.{numbers_held, hex_letter, flag_letter}
use Rattle.text.specs.Numerals.{glyph, spell, hex, decimal, Word}
use Rattle.text.specs.Lines.{flag_field, bit_of}
use Rattle.text.specs.Reading.{last_of, place, reader_with, shifted, numbered_of, flagged_of, matched_of, counted_of, first_of, more_of, feed_of, feed_all}
use Rattle.text.specs.Plan.{plain}
use Rattle.text.proofs.HexDigits.{val_glyph, shifted_mod, shifted_lt}
use Rattle.text.proofs.DecimalDigits.{value_from, Digits, shown, grows, shown_is, digits_of}
use Rattle.text.proofs.Places.{here, Open, step_in, hex_fed, flag_turn, first_turn, more_turn, plain_turn}

module _ (plan : List ℕ) (line : ℕ) where
  -- all places before `end` are open
  abbrev pub OpenTo : Reader → ℕ → Type 0
  OpenTo r end = (end ≤ line) ⊎ (r.seen < r.n)

  pub open_now : (r : Reader) (k : ℕ) → OpenTo r (place r + suc k) → Open plan line r (place r)
  open_now r k (inl w) = inl (omega (arith, add-suc (place r) k))
  open_now r k (inr w) = inr w

  pub open_next : (r : Reader) (k : ℕ) → OpenTo r (place r + suc k) → OpenTo r (suc (place r) + k)
  open_next r k (inl w) = inl (omega (arith, add-suc (place r) k, suc-add (place r) k))
  open_next r k (inr w) = inr w

  -- ---- hexadecimal digits
  digits_fed : (k i : ℕ) (r : Reader) (j v : ℕ) (cs rest : List ℕ) → r.at ≡ Some (place r) → i + k ≡ 16 → get_or r.numbers j 0 % 16 ^ i ≡ v / 16 ^ k → (i ≡ 0) ⊎ Word (get_or r.numbers j 0)
      → j < numbers_held → length r.numbers ≡ numbers_held → drop (place r) plan ≡ replicate k (hex_letter + j) ++ cs → place r + k < length plan → OpenTo r (place r + k)
      → feed_all plan line r (spell k v ++ rest) ≡ feed_all plan line (reader_with r (Some (place r + k)) r.n (set r.numbers j v)) rest
  digits_fed zero i r j v cs rest A e a (inl l) J N t h o = absurd (omega arith)
  digits_fed zero i r j v cs rest A e a (inr l) J N t h o =
      let i16 : i ≡ 16 = sym (add-zero i) ∙ e in
      let x : get_or r.numbers j 0 ≡ v = sym (mod-eq_of_lt l) ∙ ap (λ (z : ℕ). get_or r.numbers j 0 % 16 ^ z) (sym i16) ∙ a ∙ div-one v in
      ap (λ (g : List ℕ). feed_all plan line (reader_with r r.at r.n g) rest) (sym (ap (λ (z : ℕ). set r.numbers j z) (sym x) ∙ set-get_or r.numbers j 0))
      ∙ ap (λ (k : Option ℕ). feed_all plan line (reader_with r k r.n (set r.numbers j v)) rest) (A ∙ ap Some (sym (add-zero (place r))))
  digits_fed (suc k) i r j v cs rest A e a l J N t h o =
      let q = v / 16 ^ k in
      let d = q % 16 in
      let D : d < 16 = mod-lt q (lit< tt) in
      let x = get_or r.numbers j 0 in
      let g = set r.numbers j (shifted x d) in
      let r' = reader_with r (Some (suc (place r))) r.n g in
      let s : get_or g j 0 ≡ shifted x d = get_or-set_same r.numbers j (shifted x d) 0 (subst (λ (z : ℕ). j < z) (sym N) J) in
      let p = here plan (place r) (hex_letter + j) (replicate k (hex_letter + j) ++ cs) t in
      let one : feed_of plan line r (glyph d) ≡ r' = hex_fed plan line r (glyph d) j d (sym (val_glyph d D)) J D p.0 (omega (arith, add-suc (place r) k)) (open_now r k o) in
      let b : x % 16 ^ i * 16 + d ≡ q = ap (λ (z : ℕ). z * 16 + d) (a ∙ ap (λ (z : ℕ). v / z) (pow-suc 16 k) ∙ sym (div-div-eq-div-mul v (16 ^ k) 16)) ∙ div-add-mod' q 16 in
      ap (λ (w : Reader). feed_all plan line w (spell k v ++ rest)) one
      ∙ digits_fed k (suc i) r' j v cs rest refl (suc-add i k ∙ sym (add-suc i k) ∙ e)
      (ap (λ (z : ℕ). z % 16 ^ suc i) s ∙ shifted_mod x d i k D e ∙ b)
      (inr (subst Word (sym s) (shifted_lt x d D)))
      J (length-set r.numbers j (shifted x d) ∙ N)
      p.1 (omega (arith, add-suc (place r) k, suc-add (place r) k)) (open_next r k o)
      ∙ ap (λ (p : List ℕ). feed_all plan line (reader_with r (Some (suc (place r) + k)) r.n p) rest) (set-set r.numbers j (shifted x d) v)
      ∙ ap (λ (p : ℕ). feed_all plan line (reader_with r (Some p) r.n (set r.numbers j v)) rest) (suc-add (place r) k ∙ sym (add-suc (place r) k))

  -- sixteen digits: the number is in its place, whatever stood there
  pub hex_field : (r : Reader) (j v : ℕ) (cs rest : List ℕ) → r.at ≡ Some (place r) → Word v → j < numbers_held → length r.numbers ≡ numbers_held
      → drop (place r) plan ≡ replicate 16 (hex_letter + j) ++ cs → place r + 16 < length plan → OpenTo r (place r + 16)
      → feed_all plan line r (hex v ++ rest) ≡ feed_all plan line (reader_with r (Some (place r + 16)) r.n (set r.numbers j v)) rest
  hex_field r j v cs rest A w J N t h o = digits_fed 16 0 r j v cs rest A refl (first (get_or r.numbers j 0) v w) (inl refl) J N t h o
    where
      first : (x v : ℕ) → v < 18446744073709551616 → x % 1 ≡ v / 18446744073709551616
      first x v vl = omega arith

  -- ---- a byte of the plan's own
  matched_is : (r : Reader) (c : ℕ) → suc (place r) < length plan → matched_of (last_of plan) line r c c ≡ reader_with r (Some (suc (place r))) r.n r.numbers
  unfolding matched_of
  matched_is r c h = simp (eq-eqb c c refl) (step_in plan line r h)

  pub mark_field : (r : Reader) (c : ℕ) (rest : List ℕ) → T (plain c) → get_or plan (place r) 0 ≡ c → suc (place r) < length plan → Open plan line r (place r)
      → feed_all plan line r (c ∷ rest) ≡ feed_all plan line (reader_with r (Some (suc (place r))) r.n r.numbers) rest
  mark_field r c rest t e h o = ap (λ (w : Reader). feed_all plan line w rest) (plain_turn plan line r c c t e (omega arith) o ∙ matched_is r c h)

  -- ---- flags
  flagged_is : (r : Reader) (p : Bool) (j : ℕ) → suc (place r) < length plan → flagged_of (last_of plan) line r (48 + bit_of p) j ≡ reader_with r (Some (suc (place r))) r.n (set r.numbers j (bit_of p))
  unfolding flagged_of
  flagged_is r false j h = step_in plan line (numbered_of r j 0) h
  flagged_is r true j h = step_in plan line (numbered_of r j 1) h

  flag_is : (p : Bool) (rest : List ℕ) → flag_field p ++ rest ≡ (48 + bit_of p) ∷ rest
  flag_is false rest = refl
  flag_is true rest = refl

  pub flag_field_lem : (r : Reader) (j : ℕ) (p : Bool) (rest : List ℕ) → j < numbers_held → get_or plan (place r) 0 ≡ flag_letter + j → suc (place r) < length plan → Open plan line r (place r)
      → feed_all plan line r (flag_field p ++ rest) ≡ feed_all plan line (reader_with r (Some (suc (place r))) r.n (set r.numbers j (bit_of p))) rest
  flag_field_lem r j p rest J e h o =
      ap (feed_all plan line r) (flag_is p rest) ∙ ap (λ (w : Reader). feed_all plan line w rest) (flag_turn plan line r (48 + bit_of p) j J e (omega arith) o ∙ flagged_is r p j h)

  -- ---- n, and the CR after it
  first_fed : (r : Reader) (d : ℕ) → d < 10 → suc (place r) < length plan → first_of (last_of plan) line r (48 + d) ≡ reader_with r (Some (suc (place r))) d r.numbers
  unfolding first_of
  first_fed r d h l =
      let m : 48 + d - 48 ≡ d = omega arith in
      simp (le-ltb (48 + d) 48 (omega arith), le-ltb 57 (48 + d) (omega arith)) (step_in plan line (reader_with r r.at (48 + d - 48) r.numbers) l ∙ ap (λ (z : ℕ). reader_with r (Some (suc (place r))) z r.numbers) m)

  counted_is : (r : Reader) (d : ℕ) → d < 10 → Word (r.n * 10 + d) → counted_of r d ≡ reader_with r r.at (r.n * 10 + d) r.numbers
  unfolding counted_of
  counted_is r d h k = simp (le-ltb ((18446744073709551615 - d) / 10) r.n (omega arith))

  more_fed : (r : Reader) (d : ℕ) → d < 10 → (r.n ≡ 0 → ⊥) → Word (r.n * 10 + d) → more_of (last_of plan) line r (48 + d) ≡ reader_with r r.at (r.n * 10 + d) r.numbers
  unfolding more_of
  more_fed r d h z k =
      let m : 48 + d - 48 ≡ d = omega arith in
      simp (ne_eqb (48 + d) 13 (λ (e : 48 + d ≡ 13). omega arith), le-ltb (48 + d) 48 (omega arith), le-ltb 57 (48 + d) (omega arith), ne_eqb r.n 0 z)
      (ap (counted_of r) m ∙ counted_is r d h k)

  cr_fed : (r : Reader) → suc (place r) < length plan → more_of (last_of plan) line r 13 ≡ reader_with r (Some (suc (place r))) r.n r.numbers
  unfolding more_of
  cr_fed r h = step_in plan line r h

  others_fed : (ds : List ℕ) (r : Reader) (rest : List ℕ) → get_or plan (place r) 0 ≡ 43 → suc (place r) < length plan → place r < line
      → Digits ds → (r.n ≡ 0 → ds ≡ []) → Word (value_from r.n ds)
      → feed_all plan line r (shown ds ++ (13 ∷ rest)) ≡ feed_all plan line (reader_with r (Some (suc (place r))) (value_from r.n ds) r.numbers) rest
  others_fed [] r rest p l o h z k = ap (λ (w : Reader). feed_all plan line w rest) (more_turn plan line r 13 p (omega arith) (inl o) ∙ cr_fed r l)
  others_fed (d ∷ ds) r rest p l o h z k =
      let nz : r.n ≡ 0 → ⊥ = λ (e : r.n ≡ 0). let y = z e in let t : ◌≡◌ {A = ℕ} 0 1 = cc in omega arith in
      ap (λ (w : Reader). feed_all plan line w (shown ds ++ (13 ∷ rest)))
      (more_turn plan line r (48 + d) p (omega arith) (inl o) ∙ more_fed r d h.0 nz (omega (arith, grows ds (r.n * 10 + d))))
      ∙ others_fed ds (reader_with r r.at (r.n * 10 + d) r.numbers) rest p l o h.1 (λ (e : r.n * 10 + d ≡ 0). absurd (nz (omega arith))) k

  pub decimal_field : (r : Reader) (n : ℕ) (rest : List ℕ) → get_or plan (place r) 0 ≡ 35 → get_or plan (suc (place r)) 0 ≡ 43 → suc (suc (place r)) < length plan → suc (place r) < line
      → Word n → feed_all plan line r (decimal n ++ (13 ∷ rest)) ≡ feed_all plan line (reader_with r (Some (suc (suc (place r)))) n r.numbers) rest
  decimal_field r n rest p q l o w =
      let (d, ds, u) = digits_of n in
      ap (λ (t : List ℕ). feed_all plan line r (t ++ (13 ∷ rest))) (shown_is d ds n u)
      ∙ ap (λ (w : Reader). feed_all plan line w (shown ds ++ (13 ∷ rest))) (first_turn plan line r (48 + d) p (omega arith) (inl (omega arith)) ∙ first_fed r d u.all_digits.0 (omega arith))
      ∙ others_fed ds (reader_with r (Some (suc (place r))) d r.numbers) rest q l o u.all_digits.1 u.no_zero_first (subst Word (sym u.value) w)
      ∙ ap (λ (z : ℕ). feed_all plan line (reader_with r (Some (suc (suc (place r)))) z r.numbers) rest) u.value
