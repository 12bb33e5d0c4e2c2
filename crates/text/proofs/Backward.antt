-- What the reader accepts is a text that the plan shows, of the numbers that were read (`accepted_text`). Assumes nothing.
use mathlib.Core.Path.{◌≡◌, refl, sym, ap, ◌∙◌, subst}
use mathlib.Core.Logic.{inl, inr}
use mathlib.Core.List.{List, [], ◌∷◌, ◌++◌, append_assoc}
use mathlib.Core.Bool.{Bool, true, false, cond}
use Prim.Native.Nat.{ℕ, zero, suc, ◌+◌, ◌<◌}
use native.Mathlib.Nat.{add-suc, add-zero, suc-add, le_of_eq, zero-add}
use native.Mathlib.Numerals.{add-one}
use native.Mathlib.Omega.{arith}
use lib.Dec.{T, ltb, eqb}
use lib.Ieee.Fits.{and_l, and_r}
use lib.ListN.{length, drop, set, replicate, length-set}
use lib.Seq.{drop-drop}
use Rattle.std.specs.Prelude.{Some}
use Rattle.text.specs.declared.reader.Reader.{Reader}
use Rattle.text.specs.Letters.{numbers_held, flag_letter}
use Rattle.text.specs.Bytes.{bytes}
use Rattle.text.specs.Numerals.{hex, decimal, Word}
use Rattle.text.specs.Lines.{flag_field, bit_of}
use Rattle.text.specs.Reading.{last_of, place, start_of, reader_with, next_of, stepped_of, feed_of, feed_all, closed_of, fine_of}
use Rattle.text.specs.Plan.{Piece, mark, number, flagged, count, shown, Values, spelled, loaded, count_read, plain, fair, Form, spelled_rows, spelled_text, Spells, held_of}
use Rattle.text.proofs.Turns.{feed_parts}
use Rattle.text.proofs.Places.{here, full_stuck, step_on, plain_turn}
use Rattle.text.proofs.FieldsBack.{Ends, open_ends, stuck_ends, matched_ends, mark_ends, hex_ends, flag_ends, decimal_ends}
use Rattle.text.proofs.Forward.{fair_number, loaded_length, counted_same, Where, row_there, plan_length, last_place, end_there, before, text_accepted}

-- a part, and another behind it
joined : (a s t x u : List ℕ) → s ≡ a ++ t → t ≡ x ++ u → s ≡ (a ++ x) ++ u
joined a s t x u p q = p ∙ ap (λ (l : List ℕ). a ++ l) q ∙ sym (append_assoc a x u)

joined_cr : (a s t x u : List ℕ) → s ≡ a ++ (13 ∷ t) → t ≡ x ++ u → s ≡ (a ++ (13 ∷ x)) ++ u
joined_cr a s t x u p q = joined a s (13 ∷ t) (13 ∷ x) u p (ap (λ (l : List ℕ). 13 ∷ l) q)

-- ---- pieces, wherever the plan shows them
module _ (plan : List ℕ) (line : ℕ) (short : Word (length plan)) (within : line < length plan) where
  abbrev Parts : List Piece → Reader → ℕ → ℕ → List ℕ → List ℕ → Type 0
  Parts ps r end n g s = (w : Values ps) × (t : List ℕ) × (s ≡ spelled ps w ++ t) × Ends plan line (reader_with r (Some end) (count_read ps w n) (loaded ps w g)) t

  pub pieces_end : (ps : List Piece) (r : Reader) (at n : ℕ) (g cs s : List ℕ) → T (fair ps) → length g ≡ numbers_held
      → drop at plan ≡ shown ps ++ cs → at + length (shown ps) < length plan → Where plan line r n ps (at + length (shown ps))
      → Ends plan line (reader_with r (Some at) n g) s → Parts ps r (at + length (shown ps)) n g s
  pieces_end [] r at n g cs s f N q h o e = (tt, s, refl, subst (λ (k : ℕ). Ends plan line (reader_with r (Some k) n g) s) (sym (add-zero at)) e)
  pieces_end (mark c ∷ ps) r at n g cs s f N q h o e =
      let k = length (shown ps) in
      let p = here plan at c (shown ps ++ cs) q in
      let m : suc at + k ≡ at + suc k = suc-add at k ∙ sym (add-suc at k) in
      let (t, x, e1) = mark_ends plan line short within (reader_with r (Some at) n g) c s (and_l (plain c) (fair ps) f) p.0 (omega (arith, m, h)) (elim o [ inl z ↦ inl (omega (arith, m, z)) | inr z ↦ inr z.0 ]) e in
      let (w, u, y, e2) = pieces_end ps r (suc at) n g cs t (and_r (plain c) (fair ps) f) N p.1 (omega (arith, m, h)) (elim o [ inl z ↦ inl (omega (arith, m, z)) | inr z ↦ inr z ]) e1 in
      (w, u, joined (c ∷ []) s t (spelled ps w) u x y, subst (λ (z : ℕ). Ends plan line (reader_with r (Some z) (count_read ps w n) (loaded ps w g)) u) m e2)
  pieces_end (number j ∷ ps) r at n g cs s f N q h o e =
      let k = length (shown ps) in
      let J = fair_number j (fair ps) f in
      let p : drop (at + 16) plan ≡ shown ps ++ cs = sym (drop-drop 16 at plan) ∙ ap (drop 16) q in
      let m : at + 16 + k ≡ at + length (shown (number j ∷ ps)) = omega arith in
      let (v, t, a, x, e1) = hex_ends plan line short within (reader_with r (Some at) n g) j (shown ps ++ cs) s refl J N q (omega (arith, m, h)) (elim o [ inl z ↦ inl (omega (arith, m, z)) | inr z ↦ inr z.0 ]) e in
      let (w, u, y, e2) = pieces_end ps r (at + 16) n (set g j v) cs t (and_r (ltb j numbers_held) (fair ps) f) (length-set g j v ∙ N) p (omega (arith, m, h)) (elim o [ inl z ↦ inl (omega (arith, m, z)) | inr z ↦ inr z ]) e1 in
      ((v, a, w), u, joined (hex v) s t (spelled ps w) u x y, subst (λ (z : ℕ). Ends plan line (reader_with r (Some z) (count_read ps w n) (loaded ps w (set g j v))) u) m e2)
  pieces_end (flagged j ∷ ps) r at n g cs s f N q h o e =
      let k = length (shown ps) in
      let J = fair_number j (fair ps) f in
      let p = here plan at (flag_letter + j) (shown ps ++ cs) q in
      let m : suc at + k ≡ at + suc k = suc-add at k ∙ sym (add-suc at k) in
      let (b, t, x, e1) = flag_ends plan line short within (reader_with r (Some at) n g) j s J p.0 (omega (arith, m, h)) (elim o [ inl z ↦ inl (omega (arith, m, z)) | inr z ↦ inr z.0 ]) e in
      let (w, u, y, e2) = pieces_end ps r (suc at) n (set g j (bit_of b)) cs t (and_r (ltb j numbers_held) (fair ps) f) (length-set g j (bit_of b) ∙ N) p.1 (omega (arith, m, h)) (elim o [ inl z ↦ inl (omega (arith, m, z)) | inr z ↦ inr z ]) e1 in
      ((b, w), u, joined (flag_field b) s t (spelled ps w) u x y, subst (λ (z : ℕ). Ends plan line (reader_with r (Some z) (count_read ps w n) (loaded ps w (set g j (bit_of b)))) u) m e2)
  pieces_end (count ∷ ps) r at n g cs s f N q h (inr z) e = absurd z.1
  pieces_end (count ∷ ps) r at n g cs s f N q h (inl z) e =
      let k = length (shown ps) in
      let p = here plan at 35 (43 ∷ (shown ps ++ cs)) q in
      let p' = here plan (suc at) 43 (shown ps ++ cs) p.1 in
      let m : suc (suc at) + k ≡ at + suc (suc k) = omega arith in
      let (v, t, a, x, e1) = decimal_ends plan line short within (reader_with r (Some at) n g) s p.0 p'.0 (omega (arith, m, h)) (omega (arith, m, z)) e in
      let (w, u, y, e2) = pieces_end ps r (suc (suc at)) v g cs t f N p'.1 (omega (arith, m, h)) (inl (omega (arith, m, z))) e1 in
      ((v, a, w), u, joined_cr (decimal v) s t (spelled ps w) u x y, subst (λ (i : ℕ). Ends plan line (reader_with r (Some i) (count_read ps w v) (loaded ps w g)) u) m e2)

-- ---- the lines, and the whole text
module _ {plan : List ℕ} {line : ℕ} (f : Form plan line) where
  within : line < length plan
  within = let l = plan_length f in omega (arith, l)

  -- a line ends with its last byte
  line_over : (r : Reader) (n : ℕ) (g s : List ℕ) → r.seen < n → Ends plan line (reader_with r (Some (last_place f)) n g) s → (t : List ℕ) × (s ≡ f.end ∷ t) × Ends plan line (next_of line (reader_with r (Some (last_place f)) n g)) t
  line_over r n g [] o e = open_ends plan line (reader_with r (Some (last_place f)) n g) (inr o) e
  line_over r n g (b ∷ s) o e =
      let q = reader_with r (Some (last_place f)) n g in
      let p = end_there f in
      let l = p.1 in
      matched_ends plan line f.short within q b f.end s
      (subst (λ (w : Reader). Ends plan line w s) (plain_turn plan line q b f.end f.end_plain (here plan (last_place f) f.end [] p.0).0 (omega (arith, l)) (inr o)) e)
      (λ (x : b ≡ f.end) (e : Ends plan line (stepped_of (last_of plan) line q) s). (s, ap (λ (z : ℕ). z ∷ s) x, subst (λ (w : Reader). Ends plan line w s) (step_on plan line q l o) e))

  line_ends : (n seen : ℕ) (g s : List ℕ) → length g ≡ numbers_held → seen < n → Ends plan line (before f n seen g) s
      → (w : Values f.row) × (t : List ℕ) × (s ≡ spelled f.row w ++ (f.end ∷ t)) × Ends plan line (before f n (suc seen) (loaded f.row w g)) t
  line_ends n seen g s N o e =
      let r = before f n seen g in
      let l = (end_there f).1 in
      let (w, t, x, e1) = pieces_end plan line f.short within f.row r line n g (f.end ∷ []) s f.row_fair N (row_there f) (omega (arith, l)) (inr (o, f.row_uncounted)) e in
      let e2 = subst (λ (m : ℕ). Ends plan line (reader_with r (Some (last_place f)) m (loaded f.row w g)) t) (counted_same f.row w n f.row_uncounted) e1 in
      let (u, y, e3) = line_over r n (loaded f.row w g) t o e2 in
      (w, u, x ∙ ap (λ (z : List ℕ). spelled f.row w ++ z) y, subst (λ (m : ℕ). Ends plan line (before f n m (loaded f.row w g)) u) (add-one seen) e3)

  lines_end : (k n seen : ℕ) (g s : List ℕ) → length g ≡ numbers_held → seen + k ≡ n → Ends plan line (before f n seen g) s → (ws : List (Values f.row)) × (k ≡ length ws) × (s ≡ spelled_rows f ws)
  lines_end zero n seen g [] N h e = ([], refl, refl)
  lines_end zero n seen g (b ∷ s) N h e =
      stuck_ends plan line f.short within s (before f n seen g) (subst (λ (w : Reader). Ends plan line w s) (full_stuck plan line (before f n seen g) b within refl (le_of_eq (sym h ∙ add-zero seen))) e)
  lines_end (suc k) n seen g s N h e =
      let (w, t, x, e1) = line_ends n seen g s N (omega (arith, add-suc seen k)) e in
      let (ws, l, y) = lines_end k n (suc seen) (loaded f.row w g) t (loaded_length f.row w g N) (suc-add seen k ∙ sym (add-suc seen k) ∙ h) e1 in
      (w ∷ ws, ap suc l, x ∙ ap (λ (z : List ℕ). spelled f.row w ++ (f.end ∷ z)) y)

  abbrev zeros : List ℕ
  zeros = replicate numbers_held 0

  text_joined : (s t : List ℕ) (w : Values f.head) (ws : List (Values f.row)) → s ≡ spelled f.head w ++ t → t ≡ spelled_rows f ws → s ≡ spelled_text f w ws
  text_joined s t w ws p q = p ∙ ap (λ (z : List ℕ). spelled f.head w ++ z) q

  whole_ends : (s : List ℕ) → Ends plan line start_of s → (w : Values f.head) × (ws : List (Values f.row)) × (count_read f.head w 0 ≡ length ws) × (s ≡ spelled_text f w ws)
  whole_ends s e =
      let l = plan_length f in
      let b = f.begins in
      let k = zero-add (length (shown f.head)) in
      let (w, t, x, e1) = pieces_end plan line f.short within f.head start_of 0 0 zeros (shown f.row ++ (f.end ∷ [])) s f.head_fair refl f.shows (omega (arith, l, b, k)) (inl (omega (arith, b, k))) e in
      let e2 = subst (λ (m : ℕ). Ends plan line (reader_with start_of (Some m) (count_read f.head w 0) (loaded f.head w zeros)) t) (k ∙ sym b) e1 in
      let (ws, n, y) = lines_end (count_read f.head w 0) (count_read f.head w 0) 0 (loaded f.head w zeros) t (loaded_length f.head w zeros refl) (zero-add (count_read f.head w 0)) e2 in
      (w, ws, n, text_joined s t w ws x y)

  -- what stands behind an accepted text
  pub record Accepted (s : List ℕ) : Type 0 where
    pub values : Values f.head
    pub rows : List (Values f.row)
    pub is_text : Spells f s values rows
    pub was_read : closed_of plan line (feed_all plan line start_of s) ≡ held_of f values rows

  pub accepted_text : (s : List ℕ) → fine_of line (closed_of plan line (feed_all plan line start_of s)) ≡ true → Accepted s
  accepted_text s e = go (eqb (place closing) line) e
    where
      closing : Reader
      closing = feed_of plan line (feed_of plan line (feed_all plan line start_of s) 13) 10

      accepted : (w : Values f.head) (ws : List (Values f.row)) → Spells f s w ws → Accepted s
      accepted w ws t = record { values = w; rows = ws; is_text = t; was_read = text_accepted f s w ws t }

      go : (t : Bool) → fine_of line (cond t (feed_of plan line (feed_of plan line (feed_all plan line start_of s) 13) 10) (feed_all plan line start_of s)) ≡ true → Accepted s
      go true e = let (w, ws, n, q) = whole_ends (s ++ bytes "\r\n") (ap (fine_of line) (feed_parts (feed_of plan line) s (bytes "\r\n") start_of) ∙ e) in accepted w ws (n, inr q)
      go false e = let (w, ws, n, q) = whole_ends s e in accepted w ws (n, inl q)
