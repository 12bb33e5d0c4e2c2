-- A text that a plan shows is read as its numbers (`text_read`), also where its last CR LF is missing (`text_accepted`). Assumes nothing.
use mathlib.Core.Path.{◌≡◌, refl, sym, ap, ◌∙◌}
use mathlib.Core.Logic.{◌⊎◌, inl, inr}
use mathlib.Core.List.{List, [], ◌∷◌, ◌++◌, append_assoc}
use mathlib.Core.Bool.{Bool, true, false, ◌&&◌}
use Prim.Native.Nat.{ℕ, suc, ◌+◌, ◌≤◌, ◌<◌}
use native.Mathlib.Nat.{add-suc, add-zero, suc-add, le_refl, zero-add}
use native.Mathlib.Numerals.{add-one}
use native.Mathlib.Omega.{arith}
use lib.Dec.{T, ltb}
use lib.Ieee.Fits.{and_l, and_r}
use lib.ListN.{length, drop, set, replicate, length-set, length-append}
use lib.Seq.{drop-drop, drop_at}
use borrow.Author.Tests.{eq-eqb, ltb-true}
use Rattle.std.specs.Prelude.{Some}
use Rattle.text.specs.declared.reader.Reader.{Reader}
use Rattle.text.specs.Letters.{numbers_held, flag_letter}
use Rattle.text.specs.Bytes.{bytes}
use Rattle.text.specs.Numerals.{decimal}
use Rattle.text.specs.Lines.{flag_field, bit_of}
use Rattle.text.specs.Reading.{last_of, place, start_of, reader_with, stuck_of, next_of, matched_of, feed_of, feed_all, closed_of, fine_of}
use Rattle.text.specs.Plan.{Piece, mark, number, flagged, count, shown, Values, spelled, loaded, count_read, plain, fair, uncounted, Form, spelled_rows, loaded_rows, spelled_text, Spells, held_of}
use Rattle.text.proofs.Turns.{feed_parts, closed_ended, closed_same}
use Rattle.text.proofs.Places.{here, full_stuck, stuck_stays, step_on, plain_turn}
use Rattle.text.proofs.Fields.{hex_field, mark_field, flag_field_lem, decimal_field}

holds : (b : Bool) → T b → b ≡ true
holds true t = refl
holds false t = absurd t

pub fair_number : (j : ℕ) (b : Bool) → T (ltb j numbers_held && b) → j < numbers_held
fair_number j b t = ltb-true j numbers_held (holds (ltb j numbers_held) (and_l (ltb j numbers_held) b t))

pub loaded_length : (ps : List Piece) (w : Values ps) (g : List ℕ) → length g ≡ numbers_held → length (loaded ps w g) ≡ numbers_held
loaded_length [] w g N = N
loaded_length (mark c ∷ ps) w g N = loaded_length ps w g N
loaded_length (number j ∷ ps) w g N = loaded_length ps w.2 (set g j w.0) (length-set g j w.0 ∙ N)
loaded_length (flagged j ∷ ps) w g N = loaded_length ps w.1 (set g j (bit_of w.0)) (length-set g j (bit_of w.0) ∙ N)
loaded_length (count ∷ ps) w g N = loaded_length ps w.2 g N

-- pieces without n leave it
pub counted_same : (ps : List Piece) (w : Values ps) (n : ℕ) → T (uncounted ps) → count_read ps w n ≡ n
counted_same [] w n u = refl
counted_same (mark c ∷ ps) w n u = counted_same ps w n u
counted_same (number j ∷ ps) w n u = counted_same ps w.2 n u
counted_same (flagged j ∷ ps) w n u = counted_same ps w.1 n u
counted_same (count ∷ ps) w n u = absurd u

-- ---- pieces, wherever the plan shows them
module _ (plan : List ℕ) (line : ℕ) where
  -- the pieces' places up to `end` are open: before the lines, or in one that is wanted, which has no n
  abbrev pub Where : Reader → ℕ → List Piece → ℕ → Type 0
  Where r n ps end = (end ≤ line) ⊎ ((r.seen < n) × T (uncounted ps))

  pub pieces_fed : (ps : List Piece) (w : Values ps) (r : Reader) (at n : ℕ) (g cs rest : List ℕ) → T (fair ps) → length g ≡ numbers_held
      → drop at plan ≡ shown ps ++ cs → at + length (shown ps) < length plan → Where r n ps (at + length (shown ps))
      → feed_all plan line (reader_with r (Some at) n g) (spelled ps w ++ rest) ≡ feed_all plan line (reader_with r (Some (at + length (shown ps))) (count_read ps w n) (loaded ps w g)) rest
  pieces_fed [] w r at n g cs rest f N q h o = ap (λ (k : ℕ). feed_all plan line (reader_with r (Some k) n g) rest) (sym (add-zero at))
  pieces_fed (mark c ∷ ps) w r at n g cs rest f N q h o =
      let k = length (shown ps) in
      let p = here plan at c (shown ps ++ cs) q in
      let e : suc at + k ≡ at + suc k = suc-add at k ∙ sym (add-suc at k) in
      mark_field plan line (reader_with r (Some at) n g) c (spelled ps w ++ rest) (and_l (plain c) (fair ps) f) p.0 (omega (arith, e, h)) (elim o [ inl z ↦ inl (omega (arith, e, z)) | inr z ↦ inr z.0 ])
      ∙ pieces_fed ps w r (suc at) n g cs rest (and_r (plain c) (fair ps) f) N p.1 (omega (arith, e, h)) (elim o [ inl z ↦ inl (omega (arith, e, z)) | inr z ↦ inr z ])
      ∙ ap (λ (m : ℕ). feed_all plan line (reader_with r (Some m) (count_read ps w n) (loaded ps w g)) rest) e
  pieces_fed (number j ∷ ps) w r at n g cs rest f N q h o =
      let k = length (shown ps) in
      let v = w.0 in
      let J = fair_number j (fair ps) f in
      let p : drop (at + 16) plan ≡ shown ps ++ cs = sym (drop-drop 16 at plan) ∙ ap (drop 16) q in
      let e : at + 16 + k ≡ at + length (shown (number j ∷ ps)) = omega arith in
      hex_field plan line (reader_with r (Some at) n g) j v (shown ps ++ cs) (spelled ps w.2 ++ rest) refl w.1 J N q (omega (arith, e, h)) (elim o [ inl z ↦ inl (omega (arith, e, z)) | inr z ↦ inr z.0 ])
      ∙ pieces_fed ps w.2 r (at + 16) n (set g j v) cs rest (and_r (ltb j numbers_held) (fair ps) f) (length-set g j v ∙ N) p (omega (arith, e, h)) (elim o [ inl z ↦ inl (omega (arith, e, z)) | inr z ↦ inr z ])
      ∙ ap (λ (m : ℕ). feed_all plan line (reader_with r (Some m) (count_read ps w.2 n) (loaded ps w.2 (set g j v))) rest) e
  pieces_fed (flagged j ∷ ps) w r at n g cs rest f N q h o =
      let k = length (shown ps) in
      let v = bit_of w.0 in
      let J = fair_number j (fair ps) f in
      let p = here plan at (flag_letter + j) (shown ps ++ cs) q in
      let e : suc at + k ≡ at + suc k = suc-add at k ∙ sym (add-suc at k) in
      ap (feed_all plan line (reader_with r (Some at) n g)) (append_assoc (flag_field w.0) (spelled ps w.1) rest)
      ∙ flag_field_lem plan line (reader_with r (Some at) n g) j w.0 (spelled ps w.1 ++ rest) J p.0 (omega (arith, e, h)) (elim o [ inl z ↦ inl (omega (arith, e, z)) | inr z ↦ inr z.0 ])
      ∙ pieces_fed ps w.1 r (suc at) n (set g j v) cs rest (and_r (ltb j numbers_held) (fair ps) f) (length-set g j v ∙ N) p.1 (omega (arith, e, h)) (elim o [ inl z ↦ inl (omega (arith, e, z)) | inr z ↦ inr z ])
      ∙ ap (λ (m : ℕ). feed_all plan line (reader_with r (Some m) (count_read ps w.1 n) (loaded ps w.1 (set g j v))) rest) e
  pieces_fed (count ∷ ps) w r at n g cs rest f N q h (inr z) = absurd z.1
  pieces_fed (count ∷ ps) w r at n g cs rest f N q h (inl z) =
      let k = length (shown ps) in
      let p = here plan at 35 (43 ∷ (shown ps ++ cs)) q in
      let p' = here plan (suc at) 43 (shown ps ++ cs) p.1 in
      let e : suc (suc at) + k ≡ at + suc (suc k) = omega arith in
      ap (feed_all plan line (reader_with r (Some at) n g)) (append_assoc (decimal w.0) (13 ∷ spelled ps w.2) rest)
      ∙ decimal_field plan line (reader_with r (Some at) n g) w.0 (spelled ps w.2 ++ rest) p.0 p'.0 (omega (arith, e, h)) (omega (arith, e, z)) w.1
      ∙ pieces_fed ps w.2 r (suc (suc at)) w.0 g cs rest f N p'.1 (omega (arith, e, h)) (inl (omega (arith, e, z)))
      ∙ ap (λ (m : ℕ). feed_all plan line (reader_with r (Some m) (count_read ps w.2 w.0) (loaded ps w.2 g)) rest) e

-- ---- the lines, and the whole text
module _ {plan : List ℕ} {line : ℕ} (f : Form plan line) where
  -- the plan from `line` on
  pub row_there : drop line plan ≡ shown f.row ++ (f.end ∷ [])
  row_there = ap (drop line) f.shows ∙ drop_at (shown f.head) (shown f.row ++ (f.end ∷ [])) line (sym f.begins)

  pub plan_length : line + suc (length (shown f.row)) ≡ length plan
  plan_length =
      let a = ap length f.shows in
      let b = length-append (shown f.head) (shown f.row ++ (f.end ∷ [])) in
      let c = length-append (shown f.row) (f.end ∷ []) in
      let d = f.begins in
      let k = add-one (length (shown f.row)) in
      omega (arith, a, b, c, d, k)

  abbrev pub last_place : ℕ
  last_place = line + length (shown f.row)

  pub end_there : (drop last_place plan ≡ f.end ∷ []) × (suc last_place ≡ length plan)
  end_there = (
    sym (drop-drop (length (shown f.row)) line plan) ∙ ap (drop (length (shown f.row))) row_there ∙ drop_at (shown f.row) (f.end ∷ []) (length (shown f.row)) refl,
    sym (add-suc line (length (shown f.row))) ∙ plan_length,
  )

  -- the end of a line that is wanted
  matched_end : (r : Reader) → suc (place r) ≡ length plan → r.seen < r.n → matched_of (last_of plan) line r f.end f.end ≡ next_of line r
  unfolding matched_of
  matched_end r h o = simp (eq-eqb f.end f.end refl) (step_on plan line r h o)

  pub end_fed : (r : Reader) (n : ℕ) (g : List ℕ) → r.seen < n → feed_of plan line (reader_with r (Some last_place) n g) f.end ≡ next_of line (reader_with r (Some last_place) n g)
  end_fed r n g o =
      let p = end_there in
      let l = p.1 in
      plain_turn plan line (reader_with r (Some last_place) n g) f.end f.end f.end_plain (here plan last_place f.end [] p.0).0 (omega (arith, l)) (inr o)
      ∙ matched_end (reader_with r (Some last_place) n g) l o

  -- a line up to its last byte
  pub row_fed : (w : Values f.row) (r : Reader) (n : ℕ) (g rest : List ℕ) → length g ≡ numbers_held → r.seen < n
      → feed_all plan line (reader_with r (Some line) n g) (spelled f.row w ++ rest) ≡ feed_all plan line (reader_with r (Some last_place) n (loaded f.row w g)) rest
  row_fed w r n g rest N o =
      let l = end_there.1 in
      pieces_fed plan line f.row w r line n g (f.end ∷ []) rest f.row_fair N row_there (omega (arith, l)) (inr (o, f.row_uncounted))
      ∙ ap (λ (m : ℕ). feed_all plan line (reader_with r (Some last_place) m (loaded f.row w g)) rest) (counted_same f.row w n f.row_uncounted)

  -- a reader before a line
  abbrev pub before : ℕ → ℕ → List ℕ → Reader
  before n seen g = record { at = Some line; n = n; seen = seen; numbers = g }

  pub line_fed : (w : Values f.row) (n seen : ℕ) (g rest : List ℕ) → length g ≡ numbers_held → seen < n
      → feed_all plan line (before n seen g) (spelled f.row w ++ (f.end ∷ rest)) ≡ feed_all plan line (before n (suc seen) (loaded f.row w g)) rest
  line_fed w n seen g rest N o =
      row_fed w (before n seen g) n g (f.end ∷ rest) N o
      ∙ ap (λ (r : Reader). feed_all plan line r rest) (end_fed (before n seen g) n (loaded f.row w g) o)
      ∙ ap (λ (m : ℕ). feed_all plan line (before n m (loaded f.row w g)) rest) (add-one seen)

  pub rows_fed : (ws : List (Values f.row)) (n seen : ℕ) (g : List ℕ) → length g ≡ numbers_held → seen + length ws ≡ n
      → feed_all plan line (before n seen g) (spelled_rows f ws) ≡ before n n (loaded_rows f ws g)
  rows_fed [] n seen g N e = ap (λ (m : ℕ). before n m g) (sym (add-zero seen) ∙ e)
  rows_fed (w ∷ ws) n seen g N e =
      let m : suc seen + length ws ≡ n = suc-add seen (length ws) ∙ sym (add-suc seen (length ws)) ∙ e in
      line_fed w n seen g (spelled_rows f ws) N (omega (arith, m)) ∙ rows_fed ws n (suc seen) (loaded f.row w g) (loaded_length f.row w g N) m

  abbrev zeros : List ℕ
  zeros = replicate numbers_held 0

  pub head_fed : (w : Values f.head) (rest : List ℕ) → feed_all plan line start_of (spelled f.head w ++ rest) ≡ feed_all plan line (before (count_read f.head w 0) 0 (loaded f.head w zeros)) rest
  head_fed w rest =
      let l = plan_length in
      let b = f.begins in
      let k = zero-add (length (shown f.head)) in
      pieces_fed plan line f.head w start_of 0 0 zeros (shown f.row ++ (f.end ∷ [])) rest f.head_fair refl f.shows (omega (arith, l, b, k)) (inl (omega (arith, b, k)))
      ∙ ap (λ (m : ℕ). feed_all plan line (reader_with start_of (Some m) (count_read f.head w 0) (loaded f.head w zeros)) rest) (k ∙ sym b)

  pub text_read : (w : Values f.head) (ws : List (Values f.row)) → count_read f.head w 0 ≡ length ws → feed_all plan line start_of (spelled_text f w ws) ≡ held_of f w ws
  text_read w ws e =
      head_fed w (spelled_rows f ws)
      ∙ ap (λ (n : ℕ). feed_all plan line (before n 0 (loaded f.head w zeros)) (spelled_rows f ws)) e
      ∙ rows_fed ws (length ws) 0 (loaded f.head w zeros) (loaded_length f.head w zeros refl) (zero-add (length ws))

  pub held_fine : (w : Values f.head) (ws : List (Values f.row)) → fine_of line (held_of f w ws) ≡ true
  held_fine w ws = simp (eq-eqb line line refl) (eq-eqb (length ws) (length ws) refl)

  stuck_apart : 18446744073709551615 ≡ line → ⊥
  stuck_apart e = apart (length plan) line (length (shown f.row)) plan_length f.short e
    where
      apart : (p l k : ℕ) → l + suc k ≡ p → p < 18446744073709551616 → 18446744073709551615 ≡ l → ⊥
      apart p l k a b c = omega arith

  -- no line follows
  pub held_over : (w : Values f.head) (ws : List (Values f.row)) → place (feed_of plan line (feed_of plan line (held_of f w ws) 13) 10) ≡ line → ⊥
  held_over w ws e =
      let r = held_of f w ws in
      let l = plan_length in
      let full : feed_of plan line r 13 ≡ stuck_of r = full_stuck plan line r 13 (omega (arith, l)) refl (le_refl (length ws)) in
      stuck_apart (ap place (sym (ap (λ (q : Reader). feed_of plan line q 10) full ∙ stuck_stays plan line f.short r 10)) ∙ e)

  pub text_accepted : (s : List ℕ) (w : Values f.head) (ws : List (Values f.row)) → Spells f s w ws → closed_of plan line (feed_all plan line start_of s) ≡ held_of f w ws
  text_accepted s w ws (n, inl e) = ap (λ (t : List ℕ). closed_of plan line (feed_all plan line start_of t)) e ∙ ap (closed_of plan line) (text_read w ws n) ∙ sym (closed_same (feed_of plan line) place line (held_of f w ws) _ refl (held_over w ws))
  text_accepted s w ws (n, inr e) =
      let q : held_of f w ws ≡ feed_of plan line (feed_of plan line (feed_all plan line start_of s) 13) 10 = sym (text_read w ws n) ∙ ap (feed_all plan line start_of) (sym e) ∙ feed_parts (feed_of plan line) s (bytes "\r\n") start_of in
      sym (closed_ended (feed_of plan line) place line (feed_all plan line start_of s) (held_of f w ws) q refl)
