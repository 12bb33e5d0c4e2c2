-- A text of the form is read as its numbers (`text_read`), also where its last CR LF is missing (`text_accepted`). Assumes nothing.
use mathlib.Core.Path.{◌≡◌, refl, sym, ap, ◌∙◌}
use mathlib.Core.Logic.{inl, inr}
use mathlib.Core.List.{List, [], ◌∷◌, ◌++◌, map, append_assoc, append-nil}
use mathlib.Core.Bool.{Bool, true, false}
use Prim.Native.Nat.{ℕ, suc}
use native.Mathlib.Numerals.{add-one}
use lib.Dec.{ltb}
use lib.ListN.{length, replicate, length-append, length-map}
use borrow.Author.Tests.{eq-eqb, ltb-true, ltb-false}
use Rattle.text.specs.Bytes.{bytes}
use Rattle.text.specs.Numerals.{Word}
use Rattle.text.specs.Reading as text
use Rattle.text.specs.Plan.{Values, count_read, loaded_rows, spelled_text, Spells, held_of}
use Rattle.text.proofs.Turns.{feed_parts, closed_ended, closed_same}
use Rattle.text.proofs.Forward as text-laws
use Rattle.text.proofs.Kept.{kept_all, kept_rows, text_kept}
use Rattle.std.specs.Prelude.{Some}
use Rattle.listing_text.specs.declared.reader.Reader.{Reader}
use Rattle.listing_text.specs.Columns.{most_kept, kept}
use Rattle.listing_text.specs.Grammar.{Grain, Input, Words, text_of, Text}
use Rattle.listing_text.specs.Rows.{no_grain, grain_rows}
use Rattle.listing_text.specs.Reading.{head_pieces, line_pieces, plan, line_at, plan_place, start_of, row_kept, feed_of, feed_all, closed_of, fine_of}
use Rattle.listing_text.specs.Held.{last_grain, numbers_of, reader_of}
use Rattle.listing_text.proofs.Rows.{rows_more, rows_full}
use Rattle.listing_text.proofs.Form.{form, grain_of, input_of, rows_for, values_for, input_same, rows_many, text_is}

-- ---- the reader's two parts: what it reads by the plan, and the rows
abbrev parts : Reader → List ℕ → Reader
parts r s = record { text = text.feed_all plan line_at r.text s; grains = kept_all plan line_at row_kept r.text r.grains s }

feed_is : (s : List ℕ) (r : Reader) → feed_all r s ≡ parts r s
feed_is [] r = refl
feed_is (b ∷ s) r = feed_is s (feed_of r b)

-- the numbers after some lines are the last one's
numbers_last : (ws : List (Values line_pieces)) (i : Input) (g : Grain) → loaded_rows form ws (numbers_of i g) ≡ numbers_of i (last_grain g (map grain_of ws))
numbers_last [] i g = refl
numbers_last (w ∷ ws) i g = numbers_last ws i (grain_of w)

-- the rows after one more line
row_kept_lem : (i : Input) (done : List Grain) (g : Grain) → row_kept (length done) (numbers_of i g) (grain_rows most_kept done) ≡ grain_rows most_kept (done ++ (g ∷ []))
row_kept_lem i done g = go (ltb (length done) most_kept) refl
  where
    go : (t : Bool) → ltb (length done) most_kept ≡ t → row_kept (length done) (numbers_of i g) (grain_rows most_kept done) ≡ grain_rows most_kept (done ++ (g ∷ []))
    go true e = rw e (rows_more most_kept done g (ltb-true (length done) most_kept e))
    go false e = rw e (rows_full most_kept done g (ltb-false (length done) most_kept e))

rows_kept : (ws : List (Values line_pieces)) (i : Input) (done : List Grain) (g : Grain) → kept_rows form row_kept ws (length done) (numbers_of i g) (grain_rows most_kept done) ≡ grain_rows most_kept (done ++ map grain_of ws)
rows_kept [] i done g = ap (grain_rows most_kept) (sym (append-nil done))
rows_kept (w ∷ ws) i done g =
    let h = grain_of w in
    let one : suc (length done) ≡ length (done ++ (h ∷ [])) = sym (add-one (length done)) ∙ sym (length-append done (h ∷ [])) in
    (λ t. kept_rows form row_kept ws (one t) (numbers_of i h) (row_kept_lem i done h t))
    ∙ rows_kept ws i (done ++ (h ∷ [])) h
    ∙ ap (grain_rows most_kept) (append_assoc done (h ∷ []) (map grain_of ws))

-- ---- the whole text
-- the reader after values and rows
abbrev held : Values head_pieces → List (Values line_pieces) → Reader
held w ws = record { text = held_of form w ws; grains = grain_rows most_kept (map grain_of ws) }

held_is : (w : Values head_pieces) (ws : List (Values line_pieces)) → held w ws ≡ reader_of (input_of w ws)
held_is w ws =
    let n : length ws ≡ length (map grain_of ws) = sym (length-map ws grain_of) in
    λ t. record { text = record { at = Some line_at; n = n t; seen = n t; numbers = numbers_last ws (input_of w ws) no_grain t }; grains = grain_rows most_kept (map grain_of ws) }

spelled_held : (w : Values head_pieces) (ws : List (Values line_pieces)) → count_read head_pieces w 0 ≡ length ws → feed_all start_of (spelled_text form w ws) ≡ held w ws
spelled_held w ws e =
    feed_is (spelled_text form w ws) start_of
    ∙ (λ t. record {
      text = text-laws.text_read form w ws e t;
      grains = (text_kept form row_kept w ws (replicate kept 0) e ∙ rows_kept ws (input_of w ws) [] no_grain) t;
    })

pub spelled_read : (s : List ℕ) (w : Values head_pieces) (ws : List (Values line_pieces)) → Spells form s w ws → closed_of (feed_all start_of s) ≡ reader_of (input_of w ws)
spelled_read s w ws (n, inl e) =
    ap (λ (t : List ℕ). closed_of (feed_all start_of t)) e ∙ ap closed_of (spelled_held w ws n)
    ∙ sym (closed_same feed_of plan_place line_at (held w ws) _ refl (text-laws.held_over form w ws))
    ∙ held_is w ws
spelled_read s w ws (n, inr e) =
    let q : held w ws ≡ feed_of (feed_of (feed_all start_of s) 13) 10 = sym (spelled_held w ws n) ∙ ap (feed_all start_of) (sym e) ∙ feed_parts feed_of s (bytes "\r\n") start_of in
    sym (closed_ended feed_of plan_place line_at (feed_all start_of s) (held w ws) q refl) ∙ held_is w ws

-- ---- an input
module _ (i : Input) (u : Words i) (k : Word (length i.grains)) where
  abbrev values : Values head_pieces
  values = values_for i u k

  abbrev rows : List (Values line_pieces)
  rows = rows_for i.grains u.grain_words

  spelled_is : spelled_text form values rows ≡ text_of i
  spelled_is = text_is values rows (rows_many i.grains u.grain_words) ∙ ap text_of (input_same i u k)

  pub text_read : feed_all start_of (text_of i) ≡ reader_of i
  text_read =
      ap (feed_all start_of) (sym spelled_is) ∙ spelled_held values rows (rows_many i.grains u.grain_words)
      ∙ held_is values rows ∙ ap reader_of (input_same i u k)

  spells : (s : List ℕ) → Text s i → Spells form s values rows
  spells s (inl e) = (rows_many i.grains u.grain_words, inl (e ∙ sym spelled_is))
  spells s (inr e) = (rows_many i.grains u.grain_words, inr (e ∙ sym spelled_is))

pub text_accepted : (s : List ℕ) (i : Input) → Words i → Word (length i.grains) → Text s i → closed_of (feed_all start_of s) ≡ reader_of i
text_accepted s i u k t = spelled_read s (values_for i u k) (rows_for i.grains u.grain_words) (spells i u k s t) ∙ ap reader_of (input_same i u k)

pub read_fine : (i : Input) → fine_of (reader_of i) ≡ true
read_fine i = eq-eqb (length i.grains) (length i.grains) refl
