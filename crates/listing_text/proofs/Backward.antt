-- What the reader accepts is a text of the form, of the numbers that were read (`accepted_text`). Assumes nothing.
use mathlib.Core.Path.{◌≡◌, refl, sym, ap, ◌∙◌, subst}
use mathlib.Core.Logic.{inl, inr}
use mathlib.Core.List.{List, [], ◌∷◌}
use mathlib.Core.Bool.{Bool, true, false, cond}
use Prim.Native.Nat.{ℕ}
use lib.Dec.{eqb}
use lib.ListN.{length, length-map}
use Rattle.text.specs.Numerals.{Word}
use Rattle.text.specs.Reading as text
use Rattle.text.specs.Plan.{Values, count_read, Spells}
use Rattle.text.proofs.Backward as text-laws
use Rattle.listing_text.specs.declared.reader.Reader.{Reader}
use Rattle.listing_text.specs.Grammar.{Input, Words, Text}
use Rattle.listing_text.specs.Reading.{head_pieces, line_pieces, plan, line_at, plan_place, start_of, feed_of, feed_all, closed_of, fine_of}
use Rattle.listing_text.specs.Held.{reader_of}
use Rattle.listing_text.proofs.Form.{form, grain_of, input_of, words_of, text_is}
use Rattle.listing_text.proofs.Forward.{spelled_read}

-- ---- what is read by the plan does not look at the rows
feed_text : (s : List ℕ) (r : Reader) → (feed_all r s).text ≡ text.feed_all plan line_at r.text s
feed_text [] r = refl
feed_text (b ∷ s) r = feed_text s (feed_of r b)

closed_text : (r : Reader) → (closed_of r).text ≡ text.closed_of plan line_at r.text
closed_text r = go (eqb (plan_place (feed_of (feed_of r 13) 10)) line_at) (feed_of (feed_of r 13) 10)
  where
    go : (b : Bool) (q : Reader) → (cond b q r).text ≡ cond b q.text r.text
    go true q = refl
    go false q = refl

-- what stands behind an accepted text
pub record Accepted (s : List ℕ) : Type 0 where
  pub input : Input
  pub input_words : Words input
  pub countable : Word (length input.grains)
  pub is_text : Text s input
  pub was_read : closed_of (feed_all start_of s) ≡ reader_of input

text_of : (s : List ℕ) (w : Values head_pieces) (ws : List (Values line_pieces)) → Spells form s w ws → Text s (input_of w ws)
text_of s w ws (n, inl e) = inl (e ∙ text_is w ws n)
text_of s w ws (n, inr e) = inr (e ∙ text_is w ws n)

counted_word : (w : Values head_pieces) → Word (count_read head_pieces w 0)
counted_word w = w.2.2.1.1.2.1

pub accepted_text : (s : List ℕ) → fine_of (closed_of (feed_all start_of s)) ≡ true → Accepted s
accepted_text s e =
    let a = text-laws.accepted_text form s (sym (ap (text.fine_of line_at) (closed_text (feed_all start_of s) ∙ ap (text.closed_of plan line_at) (feed_text s start_of))) ∙ e) in
    let w = a.values in
    let ws = a.rows in
    record {
      input = input_of w ws;
      input_words = words_of w ws;
      countable = subst Word (a.is_text.0 ∙ sym (length-map ws grain_of)) (counted_word w);
      is_text = text_of s w ws a.is_text;
      was_read = spelled_read s w ws a.is_text;
    }
