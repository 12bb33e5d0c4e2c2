-- The answer over a reader that was fed a text, and the input that it holds. Assumes nothing: these are definitions.
use Rattle.std.specs.Prelude.{ℕ, ◌≡◌, List, cond, get_or}
use Rattle.tables.specs.Decode.{is_set}
use Rattle.listing_text.specs.declared.reader.Reader.{Reader}
use Rattle.listing_text.specs.declared.writer.Answer.TheVariants.{Malformed}
use Rattle.listing_text.specs.Grammar.{Input}
use Rattle.listing_text.specs.Rows.{grains_from}
use Rattle.listing_text.specs.Reading.{start_of, feed_all, closed_of, fine_of}
use Rattle.listing_text.specs.Answers.{answer_of}
use Rattle.answers.specs.Answer.{answer_to, Answers}

-- the reader was fed the bytes s, from the start
abbrev pub Fed : List ℕ → Reader → Type 0
Fed s r = r ≡ feed_all start_of s

-- P is so of the answer to the text that the reader was fed
abbrev pub OfAnswer : Reader → (List ℕ → Type 0) → Type 0
OfAnswer r P = (s a : List ℕ) → Fed s r → Answers s a → P a

-- ---- whatever the reader holds
abbrev pub input_from : List ℕ → List ℕ → ℕ → Input
input_from numbers grains n = record {
  l0 = get_or numbers 0 0;
  l1 = get_or numbers 1 0;
  p0 = is_set (get_or numbers 2 0);
  p1 = is_set (get_or numbers 3 0);
  rate = get_or numbers 4 0;
  grains = grains_from grains 0 n;
}

abbrev pub input_of : Reader → Input
input_of r = input_from r.text.numbers r.grains r.text.n

-- what is answered once the text is over
unfoldable pub answered : Reader → List ℕ
answered r = cond (fine_of (closed_of r)) (answer_to (input_of (closed_of r))) (answer_of Malformed)

-- what the reader makes of a text: its answer (Texts)
abbrev pub answer : List ℕ → List ℕ
answer s = answered (feed_all start_of s)
