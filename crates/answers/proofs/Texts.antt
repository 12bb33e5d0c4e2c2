-- What the reader makes of a text of the form is the answer to its numbers (`answer_text`), and of any other text `malformed` (`answer_malformed`). So every text has an
-- answer (`the_answer`), and only one (`one_answer`). Assumes nothing.
use Prim.Native.Nat.{ℕ, ◌<◌}
use mathlib.Core.Path.{◌≡◌, refl, sym, ap, ◌∙◌, subst}
use mathlib.Core.List.{List, map}
use mathlib.Core.Bool.{Bool, true, false, ◌||◌, cond, true≢false}
use lib.Dec.{ltb}
use lib.ListN.{length}
use borrow.Author.Tests.{lt-ltb, ltb-true, ltb-false}
use Rattle.model.specs.Start.{start}
use Rattle.listing_text.specs.declared.writer.Answer.TheVariants.{Malformed, TooLarge}
use Rattle.text.specs.Numerals.{Word}
use Rattle.text.specs.Lines.{bit_of}
use Rattle.listing_text.specs.declared.reader.Reader.{Reader}
use Rattle.listing_text.specs.Grammar.{Grain, Input, Text, Words}
use Rattle.listing_text.specs.Columns.{most_kept}
use Rattle.listing_text.specs.Held.{reader_of}
use Rattle.listing_text.specs.Rows.{grain_rows, grains_from}
use Rattle.listing_text.specs.Reading.{start_of, feed_all, closed_of, fine_of}
use Rattle.listing_text.specs.Answers.{answer_of}
use Rattle.listing_text.specs.Size.{long_length}
use Rattle.listing_text.proofs.Rows.{rows_back}
use Rattle.listing_text.proofs.Forward.{read_fine, text_accepted}
use Rattle.listing_text.proofs.Backward.{accepted_text}
use Rattle.answers.specs.Answer.{float, box_from, grain_from, room, after_start, answer_to, Formed, Answers}
use Rattle.tables.specs.Decode.{is_set}
use Rattle.answers.specs.Read.{Fed, OfAnswer, input_of, answered, answer}
use Rattle.answers.proofs.Served.{counted}

flag_back : (b : Bool) → is_set (bit_of b) ≡ b
flag_back true = refl
flag_back false = refl

-- the input that was read, but for grains past those that are kept
abbrev again : Input → Input
again i = record { l0 = i.l0; l1 = i.l1; p0 = i.p0; p1 = i.p1; rate = i.rate; grains = grains_from (grain_rows most_kept i.grains) 0 (length i.grains) }

read_again : (i : Input) → input_of (reader_of i) ≡ again i
read_again i = λ t. record { l0 = i.l0; l1 = i.l1; p0 = flag_back i.p0 t; p1 = flag_back i.p1 t; rate = i.rate; grains = grains_from (grain_rows most_kept i.grains) 0 (length i.grains) }

-- with more of them both are too large
large : (i : Input) → most_kept < length i.grains → answer_to i ≡ answer_of TooLarge
unfolding answer_to
large i h = ap (λ (x : Bool). cond (x || (long_length (float i.l0) || long_length (float i.l1))) (answer_of TooLarge) (after_start (float i.rate) (start (box_from i) room (map grain_from i.grains)))) (lt-ltb most_kept (length i.grains) h)

answer_again : (i : Input) → answer_to (again i) ≡ answer_to i
answer_again i = by (ltb most_kept (length i.grains)) refl
  where
    by : (x : Bool) → ltb most_kept (length i.grains) ≡ x → answer_to (again i) ≡ answer_to i
    by true e =
        let h = ltb-true most_kept (length i.grains) e in
        large (again i) (subst (λ (n : ℕ). most_kept < n) (sym (counted (length i.grains) 0 (grain_rows most_kept i.grains))) h) ∙ sym (large i h)
    by false e = ap (λ (gs : List Grain). answer_to (record { l0 = i.l0; l1 = i.l1; p0 = i.p0; p1 = i.p1; rate = i.rate; grains = gs })) (rows_back most_kept i.grains (ltb-false most_kept (length i.grains) e))

-- ---- a text of the form, with fewer than 2 ^ 64 grains
pub answer_text : (s : List ℕ) (i : Input) → Words i → Word (length i.grains) → Text s i → answer s ≡ answer_to i
unfolding answered
answer_text s i w n t =
    let e = text_accepted s i w n t in
    ap (λ (x : Bool). cond x (answer_to (input_of (closed_of (feed_all start_of s)))) (answer_of Malformed)) (ap fine_of e ∙ read_fine i)
    ∙ ap (λ r. answer_to (input_of r)) e ∙ ap answer_to (read_again i) ∙ answer_again i

-- ---- whether a text is of the form, as the reader finds
abbrev fine : List ℕ → Bool
fine s = fine_of (closed_of (feed_all start_of s))

fine_formed : (s : List ℕ) → fine s ≡ true → (i : Input) × Formed s i
fine_formed s e = let a = accepted_text s e in (a.input, record { is_text = a.is_text; words = a.input_words; countable = a.countable })

formed_fine : (s : List ℕ) (i : Input) → Formed s i → fine s ≡ true
formed_fine s i f = ap fine_of (text_accepted s i f.words f.countable f.is_text) ∙ read_fine i

-- ---- any other
unformed : (s : List ℕ) → ((i : Input) → Formed s i → ⊥) → answer s ≡ answer_of Malformed
unfolding answered
unformed s none = by (fine s) refl
  where
    by : (x : Bool) → fine s ≡ x → cond (fine s) (answer_to (input_of (closed_of (feed_all start_of s)))) (answer_of Malformed) ≡ answer_of Malformed
    by true e = let (i, f) = fine_formed s e in absurd (none i f)
    by false e = rw e

pub answer_malformed : (s : List ℕ) → ((i : Input) → Words i → Text s i → ⊥) → answer s ≡ answer_of Malformed
answer_malformed s none = unformed s (λ (i : Input) (f : Formed s i). none i f.words f.is_text)

-- ---- EVERY TEXT HAS AN ANSWER, the one that the reader finds, AND ONLY ONE
pub the_answer : (s : List ℕ) → Answers s (answer s)
the_answer s = record { formed = λ (i : Input) (f : Formed s i). answer_text s i f.words f.countable f.is_text; malformed = unformed s }

pub one_answer : (s a b : List ℕ) → Answers s a → Answers s b → a ≡ b
one_answer s a b p q = by (fine s) refl
  where
    by : (x : Bool) → fine s ≡ x → a ≡ b
    by true e = let (i, f) = fine_formed s e in p.formed i f ∙ sym (q.formed i f)
    by false e =
        let none : (i : Input) → Formed s i → ⊥ = λ (i : Input) (f : Formed s i). true≢false (sym (formed_fine s i f) ∙ e) in
        p.malformed none ∙ sym (q.malformed none)

-- the answer to the text of an input
pub answer_input : (s : List ℕ) (i : Input) → Formed s i → Answers s (answer_to i)
answer_input s i f = subst (Answers s) (answer_text s i f.words f.countable f.is_text) (the_answer s)

-- what is so of what a reader answers is so of the answer to the text that it was fed
pub of_answer : (r : Reader) (P : List ℕ → Type 0) → P (answered r) → OfAnswer r P
of_answer r P p = λ (s a : List ℕ) (e : Fed s r) (k : Answers s a). subst P (ap answered e ∙ one_answer s (answer s) a (the_answer s) k) p
