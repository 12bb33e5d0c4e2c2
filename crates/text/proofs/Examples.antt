-- Another plan, read by the same turns: a number and n, and n lines of a flag. Assumes nothing.
use mathlib.Core.Path.{◌≡◌, refl}
use mathlib.Core.List.{List, [], ◌∷◌}
use mathlib.Core.Bool.{true, false}
use Prim.Native.Nat.{ℕ, ◌-◌}
use lib.Dec.{lit<}
use lib.ListN.{replicate}
use Rattle.std.specs.Prelude.{Some}
use Rattle.text.specs.declared.reader.Reader.{Reader}
use Rattle.text.specs.Letters.{numbers_held}
use Rattle.text.specs.Bytes.{bytes}
use Rattle.text.specs.Numerals.{decimal}
use Rattle.text.specs.Reading.{start_of, stepped_of, hexed_of, flagged_of, matched_of, counted_of, first_of, more_of, wanted_of, feed_of, feed_all, closed_of, fine_of}
use Rattle.text.specs.Plan.{mark, number, flagged, count, marks, Form, spelled_text}
use Rattle.text.proofs.Backward.{Accepted, accepted_text}

abbrev plan : List ℕ
plan = bytes "v,n\r\nAAAAAAAAAAAAAAAA,#+\nO\r\n"

abbrev line : ℕ
line = 25

abbrev form : Form plan line
form = record {
  head = marks (bytes "v,n\r\n") (number 0 ∷ mark 44 ∷ count ∷ mark 10 ∷ []);
  row = flagged 1 ∷ mark 13 ∷ [];
  end = 10;
  shows = refl;
  begins = refl;
  head_fair = tt;
  row_fair = tt;
  row_uncounted = tt;
  end_plain = tt;
  short = lit< tt;
}

-- 7, and two flags
abbrev example : List ℕ
example = bytes "v,n\r\n0000000000000007,2\r\n0\r\n1\r\n"

example_spelled : spelled_text form (7, lit< tt, (2, lit< tt, tt)) ((false, tt) ∷ (true, tt) ∷ []) ≡ example
unfolding decimal
example_spelled = refl

read : List ℕ → Reader
read s = closed_of plan line (feed_all plan line start_of s)

example_read : read example ≡ record { at = Some line; n = 2; seen = 2; numbers = 7 ∷ 1 ∷ replicate (numbers_held - 2) 0 }
unfolding stepped_of hexed_of flagged_of matched_of counted_of first_of more_of wanted_of feed_of read
example_read = refl

-- a line too many, a flag that is none
others_refused : (fine_of line (read (bytes "v,n\r\n0000000000000007,1\r\n0\r\n1\r\n")) ≡ false) × (fine_of line (read (bytes "v,n\r\n0000000000000007,1\r\n2\r\n")) ≡ false)
unfolding stepped_of hexed_of flagged_of matched_of counted_of first_of more_of wanted_of feed_of read
others_refused = (refl, refl)

-- what is accepted is a text of this plan
accepted_here : (s : List ℕ) → fine_of line (closed_of plan line (feed_all plan line start_of s)) ≡ true → Accepted form s
accepted_here s e = accepted_text form s e
