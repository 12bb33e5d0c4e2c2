-- The reader's turns: `feed_all start_of s` is what it makes of the bytes s, by the plan of the listing's text. Assumes nothing.
use Rattle.std.specs.Prelude.{List, [], ◌∷◌, ◌++◌, Bool, cond, ℕ, zero, suc, ◌*◌, ltb, length, take, drop, replicate}
use Rattle.text.specs.Bytes.{bytes}
use Rattle.text.specs.declared.reader.Reader.{Reader as Read}
use Rattle.text.specs.Reading as text
use Rattle.text.specs.Put.{laid}
use Rattle.text.specs.Plan.{Piece, mark, number, flagged, count, marks, shown}
use Rattle.listing_text.specs.declared.reader.Reader.{Reader}
use Rattle.listing_text.specs.Columns.{columns, most_kept, kept, box_numbers}
use Rattle.listing_text.specs.Grammar.{column_names}

-- the text up to the grains' lines, and such a line but for its LF
abbrev pub head_pieces : List Piece
head_pieces =
    marks (bytes "l0,l1,p0,p1,rate,n\r\n")
    (number 0 ∷ mark 44 ∷ number 1 ∷ mark 44 ∷ flagged 2 ∷ mark 44 ∷ flagged 3 ∷ mark 44 ∷ number 4 ∷ mark 44 ∷ count ∷ mark 10 ∷ marks column_names [])

-- the k numbers from j on, a comma behind each but the last
abbrev pub number_pieces : ℕ → ℕ → List Piece
number_pieces j zero = []
number_pieces j (suc zero) = number j ∷ mark 13 ∷ []
number_pieces j (suc (suc k)) = number j ∷ mark 44 ∷ number_pieces (suc j) (suc k)

abbrev pub line_pieces : List Piece
line_pieces = number_pieces box_numbers columns

-- the plan that shows them, and where it shows a grain's line
unfoldable pub plan : List ℕ
plan = shown head_pieces ++ (shown line_pieces ++ (10 ∷ []))

abbrev pub line_at : ℕ
line_at = length (shown head_pieces)

-- the place in the plan
abbrev pub plan_place : Reader → ℕ
plan_place r = text.place r.text

abbrev pub start_of : Reader
start_of = record { text = text.start_of; grains = replicate kept 0 }

-- a line's numbers, put into the rows from i on
abbrev pub row_set : List ℕ → ℕ → List ℕ → List ℕ
row_set l i g = laid i (take columns (drop box_numbers g)) l

abbrev pub kept_of : Reader → ℕ → Reader
kept_of r i = record { text = r.text; grains = row_set r.grains i r.text.numbers }

-- the rows after line k: the numbers of the first grains are kept
abbrev pub row_kept : ℕ → List ℕ → List ℕ → List ℕ
row_kept k g l = cond (ltb k most_kept) (row_set l (k * columns) g) l

-- the text was read on: at the end of a line its numbers are kept
abbrev pub took_of : Reader → Read → Reader
took_of r q = record { text = q; grains = cond (ltb r.text.seen q.seen) (row_kept r.text.seen q.numbers r.grains) r.grains }

-- one byte, and bytes one after the other
abbrev pub feed_of : Reader → ℕ → Reader
feed_of r b = took_of r (text.feed_of plan line_at r.text b)

abbrev pub feed_all : Reader → List ℕ → Reader
feed_all r s = text.fed_by feed_of r s

-- the text is over: a last line that lacks its CR LF is ended
abbrev pub closed_of : Reader → Reader
closed_of r = text.closed_by feed_of plan_place line_at r

-- n lines of grains were read, and no byte more
abbrev pub fine_of : Reader → Bool
fine_of r = text.fine_of line_at r.text
