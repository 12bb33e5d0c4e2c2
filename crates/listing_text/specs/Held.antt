-- What the reader holds after a text: the box's numbers, the last grain's, and the rows of those that are kept. Assumes nothing.
use Rattle.std.specs.Prelude.{List, [], ◌∷◌, ◌++◌, Some, ℕ, ◌+◌, ◌-◌, length, replicate}
use Rattle.text.specs.Letters.{numbers_held}
use Rattle.text.specs.Lines.{bit_of}
use Rattle.listing_text.specs.declared.reader.Reader.{Reader}
use Rattle.listing_text.specs.Columns.{columns, most_kept, box_numbers}
use Rattle.listing_text.specs.Grammar.{Grain, Input, columns_of}
use Rattle.listing_text.specs.Rows.{no_grain, grain_rows}
use Rattle.listing_text.specs.Reading.{line_at}

-- the last one, or g where there is none
abbrev pub last_grain : Grain → List Grain → Grain
last_grain g [] = g
last_grain g (h ∷ gs) = last_grain h gs

-- the numbers that the plan names, and zeros for those that it does not
abbrev pub numbers_of : Input → Grain → List ℕ
numbers_of i g = i.l0 ∷ i.l1 ∷ bit_of i.p0 ∷ bit_of i.p1 ∷ i.rate ∷ (columns_of g ++ replicate (numbers_held - (box_numbers + columns)) 0)

abbrev pub reader_of : Input → Reader
reader_of i = record { text = record { at = Some line_at; n = length i.grains; seen = length i.grains; numbers = numbers_of i (last_grain no_grain i.grains) }; grains = grain_rows most_kept i.grains }
