-- The lines that the listing program writes. A float is known here by its bits. Assumes nothing.
use Rattle.std.specs.Prelude.{List, [], ◌∷◌, ◌++◌, map, ℕ, suc}
use Rattle.text.specs.Bytes.{bytes}
use Rattle.text.specs.Numerals.{hex, decimal}
use Rattle.text.specs.Lines.{line}
use Rattle.listing_text.specs.declared.writer.Answer.{Answer}
use Rattle.listing_text.specs.declared.writer.Answer.TheVariants.{Malformed, TooLarge, Refused, Spent}
use Rattle.listing_text.specs.Grammar.{Grain, columns_of, column_names}

-- the line of the grain with the index k
abbrev pub listing_line : ℕ → ℕ → Grain → List ℕ
listing_line time k g = line (hex time ∷ decimal k ∷ map hex (columns_of g))

-- the lines of grains, the first of which has the index k
abbrev pub listing_lines : ℕ → ℕ → List Grain → List ℕ
listing_lines time k [] = []
listing_lines time k (g ∷ gs) = listing_line time k g ++ listing_lines time (suc k) gs

abbrev pub listing_of : ℕ → List Grain → List ℕ
listing_of time gs = bytes "time,index," ++ (column_names ++ listing_lines time 0 gs)

-- an answer of one line
abbrev pub answer_of : Answer → List ℕ
answer_of Malformed = bytes "malformed\r\n"
answer_of TooLarge = bytes "too large\r\n"
answer_of (Refused k) = line (bytes "refused" ∷ decimal k ∷ [])
answer_of Spent = bytes "spent\r\n"
