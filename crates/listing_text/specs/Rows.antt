-- Grains as rows of their numbers, one row after the other in one list. Assumes nothing.
use Rattle.std.specs.Prelude.{List, [], ◌∷◌, ◌++◌, cond, ℕ, zero, suc, ◌*◌, ltb, drop, get_or}
use Rattle.listing_text.specs.Columns.{columns, most_kept}
use Rattle.listing_text.specs.Grammar.{Grain, columns_of}
use Rattle.listing_text.specs.Answers.{listing_of}

-- the grain whose numbers come first in a list, zeros for those that it lacks
abbrev pub first_grain : List ℕ → Grain
first_grain l = record { x = get_or l 0 0; y = get_or l 1 0; vx = get_or l 2 0; vy = get_or l 3 0; val = get_or l 4 0; rad = get_or l 5 0 }

abbrev pub no_grain : Grain
no_grain = first_grain []

-- k rows: the grains' numbers, as far as they go, then zeros
abbrev pub grain_rows : ℕ → List Grain → List ℕ
grain_rows zero gs = []
grain_rows (suc k) [] = columns_of no_grain ++ grain_rows k []
grain_rows (suc k) (g ∷ gs) = columns_of g ++ grain_rows k gs

-- the grain whose numbers stand in row i
abbrev pub row_grain : List ℕ → ℕ → Grain
row_grain l i = first_grain (drop (i * columns) l)

-- k grains from row i on
abbrev pub grains_from : List ℕ → ℕ → ℕ → List Grain
grains_from l i zero = []
grains_from l i (suc k) = row_grain l i ∷ grains_from l (suc i) k

-- the listing of the first n rows; nothing for more rows than are kept
abbrev pub rows_listing : ℕ → ℕ → List ℕ → List ℕ
rows_listing time n l = cond (ltb most_kept n) [] (listing_of time (grains_from l 0 n))
