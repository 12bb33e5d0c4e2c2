-- What the leaves on rows of numbers ask and answer. Assumes nothing: these are definitions.
use Rattle.std.specs.Prelude.{ℕ, ◌≡◌, List, get_or}
use Rattle.layout.specs.Widths.{count_at}
use Rattle.model.specs.State.{Row}
use Rattle.tables.specs.Layout.{row_nums}

-- the numbers are those of some row of this kind
abbrev pub InNums : List ℕ → (Row ℕ → Type 0) → Type 0
InNums l P = (r : Row ℕ) × (l ≡ row_nums r) × P r

-- a row's count, its first number
abbrev pub count_in : List ℕ → ℕ
count_in l = get_or l count_at 0
