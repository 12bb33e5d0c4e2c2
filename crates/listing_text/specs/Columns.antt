-- How many numbers a grain has, how many grains are kept, and how wide lines are. Assumes nothing.
use Rattle.std.specs.Prelude.{ℕ, ◌+◌, ◌*◌}
use Rattle.text.specs.Lines.{field_wide}

-- a grain's numbers
abbrev pub columns : ℕ
columns = 6

-- the grains that are kept, and their numbers
abbrev pub most_kept : ℕ
most_kept = 32

abbrev pub kept : ℕ
kept = most_kept * columns

-- the numbers of the box's line; those of a grain's come behind them
abbrev pub box_numbers : ℕ
box_numbers = 5

-- a grain's line, with its LF
abbrev pub grain_line_wide : ℕ
grain_line_wide = columns * field_wide + 1

-- the listing's line of a grain: the time, an index of three digits at most, and a comma come before
abbrev pub listing_line_wide : ℕ
listing_line_wide = field_wide + 4 + grain_line_wide
