-- How many numbers a text can name, and the plan's letters for them. Assumes nothing.
use Rattle.std.specs.Prelude.{ℕ, ◌+◌}

abbrev pub numbers_held : ℕ
numbers_held = 13

-- from A on one for a hexadecimal digit of each number, behind those one for a flag among them
abbrev pub hex_letter : ℕ
hex_letter = 65

abbrev pub flag_letter : ℕ
flag_letter = hex_letter + numbers_held

abbrev pub letters_end : ℕ
letters_end = flag_letter + numbers_held
