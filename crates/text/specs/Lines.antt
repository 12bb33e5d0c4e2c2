-- Fields and lines. Assumes nothing.
use Rattle.std.specs.Prelude.{List, [], ◌∷◌, ◌++◌, Bool, true, false, ℕ}
use Rattle.text.specs.Bytes.{bytes}

-- fields with commas between them, ended by CR LF
abbrev pub line : List (List ℕ) → List ℕ
line [] = bytes "\r\n"
line (f ∷ []) = f ++ bytes "\r\n"
line (f ∷ g ∷ fs) = f ++ (bytes "," ++ line (g ∷ fs))

-- how wide a number's field is, with the byte behind it
abbrev pub field_wide : ℕ
field_wide = 17

-- a flag, as a field and as a number
abbrev pub flag_field : Bool → List ℕ
flag_field false = bytes "0"
flag_field true = bytes "1"

abbrev pub bit_of : Bool → ℕ
bit_of false = 0
bit_of true = 1
