-- Numbers as text: sixteen upper-case hexadecimal digits, or decimal digits without leading zeros. Assumes nothing.
use Rattle.std.specs.Prelude.{List, [], ◌∷◌, ◌++◌, true, false, cond, ℕ, zero, suc, ◌+◌, ◌-◌, ◌/◌, ◌%◌, ◌^◌, ◌<◌, ltb}

-- a digit's byte: `0` to `9`, `A` to `F`
abbrev pub glyph : ℕ → ℕ
glyph d = cond (ltb d 10) (48 + d) (55 + d)

-- the last k hexadecimal digits of v
abbrev pub spell : ℕ → ℕ → List ℕ
spell zero v = []
spell (suc k) v = glyph (v / 16 ^ k % 16) ∷ spell k v

-- the digits of 64 bits
abbrev pub hex : ℕ → List ℕ
hex v = spell 16 v

-- the decimal digits of v, which has at most k
abbrev pub decimals : ℕ → ℕ → List ℕ
decimals zero v = []
decimals (suc k) v = elim (ltb v 10) [ true ↦ (48 + v) ∷ [] | false ↦ decimals k (v / 10) ++ ((48 + v % 10) ∷ []) ]

-- the decimal digits of v, without leading zeros
unfoldable pub decimal : ℕ → List ℕ
decimal v = decimals (suc v) v

-- the value of a hexadecimal digit's byte, 16 for any other
abbrev pub hex_val : ℕ → ℕ
hex_val b = cond (ltb b 48) 16 (cond (ltb b 58) (b - 48) (cond (ltb b 65) 16 (cond (ltb b 71) (b - 55) 16)))

-- numbers of 64 bits
abbrev pub Word : ℕ → Type 0
Word v = v < 2 ^ 64
