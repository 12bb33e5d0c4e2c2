-- What a plan shows: a text as a row of pieces, and the numbers that it spells. Assumes nothing.
use Rattle.std.specs.Prelude.{◌≡◌, ◌⊎◌, List, [], ◌∷◌, ◌++◌, Bool, true, false, ◌&&◌, cond, Some, ℕ, ◌+◌, T, ltb, eqb, length, set, replicate}
use Rattle.text.specs.declared.reader.Reader.{Reader}
use Rattle.text.specs.Letters.{numbers_held, hex_letter, flag_letter, letters_end}
use Rattle.text.specs.Bytes.{bytes}
use Rattle.text.specs.Numerals.{hex, decimal, Word}
use Rattle.text.specs.Lines.{flag_field, bit_of}

-- a byte that stands for itself, the sixteen digits of number j, a flag that is number j, or n and the CR after it
pub data Piece : Type 0 where
  mark : ℕ → Piece
  number : ℕ → Piece
  flagged : ℕ → Piece
  count : Piece

-- bytes that stand for themselves, and what follows
abbrev pub marks : List ℕ → List Piece → List Piece
marks [] ps = ps
marks (c ∷ cs) ps = mark c ∷ marks cs ps

-- how a plan shows pieces
abbrev pub shown : List Piece → List ℕ
shown [] = []
shown (mark c ∷ ps) = c ∷ shown ps
shown (number j ∷ ps) = replicate 16 (hex_letter + j) ++ shown ps
shown (flagged j ∷ ps) = (flag_letter + j) ∷ shown ps
shown (count ∷ ps) = 35 ∷ 43 ∷ shown ps

-- what pieces stand for: numbers and n of 64 bits, and flags
abbrev pub Values : List Piece → Type 0
Values [] = Unit {0}
Values (mark c ∷ ps) = Values ps
Values (number j ∷ ps) = (v : ℕ) × Word v × Values ps
Values (flagged j ∷ ps) = Bool × Values ps
Values (count ∷ ps) = (n : ℕ) × Word n × Values ps

-- their text
abbrev pub spelled : (ps : List Piece) → Values ps → List ℕ
spelled [] w = []
spelled (mark c ∷ ps) w = c ∷ spelled ps w
spelled (number j ∷ ps) w = hex w.0 ++ spelled ps w.2
spelled (flagged j ∷ ps) w = flag_field w.0 ++ spelled ps w.1
spelled (count ∷ ps) w = decimal w.0 ++ (13 ∷ spelled ps w.2)

-- the numbers after them, and n
abbrev pub loaded : (ps : List Piece) → Values ps → List ℕ → List ℕ
loaded [] w g = g
loaded (mark c ∷ ps) w g = loaded ps w g
loaded (number j ∷ ps) w g = loaded ps w.2 (set g j w.0)
loaded (flagged j ∷ ps) w g = loaded ps w.1 (set g j (bit_of w.0))
loaded (count ∷ ps) w g = loaded ps w.2 g

abbrev pub count_read : (ps : List Piece) → Values ps → ℕ → ℕ
count_read [] w n = n
count_read (mark c ∷ ps) w n = count_read ps w n
count_read (number j ∷ ps) w n = count_read ps w.2 n
count_read (flagged j ∷ ps) w n = count_read ps w.1 n
count_read (count ∷ ps) w n = count_read ps w.2 w.0

-- a byte that is none of the plan's letters
abbrev pub plain : ℕ → Bool
plain c = cond (eqb c 35) false (cond (eqb c 43) false (cond (ltb c hex_letter) true (cond (ltb c flag_letter) false (cond (ltb c letters_end) false true))))

-- pieces of such bytes and of the numbers that a reader holds; those of a line have no n
abbrev pub fair : List Piece → Bool
fair [] = true
fair (mark c ∷ ps) = plain c && fair ps
fair (number j ∷ ps) = ltb j numbers_held && fair ps
fair (flagged j ∷ ps) = ltb j numbers_held && fair ps
fair (count ∷ ps) = fair ps

abbrev pub uncounted : List Piece → Bool
uncounted [] = true
uncounted (mark c ∷ ps) = uncounted ps
uncounted (number j ∷ ps) = uncounted ps
uncounted (flagged j ∷ ps) = uncounted ps
uncounted (count ∷ ps) = false

-- a plan: what comes first, and from `line` on the line that is repeated, the last byte of which is apart
pub record Form (plan : List ℕ) (line : ℕ) : Type 0 where
  pub head : List Piece
  pub row : List Piece
  pub end : ℕ
  pub shows : plan ≡ shown head ++ (shown row ++ (end ∷ []))
  pub begins : line ≡ length (shown head)
  pub head_fair : T (fair head)
  pub row_fair : T (fair row)
  pub row_uncounted : T (uncounted row)
  pub end_plain : T (plain end)
  pub short : Word (length plan)

module _ {plan : List ℕ} {line : ℕ} (f : Form plan line) where
  -- lines, one after the other
  abbrev pub spelled_rows : List (Values f.row) → List ℕ
  spelled_rows [] = []
  spelled_rows (w ∷ ws) = spelled f.row w ++ (f.end ∷ spelled_rows ws)

  abbrev pub loaded_rows : List (Values f.row) → List ℕ → List ℕ
  loaded_rows [] g = g
  loaded_rows (w ∷ ws) g = loaded_rows ws (loaded f.row w g)

  -- a text that the plan shows, its last line ended
  abbrev pub spelled_text : Values f.head → List (Values f.row) → List ℕ
  spelled_text w ws = spelled f.head w ++ spelled_rows ws

  -- s is such a text, of as many lines as it says: the CR LF of the last may be missing
  abbrev pub Spells : List ℕ → Values f.head → List (Values f.row) → Type 0
  Spells s w ws = (count_read f.head w 0 ≡ length ws) × ((s ≡ spelled_text w ws) ⊎ (s ++ bytes "\r\n" ≡ spelled_text w ws))

  -- what the reader holds after it
  abbrev pub held_of : Values f.head → List (Values f.row) → Reader
  held_of w ws = record { at = Some line; n = length ws; seen = length ws; numbers = loaded_rows ws (loaded f.head w (replicate numbers_held 0)) }
