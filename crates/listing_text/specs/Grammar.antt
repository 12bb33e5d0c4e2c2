-- The text that the listing program reads. A float is known here by its bits. Assumes nothing.
use Rattle.std.specs.Prelude.{◌≡◌, ◌⊎◌, List, [], ◌∷◌, ◌++◌, map, Bool, ℕ, length}
use Rattle.text.specs.Bytes.{bytes}
use Rattle.text.specs.Numerals.{hex, decimal, Word}
use Rattle.text.specs.Lines.{line, flag_field}

pub record Grain : Type 0 where
  pub x : ℕ
  pub y : ℕ
  pub vx : ℕ
  pub vy : ℕ
  pub val : ℕ
  pub rad : ℕ

-- its numbers, in the order of the columns, and their names
abbrev pub columns_of : Grain → List ℕ
columns_of g = g.x ∷ g.y ∷ g.vx ∷ g.vy ∷ g.val ∷ g.rad ∷ []

abbrev pub column_names : List ℕ
column_names = bytes "x,y,vx,vy,val,rad\r\n"

pub record Input : Type 0 where
  pub l0 : ℕ
  pub l1 : ℕ
  pub p0 : Bool
  pub p1 : Bool
  pub rate : ℕ
  pub grains : List Grain

abbrev pub box_line : Input → List ℕ
box_line i = line (hex i.l0 ∷ hex i.l1 ∷ flag_field i.p0 ∷ flag_field i.p1 ∷ hex i.rate ∷ decimal (length i.grains) ∷ [])

abbrev pub grain_line : Grain → List ℕ
grain_line g = line (map hex (columns_of g))

abbrev pub grain_lines : List Grain → List ℕ
grain_lines [] = []
grain_lines (g ∷ gs) = grain_line g ++ grain_lines gs

-- the text of an input, its last line ended
abbrev pub text_of : Input → List ℕ
text_of i = bytes "l0,l1,p0,p1,rate,n\r\n" ++ (box_line i ++ (column_names ++ grain_lines i.grains))

-- s is a text of the input: the CR LF of the last line may be missing
abbrev pub Text : List ℕ → Input → Type 0
Text s i = (s ≡ text_of i) ⊎ (s ++ bytes "\r\n" ≡ text_of i)

-- all numbers are of 64 bits
abbrev pub EachWord : List ℕ → Type 0
EachWord [] = Unit {0}
EachWord (v ∷ l) = Word v × EachWord l

abbrev pub AllWords : List Grain → Type 0
AllWords [] = Unit {0}
AllWords (g ∷ gs) = EachWord (columns_of g) × AllWords gs

pub record Words (i : Input) : Type 0 where
  pub l0_word : Word i.l0
  pub l1_word : Word i.l1
  pub rate_word : Word i.rate
  pub grain_words : AllWords i.grains
