-- Bytes that are handed out by a row of writes. Assumes nothing: these are definitions.
use Rattle.std.specs.Prelude.{ℕ, ◌<◌, ◌≤◌, Bool, true, false, List, [], ◌∷◌, ◌++◌, length, take, IfSome, MatchOption}
use Rattle.std.specs.Io.KnownBytes.{Keeps, Appends}
use Rattle.std.specs.declared.option.Option.{Option}

-- how many of the first bytes of s a write took; nothing where it failed or took none
abbrev pub Took : List ℕ → Option ℕ → Type 0
Took s got = IfSome got (λ n. (0 < n) × (n ≤ length s))

-- what a writer held that took so many of s, and holds then, where that is known
abbrev pub Grown : Option (List ℕ) → Option (List ℕ) → List ℕ → Option ℕ → Type 0
Grown old new s got = MatchOption got (Keeps old new) (λ n. Appends old new (take n s))

-- the bytes that writes take, one after another, each of what those before it left: the last of them takes nothing, or fails, where something is left;
-- and whether all was taken
pub data Handed : List ℕ → List (List ℕ) → Bool → Type 0 where
  all : Handed [] [] true
  stopped : {s : List ℕ} → 0 < length s → Handed s ([] ∷ []) false
  part : {p s : List ℕ} {parts : List (List ℕ)} {r : Bool} → 0 < length p → Handed s parts r → Handed (p ++ s) (p ∷ parts) r

abbrev pub HandedOut : List ℕ → Bool → Type 0
HandedOut s r = (parts : List (List ℕ)) × Handed s parts r

-- the parts, one after another
abbrev pub together : List (List ℕ) → List ℕ
together [] = []
together (p ∷ parts) = p ++ together parts

-- and just the parts that were taken are what a writer holds more than it did, where that is known
abbrev pub WrittenOut : Option (List ℕ) → Option (List ℕ) → List ℕ → Bool → Type 0
WrittenOut old new s r = (parts : List (List ℕ)) × Handed s parts r × Appends old new (together parts)
