-- What the check of a run answers, and what the type of its tables says. Assumes nothing: these are definitions.
use Rattle.std.specs.Prelude.{ℕ, ◌≡◌, List, T, get_or, Float}
use Rattle.std.specs.Float.{nan, binary64}
use Rattle.std.specs.Float.Ieee.{fits}
use Rattle.tables.specs.Decode.{Tables}
use Rattle.checks.specs.Check.{checked}

-- every float of a table is a 64-bit one
abbrev pub AllFit : List Float → Type 0
AllFit l = (i : ℕ) → T (fits binary64 (get_or l i nan))

-- what the type of the tables says
pub record Floats (t : Tables) : Type 0 where
  pub grains_fit : AllFit t.grains
  pub events_fit : AllFit t.events

-- what the check answers, and besides what the tables' type says
pub record Answered (rate : Float) (t : Tables) (r : ℕ) : Type 0 where
  pub is : r ≡ checked rate t
  pub floats : Floats t
