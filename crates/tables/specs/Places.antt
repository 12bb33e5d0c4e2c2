-- What the leaves on runs of places say to each other: where an event goes in, and what is left of a run when some of it goes. Assumes nothing: these are definitions.
use Rattle.std.specs.Prelude.{ℕ, ◌+◌, ◌≡◌, List, ◌∷◌, ◌++◌, length, Float}
use Rattle.model.specs.declared.Place.{Place}
use Rattle.model.specs.Events.{insert_by, keep_by}
use Rattle.tables.specs.Holds.{Run}

-- s goes in after the first r places
pub record Passed (s : Place) (live : List Place) (r : ℕ) : Type 0 where
  pub front : List Place
  pub back : List Place
  pub is : live ≡ front ++ back
  pub many : length front ≡ r
  pub goes : insert_by s live ≡ front ++ s ∷ back

-- of the first i places, the r that do not name g stand first; behind them are as many given up as are missing
pub record Keeping (g : ℕ) (live rest : List Place) (i r : ℕ) (nums : List ℕ) (reals : List Float) : Type 0 where
  pub front : List Place
  pub back : List Place
  pub given : List Place
  pub is : live ≡ front ++ back
  pub many : length front ≡ i
  pub kept_is : r ≡ length (keep_by g front)
  pub given_many : r + length given ≡ i
  pub holds : Run nums reals (keep_by g front ++ (given ++ (back ++ rest)))
