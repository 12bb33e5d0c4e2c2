-- The cells with some indices, where a row has n0 cells, and what entering them asks. Assumes nothing: these are definitions.
use Rattle.std.specs.Prelude.{ℕ, ◌+◌, ◌*◌, ◌<◌, List, [], ◌∷◌, ◌++◌, map}
use Rattle.halting.specs.Every.{All}
use Rattle.tables.specs.declared.Sizes.{Sizes}
use Rattle.tables.specs.Holds.{Ranged}
use Rattle.acts.specs.Tell.{Lists}

-- the cells of row j with the indices is, and of the rows js
abbrev pub row_cells : ℕ → List ℕ → ℕ → List ℕ
row_cells n0 is j = map (λ (i : ℕ). i + n0 * j) is

unfoldable pub grid_cells : ℕ → List ℕ → List ℕ → List ℕ
grid_cells n0 is [] = []
grid_cells n0 is (j ∷ js) = row_cells n0 is j ++ grid_cells n0 is js

-- the table holds lists, and the grain and the cells are among those that they are of
pub record Enters (z : Sizes) (l : List ℕ) (grain : ℕ) (cs : List ℕ) : Type 0 where
  pub lists : Lists z l
  pub ranged : Ranged z
  pub known : grain < z.grains
  pub below : All (λ (c : ℕ). c < z.cells) cs
