-- What the code holds of a box and of a cell, by the definitions of document 01: the cells across in each direction, and a cell's index with, in each
-- direction, its bounds, position and neighbours. Assumes nothing: these are definitions.
use Rattle.std.specs.Prelude.{◌≡◌, ℕ, zero, suc, ◌+◌, ◌-◌, ◌*◌, ◌/◌, ◌%◌, true, cond, pos, ◌==◌, Float}
use Rattle.std.specs.Float.{binary64}
use Rattle.std.specs.Float.Ieee.{mul, div, of_int}
use Rattle.model.specs.declared.Domain.{Domain}
use Rattle.model.specs.declared.CellPosition.{CellPosition}
use Rattle.model.specs.declared.CellPosition.TheVariants.{NegativeEdge, Centre, PositiveEdge}
use Rattle.model.specs.Sizes.{box_ok}
use Rattle.model.specs.Grid.{across, low, high, below, above, position}
use Rattle.cell.specs.declared.Grid.{Grid}
use Rattle.cell.specs.declared.CellAlong.{CellAlong}
use Rattle.cell.specs.declared.Cell.{Cell}

abbrev pub grid_of : Domain → Grid
grid_of b = record { n0 = across 0 b; n1 = across 1 b }

-- the box is in range, and the grid is the box's
pub record Laid (b : Domain) (g : Grid) : Type 0 where
  pub box : box_ok b ≡ true
  pub grid : g ≡ grid_of b

unfoldable pub cell_along : ℕ → Domain → ℕ → CellAlong
cell_along d b c = record { low = low d b c; high = high d b c; position = position d b c; below = below d b c; above = above d b c }

unfoldable pub cell_of : Domain → ℕ → Cell
cell_of b c = record { index = c; x = cell_along 0 b c; y = cell_along 1 b c }

abbrev pub IsCell : Domain → Cell → Type 0
IsCell b c = c ≡ cell_of b c.index

-- ---- of a grid alone: cells across in a direction, a cell's index there, and the cell beside it that has the index j there
abbrev pub across_in : Grid → ℕ → ℕ
across_in g zero = g.n0
across_in g (suc d) = g.n1

abbrev pub index_in : Grid → ℕ → ℕ → ℕ
index_in g zero c = c % g.n0
index_in g (suc d) c = c / g.n0

abbrev pub cell_in : Grid → ℕ → ℕ → ℕ
cell_in g i0 i1 = i0 + g.n0 * i1

abbrev pub beside_in : Grid → ℕ → ℕ → ℕ → ℕ
beside_in g zero c j = cell_in g j (c / g.n0)
beside_in g (suc d) c j = cell_in g (c % g.n0) j

-- the edge i of n cells in a length, and the position of the index i of n
abbrev pub edge_of : Float → ℕ → ℕ → Float
edge_of length n i = mul binary64 (div binary64 length (of_int binary64 (pos n))) (of_int binary64 (pos i))

abbrev pub position_of : ℕ → ℕ → CellPosition
position_of n i = cond (i == 0) NegativeEdge (cond (i == n - 1) PositiveEdge Centre)

-- what a cell is in a direction
abbrev pub along_in : Cell → ℕ → CellAlong
along_in c zero = c.x
along_in c (suc d) = c.y
