-- What the sizes, the box and the grid of a world are to each other. Assumes nothing: this is a definition.
use Rattle.std.specs.Prelude.{◌≡◌}
use Rattle.cell.specs.declared.Grid.{Grid}
use Rattle.cell.specs.Cell.{Laid}
use Rattle.model.specs.declared.Domain.{Domain}
use Rattle.model.specs.Grid.{cells}
use Rattle.tables.specs.declared.Sizes.{Sizes}

-- the box is in range, the grid and the number of cells are the box's
pub record Placed (z : Sizes) (b : Domain) (m : Grid) : Type 0 where
  pub laid : Laid b m
  pub cells_are : cells b ≡ z.cells
