-- 01, "Grid (cell.rs)": the cells of a box, their indices, bounds, neighbours and positions, all from the box and the cell's index.
-- A direction is 0 or 1. Assumes nothing: these are definitions.
use Rattle.std.specs.Prelude.{ℕ, zero, suc, ◌+◌, ◌-◌, ◌*◌, ◌/◌, ◌%◌, max, Bool, true, false, cond, eqb, pos, Float}
use Rattle.std.specs.Float.{binary64}
use Rattle.std.specs.Float.Ieee.{mul, div, of_int, to_unsigned}
use Rattle.myvec.specs.declared.MyVec.{MyVec}
use Rattle.myvec.specs.Vec.{along}
use Rattle.model.specs.declared.Domain.{Domain}
use Rattle.model.specs.declared.CellPosition.{CellPosition}
use Rattle.model.specs.declared.CellPosition.TheVariants.{NegativeEdge, Centre, PositiveEdge}
use Rattle.model.specs.Constants.{cell_size, fewest_across}

abbrev pub box_of : MyVec → Bool → Bool → Domain
box_of l p0 p1 = record { lengths = l; periodic0 = p0; periodic1 = p1 }

abbrev pub length_of : ℕ → Domain → Float
length_of d b = along d b.lengths

abbrev pub periodic : ℕ → Domain → Bool
periodic zero b = b.periodic0
periodic (suc d) b = b.periodic1

-- cells per direction: the larger of 3 and length / 3 (the cell size) cut to a whole number
abbrev pub cells_of : Float → ℕ
cells_of length = max fewest_across (to_unsigned 64 (div binary64 length cell_size))

unfoldable pub across : ℕ → Domain → ℕ
across d b = cells_of (length_of d b)

abbrev pub cells : Domain → ℕ
cells b = across 0 b * across 1 b

-- index = i0 + n0 * i1, and its parts
abbrev pub cell_at : Domain → ℕ → ℕ → ℕ
cell_at b i0 i1 = i0 + across 0 b * i1

abbrev pub index : ℕ → Domain → ℕ → ℕ
index zero b c = c % across 0 b
index (suc d) b c = c / across 0 b

-- bounds: (length / n) * i and (length / n) * (i + 1)
abbrev pub edge : ℕ → Domain → ℕ → Float
edge d b i = mul binary64 (div binary64 (length_of d b) (of_int binary64 (pos (across d b)))) (of_int binary64 (pos i))

abbrev pub low : ℕ → Domain → ℕ → Float
low d b c = edge d b (index d b c)

abbrev pub high : ℕ → Domain → ℕ → Float
high d b c = edge d b (index d b c + 1)

-- the cell k on from c, and the neighbours, which wrap at both edges
abbrev pub cell_on : ℕ → Domain → ℕ → ℕ → ℕ
cell_on zero b c k = cell_at b ((index 0 b c + k) % across 0 b) (index 1 b c)
cell_on (suc d) b c k = cell_at b (index 0 b c) ((index 1 b c + k) % across 1 b)

abbrev pub below : ℕ → Domain → ℕ → ℕ
below d b c = cell_on d b c (across d b - 1)

abbrev pub above : ℕ → Domain → ℕ → ℕ
above d b c = cell_on d b c 1

-- position: NegativeEdge at 0, PositiveEdge at n - 1, else Centre
unfoldable pub position : ℕ → Domain → ℕ → CellPosition
position d b c = cond (eqb (index d b c) 0) NegativeEdge (cond (eqb (index d b c) (across d b - 1)) PositiveEdge Centre)

abbrev pub is_low : CellPosition → Bool
is_low NegativeEdge = true
is_low Centre = false
is_low PositiveEdge = false

abbrev pub is_high : CellPosition → Bool
is_high NegativeEdge = false
is_high Centre = false
is_high PositiveEdge = true
