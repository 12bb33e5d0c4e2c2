-- What the benchmark's call answers. Assumes nothing: these are definitions.
use Rattle.std.specs.Prelude.{ℕ, Bool, cond, ◌&&◌, List, length, eqb, leb, ltb, Float, Some, None}
use Rattle.layout.specs.Widths.{order_wide}
use Rattle.scheduler.specs.Head.{Head}
use Rattle.scheduler.specs.Heap.{updated, update_swaps}
use Rattle.model.specs.Sizes.{most_room, most_cells}
use Rattle.tables.specs.Layout.{order_bytes}
use Rattle.tables.specs.Decode.{scheduler_of}

-- the heap's table has its length; no more cells, and events of a cell, than there may be; and the cell's number is one of so many
abbrev pub in_range : ℕ → ℕ → ℕ → ℕ → Bool
in_range order cells room cell = eqb order order_wide && (leb cells most_cells && (leb room most_room && ltb cell most_cells))

abbrev pub head_given : Bool → Float → Head
head_given empty time = cond empty None (Some time)

-- the table afterwards, and the swaps: 256 is told, and nothing changed, where an argument is out of range
abbrev pub order_after : (ℕ → Head) → List ℕ → ℕ → ℕ → ℕ → Head → List ℕ
order_after h order cells room cell before = cond (in_range (length order) cells room cell) (order_bytes (updated h (scheduler_of cells order) cell before (h cell))) order

abbrev pub swaps_told : (ℕ → Head) → List ℕ → ℕ → ℕ → ℕ → Head → ℕ
swaps_told h order cells room cell before = cond (in_range (length order) cells room cell) (update_swaps h (scheduler_of cells order) cell before (h cell)) 256
