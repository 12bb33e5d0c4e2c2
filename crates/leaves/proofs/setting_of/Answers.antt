use Rattle.std.proofs.Common.{ap, not}
use Rattle.cell.proofs.Laws.{is_cell}
use Rattle.leaves.proofs.Laws.{narrow, in_box}
use Rattle.leaves.proofs.setting_of.Goals as goal

pub cells-cells-requires : goal.cells-cells-requires
cells-cells-requires c = narrow _ _ _ c.box_ok.ensures (ap not c.if-not-box_ok.false) c.new-grid.ensures

pub new-requires : goal.new-requires
new-requires c = in_box _ _ _ _ _ c.box_ok.ensures (ap not c.if-not-box_ok.false) c.new-grid.ensures c.cells-cells.ensures c.if-index-cells.false

pub invariant_of-result : goal.invariant_of-result
invariant_of-result c = record { of_box = is_cell _ _ _ c.new.ensures }
