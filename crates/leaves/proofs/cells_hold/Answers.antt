use Rattle.std.proofs.Common.{ap, not, arith}
use Rattle.leaves.proofs.Laws.{narrow}
use Rattle.leaves.proofs.cells_hold.Goals as goal

pub touched-x-requires : goal.touched-x-requires
touched-x-requires c = omega (arith, (narrow _ _ _ c.box_ok.ensures (ap not c.if-not-box_ok.false) c.new-grid.ensures).0)

pub touched-y-requires : goal.touched-y-requires
touched-y-requires c = omega (arith, (narrow _ _ _ c.box_ok.ensures (ap not c.if-not-box_ok.false) c.new-grid.ensures).1)

pub same_cells-requires-clause-small_x : goal.same_cells-requires-clause-small_x
same_cells-requires-clause-small_x c = c.small.ensures c.if-not-small.false

pub same_cells-requires-clause-small_y : goal.same_cells-requires-clause-small_y
same_cells-requires-clause-small_y c = c.small-else-not-small.ensures c.if-not-small-2.false

pub same_cells-requires-clause-across : goal.same_cells-requires-clause-across
same_cells-requires-clause-across c = (narrow _ _ _ c.box_ok.ensures (ap not c.if-not-box_ok.false) c.new-grid.ensures).0
