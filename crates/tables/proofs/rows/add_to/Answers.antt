use lib.ListN.{length-set}
use Rattle.tables.proofs.RowLaws.{row_more, row_added}
use native.Mathlib.Omega.{arith}
use Rattle.tables.proofs.rows.add_to.Goals as goal

pub bounds-row-0 : goal.bounds-row-0
bounds-row-0 c = let c = c.before in omega (arith, row_more c.requires.0 c.requires.1 c.requires.2)

pub overflow_add-row : goal.overflow_add-row
overflow_add-row c = let c = c.before in omega (arith, row_more c.requires.0 c.requires.1 c.requires.2)

pub offset_bounds-row-n : goal.offset_bounds-row-n
offset_bounds-row-n c = let c = c.before in omega (arith, row_more c.requires.0 c.requires.1 c.requires.2)

pub bounds-row-n : goal.bounds-row-n
bounds-row-n c = let c = c.before in omega (arith, row_more c.requires.0 c.requires.1 c.requires.2)

pub overflow_add-row-2 : goal.overflow_add-row-2
overflow_add-row-2 c = let c = c.before in omega (arith, row_more c.requires.0 c.requires.1 c.requires.2)

pub bounds-row-0-2 : goal.bounds-row-0-2
bounds-row-0-2 c = let c = c.before in simp length-set (omega (arith, row_more c.requires.0 c.requires.1 c.requires.2))

pub returns : goal.returns
returns c = let c = c.before in row_added c.args.x (row_more c.requires.0 c.requires.1 c.requires.2)
