use Rattle.tables.proofs.RowLaws.{row_fits, row_some, row_has, row_dropped}
use lib.ListN.{length-take, length-drop}
use native.Mathlib.Omega.{arith}
use Rattle.tables.proofs.rows.drop_from.Goals as goal

pub bounds-row-0 : goal.bounds-row-0
bounds-row-0 c = omega (arith, row_fits c.requires.0 c.requires.1, row_some c.args.x c.requires.0 c.requires.1 c.requires.2)

pub slice_bounds-remove-count : goal.slice_bounds-remove-count
slice_bounds-remove-count c = omega (arith, row_fits c.requires.0 c.requires.1, row_some c.args.x c.requires.0 c.requires.1 c.requires.2)

pub slice_bounds-remove-start : goal.slice_bounds-remove-start
slice_bounds-remove-start c = omega (arith, row_fits c.requires.0 c.requires.1, row_some c.args.x c.requires.0 c.requires.1 c.requires.2)

pub remove-requires : goal.remove-requires
remove-requires c =
    (simp (length-take, length-drop) (omega (arith, row_fits c.requires.0 c.requires.1)), row_has c.args.x c.requires.0 c.requires.1 c.requires.2)

pub overflow_sub-row : goal.overflow_sub-row
overflow_sub-row c =
    omega (arith, row_fits c.requires.0 c.requires.1, row_some c.args.x c.requires.0 c.requires.1 c.requires.2)

pub returns : goal.returns
returns c =
    row_dropped c.args.x (row_has c.args.x c.requires.0 c.requires.1 c.requires.2) c.remove.ensures
