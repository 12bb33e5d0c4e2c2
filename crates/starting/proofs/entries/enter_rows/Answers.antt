use Prim.Native.Nat.{◌+◌}
use Rattle.particle.specs.Spans.{cells_in}
use Rattle.model.specs.FromPToC.{between}
use Rattle.starting.specs.Entries.{row_cells, grid_cells}
use Rattle.starting.proofs.EntryLaws.{rows_none, rows_step, left_all, left_none, some_asks, some_halt, some_left}
use Rattle.starting.proofs.entries.enter_rows.Goals as goal

pub loop-j-init : goal.loop-j-init
loop-j-init c = left_all c.requires

pub enter_row-requires : goal.enter_row-requires
enter_row-requires c =
    let a = c.args in
    let n0 = a.w.grid.n0 in
    let j = c.loop-j.j in
    some_asks c.loop-j.invariant (row_cells n0 (cells_in a.x) j) (grid_cells n0 (cells_in a.x) (between (j + 1) a.rows.hi)) (rows_step n0 (cells_in a.x) j a.rows.hi c.loop-j-test.true)

pub returns-in_err-enter_row : goal.returns-in_err-enter_row
returns-in_err-enter_row c =
    let a = c.args in
    let n0 = a.w.grid.n0 in
    let j = c.loop-j.j in
    some_halt c.loop-j.invariant (row_cells n0 (cells_in a.x) j) (grid_cells n0 (cells_in a.x) (between (j + 1) a.rows.hi)) (rows_step n0 (cells_in a.x) j a.rows.hi c.loop-j-test.true)
    c.from_residual.result c.in_err-enter_row.field-0.0 c.from_residual.ensures.1 c.in_err-enter_row.ensures

pub loop-j-preserved : goal.loop-j-preserved
loop-j-preserved c =
    let a = c.args in
    let n0 = a.w.grid.n0 in
    let j = c.loop-j.j in
    some_left c.loop-j.invariant (row_cells n0 (cells_in a.x) j) (grid_cells n0 (cells_in a.x) (between (j + 1) a.rows.hi)) (rows_step n0 (cells_in a.x) j a.rows.hi c.loop-j-test.true)
    c.in_ok-enter_row.ensures

pub returns : goal.returns
returns c = left_none c.loop-j.invariant (rows_none c.args.w.grid.n0 (cells_in c.args.x) c.loop-j.j c.args.rows.hi c.loop-j-test.false)
