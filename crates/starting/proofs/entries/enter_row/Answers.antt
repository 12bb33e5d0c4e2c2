use Rattle.model.specs.FromPToC.{between}
use Rattle.starting.specs.Entries.{row_cells}
use Rattle.starting.proofs.EntryLaws.{row_two, left_all, some_asks, some_halt, some_left}
use Rattle.starting.proofs.entries.enter_row.Goals as goal

pub enter_span-requires : goal.enter_span-requires
enter_span-requires c =
    let a = c.args in
    some_asks (left_all c.requires) (row_cells a.w.grid.n0 (between a.x.first.lo a.x.first.hi) a.j) (row_cells a.w.grid.n0 (between a.x.second.lo a.x.second.hi) a.j) (row_two a.w.grid.n0 a.x a.j)

pub returns-in_err-enter_span : goal.returns-in_err-enter_span
returns-in_err-enter_span c =
    let a = c.args in
    some_halt (left_all c.requires) (row_cells a.w.grid.n0 (between a.x.first.lo a.x.first.hi) a.j) (row_cells a.w.grid.n0 (between a.x.second.lo a.x.second.hi) a.j) (row_two a.w.grid.n0 a.x a.j)
    c.from_residual.result c.in_err-enter_span.field-0.0 c.from_residual.ensures.1 c.in_err-enter_span.ensures

pub enter_span-requires-2 : goal.enter_span-requires-2
enter_span-requires-2 c =
    let a = c.args in
    (some_left (left_all c.requires) (row_cells a.w.grid.n0 (between a.x.first.lo a.x.first.hi) a.j) (row_cells a.w.grid.n0 (between a.x.second.lo a.x.second.hi) a.j) (row_two a.w.grid.n0 a.x a.j)
    c.in_ok-enter_span.ensures).asks

pub returns : goal.returns
returns c =
    let a = c.args in
    (some_left (left_all c.requires) (row_cells a.w.grid.n0 (between a.x.first.lo a.x.first.hi) a.j) (row_cells a.w.grid.n0 (between a.x.second.lo a.x.second.hi) a.j) (row_two a.w.grid.n0 a.x a.j)
    c.in_ok-enter_span.ensures).goes c.enter_span-2.new.lists _ c.enter_span-2.ensures
