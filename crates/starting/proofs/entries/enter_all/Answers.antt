use Prim.Native.Nat.{ℕ}
use Rattle.particle.specs.Spans.{cells_in}
use Rattle.model.specs.FromPToC.{between}
use Rattle.starting.specs.Entries.{grid_cells}
use Rattle.starting.proofs.EntryLaws.{grid-two, left_all, some_asks, some_halt, some_left}
use Rattle.starting.proofs.entries.enter_all.Goals as goal

pub enter_rows-requires : goal.enter_rows-requires
enter_rows-requires c =
    let a = c.args in
    let rows = λ (lo : ℕ) (hi : ℕ). grid_cells a.w.grid.n0 (cells_in a.x) (between lo hi) in
    some_asks (left_all c.requires) (rows a.y.first.lo a.y.first.hi) (rows a.y.second.lo a.y.second.hi) (grid-two a.w.grid.n0 (cells_in a.x) a.y)

pub returns-in_err-enter_rows : goal.returns-in_err-enter_rows
returns-in_err-enter_rows c =
    let a = c.args in
    let rows = λ (lo : ℕ) (hi : ℕ). grid_cells a.w.grid.n0 (cells_in a.x) (between lo hi) in
    some_halt (left_all c.requires) (rows a.y.first.lo a.y.first.hi) (rows a.y.second.lo a.y.second.hi) (grid-two a.w.grid.n0 (cells_in a.x) a.y)
    c.from_residual.result c.in_err-enter_rows.field-0.0 c.from_residual.ensures.1 c.in_err-enter_rows.ensures

pub enter_rows-requires-2 : goal.enter_rows-requires-2
enter_rows-requires-2 c =
    let a = c.args in
    let rows = λ (lo : ℕ) (hi : ℕ). grid_cells a.w.grid.n0 (cells_in a.x) (between lo hi) in
    (some_left (left_all c.requires) (rows a.y.first.lo a.y.first.hi) (rows a.y.second.lo a.y.second.hi) (grid-two a.w.grid.n0 (cells_in a.x) a.y) c.in_ok-enter_rows.ensures).asks

pub returns : goal.returns
returns c =
    let a = c.args in
    let rows = λ (lo : ℕ) (hi : ℕ). grid_cells a.w.grid.n0 (cells_in a.x) (between lo hi) in
    (some_left (left_all c.requires) (rows a.y.first.lo a.y.first.hi) (rows a.y.second.lo a.y.second.hi) (grid-two a.w.grid.n0 (cells_in a.x) a.y) c.in_ok-enter_rows.ensures).goes
    c.enter_rows-2.new.lists _ c.enter_rows-2.ensures
