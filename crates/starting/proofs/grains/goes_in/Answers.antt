use Rattle.particle.specs.Spans.{cells_in}
use Rattle.tables.specs.Inputs.{inputs_of}
use Rattle.starting.specs.Entries.{grid_cells}
use Rattle.starting.proofs.GoLaws.{grid_few, cells_are, enters_all, goes-halt, goes_on}
use Rattle.starting.proofs.InputLaws.{input_timed}
use native.Mathlib.Omega.{arith}
use Rattle.starting.proofs.grains.goes_in.Goals as goal

pub returns-in_err-store : goal.returns-in_err-store
returns-in_err-store c =
    let a = c.args in
    let p = c.get_input-p in
    let n = a.w.sizes.grains in
    goes-halt (inputs_of n a.inputs.now) a.i p.result p.ensures (input_timed n a.inputs.now a.i p.result c.requires.1 p.ensures)
    c.from_residual.result c.in_err-store.field-0.0 c.from_residual.ensures.1 c.in_err-store.ensures

pub touched-x-requires : goal.touched-x-requires
touched-x-requires c = omega (arith, (grid_few c.args.w).0)

pub touched-y-requires : goal.touched-y-requires
touched-y-requires c = omega (arith, (grid_few c.args.w).1)

pub enter_all-requires : goal.enter_all-requires
enter_all-requires c =
    enters_all c.requires.0 c.args.i c.get_input-p.result c.touched-x.result c.touched-y.result c.requires.1 c.touched-x.ensures c.touched-y.ensures

pub returns : goal.returns
returns c =
    let a = c.args in
    let p = c.get_input-p in
    let n = a.w.sizes.grains in
    let x = c.touched-x in
    let y = c.touched-y in
    goes_on (inputs_of n a.inputs.now) a.i p.result p.ensures (input_timed n a.inputs.now a.i p.result c.requires.1 p.ensures) (grid_cells a.w.grid.n0 (cells_in x.result) (cells_in y.result))
    (cells_are a.w.domain a.w.grid p.result x.result y.result a.w.placed.laid.grid x.ensures y.ensures) c.in_ok-store.ensures c.enter_all.ensures
