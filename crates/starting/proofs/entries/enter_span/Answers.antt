use Rattle.starting.proofs.EntryLaws.{span_none, span_step, left_all, left_none, one_asks, one_halts, one_left}
use native.Mathlib.Omega.{arith}
use Rattle.starting.proofs.entries.enter_span.Goals as goal

pub loop-i-init : goal.loop-i-init
loop-i-init c = left_all c.requires

pub overflow_mul-w : goal.overflow_mul-w
overflow_mul-w c =
    let ask = one_asks c.loop-i.invariant (span_step c.args.w.grid.n0 c.args.j c.loop-i.i c.args.cells.hi c.loop-i-test.true) in
    omega (arith, ask.3, ask.1.cells_most)

pub overflow_add-i : goal.overflow_add-i
overflow_add-i c =
    let ask = one_asks c.loop-i.invariant (span_step c.args.w.grid.n0 c.args.j c.loop-i.i c.args.cells.hi c.loop-i-test.true) in
    omega (arith, ask.3, ask.1.cells_most)

pub enter-requires : goal.enter-requires
enter-requires c = one_asks c.loop-i.invariant (span_step c.args.w.grid.n0 c.args.j c.loop-i.i c.args.cells.hi c.loop-i-test.true)

pub returns-in_err-enter : goal.returns-in_err-enter
returns-in_err-enter c =
    one_halts c.loop-i.invariant (span_step c.args.w.grid.n0 c.args.j c.loop-i.i c.args.cells.hi c.loop-i-test.true)
    c.from_residual.result c.in_err-enter.field-0.0 c.from_residual.ensures.1 c.in_err-enter.ensures

pub loop-i-preserved : goal.loop-i-preserved
loop-i-preserved c = one_left c.loop-i.invariant (span_step c.args.w.grid.n0 c.args.j c.loop-i.i c.args.cells.hi c.loop-i-test.true) c.in_ok-enter.ensures

pub returns : goal.returns
returns c = left_none c.loop-i.invariant (span_none c.args.w.grid.n0 c.args.j c.loop-i.i c.args.cells.hi c.loop-i-test.false)
