use Rattle.starting.proofs.GoLaws.{all_left, none_left, next_halts, next_left}
use native.Mathlib.Omega.{arith}
use Rattle.starting.proofs.grains.go_in.Goals as goal

pub loop-i-init : goal.loop-i-init
loop-i-init c = all_left c.args.w c.args.inputs.now c.requires

pub goes_in-requires : goal.goes_in-requires
goes_in-requires c = (c.loop-i.invariant.asks, c.loop-i-test.true)

pub returns-in_err-goes_in : goal.returns-in_err-goes_in
returns-in_err-goes_in c =
    let e = c.in_err-goes_in in
    next_halts c.args.w c.args.inputs.now c.loop-i.invariant c.from_residual.result e.field-0.0 c.loop-i-test.true c.from_residual.ensures.1 e.ensures

pub loop-i-preserved : goal.loop-i-preserved
loop-i-preserved c = next_left c.args.w c.args.inputs.now c.loop-i.invariant c.loop-i-test.true c.in_ok-goes_in.ensures

pub returns : goal.returns
returns c = none_left c.args.w c.args.inputs.now c.loop-i.invariant c.loop-i-test.false (omega arith)
