use lib.ListN.{get_or}
use Rattle.model.specs.Doing.{forget, again}
use Rattle.step.proofs.Does.{at_second, goes_on, goes_halt, goes_end, list_turn, list_end, same_then}
use Rattle.step.proofs.Executions.{forget_held}
use Rattle.step.proofs.execute.again_all.Goals as goal

pub loop-p-preserved : goal.loop-p-preserved
loop-p-preserved c =
    let a = c.args in
    let l = c.loop-p in
    let d = c.forget.ensures in record {
      same = same_then l.invariant.same d.same;
      on = goes_on l.invariant.on (list_turn forget a.list.now l.p-index c.loop-p-test.true) (forget_held (get_or a.list.now l.p-index 0) d.does);
    }

pub loop-p-2-init : goal.loop-p-2-init
loop-p-2-init c =
    let l = c.loop-p in record {
      same = l.invariant.same;
      on = at_second c.requires.0 (goes_end l.invariant.on (list_end forget c.args.list.now l.p-index c.loop-p-test.false));
    }

pub returns-in_err-again-clause-does : goal.returns-in_err-again-clause-does
returns-in_err-again-clause-does c =
    let l = c.loop-p-2 in
    let e = c.in_err-again in
    goes_halt l.invariant.on _ c.from_residual.result e.field-0.0 (list_turn again c.args.list.now l.p-index c.loop-p-2-test.true) c.from_residual.ensures.1 e.ensures.does

pub loop-p-2-preserved : goal.loop-p-2-preserved
loop-p-2-preserved c =
    let l = c.loop-p-2 in
    let d = c.in_ok-again.ensures in record {
      same = same_then l.invariant.same d.same;
      on = goes_on l.invariant.on (list_turn again c.args.list.now l.p-index c.loop-p-2-test.true) d.does;
    }

pub returns-clause-does : goal.returns-clause-does
returns-clause-does c =
    let l = c.loop-p-2 in
    goes_end l.invariant.on (list_end again c.args.list.now l.p-index c.loop-p-2-test.false)
