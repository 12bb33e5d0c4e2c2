use Rattle.step.proofs.Does.{goes_on, goes_halt, goes_end, same_then}
use Rattle.step.proofs.Starting.{pairs_turn, pairs_end}
use Rattle.step.proofs.init.pairs.Goals as goal

pub returns-in_err-schedule_collisions-clause-does : goal.returns-in_err-schedule_collisions-clause-does
returns-in_err-schedule_collisions-clause-does c =
    let a = c.args in
    let l = c.loop-i in
    let e = c.in_err-schedule_collisions in
    goes_halt l.invariant.on _ c.from_residual.result e.field-0.0 (pairs_turn a.cell.index a.list.now l.i c.loop-i-test.true) c.from_residual.ensures.1 e.ensures.does

pub loop-i-preserved : goal.loop-i-preserved
loop-i-preserved c =
    let a = c.args in
    let l = c.loop-i in
    let d = c.in_ok-schedule_collisions.ensures in record {
      same = same_then l.invariant.same d.same;
      on = goes_on l.invariant.on (pairs_turn a.cell.index a.list.now l.i c.loop-i-test.true) d.does;
    }

pub returns-clause-does : goal.returns-clause-does
returns-clause-does c =
    let a = c.args in
    let l = c.loop-i in
    goes_end l.invariant.on (pairs_end a.cell.index a.list.now l.i c.loop-i-test.false)
