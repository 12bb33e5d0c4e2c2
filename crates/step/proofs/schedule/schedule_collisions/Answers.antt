use Rattle.model.specs.Doing.{schedule_collision}
use Rattle.step.proofs.Does.{goes_on, goes_halt, goes_end, list_turn, list_end, same_then}
use Rattle.step.proofs.schedule.schedule_collisions.Goals as goal

pub returns-in_err-schedule_collision-clause-does : goal.returns-in_err-schedule_collision-clause-does
returns-in_err-schedule_collision-clause-does c =
    let a = c.args in
    let l = c.loop-q in
    let e = c.in_err-schedule_collision in
    goes_halt l.invariant.on _ c.from_residual.result e.field-0.0 (list_turn (schedule_collision a.cell.index a.p) a.list.now l.q-index c.loop-q-test.true) c.from_residual.ensures.1 e.ensures.does

pub loop-q-preserved : goal.loop-q-preserved
loop-q-preserved c =
    let a = c.args in
    let l = c.loop-q in
    let d = c.in_ok-schedule_collision.ensures in record {
      same = same_then l.invariant.same d.same;
      on = goes_on l.invariant.on (list_turn (schedule_collision a.cell.index a.p) a.list.now l.q-index c.loop-q-test.true) d.does;
    }

pub returns-clause-does : goal.returns-clause-does
returns-clause-does c =
    let a = c.args in
    let l = c.loop-q in
    goes_end l.invariant.on (list_end (schedule_collision a.cell.index a.p) a.list.now l.q-index c.loop-q-test.false)
