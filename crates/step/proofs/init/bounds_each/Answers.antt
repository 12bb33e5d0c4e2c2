use Rattle.model.specs.Doing.{boundaries}
use Rattle.step.proofs.Does.{goes_on, goes_halt, goes_end, list_turn, list_end, same_then}
use Rattle.step.proofs.init.bounds_each.Goals as goal

pub returns-in_err-schedule_bounds-clause-does : goal.returns-in_err-schedule_bounds-clause-does
returns-in_err-schedule_bounds-clause-does c =
    let a = c.args in
    let l = c.loop-p in
    let e = c.in_err-schedule_bounds in
    goes_halt l.invariant.on _ c.from_residual.result e.field-0.0 (list_turn (boundaries a.cell.index) a.list.now l.p-index c.loop-p-test.true) c.from_residual.ensures.1 e.ensures.does

pub loop-p-preserved : goal.loop-p-preserved
loop-p-preserved c =
    let a = c.args in
    let l = c.loop-p in
    let d = c.in_ok-schedule_bounds.ensures in record {
      same = same_then l.invariant.same d.same;
      on = goes_on l.invariant.on (list_turn (boundaries a.cell.index) a.list.now l.p-index c.loop-p-test.true) d.does;
    }

pub returns-clause-does : goal.returns-clause-does
returns-clause-does c =
    let a = c.args in
    let l = c.loop-p in
    goes_end l.invariant.on (list_end (boundaries a.cell.index) a.list.now l.p-index c.loop-p-test.false)
