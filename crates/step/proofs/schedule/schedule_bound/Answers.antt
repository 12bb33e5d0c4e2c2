use Rattle.std.specs.Prelude.{Ok}
use Rattle.model.specs.Doing.{schedule_by}
use Rattle.model.specs.Rows.{finder}
use Rattle.tables.proofs.GrainLaws.{grain_fits}
use Rattle.step.proofs.Does.{goes_on, goes_halt, goes_end, range_turn, range_end, same_then}
use Rattle.step.proofs.Scheduling.{bound_does}
use Rattle.step.proofs.schedule.schedule_bound.Goals as goal

pub get_grain-a-requires : goal.get_grain-a-requires
get_grain-a-requires c =
    let a = c.args in
    let o = c.requires.0 in
    grain_fits o.1.grained o.1.queued.ranged a.p c.requires.2

pub returns-in_err-put-clause-does : goal.returns-in_err-put-clause-does
returns-in_err-put-clause-does c =
    let a = c.args in
    let l = c.loop-dim in
    let f = finder a.kind in
    let e = c.in_err-put in
    goes_halt l.invariant.on _ c.from_residual.result e.field-0.0 (range_turn (schedule_by f a.cell.index a.p) 2 l.dim c.loop-dim-test.true) c.from_residual.ensures.1
    (bound_does f l.dim a.cell.index a.p (Ok c.plan_bound-plan.result) c.plan_bound-plan.ensures c.get_grain-a.ensures e.ensures.told)

pub loop-dim-preserved : goal.loop-dim-preserved
loop-dim-preserved c =
    let a = c.args in
    let l = c.loop-dim in
    let f = finder a.kind in
    let d = c.in_ok-put.ensures in record {
      same = same_then l.invariant.same d.same;
      on = goes_on l.invariant.on (range_turn (schedule_by f a.cell.index a.p) 2 l.dim c.loop-dim-test.true)
          (bound_does f l.dim a.cell.index a.p (Ok c.plan_bound-plan.result) c.plan_bound-plan.ensures c.get_grain-a.ensures d.told);
    }

pub returns-clause-does : goal.returns-clause-does
returns-clause-does c =
    let a = c.args in
    let l = c.loop-dim in
    goes_end l.invariant.on (range_end (schedule_by (finder a.kind) a.cell.index a.p) 2 l.dim c.loop-dim-test.false)
