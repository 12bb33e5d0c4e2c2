use Prim.Native.Nat.{◌<◌}
use Rattle.halting.proofs.All.{all_at}
use Rattle.model.specs.Doing.{schedule_events}
use Rattle.step.proofs.Does.{goes_on, goes_halt, goes_end, list_turn, list_end, same_then}
use Rattle.step.proofs.Leaves.{homes_below}
use Rattle.step.proofs.Scheduling.{again_does}
use Rattle.step.proofs.schedule.again.Goals as goal

pub schedule_events-requires : goal.schedule_events-requires
schedule_events-requires c =
    let a = c.args in
    let o = c.requires.0 in
    let l = c.loop-cell in
    let items = c.cells_of-cell-items in
    let m = homes_below o.0 o.1.listed a.p c.requires.1 (items.ensures o.0 o.1.listed) in
    (l.invariant.on.some, c.requires.1, all_at (λ k. k < a.w.sizes.cells) items.result.now l.cell-index 0 m c.loop-cell-test.true)

pub returns-in_err-schedule_events-clause-does : goal.returns-in_err-schedule_events-clause-does
returns-in_err-schedule_events-clause-does c =
    let a = c.args in
    let l = c.loop-cell in
    let e = c.in_err-schedule_events in
    let items = c.cells_of-cell-items in
    again_does a.p items.result.now (λ s h. items.ensures s h.listed)
    (goes_halt l.invariant.on _ c.from_residual.result e.field-0.0 (list_turn (schedule_events a.p) items.result.now l.cell-index c.loop-cell-test.true) c.from_residual.ensures.1 e.ensures.does)

pub loop-cell-preserved : goal.loop-cell-preserved
loop-cell-preserved c =
    let a = c.args in
    let l = c.loop-cell in
    let d = c.in_ok-schedule_events.ensures in record {
      same = same_then l.invariant.same d.same;
      on = goes_on l.invariant.on (list_turn (schedule_events a.p) c.cells_of-cell-items.result.now l.cell-index c.loop-cell-test.true) d.does;
    }

pub returns-clause-does : goal.returns-clause-does
returns-clause-does c =
    let a = c.args in
    let l = c.loop-cell in
    let items = c.cells_of-cell-items in
    again_does a.p items.result.now (λ s h. items.ensures s h.listed) (goes_end l.invariant.on (list_end (schedule_events a.p) items.result.now l.cell-index c.loop-cell-test.false))
