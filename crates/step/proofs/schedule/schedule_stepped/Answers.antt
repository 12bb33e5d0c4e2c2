use mathlib.Core.Path.{sym, subst}
use Rattle.halting.specs.Out.{each_of}
use Rattle.model.specs.Doing.{schedule_collision, boundaries}
use Rattle.model.specs.Rows.{others}
use lib.ListN.{drop}
use Prim.Native.Nat.{◌+◌}
use Rattle.acts.specs.declared.queue.Queues.{Queues}
use Rattle.acts.specs.Tell.{SameTables}
use Rattle.step.specs.World.{Seen}
use Rattle.step.proofs.Does.{Onward, goes_on, goes_as, goes_stop, goes_end, does_halt, does_on, others_turn, others_past, others_none, same_then}
use Rattle.step.proofs.schedule.schedule_stepped.Goals as goal
use Rattle.step.proofs.schedule.schedule_stepped.Goals.{then-q-p+in_ok-schedule_collision, else-q-p}

pub returns-in_err-schedule_collision-clause-does : goal.returns-in_err-schedule_collision-clause-does
returns-in_err-schedule_collision-clause-does c =
    let a = c.args in
    let l = c.loop-q in
    let e = c.in_err-schedule_collision in
    let act = schedule_collision a.cell.index a.p in
    does_halt (λ s. boundaries a.cell.index a.p) c.from_residual.result e.field-0.0 c.from_residual.ensures.1
    (goes_stop l.invariant.on _ e.field-0.0 (others_turn act a.p a.list.now l.q-index c.loop-q-test.true c.if-q-p.true) e.ensures.does)

pub loop-q-preserved : goal.loop-q-preserved
loop-q-preserved c =
    let a = c.args in
    let l = c.loop-q in
    let act = schedule_collision a.cell.index a.p in
    let P = λ (q : Queues). record {
      same : SameTables a.queues.now q;
      on : Onward (Seen a.w a.grains.now) a.queues.now (each_of act (others a.p a.list.now)) q (each_of act (others a.p (drop (l.q-index + 1) a.list.now)));
    } in
    elim c.if-q-p.branch [
      | then-q-p+in_ok-schedule_collision w ↦ let d = w.in_ok-schedule_collision.ensures in subst P (sym w.queues-is) (record {
        same = same_then l.invariant.same d.same;
        on = goes_on l.invariant.on (others_turn act a.p a.list.now l.q-index c.loop-q-test.true w.if-q-p.true) d.does;
      })
      | else-q-p w ↦ subst P (sym w.queues-is) (record { same = l.invariant.same; on = goes_as l.invariant.on (others_past act a.p a.list.now l.q-index c.loop-q-test.true w.if-q-p.false) })
    ]

pub returns-clause-does : goal.returns-clause-does
returns-clause-does c =
    let a = c.args in
    let l = c.loop-q in
    does_on (goes_end l.invariant.on (others_none (schedule_collision a.cell.index a.p) a.p a.list.now l.q-index c.loop-q-test.false)) c.schedule_bounds.ensures.does
