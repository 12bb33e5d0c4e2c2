use mathlib.Core.List.{[], ◌∷◌}
use Rattle.model.specs.declared.Bound.TheVariants.{ToNeighbour, OutOfCell, Wall}
use Rattle.step.proofs.Does.{goes_on, goes_halt, goes_end, does_as, same_then}
use Rattle.step.proofs.Scheduling.{kinds_turn, kinds_end, kinds_all}
use Rattle.step.proofs.schedule.schedule_bounds.Goals as goal

pub returns-in_err-schedule_bound-clause-does : goal.returns-in_err-schedule_bound-clause-does
returns-in_err-schedule_bound-clause-does c =
    let a = c.args in
    let l = c.loop-kind in
    let e = c.in_err-schedule_bound in
    does_as (λ s p. kinds_all a.cell.index a.p s)
    (goes_halt l.invariant.on _ c.from_residual.result e.field-0.0 (kinds_turn a.cell.index a.p (ToNeighbour ∷ OutOfCell ∷ Wall ∷ []) l.kind-index ToNeighbour c.loop-kind-test.true) c.from_residual.ensures.1 e.ensures.does)

pub loop-kind-preserved : goal.loop-kind-preserved
loop-kind-preserved c =
    let a = c.args in
    let l = c.loop-kind in
    let d = c.in_ok-schedule_bound.ensures in record {
      same = same_then l.invariant.same d.same;
      on = goes_on l.invariant.on (kinds_turn a.cell.index a.p (ToNeighbour ∷ OutOfCell ∷ Wall ∷ []) l.kind-index ToNeighbour c.loop-kind-test.true) d.does;
    }

pub returns-clause-does : goal.returns-clause-does
returns-clause-does c =
    let a = c.args in
    let l = c.loop-kind in
    does_as (λ s p. kinds_all a.cell.index a.p s) (goes_end l.invariant.on (kinds_end a.cell.index a.p (ToNeighbour ∷ OutOfCell ∷ Wall ∷ []) l.kind-index c.loop-kind-test.false))
