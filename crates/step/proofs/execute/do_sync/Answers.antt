use mathlib.Core.Path.{ap, ◌∙◌}
use lib.Ieee.{binary64, add}
use lib.ListN.{length}
use Rattle.halting.specs.Out.{then, each}
use Rattle.model.specs.Acts.{insert}
use Rattle.model.specs.Doing.{step_grain, sync_at, do_sync}
use Rattle.model.specs.Events.{place_of}
use Rattle.step.proofs.Executions.{steps_does, sync_does}
use Rattle.step.proofs.Does.{does_halt, does_on, does_as}
use Rattle.step.proofs.execute.do_sync.Goals as goal

pub returns-in_err-step_all-clause-does : goal.returns-in_err-step_all-clause-does
unfolding do_sync
returns-in_err-step_all-clause-does c =
    let a = c.args in
    let e = c.in_err-step_all in
    does_halt (λ s u. insert 0 (sync_at (add binary64 s.clock a.rate)) u) c.from_residual.result e.field-0.0 c.from_residual.ensures.1 (steps_does e.ensures)

pub returns-clause-does : goal.returns-clause-does
unfolding do_sync
returns-clause-does c =
    let a = c.args in
    let n = c.place_of-next in
    does_as (λ s h. ap (λ p. then (each step_grain (length s.grains) 0 s) (insert 0 p)) (n.ensures ∙ ap place_of c.schedule.ensures ∙ rw h.at.1))
    (does_on (steps_does c.in_ok-step_all.ensures) (sync_does n.result c.insert.ensures.told))
