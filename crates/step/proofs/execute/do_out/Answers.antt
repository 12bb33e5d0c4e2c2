use Rattle.model.specs.Doing.{do_out}
use Rattle.model.specs.Acts.{cancel, leave}
use Rattle.halting.specs.Out.{then}
use Rattle.step.proofs.Executions.{land_pair, cancel_pair, leave_does, without_pair}
use Rattle.step.proofs.Does.{does_halt, does_on}
use Rattle.step.proofs.execute.do_out.Goals as goal

pub returns-in_err-land-clause-does : goal.returns-in_err-land-clause-does
unfolding do_out
returns-in_err-land-clause-does c =
    let a = c.args in
    let e = c.in_err-land in
    does_halt (λ s u. then (cancel a.p a.cell u) (λ v. leave a.p a.cell v)) c.from_residual.result e.field-0.0 c.from_residual.ensures.1 (without_pair (land_pair a.p a.pos a.cell e.ensures))

pub returns-clause-does : goal.returns-clause-does
unfolding do_out
returns-clause-does c =
    let a = c.args in
    does_on (land_pair a.p a.pos a.cell c.in_ok-land.ensures) (does_on (cancel_pair a.p a.cell c.cancel.ensures.told) (leave_does a.p a.cell c.leave.ensures))
