use Rattle.model.specs.Doing.{do_neighbour, schedule_events}
use Rattle.model.specs.Acts.{enter}
use Rattle.halting.specs.Out.{then}
use Rattle.step.proofs.Executions.{land_does, enter_does}
use Rattle.step.proofs.Does.{after, does_halt, does_on}
use Rattle.step.proofs.execute.do_neighbour.Goals as goal

pub returns-in_err-land-clause-does : goal.returns-in_err-land-clause-does
unfolding do_neighbour
returns-in_err-land-clause-does c =
    let a = c.args in
    let e = c.in_err-land in
    does_halt (λ s u. then (enter a.p a.cell u) (λ v. schedule_events a.p a.cell v)) c.from_residual.result e.field-0.0 c.from_residual.ensures.1 (land_does a.p a.pos e.ensures)

pub returns-in_err-enter-clause-does : goal.returns-in_err-enter-clause-does
unfolding do_neighbour
returns-in_err-enter-clause-does c =
    let a = c.args in
    let e = c.in_err-enter in
    does_on (land_does a.p a.pos c.in_ok-land.ensures)
    (does_halt (λ s v. schedule_events a.p a.cell v) c.from_residual-in_err-enter.result e.field-0.0 c.from_residual-in_err-enter.ensures.1 (enter_does a.p a.cell e.ensures))

pub schedule_events-requires : goal.schedule_events-requires
schedule_events-requires c =
    let a = c.args in
    (after (enter_does a.p a.cell c.in_ok-enter.ensures) (after (land_does a.p a.pos c.in_ok-land.ensures) c.requires.0), c.requires.1, c.requires.2)

pub returns-clause-does : goal.returns-clause-does
unfolding do_neighbour
returns-clause-does c =
    let a = c.args in
    does_on (land_does a.p a.pos c.in_ok-land.ensures) (does_on (enter_does a.p a.cell c.in_ok-enter.ensures) c.schedule_events.ensures.does)
