use Rattle.model.specs.Doing.{forget, again, do_wall}
use Rattle.halting.specs.Out.{then}
use Rattle.step.proofs.Executions.{store_does, again_one}
use Rattle.step.proofs.Does.{after, does_halt, does_on, does_as}
use Rattle.step.proofs.execute.do_wall.Goals as goal

pub returns-in_err-store-clause-does : goal.returns-in_err-store-clause-does
unfolding do_wall
returns-in_err-store-clause-does c =
    let a = c.args in
    let e = c.in_err-store in
    does_halt (λ s u. then (forget a.p u) (λ v. again a.p v)) c.from_residual.result e.field-0.0 c.from_residual.ensures.1 (store_does a.p a.x e.ensures)

pub again_all-requires : goal.again_all-requires
again_all-requires c =
    let a = c.args in
    (after (store_does a.p a.x c.in_ok-store.ensures) c.requires.0, (c.requires.1, tt))

pub returns-clause-does : goal.returns-clause-does
unfolding do_wall
returns-clause-does c =
    let a = c.args in
    does_on (store_does a.p a.x c.in_ok-store.ensures) (does_as (λ s h. again_one a.p s) c.again_all.ensures.does)
