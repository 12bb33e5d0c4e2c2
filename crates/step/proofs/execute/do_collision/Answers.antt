use Rattle.model.specs.Acts.{store}
use Rattle.model.specs.Doing.{forget, again, do_collision}
use Prim.Native.Nat.{ℕ}
use Rattle.halting.specs.Out.{Out, then}
use Rattle.model.specs.State.{State}
use Rattle.step.proofs.Executions.{store_does, again_two}
use Rattle.step.proofs.Does.{after, does_halt, does_on, does_as}
use Rattle.step.proofs.execute.do_collision.Goals as goal

abbrev rest : ℕ → ℕ → State → Out State
rest p q s = then (forget p s) (λ s₁. then (forget q s₁) (λ s₂. then (again p s₂) (again q)))

pub returns-in_err-store-clause-does : goal.returns-in_err-store-clause-does
unfolding do_collision
returns-in_err-store-clause-does c =
    let a = c.args in
    let e = c.in_err-store in
    does_halt (λ s u. then (store a.q a.y u) (rest a.p a.q)) c.from_residual.result e.field-0.0 c.from_residual.ensures.1 (store_does a.p a.x e.ensures)

pub returns-in_err-store-2-clause-does : goal.returns-in_err-store-2-clause-does
unfolding do_collision
returns-in_err-store-2-clause-does c =
    let a = c.args in
    let e = c.in_err-store-2 in
    does_on (store_does a.p a.x c.in_ok-store.ensures)
    (does_halt (λ s u. rest a.p a.q u) c.from_residual-in_err-store-2.result e.field-0.0 c.from_residual-in_err-store-2.ensures.1 (store_does a.q a.y e.ensures))

pub again_all-requires : goal.again_all-requires
again_all-requires c =
    let a = c.args in
    (after (store_does a.q a.y c.in_ok-store-2.ensures) (after (store_does a.p a.x c.in_ok-store.ensures) c.requires.0), (c.requires.1, (c.requires.2, tt)))

pub returns-clause-does : goal.returns-clause-does
unfolding do_collision
returns-clause-does c =
    let a = c.args in
    does_on (store_does a.p a.x c.in_ok-store.ensures) (does_on (store_does a.q a.y c.in_ok-store-2.ensures) (does_as (λ s h. again_two a.p a.q s) c.again_all.ensures.does))
