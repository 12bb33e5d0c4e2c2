use Rattle.step.proofs.Executions.{forget_does}
use Rattle.step.proofs.execute.forget.Goals as goal

pub returns-clause-does : goal.returns-clause-does
returns-clause-does c =
    forget_does c.args.p (λ s h. c.cells_of.ensures s h) c.cancel_each.ensures.told
