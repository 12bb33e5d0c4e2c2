use Rattle.answers.proofs.RunLaws.{simulated_by, simulated_not, before_by, before_not}
use Rattle.answers.proofs.runs.simulate.Goals as goal

pub returns-in_err-start : goal.returns-in_err-start
returns-in_err-start c = record {
  told = simulated_not _ _ _ _ _ c.from_residual.result _ _ c.from_residual.ensures.1 c.in_err-start.ensures.is;
  started = before_not _ _ c.args.rate _ _ c.from_residual.result _ _ c.from_residual.ensures.1 c.in_err-start.ensures.is;
}

pub returns : goal.returns
returns c = record {
  told = simulated_by _ _ _ _ _ _ _ _ c.in_ok-start.ensures.is c.run-first.ensures.is c.go_on.ensures;
  started = before_by _ _ c.args.rate _ _ c.go_on.result _ c.in_ok-start.ensures.is;
}
