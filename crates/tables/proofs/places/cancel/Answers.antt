use Rattle.tables.proofs.Runs.{cancel_ends}
use borrow.Author.Rules.{rules}
use Rattle.tables.proofs.places.cancel.Goals as goal

pub returns : goal.returns
returns c =
    (search rules, λ live rest e h. cancel_ends (c.keep-kept.ensures.1 live rest e h) e c.clear.ensures)
