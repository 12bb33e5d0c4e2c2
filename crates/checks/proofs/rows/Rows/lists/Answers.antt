use mathlib.Core.Path.{◌∙◌}
use borrow.Author.Tests.{le-ltb}
use Rattle.checks.proofs.OneRow.{lists_out}
use Rattle.checks.proofs.rows.Rows.lists.Goals as goal

pub returns-else-c-self : goal.returns-else-c-self
returns-else-c-self c =
    let s = c.args.self.now in
    le-ltb _ _ c.if-c-self.false ∙ lists_out s.room s.count s.numbers.now c.args.c c.args.x c.if-c-self.false
