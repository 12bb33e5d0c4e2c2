use mathlib.Core.Path.{sym, ◌∙◌}
use borrow.Author.Tests.{lt-leb}
use Rattle.checks.specs.Check.{sized_by}
use Rattle.checks.proofs.Stages.{sized_no, sized_more}
use Rattle.checks.proofs.sized.Goals as goal

pub returns-then-lists-lt-LISTS_HEAD : goal.returns-then-lists-lt-LISTS_HEAD
unfolding sized_by
returns-then-lists-lt-LISTS_HEAD c = rw (lt-leb _ _ c.if-lists-lt-LISTS_HEAD.true)

pub returns-then-ranged : goal.returns-then-ranged
returns-then-ranged c =
    let g = c.args in
    sized_more g.lists.now g.grains g.queue g.events g.order c.if-lists-lt-LISTS_HEAD.false c.sizes_of-z.ensures (sym c.ranged.ensures ∙ c.if-ranged.true) c.long.ensures

pub returns-else-ranged : goal.returns-else-ranged
returns-else-ranged c =
    let g = c.args in
    c.if-ranged.false ∙ sized_no g.lists.now g.grains g.queue g.events g.order c.if-lists-lt-LISTS_HEAD.false c.sizes_of-z.ensures (sym c.ranged.ensures ∙ c.if-ranged.false)
