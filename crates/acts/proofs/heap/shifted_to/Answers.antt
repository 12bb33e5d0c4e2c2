use mathlib.Core.Bool.{Bool}
use mathlib.Core.Path.{sym, ap, ◌∙◌}
use lib.ListN.{length}
use Rattle.acts.specs.Queues.{shifted_to}
use Rattle.scheduler.specs.Inside.{heads_of}
use Rattle.acts.proofs.heap.shifted_to.Goals as goal

pub returns-then-later : goal.returns-then-later
returns-then-later c =
    let a = c.args in
    c.child.ensures ∙ ap (λ (b : Bool). shifted_to (heads_of a.heads) a.heap.now (length a.heap.now) a.at b) (sym c.if-later.true)

pub returns-else-later : goal.returns-else-later
returns-else-later c =
    let a = c.args in
    c.parent.ensures ∙ ap (λ (b : Bool). shifted_to (heads_of a.heads) a.heap.now (length a.heap.now) a.at b) (sym c.if-later.false)
