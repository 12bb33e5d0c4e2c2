use mathlib.Core.Path.{ap, ◌∙◌}
use mathlib.Core.Bool.{Bool, not}
use Rattle.scheduler.specs.Inside.{heads_of}
use Rattle.checks.proofs.Order.{order_by}
use Rattle.checks.proofs.heap.in_order.Goals as goal

pub returns : goal.returns
returns c =
    let h = heads_of c.args.heads in
    ap (λ (b : Bool). not b) c.is_earlier.ensures
    ∙ order_by h c.args.heap.now c.args.n c.args.i c.requires.0 c.if-i-eq0.false (c.head-child.ensures ∙ ap h c.from.ensures) (c.head-parent.ensures ∙ ap h c.from-2.ensures)
