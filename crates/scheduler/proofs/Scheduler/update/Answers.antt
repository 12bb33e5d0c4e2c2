use mathlib.Core.Path.{sym, ◌∙◌}
use Rattle.scheduler.specs.Heap.{updated, update_swaps}
use Rattle.scheduler.proofs.Scheduler.update.Goals as goal

pub returns-then-is_earlier : goal.returns-then-is_earlier
unfolding updated update_swaps
returns-then-is_earlier c =
    let f = sym c.is_earlier.ensures ∙ c.if-is_earlier.true in
    rw (f, sym c.from-at.ensures) c.downshift-swaps.ensures

pub returns-else-is_earlier : goal.returns-else-is_earlier
unfolding updated update_swaps
returns-else-is_earlier c =
    let f = sym c.is_earlier.ensures ∙ c.if-is_earlier.false in
    rw (f, sym c.from-at.ensures) c.upshift-swaps.ensures
