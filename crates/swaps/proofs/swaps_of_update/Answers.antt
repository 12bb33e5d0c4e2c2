use mathlib.Core.Path.{refl, sym, ◌∙◌}
use lib.ListN.{length}
use Rattle.swaps.proofs.Ranges.{in_range_lem}
use Rattle.swaps.proofs.swaps_of_update.Goals as goal

pub returns-then-not-in_range : goal.returns-then-not-in_range
returns-then-not-in_range c =
    let n = sym c.in_range.ensures ∙ c.if-not-in_range.true in
    record { order_after = rw n refl; value = rw n refl }

pub update-requires : goal.update-requires
update-requires c =
    let a = c.args in
    in_range_lem (length a.order.now) a.cells a.room a.cell (sym c.in_range.ensures ∙ c.if-not-in_range.false)

pub returns : goal.returns
returns c =
    let y = sym c.in_range.ensures ∙ c.if-not-in_range.false in
    record { order_after = rw (y, sym c.head_given-before.ensures) c.update.ensures.0; value = rw (y, sym c.head_given-before.ensures) c.update.ensures.1 }
