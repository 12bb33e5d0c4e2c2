use mathlib.Core.Path.{sym, ◌∙◌}
use Rattle.model.proofs.Grid.{across_max}
use Rattle.checks.proofs.domain.boxed.Goals as goal

pub cells-requires : goal.cells-requires
cells-requires c =
    rw c.new.ensures (across_max _ (sym c.box_ok.ensures ∙ c.if-box_ok.true))
