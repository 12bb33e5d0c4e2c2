use mathlib.Core.Path.{◌∙◌}
use Rattle.cell.proofs.Laws.{within_is}
use Rattle.cell.proofs.within.Goals as goal

pub returns : goal.returns
returns c = c.contains.ensures.value ∙ within_is _ _ _ _ c.new.ensures.start c.new.ensures.end c.new.ensures.exhausted
