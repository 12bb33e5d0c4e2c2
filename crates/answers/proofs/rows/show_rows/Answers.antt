use mathlib.Core.Path.{refl}
use Rattle.tables.specs.Decode.{cut}
use Rattle.answers.proofs.RowLaws.{show_more}
use Rattle.answers.proofs.rows.show_rows.Goals as goal

pub loop-i-init : goal.loop-i-init
unfolding cut
loop-i-init c = refl

pub loop-i-preserved : goal.loop-i-preserved
loop-i-preserved c = show_more _ _ _ _ _ _ c.loop-i.invariant refl c.show_one.ensures
