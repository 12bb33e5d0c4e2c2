use Rattle.tables.proofs.RowLaws.{pulled_down}
use Rattle.tables.proofs.rows.pull.Goals as goal

pub returns : goal.returns
returns c = pulled_down c.copy_within.ensures.after
