use Rattle.answers.proofs.RowLaws.{show_behind}
use Rattle.answers.proofs.rows.show.Goals as goal

pub returns : goal.returns
returns c = show_behind c.args.n c.args.grains.now c.args.bits.now _ c.show_rows.ensures
