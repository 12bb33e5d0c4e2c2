use Rattle.tables.proofs.GrainLaws.{grain_written}
use Rattle.tables.proofs.grains.put_grain.Goals as goal

pub returns : goal.returns
returns c = λ z gs G. grain_written G c.args.i c.args.p c.requires.1 c.write_grain.ensures
