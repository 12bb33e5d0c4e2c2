use Rattle.tables.proofs.GrainLaws.{grain_read}
use Rattle.model.specs.State.{zero_g}
use lib.ListN.{get_or}
use Rattle.tables.proofs.grains.get_grain.Goals as goal

pub returns : goal.returns
returns c = λ z gs G. c.read_grain.ensures (get_or gs c.args.i zero_g) (grain_read G c.args.i c.requires.1)
