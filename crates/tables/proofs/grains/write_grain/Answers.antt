use Rattle.tables.specs.Layout.{grain_reals}
use Rattle.chunks.proofs.Laws.{sets_all}
use Rattle.tables.proofs.grains.write_grain.Goals as goal

pub returns : goal.returns
returns c = sets_all (grain_reals c.args.p) c.args.s.now c.requires
