use Rattle.tables.specs.Encode.{grains_head}
use Rattle.tables.proofs.Over.{over_sets}
use Rattle.tables.proofs.headers.put_grains_head.Goals as goal

pub returns : goal.returns
returns c = over_sets (grains_head c.args.domain c.args.clock) c.args.grains.now c.requires
