use Rattle.step.proofs.Executions.{renewed_told}
use Rattle.tables.proofs.GrainLaws.{grain_fits}
use Rattle.step.proofs.execute.renewed.Goals as goal

pub get_grain-requires : goal.get_grain-requires
get_grain-requires c =
    let a = c.args in
    let o = c.requires.0 in
    grain_fits o.1 c.requires.1 a.p c.requires.2

pub returns : goal.returns
returns c =
    let a = c.args in
    renewed_told a.p a.pos a.vel a.w.clock a.val c.new.ensures c.get_grain.ensures
