use Rattle.step.proofs.Executions.{landed_told}
use Rattle.tables.proofs.GrainLaws.{grain_fits}
use Rattle.step.proofs.execute.land.Goals as goal

pub get_grain-a-requires : goal.get_grain-a-requires
get_grain-a-requires c =
    let a = c.args in
    let o = c.requires.0 in
    grain_fits o.1 c.requires.1 a.p c.requires.2

pub returns : goal.returns
returns c =
    let a = c.args in
    landed_told a.p a.pos a.w.clock c.landed.ensures c.get_grain-a.ensures c.store.ensures
