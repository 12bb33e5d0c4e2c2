use Rattle.step.proofs.Scheduling.{collide_does}
use Rattle.tables.proofs.GrainLaws.{grain_fits}
use Rattle.step.proofs.schedule.schedule_collision.Goals as goal

pub get_grain-a-requires : goal.get_grain-a-requires
get_grain-a-requires c =
    let a = c.args in
    let o = c.requires.0 in
    grain_fits o.1.grained o.1.queued.ranged a.p c.requires.2

pub get_grain-b-requires : goal.get_grain-b-requires
get_grain-b-requires c =
    let a = c.args in
    let o = c.requires.0 in
    grain_fits o.1.grained o.1.queued.ranged a.q c.requires.3

pub returns-clause-does : goal.returns-clause-does
returns-clause-does c =
    let a = c.args in
    collide_does a.cell.index a.p a.q c.schedule-plan.result c.schedule-plan.ensures c.get_grain-a.ensures c.get_grain-b.ensures c.put.ensures.told
