use Rattle.event.proofs.Collision.{plan_none, plan_refused, plan_due}
use Rattle.event.proofs.inter_particle_collision.schedule.Goals as goal

pub returns-in_err-dt : goal.returns-in_err-dt
returns-in_err-dt c = plan_refused _ _ _ _ _ _ _ _ c.sub.ensures c.apart-dpos.ensures c.sub-dvel.ensures c.reach.ensures c.contact.ensures _ c.in_err-dt.was c.from_residual.ensures.0

pub returns-in_default : goal.returns-in_default
returns-in_default c = plan_none _ _ _ _ _ _ _ _ c.sub.ensures c.apart-dpos.ensures c.sub-dvel.ensures c.reach.ensures c.contact.ensures c.in_ok-dt.was c.in_default.is

pub returns : goal.returns
returns c = plan_due _ _ _ _ _ _ _ _ c.sub.ensures c.apart-dpos.ensures c.sub-dvel.ensures c.reach.ensures c.contact.ensures c.in_ok-dt.was c.in-Some.is c.struck.ensures
