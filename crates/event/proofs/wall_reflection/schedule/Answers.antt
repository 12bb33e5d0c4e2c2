use Rattle.event.proofs.Moves.{wall_found, none_found, one_found}
use Rattle.event.proofs.wall_reflection.schedule.Goals as goal

pub returns-in_err-dt : goal.returns-in_err-dt
returns-in_err-dt c = none_found _ _ _ _ _ (wall_found _ _ _ _ _ _ _ c.new-course.ensures _ c.reflection.ensures) c.in_err-dt.was c.from_residual.ensures

pub returns : goal.returns
returns c = one_found _ _ _ _ _ _ (wall_found _ _ _ _ _ _ _ c.new-course.ensures _ c.reflection.ensures) c.in_ok-dt.was (cc)
