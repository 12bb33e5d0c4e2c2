use Rattle.event.proofs.Moves.{out_found, none_found, one_found}
use Rattle.event.proofs.move_out_of_cell.schedule.Goals as goal

pub returns-in_err-dt : goal.returns-in_err-dt
returns-in_err-dt c = none_found _ _ _ _ _ (out_found _ _ _ _ _ _ _ c.new-course.ensures _ c.crossing.ensures) c.in_err-dt.was c.from_residual.ensures

pub returns : goal.returns
returns c = one_found _ _ _ _ _ _ (out_found _ _ _ _ _ _ _ c.new-course.ensures _ c.crossing.ensures) c.in_ok-dt.was (cc)
