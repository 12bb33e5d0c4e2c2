use Rattle.std.proofs.Common.{subst}
use Rattle.listing.specs.Turns.{Turned}
use Rattle.listing.proofs.TurnLaws.{due, not_due}
use Rattle.listing.proofs.respond.Goals as goal

pub returns-in-Ended : goal.returns-in-Ended
returns-in-Ended c = due (subst (Turned _ _) c.in-Ended.is c.read_all.ensures) c.write_answer.ensures.handed_out

pub returns-in_default : goal.returns-in_default
returns-in_default c = not_due c.read_all.ensures c.in_default.not-Ended
