use borrow.Author.Rules.{rules}
use Rattle.event.proofs.Collision.{told}
use Rattle.event.proofs.inter_particle_collision.time_of.Goals as goal

pub returns-in_err-s : goal.returns-in_err-s
returns-in_err-s c = told _ _ _ _ (search rules)

pub returns-then-dt : goal.returns-then-dt
returns-then-dt c = told _ _ _ _ (search rules)

pub returns-else-dt : goal.returns-else-dt
returns-else-dt c = told _ _ _ _ (search rules)
