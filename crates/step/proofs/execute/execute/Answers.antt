use Rattle.step.proofs.Executions.{as_collision, as_neighbour, as_out, as_wall, as_sync}
use Rattle.step.proofs.execute.execute.Goals as goal

pub returns-in-InterParticleCollision-clause-does : goal.returns-in-InterParticleCollision-clause-does
returns-in-InterParticleCollision-clause-does c =
    as_collision c.args.rate c.in-InterParticleCollision.is c.renewed-x.ensures c.renewed-y.ensures c.do_collision.ensures.does

pub returns-in-MoveToNeighbour-clause-does : goal.returns-in-MoveToNeighbour-clause-does
returns-in-MoveToNeighbour-clause-does c =
    as_neighbour c.args.rate c.in-MoveToNeighbour.is c.do_neighbour.ensures.does

pub returns-in-MoveOutOfCell-clause-does : goal.returns-in-MoveOutOfCell-clause-does
returns-in-MoveOutOfCell-clause-does c =
    as_out c.args.rate c.in-MoveOutOfCell.is c.do_out.ensures.does

pub returns-in-WallReflection-clause-does : goal.returns-in-WallReflection-clause-does
returns-in-WallReflection-clause-does c =
    as_wall c.args.rate c.in-WallReflection.is c.renewed-x-in-WallReflection.ensures c.do_wall.ensures.does

pub returns-in-Synchronisation-clause-does : goal.returns-in-Synchronisation-clause-does
returns-in-Synchronisation-clause-does c =
    as_sync c.args.rate c.in-Synchronisation.is c.do_sync.ensures.does
