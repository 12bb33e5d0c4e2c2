use mathlib.Core.Path.{sym, ap}
use Rattle.model.specs.Events.{place_of_event}
use Rattle.tables.proofs.places.place_of.Goals as goal

pub returns-in-InterParticleCollision : goal.returns-in-InterParticleCollision
returns-in-InterParticleCollision c = sym (ap (place_of_event c.args.e.time) c.in-InterParticleCollision.is)

pub returns-in-MoveToNeighbour : goal.returns-in-MoveToNeighbour
returns-in-MoveToNeighbour c = sym (ap (place_of_event c.args.e.time) c.in-MoveToNeighbour.is)

pub returns-in-MoveOutOfCell : goal.returns-in-MoveOutOfCell
returns-in-MoveOutOfCell c = sym (ap (place_of_event c.args.e.time) c.in-MoveOutOfCell.is)

pub returns-in-WallReflection : goal.returns-in-WallReflection
returns-in-WallReflection c = sym (ap (place_of_event c.args.e.time) c.in-WallReflection.is)

pub returns-in-Synchronisation : goal.returns-in-Synchronisation
returns-in-Synchronisation c = sym (ap (place_of_event c.args.e.time) c.in-Synchronisation.is)
