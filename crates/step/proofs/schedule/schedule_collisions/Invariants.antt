use lib.ListN.{drop}
use Rattle.halting.specs.Out.{each_of}
use Rattle.model.specs.Doing.{schedule_collision}
use Rattle.acts.specs.Tell.{SameTables}
use Rattle.step.specs.World.{Seen}
use Rattle.step.proofs.Does.{Onward}
use Rattle.step.proofs.schedule.schedule_collisions.Given as goal

abbrev pub invariant-loop-q : goal.invariant-loop-q
invariant-loop-q l = let act = schedule_collision l.cell.index l.p in record {
  same : SameTables l.initial.queues l.queues;
  on : Onward (Seen l.w l.grains) l.initial.queues (each_of act l.list) l.queues (each_of act (drop l.q-index l.list));
}
