use lib.ListN.{drop}
use Rattle.halting.specs.Out.{each_of}
use Rattle.model.specs.Doing.{schedule_events}
use Rattle.acts.specs.Tell.{SameTables}
use Rattle.step.proofs.Does.{Onward}
use Rattle.step.proofs.Leaves.{Beside}
use Rattle.step.proofs.schedule.again.Given as goal

abbrev pub invariant-loop-cell : goal.invariant-loop-cell
invariant-loop-cell l = let act = schedule_events l.p in record {
  same : SameTables l.initial.queues l.queues;
  on : Onward (Beside l.w l.lists) (l.initial.grains, l.initial.queues) (each_of act l.cell-items) (l.grains, l.queues) (each_of act (drop l.cell-index l.cell-items));
}
