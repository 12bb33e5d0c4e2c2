use lib.ListN.{drop}
use Rattle.halting.specs.Out.{each_of}
use Rattle.model.specs.Doing.{boundaries}
use Rattle.acts.specs.Tell.{SameTables}
use Rattle.step.specs.World.{Seen}
use Rattle.step.proofs.Does.{Onward}
use Rattle.step.proofs.init.bounds_each.Given as goal

abbrev pub invariant-loop-p : goal.invariant-loop-p
invariant-loop-p l = let act = boundaries l.cell.index in record {
  same : SameTables l.initial.queues l.queues;
  on : Onward (Seen l.w l.grains) l.initial.queues (each_of act l.list) l.queues (each_of act (drop l.p-index l.list));
}
