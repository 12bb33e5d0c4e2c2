use lib.ListN.{drop}
use Rattle.model.specs.Doing.{pairs}
use Rattle.acts.specs.Tell.{SameTables}
use Rattle.step.specs.World.{Seen}
use Rattle.step.proofs.Does.{Onward}
use Rattle.step.proofs.init.pairs.Given as goal

abbrev pub invariant-loop-i : goal.invariant-loop-i
invariant-loop-i l = record {
  same : SameTables l.initial.queues l.queues;
  on : Onward (Seen l.w l.grains) l.initial.queues (pairs l.cell.index l.list) l.queues (pairs l.cell.index (drop l.i l.list));
}
