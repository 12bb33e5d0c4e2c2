use lib.ListN.{drop}
use Rattle.halting.specs.Out.{then, each_of}
use Rattle.model.specs.Doing.{forget, again}
use Rattle.acts.specs.Tell.{SameTables}
use Rattle.step.specs.World.{Held}
use Rattle.step.proofs.Does.{Onward}
use Rattle.step.proofs.Leaves.{Beside}
use Rattle.step.proofs.execute.again_all.Given as goal

abbrev pub invariant-loop-p : goal.invariant-loop-p
invariant-loop-p l = record {
  same : SameTables l.initial.queues l.queues;
  on : Onward (Held l.w l.lists l.grains) l.initial.queues (each_of forget l.list) l.queues (each_of forget (drop l.p-index l.list));
}

abbrev pub invariant-loop-p-2 : goal.invariant-loop-p-2
invariant-loop-p-2 l = record {
  same : SameTables l.fn.queues l.queues;
  on : Onward (Beside l.w l.lists) (l.fn.grains, l.fn.queues) (λ s. then (each_of forget l.fn.list s) (each_of again l.fn.list)) (l.grains, l.queues) (each_of again (drop l.p-index l.fn.list));
}
