use mathlib.Core.List.{[], ◌∷◌}
use lib.ListN.{drop}
use Rattle.model.specs.declared.Bound.TheVariants.{ToNeighbour, OutOfCell, Wall}
use Rattle.acts.specs.Tell.{SameTables}
use Rattle.step.specs.World.{Seen}
use Rattle.step.proofs.Does.{Onward}
use Rattle.step.proofs.Scheduling.{kinds}
use Rattle.step.proofs.schedule.schedule_bounds.Given as goal

abbrev pub invariant-loop-kind : goal.invariant-loop-kind
invariant-loop-kind l = let all = ToNeighbour ∷ OutOfCell ∷ Wall ∷ [] in record {
  same : SameTables l.initial.queues l.queues;
  on : Onward (Seen l.w l.grains) l.initial.queues (kinds l.cell.index l.p all) l.queues (kinds l.cell.index l.p (drop l.kind-index all));
}
