use Prim.Native.Nat.{◌-◌}
use Rattle.halting.specs.Out.{each}
use Rattle.model.specs.Doing.{schedule_by}
use Rattle.model.specs.Rows.{finder}
use Rattle.acts.specs.Tell.{SameTables}
use Rattle.step.specs.World.{Seen}
use Rattle.step.proofs.Does.{Onward}
use Rattle.step.proofs.schedule.schedule_bound.Given as goal

abbrev pub invariant-loop-dim : goal.invariant-loop-dim
invariant-loop-dim l = let act = schedule_by (finder l.kind) l.cell.index l.p in record {
  same : SameTables l.initial.queues l.queues;
  on : Onward (Seen l.w l.grains) l.initial.queues (each act 2 0) l.queues (each act (2 - l.dim) l.dim);
}
