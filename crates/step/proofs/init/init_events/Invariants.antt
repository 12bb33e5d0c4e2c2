use Prim.Native.Nat.{◌-◌}
use Rattle.halting.specs.Out.{each}
use Rattle.model.specs.Doing.{init_cell}
use Rattle.acts.specs.Tell.{SameTables}
use Rattle.step.specs.World.{Held}
use Rattle.step.proofs.Does.{Onward}
use Rattle.step.proofs.init.init_events.Given as goal

abbrev pub invariant-loop-cell : goal.invariant-loop-cell
invariant-loop-cell l = let n = l.w.sizes.cells in record {
  same : SameTables l.initial.queues l.queues;
  on : Onward (Held l.w l.lists l.grains) l.initial.queues (each init_cell n 0) l.queues (each init_cell (n - l.cell) l.cell);
}
