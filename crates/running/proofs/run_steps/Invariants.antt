use Rattle.model.specs.State.{State}
use Rattle.acts.specs.Tell.{SameTables}
use Rattle.running.specs.Going.{Lent}
use Rattle.running.proofs.Going.{Left}
use Rattle.running.proofs.run_steps.Given as goal

abbrev pub invariant-loop-done : goal.invariant-loop-done
invariant-loop-done l = record {
  same : SameTables l.initial.queues l.queues;
  left : (s : State) → Lent l.initial.w l.initial.lists l.initial.grains l.initial.queues.queue.now l.initial.queues.events.now l.initial.queues.order.now s → Left l.initial.w l.rate l.budget s l.w l.lists l.grains l.queues l.done;
}
