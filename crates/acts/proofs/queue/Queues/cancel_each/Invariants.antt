use Prim.Native.Nat.{ℕ}
use lib.ListN.{drop}
use Rattle.halting.specs.Out.{each_of}
use Rattle.model.specs.State.{State}
use Rattle.model.specs.Acts.{cancel}
use Rattle.acts.specs.declared.queue.Queues.{Queues}
use Rattle.acts.specs.Tell.{IsReady, InQueues, QueuesTold, SameTables}
use Rattle.acts.proofs.queue.Queues.cancel_each.Given as goal

-- what the rest of the list then does, the whole list does
abbrev pub invariant-loop-cell : goal.invariant-loop-cell
invariant-loop-cell l = SameTables l.initial.self l.self × IsReady l.z l.self
    × ((q : Queues) (r : ℕ) → ((s : State) → InQueues l.z l.self s → QueuesTold l.z q r (each_of (λ c. cancel l.g c) (drop l.cell-index l.list) s))
    → (s : State) → InQueues l.z l.initial.self s → QueuesTold l.z q r (each_of (λ c. cancel l.g c) l.list s))
