use mathlib.Core.Path.{◌≡◌}
use lib.ListN.{replicate}
use Rattle.scheduler.specs.Heap.{numbered}
use Rattle.scheduler.proofs.Scheduler.new.Given as goal

abbrev pub invariant-loop-i : goal.invariant-loop-i
invariant-loop-i l = record { heap : l.heap ≡ numbered l.i (replicate 256 0); lookups : l.lookups ≡ numbered l.i (replicate 256 0) }
