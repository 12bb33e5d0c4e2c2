use native.Mathlib.Numerals.{add-one}
use Rattle.std.proofs.Common.{rules}
use Rattle.scheduler.specs.Heap.{numbered, start_heap}
use Rattle.scheduler.proofs.Scheduler.new.Goals as goal

pub loop-i-init : goal.loop-i-init
unfolding numbered
loop-i-init c = search rules

pub loop-i-preserved : goal.loop-i-preserved
unfolding numbered
loop-i-preserved c = let i = c.loop-i.invariant in record { heap = rw (add-one, i.heap); lookups = rw (add-one, i.lookups) }

pub returns : goal.returns
unfolding start_heap
returns c = search rules
