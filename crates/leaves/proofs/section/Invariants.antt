use Rattle.std.proofs.Common.{◌≤◌}
use Rattle.leaves.proofs.section.Given as goal

abbrev pub invariant-loop : goal.invariant-loop
invariant-loop g l = l.differ ≤ l.counter
