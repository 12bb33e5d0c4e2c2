use Rattle.std.proofs.Common.{◌≤◌}
use Rattle.roots.proofs.main.Given as goal

abbrev pub invariant-loop : goal.invariant-loop
invariant-loop l = (l.compared ≤ l.counter) × (l.differ ≤ l.compared)
