use Rattle.std.proofs.Common.{Bool, length}
use Rattle.pipes.specs.Writes.{WrittenOut}
use Rattle.pipes.proofs.writing.hand_out.Given as goal

abbrev pub invariant-loop-rest : goal.invariant-loop-rest
invariant-loop-rest g l = (new : _) (r : Bool) → WrittenOut (g.W.Write.contents l.out) new l.rest r → WrittenOut (g.W.Write.contents l.fn.out) new l.fn.bytes r

abbrev pub decreases-loop-rest : goal.decreases-loop-rest
decreases-loop-rest g l = length l.rest
