use Rattle.starting.proofs.GoLaws.{LeftIn}
use Rattle.starting.proofs.grains.go_in.Given as goal

abbrev pub invariant-loop-i : goal.invariant-loop-i
invariant-loop-i l = LeftIn l.w l.inputs l.i l.initial.lists l.initial.grains l.lists l.grains
