use Prim.Native.Nat.{◌/◌, ◌^◌}
use Rattle.root.proofs.Loop.{Going}
use Rattle.root.proofs.near_root.Given as goal

abbrev pub invariant-loop : goal.invariant-loop
invariant-loop l = Going (l.a / 2 ^ 40) l.counter l.reg l.s
