use Prim.Native.Nat.{◌-◌}
use lib.ListN.{length}
use Rattle.halting.specs.Out.{each}
use Rattle.model.specs.State.{State}
use Rattle.model.specs.Doing.{step_grain}
use Rattle.acts.proofs.StoreLaws.{GoesOn}
use Rattle.acts.proofs.store.step_all.Given as goal

abbrev pub invariant-loop-g : goal.invariant-loop-g
invariant-loop-g l = GoesOn (λ (s : State). each step_grain (length s.grains) 0 s) (each step_grain (l.z.grains - l.g) l.g) l.z l.domain l.clock l.initial.grains l.grains
