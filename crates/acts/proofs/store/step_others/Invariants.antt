use lib.ListN.{drop}
use Rattle.halting.specs.Out.{each_of}
use Rattle.model.specs.Doing.{step_grain}
use Rattle.model.specs.Rows.{others}
use Rattle.acts.proofs.StoreLaws.{GoesOn}
use Rattle.acts.proofs.store.step_others.Given as goal

abbrev pub invariant-loop-g : goal.invariant-loop-g
invariant-loop-g l = GoesOn (each_of step_grain (others l.p l.list)) (each_of step_grain (others l.p (drop l.g-index l.list))) l.z l.domain l.clock l.initial.grains l.grains
