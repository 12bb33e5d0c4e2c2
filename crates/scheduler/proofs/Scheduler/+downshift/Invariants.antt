use Prim.Native.Nat.{◌-◌}
use Rattle.scheduler.proofs.Scheduler.+downshift.Given as goal

abbrev pub decreases-downshift : goal.decreases-downshift
decreases-downshift l = l.self.now.cells - l.p
