use Rattle.std.proofs.Common.{arith}
use Rattle.std.proofs.lemmas.Bool.Decides.{nat_tests}
use Rattle.simulator.specs.Start.{fits}
use Rattle.simulator.proofs.start.fits.Goals as goal

pub returns-then-z-inputs : goal.returns-then-z-inputs
unfolding fits
returns-then-z-inputs c = grind (arith, nat_tests)

pub returns-else-z-inputs : goal.returns-else-z-inputs
unfolding fits
returns-else-z-inputs c = grind (arith, nat_tests)
