use lib.Ieee.{of_bits, binary64}
use Rattle.order.proofs.Finite.{finite_sub}
use Rattle.particle.proofs.is_finite.Goals as goal

pub returns : goal.returns
unfolding of_bits
returns c = finite_sub binary64 c.args.x
