use Rattle.std.proofs.Common.{arith}
use Rattle.listing.proofs.TurnLaws.{turned_once}
use Rattle.listing.proofs.read_some.Goals as goal

pub returns : goal.returns
returns c = turned_once _ _ _ (omega arith) c.read_some-got.ensures.moved c.took.ensures
