use Rattle.std.proofs.Common.{arith, [], subst}
use Rattle.pipes.specs.Reads.{spent}
use Rattle.listing.specs.Turns.{Turned}
use Rattle.listing.proofs.TurnLaws.{turned_then, turned_most}
use Rattle.listing.proofs.read_all.Goals as goal

pub loop-init : goal.loop-init
loop-init c = ([], spent, c.opened-turn.ensures)

pub loop-preserved : goal.loop-preserved
loop-preserved c = turned_then (subst (Turned _ _) c.in-Reading.is c.loop.invariant) c.read_some-turn.ensures

pub returns-in_default : goal.returns-in_default
returns-in_default c = turned_most c.loop.invariant c.in_default.not-Reading (omega arith)
