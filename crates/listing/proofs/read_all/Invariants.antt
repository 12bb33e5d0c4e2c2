use Rattle.listing_text.specs.Reading.{start_of}
use Rattle.listing.specs.Turns.{Turned}
use Rattle.listing.proofs.read_all.Given as goal

abbrev pub invariant-loop : goal.invariant-loop
invariant-loop l = Turned l.counter start_of l.turn
