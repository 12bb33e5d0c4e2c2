use Rattle.text.specs.Put.{Puts}
use Rattle.listing_text.specs.Answers.{listing_lines}
use Rattle.listing_text.specs.Rows.{grains_from}
use Rattle.listing_text.proofs.writer.put_listing.Given as goal

abbrev pub invariant-loop-i : goal.invariant-loop-i
invariant-loop-i l = Puts (listing_lines l.time 0 (grains_from l.numbers 0 l.i)) l.initial.writer l.writer
