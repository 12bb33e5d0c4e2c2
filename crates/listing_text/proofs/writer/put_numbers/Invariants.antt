use lib.ListN.{take}
use Rattle.text.specs.Put.{Puts}
use Rattle.listing_text.proofs.Putting.{fields}
use Rattle.listing_text.proofs.writer.put_numbers.Given as goal

abbrev pub invariant-loop-number : goal.invariant-loop-number
invariant-loop-number l = Puts (fields (take l.number-index l.number-items)) l.initial.writer l.writer
