use mathlib.Core.Path.{◌≡◌}
use lib.ListN.{drop}
use Rattle.listing_text.specs.Reading.{feed_all}
use Rattle.listing_text.proofs.reader.feed_all.Given as goal

abbrev pub invariant-loop-b : goal.invariant-loop-b
invariant-loop-b l = feed_all l.state (drop l.b-index l.s) ≡ feed_all l.initial.state l.s
