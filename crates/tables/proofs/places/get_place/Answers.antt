use lib.ListN.{get_or}
use mathlib.Core.List.{[]}
use Rattle.model.specs.Events.{zero_p}
use Rattle.tables.proofs.Runs.{place_read}
use Rattle.tables.proofs.places.get_place.Goals as goal

pub returns : goal.returns
returns c = let i = c.args.i in λ ps h. c.get_head.ensures (get_or ps i zero_p) [] (place_read h i c.requires.1 c.requires.2)
