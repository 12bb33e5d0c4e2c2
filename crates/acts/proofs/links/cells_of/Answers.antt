use lib.ListN.{get_or}
use Rattle.model.specs.State.{none}
use Rattle.tables.proofs.ListLaws.{home-in, home-part}
use Rattle.acts.proofs.links.cells_of.Goals as goal

pub slice_bounds-live_of-end : goal.slice_bounds-live_of-end
slice_bounds-live_of-end c = (home-in c.requires.0.1 c.args.grain c.requires.2 c.home_part-from.ensures c.requires.1).1

pub live_of-requires : goal.live_of-requires
live_of-requires c = (get_or c.requires.0.0.homes c.args.grain none, home-part c.requires.0.1 c.args.grain c.requires.2 c.home_part-from.ensures)

pub returns : goal.returns
returns c = λ s S. c.live_of.ensures (get_or s.homes c.args.grain none) (home-part S c.args.grain c.requires.2 c.home_part-from.ensures)
