use lib.ListN.{get_or}
use Rattle.model.specs.State.{none}
use Rattle.tables.proofs.ListLaws.{member-in, member-part}
use Rattle.acts.proofs.links.members_of.Goals as goal

pub slice_bounds-live_of-end : goal.slice_bounds-live_of-end
slice_bounds-live_of-end c = (member-in c.requires.0.1 c.args.cell c.requires.2 c.member_part-from.ensures c.requires.1).1

pub live_of-requires : goal.live_of-requires
live_of-requires c = (get_or c.requires.0.0.members c.args.cell none, member-part c.requires.0.1 c.args.cell c.requires.2 c.member_part-from.ensures)

pub returns : goal.returns
returns c = λ s S. c.live_of.ensures (get_or s.members c.args.cell none) (member-part S c.args.cell c.requires.2 c.member_part-from.ensures)
