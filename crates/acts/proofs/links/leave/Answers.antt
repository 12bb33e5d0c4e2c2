use mathlib.Core.Path.{refl}
use Rattle.tables.proofs.ListLaws.{member-in}
use Rattle.acts.proofs.LinkLaws.{member_there, home_there, leave_refused, leave_done}
use Rattle.acts.proofs.links.leave.Goals as goal

pub returns-then-cells_of-le1 : goal.returns-then-cells_of-le1
returns-then-cells_of-le1 c = leave_refused c.args.cell c.cells_of.ensures c.if-cells_of-le1.true

pub slice_bounds-drop_from-end : goal.slice_bounds-drop_from-end
slice_bounds-drop_from-end c = (member-in c.requires.0.1 c.args.cell c.requires.3 c.member_part-from.ensures c.requires.1).1

pub drop_from-requires : goal.drop_from-requires
drop_from-requires c = member_there c.requires.2 c.requires.3 refl c.member_part-from.ensures c.requires.0.0 c.requires.0.1 c.requires.0.2

pub drop_from-requires-2 : goal.drop_from-requires-2
drop_from-requires-2 c =
    home_there c.requires.2 c.requires.3 c.home_part-from.ensures c.member_part-from.ensures c.requires.0.0 c.requires.0.1 c.requires.0.2 c.drop_from.ensures

pub returns : goal.returns
returns c =
    leave_done c.requires.2 c.requires.3 c.home_part-from.ensures c.member_part-from.ensures c.cells_of.ensures c.if-cells_of-le1.false c.drop_from.ensures c.drop_from-2.ensures
