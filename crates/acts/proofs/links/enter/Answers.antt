use mathlib.Core.Path.{refl}
use Rattle.tables.proofs.ListLaws.{member-in}
use Rattle.acts.proofs.LinkLaws.{member_more, home_more, enter_listed, enter_full, enter_crowded, enter_done}
use Rattle.acts.proofs.links.enter.Goals as goal
use Rattle.acts.proofs.links.enter.Goals.{then-members-ge-MEMBER_ROOM-via-then-members-ge-MEMBER_ROOM, then-members-ge-MEMBER_ROOM-via-else-members-ge-MEMBER_ROOM+then-cells_of-ge-HOME_ROOM}

pub returns-then-has : goal.returns-then-has
returns-then-has c = enter_listed c.args.grain c.args.cell c.members_of-members.ensures c.has.ensures c.if-has.true

pub returns-then-members-ge-MEMBER_ROOM : goal.returns-then-members-ge-MEMBER_ROOM
returns-then-members-ge-MEMBER_ROOM c =
    let lm = c.members_of-members.ensures in
    elim c.then-members-ge-MEMBER_ROOM.branch [
      | then-members-ge-MEMBER_ROOM-via-then-members-ge-MEMBER_ROOM w ↦ enter_full c.args.grain c.args.cell lm c.has.ensures c.if-has.false w.if-members-ge-MEMBER_ROOM.true
      | then-members-ge-MEMBER_ROOM-via-else-members-ge-MEMBER_ROOM+then-cells_of-ge-HOME_ROOM w ↦
          enter_crowded c.args.grain c.args.cell lm c.has.ensures w.cells_of.ensures c.if-has.false w.if-members-ge-MEMBER_ROOM.false w.if-cells_of-ge-HOME_ROOM.true
    ]

pub slice_bounds-add_to-end : goal.slice_bounds-add_to-end
slice_bounds-add_to-end c = (member-in c.requires.0.1 c.args.cell c.requires.3 c.member_part-from.ensures c.requires.1).1

pub add_to-requires : goal.add_to-requires
add_to-requires c =
    member_more c.requires.2 c.requires.3 refl c.member_part-from.ensures c.members_of-members.ensures c.if-members-ge-MEMBER_ROOM.false c.requires.0.0 c.requires.0.1

pub add_to-requires-2 : goal.add_to-requires-2
add_to-requires-2 c =
    home_more c.requires.2 c.requires.3 c.home_part-from.ensures c.member_part-from.ensures c.members_of-members.ensures c.if-members-ge-MEMBER_ROOM.false c.cells_of.ensures c.if-cells_of-ge-HOME_ROOM.false
    c.requires.0.0 c.requires.0.1 c.add_to.ensures

pub returns : goal.returns
returns c =
    enter_done c.requires.2 c.requires.3 c.home_part-from.ensures c.member_part-from.ensures c.members_of-members.ensures c.if-members-ge-MEMBER_ROOM.false c.cells_of.ensures c.if-cells_of-ge-HOME_ROOM.false
    c.has.ensures c.if-has.false c.add_to.ensures c.add_to-2.ensures
