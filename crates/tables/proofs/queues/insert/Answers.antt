use Rattle.tables.proofs.QueueLaws.{count_there, count_back, more_asks, room_left, row_placed}
use native.Mathlib.Omega.{arith}
use Rattle.tables.proofs.queues.insert.Goals as goal

pub bounds-nums-0 : goal.bounds-nums-0
bounds-nums-0 c = count_there c.requires.0 c.requires.1

pub slice_bounds-insert-count : goal.slice_bounds-insert-count
slice_bounds-insert-count c = omega (arith, count_there c.requires.0 c.requires.1)

pub slice_bounds-insert-start : goal.slice_bounds-insert-start
slice_bounds-insert-start c = count_there c.requires.0 c.requires.1

pub insert-requires : goal.insert-requires
insert-requires c =
    more_asks c.requires.0 c.requires.1 _ (room_left c.requires.0 c.requires.1 c.requires.3) c.requires.2

pub overflow_add-nums : goal.overflow_add-nums
overflow_add-nums c =
    omega (arith, room_left c.requires.0 c.requires.1 c.requires.3, c.requires.2)

pub bounds-nums-0-2 : goal.bounds-nums-0-2
bounds-nums-0-2 c =
    count_back c.requires.0 c.requires.1 c.insert.new.nums c.insert.auto.nums

pub returns : goal.returns
returns c =
    λ r R. row_placed r R c.args.e (more_asks c.requires.0 c.requires.1 _ (room_left c.requires.0 c.requires.1 c.requires.3) c.requires.2).2 c.insert.ensures
