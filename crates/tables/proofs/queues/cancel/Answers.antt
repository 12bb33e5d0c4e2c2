use Rattle.tables.proofs.QueueLaws.{count_there, count_back, all_asks, row_without}
use native.Mathlib.Omega.{arith}
use Rattle.tables.proofs.queues.cancel.Goals as goal

pub bounds-nums-0 : goal.bounds-nums-0
bounds-nums-0 c = count_there c.requires.0 c.requires.1

pub slice_bounds-cancel-count : goal.slice_bounds-cancel-count
slice_bounds-cancel-count c = omega (arith, count_there c.requires.0 c.requires.1)

pub slice_bounds-cancel-start : goal.slice_bounds-cancel-start
slice_bounds-cancel-start c = count_there c.requires.0 c.requires.1

pub cancel-kept-requires : goal.cancel-kept-requires
cancel-kept-requires c = all_asks c.requires.0 c.requires.1 c.requires.2

pub bounds-nums-0-2 : goal.bounds-nums-0-2
bounds-nums-0-2 c =
    count_back c.requires.0 c.requires.1 c.cancel-kept.new.nums c.cancel-kept.auto.nums

pub returns : goal.returns
returns c =
    λ r R. row_without r R c.args.g c.cancel-kept.ensures.1
