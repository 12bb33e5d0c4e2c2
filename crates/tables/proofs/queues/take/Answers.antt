use Rattle.tables.proofs.QueueLaws.{count_there, count_back, more_asks, some_held, row_headless}
use native.Mathlib.Omega.{arith}
use Rattle.tables.proofs.queues.take.Goals as goal

pub bounds-nums-0 : goal.bounds-nums-0
bounds-nums-0 c = count_there c.requires.0 c.requires.1

pub slice_bounds-get_head-count : goal.slice_bounds-get_head-count
slice_bounds-get_head-count c = omega (arith, count_there c.requires.0 c.requires.1)

pub slice_bounds-get_head-start : goal.slice_bounds-get_head-start
slice_bounds-get_head-start c = count_there c.requires.0 c.requires.1

pub get_head-first-requires : goal.get_head-first-requires
get_head-first-requires c =
    let m = more_asks c.requires.0 c.requires.1 _ (some_held c.requires.0 c.requires.1 c.requires.3).1 c.requires.2 in (omega (arith, m.1), omega (arith, m.2))

pub slice_bounds-pull-count : goal.slice_bounds-pull-count
slice_bounds-pull-count c = omega (arith, count_there c.requires.0 c.requires.1)

pub slice_bounds-pull-start : goal.slice_bounds-pull-start
slice_bounds-pull-start c = count_there c.requires.0 c.requires.1

pub overflow_sub-n : goal.overflow_sub-n
overflow_sub-n c = omega (arith, (some_held c.requires.0 c.requires.1 c.requires.3).0)

pub pull-requires : goal.pull-requires
pull-requires c =
    more_asks c.requires.0 c.requires.1 _ (some_held c.requires.0 c.requires.1 c.requires.3).1 c.requires.2

pub overflow_sub-nums : goal.overflow_sub-nums
overflow_sub-nums c = omega (arith, (some_held c.requires.0 c.requires.1 c.requires.3).0)

pub bounds-nums-0-2 : goal.bounds-nums-0-2
bounds-nums-0-2 c =
    count_back c.requires.0 c.requires.1 c.pull.new.nums c.pull.auto.nums

pub returns : goal.returns
returns c =
    λ r R. row_headless r R (some_held c.requires.0 c.requires.1 c.requires.3).0 c.get_head-first.ensures c.pull.ensures
