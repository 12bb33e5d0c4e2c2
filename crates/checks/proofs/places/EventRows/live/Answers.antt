use Rattle.checks.proofs.OnePlace.{used_few, nums_room, reals_room, row_used}
use lib.Seq.{length-take-le}
use mathlib.Core.Path.{sym}
use native.Mathlib.Omega.{arith}
use Rattle.checks.proofs.places.EventRows.live.Goals as goal

pub overflow_mul-result : goal.overflow_mul-result
overflow_mul-result c =
    let s = c.args.self.now in
    let few = used_few s.room s.count s.numbers.now s.reals.now s.rowed s.reals_whole c.args.c c.requires c.queue_from-from.ensures c.events_from.ensures c.count_of-used.ensures in
    let most = s.room_most in
    omega arith

pub slice_bounds-result-end : goal.slice_bounds-result-end
slice_bounds-result-end c =
    let s = c.args.self.now in
    sym (length-take-le _ _ (nums_room s.room s.count s.numbers.now s.reals.now s.rowed s.reals_whole c.args.c c.requires c.queue_from-from.ensures c.events_from.ensures c.count_of-used.ensures))

pub overflow_mul-result-2 : goal.overflow_mul-result-2
overflow_mul-result-2 c =
    let s = c.args.self.now in
    let few = used_few s.room s.count s.numbers.now s.reals.now s.rowed s.reals_whole c.args.c c.requires c.queue_from-from.ensures c.events_from.ensures c.count_of-used.ensures in
    let most = s.room_most in
    omega arith

pub slice_bounds-result-end-2 : goal.slice_bounds-result-end-2
slice_bounds-result-end-2 c =
    let s = c.args.self.now in
    sym (length-take-le _ _ (reals_room s.room s.count s.numbers.now s.reals.now s.rowed s.reals_whole c.args.c c.requires c.queue_from-from.ensures c.events_from.ensures c.count_of-used.ensures))

pub returns : goal.returns
returns c =
    let s = c.args.self.now in
    row_used s.room s.count s.numbers.now s.reals.now s.rowed s.reals_whole c.args.c c.requires c.queue_from-from.ensures c.events_from.ensures c.count_of-used.ensures
