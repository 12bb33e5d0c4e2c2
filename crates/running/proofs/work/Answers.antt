use Prim.Native.Nat.{◌-◌}
use mathlib.Core.Path.{◌≡◌, refl, sym}
use native.Mathlib.Omega.{arith}
use lib.Seq.{length-take-le}
use borrow.Rule.Slice.PartMut.{same_len_mid}
use Rattle.layout.specs.Widths.{lists_head_wide, grains_head_wide, order_wide}
use Rattle.model.specs.Refusals.{check_number}
use Rattle.tables.specs.Decode.{tables, decoded}
use Rattle.running.proofs.PutBack.{long, ends, lent, placed, rate_in, worked, mark_is}
use borrow.Author.Rules.{rules}
use Rattle.running.proofs.work.Goals as goal

pub sizes_of-sizes-requires : goal.sizes_of-sizes-requires
sizes_of-sizes-requires c = omega (arith, (long c.requires).lists_long)

pub domain_of-domain-requires : goal.domain_of-domain-requires
domain_of-domain-requires c =
    let S = long c.requires in
    (omega (arith, S.lists_long), omega (arith, S.grains_long))

pub clock-requires : goal.clock-requires
clock-requires c = omega (arith, (long c.requires).grains_long)

pub needed-need-requires : goal.needed-need-requires
needed-need-requires c =
    let S = long c.requires in
    rw c.sizes_of-sizes.ensures (S.grains_most, S.cells_most, S.room_most)

pub slice_bounds-over_parts-end : goal.slice_bounds-over_parts-end
slice_bounds-over_parts-end c =
    let e = ends c.requires c.sizes_of-sizes.ensures c.needed-need.ensures in
    omega arith

pub slice_bounds-over_parts-end-2 : goal.slice_bounds-over_parts-end-2
slice_bounds-over_parts-end-2 c =
    let e = ends c.requires c.sizes_of-sizes.ensures c.needed-need.ensures in
    omega arith

pub slice_bounds-over_parts-end-3 : goal.slice_bounds-over_parts-end-3
slice_bounds-over_parts-end-3 c =
    (ends c.requires c.sizes_of-sizes.ensures c.needed-need.ensures).queue_to

pub slice_bounds-over_parts-end-4 : goal.slice_bounds-over_parts-end-4
slice_bounds-over_parts-end-4 c =
    let e = ends c.requires c.sizes_of-sizes.ensures c.needed-need.ensures in
    sym (length-take-le _ c.args.queue.now e.queue_to)

pub slice_bounds-over_parts-end-5 : goal.slice_bounds-over_parts-end-5
slice_bounds-over_parts-end-5 c =
    (ends c.requires c.sizes_of-sizes.ensures c.needed-need.ensures).events_to

pub slice_bounds-over_parts-end-6 : goal.slice_bounds-over_parts-end-6
slice_bounds-over_parts-end-6 c =
    let e = ends c.requires c.sizes_of-sizes.ensures c.needed-need.ensures in
    sym (length-take-le _ c.args.events.now e.events_to)

pub slice_bounds-over_parts-end-7 : goal.slice_bounds-over_parts-end-7
slice_bounds-over_parts-end-7 c = (long c.requires).order_long

pub slice_bounds-over_parts-end-8 : goal.slice_bounds-over_parts-end-8
slice_bounds-over_parts-end-8 c = sym (length-take-le order_wide c.args.order.now (long c.requires).order_long)

pub invariant_of-w : goal.invariant_of-w
invariant_of-w c = record { placed = placed c.requires c.sizes_of-sizes.ensures c.domain_of-domain.ensures c.new.ensures }

pub over_parts-report-requires : goal.over_parts-report-requires
over_parts-report-requires c =
    let p = c.requires in
    ((_, lent p c.sizes_of-sizes.ensures c.needed-need.ensures c.domain_of-domain.ensures c.clock.ensures), rate_in p)

pub set_mark-requires : goal.set_mark-requires
set_mark-requires c =
    let e = same_len_mid lists_head_wide (c.needed-need.result.lists - lists_head_wide) c.args.lists.now c.over_parts-report.new.lists c.over_parts-report.auto.lists in
    omega (arith, e, (long c.requires).lists_long)

pub set_clock-requires : goal.set_clock-requires
set_clock-requires c =
    let e = same_len_mid grains_head_wide (c.needed-need.result.grains - grains_head_wide) c.args.grains.now c.over_parts-report.new.grains c.over_parts-report.auto.grains in
    omega (arith, e, (long c.requires).grains_long)

pub returns : goal.returns
returns c =
    let a = c.args in
    let p = c.requires in
    let be = c.domain_of-domain.ensures in
    let ne = c.needed-need.ensures in
    let ze = c.sizes_of-sizes.ensures in
    let k = c.over_parts-report.auto in
    let m : c.map_or.result ≡ check_number c.over_parts-report.result.end = search (rules, mark_is) in
    worked p a.budget c.over_parts-report.result ze ne be k.lists k.grains k.queue k.events k.order c.set_mark.ensures c.set_clock.ensures m refl
    (c.over_parts-report.ensures (decoded (tables a.lists.now a.grains.now a.queue.now a.events.now a.order.now)) (lent p ze ne be c.clock.ensures))
