use mathlib.Core.Path.{◌≡◌, sym}
use lib.Seq.{length-take-le}
use Rattle.layout.specs.Widths.{order_wide}
use Rattle.model.specs.Refusals.{number_of}
use Rattle.model.specs.Start.{begin}
use Rattle.tables.specs.Decode.{tables}
use Rattle.tables.specs.Inputs.{inputs_of}
use Rattle.starting.proofs.BeginLaws.{few_cells, begin-filling, begun, mark_is}
use native.Mathlib.Omega.{arith}
use borrow.Author.Rules.{rules}
use Rattle.starting.proofs.begin.Goals as goal

pub clear-requires : goal.clear-requires
clear-requires c =
    let S = c.requires in
    let l = S.lists_long in
    let g = S.grains_long in
    (omega arith, omega arith, S.order_long, few_cells S)

pub needed-need-requires : goal.needed-need-requires
needed-need-requires c =
    (c.requires.grains_most, few_cells c.requires, c.requires.room_most)

pub fill-result-requires : goal.fill-result-requires
fill-result-requires c =
    let a = c.args in
    rw c.needed-need.ensures (begin-filling (tables a.lists.now a.grains.now a.queue.now a.events.now a.order.now) c.requires c.clear.ensures _)

pub slice_bounds-fill-end-8 : goal.slice_bounds-fill-end-8
slice_bounds-fill-end-8 c = sym (length-take-le order_wide c.clear.new.order (omega (arith, c.requires.order_long, c.clear.auto.order)))

pub returns : goal.returns
returns c =
    let a = c.args in
    let ne = c.needed-need.ensures in
    let k = c.fill-result.auto in
    let m : c.map_or.result ≡ number_of c.fill-result.result = search (rules, mark_is) in
    rw (c.set_mark.ensures, m, ne)
    (begun (tables a.lists.now a.grains.now a.queue.now a.events.now a.order.now) c.requires c.clear.ensures _ (rw ne at k.lists) (rw ne at k.grains)
    (begin a.domain a.z.room (inputs_of a.z.grains a.inputs.now)) c.fill-result.ensures)
