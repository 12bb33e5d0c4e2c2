use Prim.Native.Nat.{◌≤◌}
use mathlib.Core.Path.{sym, ◌∙◌, subst}
use Rattle.model.proofs.Grid.{across_max, cells_max}
use Rattle.cell.specs.declared.Grid.{Grid}
use Rattle.tables.specs.Decode.{tables}
use Rattle.simulator.proofs.StartLaws.{cells_counted, promise_1, promise_2, promise_4, promise_halted, promise_accepted, ready}
use borrow.Author.Rules.{rules}
use Rattle.simulator.proofs.start.start.Goals as goal

pub returns-then-not-box_ok : goal.returns-then-not-box_ok
returns-then-not-box_ok c = promise_1 _ _ _ _ _ (record { first = search rules; second = search rules }) _ c.box_ok.ensures c.if-not-box_ok.true

pub cells-requires : goal.cells-requires
cells-requires c =
    let a = c.args in
    subst (λ (g : Grid). (g.n0 ≤ 16) × (g.n1 ≤ 16)) (sym c.new-grid.ensures) (across_max a.domain (sym c.box_ok.ensures ∙ c.if-not-box_ok.false))

pub fits-requires : goal.fits-requires
fits-requires c =
    let a = c.args in
    subst (λ n. n ≤ 256) (sym (cells_counted a.domain c.new-grid.result c.cells.result c.new-grid.ensures c.cells.ensures)) (cells_max a.domain (sym c.box_ok.ensures ∙ c.if-not-box_ok.false))

pub returns-then-not-fits : goal.returns-then-not-fits
returns-then-not-fits c =
    promise_2 _ _ _ _ _ (record { first = search rules; second = search rules }) _ c.box_ok.ensures c.if-not-box_ok.false _ _ c.new-grid.ensures c.cells.ensures _ c.fits.ensures c.if-not-fits.true

pub first_bad-requires : goal.first_bad-requires
first_bad-requires c =
    let a = c.args in
    let t = tables a.lists.now a.grains.now a.queue.now a.events.now a.order.now in
    (ready a.domain a.count a.room a.inputs.now t _ c.box_ok.ensures c.if-not-box_ok.false _ _ c.new-grid.ensures c.cells.ensures _ c.fits.ensures c.if-not-fits.false).inputs_long

pub begin-requires : goal.begin-requires
begin-requires c =
    let a = c.args in
    let t = tables a.lists.now a.grains.now a.queue.now a.events.now a.order.now in
    ready a.domain a.count a.room a.inputs.now t _ c.box_ok.ensures c.if-not-box_ok.false _ _ c.new-grid.ensures c.cells.ensures _ c.fits.ensures c.if-not-fits.false

pub returns-in-Some : goal.returns-in-Some
returns-in-Some c =
    promise_4 _ _ _ _ _ (record { first = search rules; second = search rules }) _ c.box_ok.ensures c.if-not-box_ok.false _ _ c.new-grid.ensures c.cells.ensures _ c.fits.ensures c.if-not-fits.false
    c.in-Some.bad c.in-Some.ensures

pub returns-in_err-begin : goal.returns-in_err-begin
returns-in_err-begin c =
    promise_halted _ _ _ _ _ (record { first = search rules; second = search rules }) _ c.box_ok.ensures c.if-not-box_ok.false _ _ c.new-grid.ensures c.cells.ensures _ c.fits.ensures c.if-not-fits.false
    c.from_residual.result c.in_err-begin.field-0.0 _ c.in_default.ensures c.from_residual.ensures.1 c.in_err-begin.ensures

pub returns : goal.returns
returns c =
    promise_accepted _ _ _ _ _ (record { first = search rules; second = search rules }) _ c.box_ok.ensures c.if-not-box_ok.false _ _ c.new-grid.ensures c.cells.ensures _ c.fits.ensures c.if-not-fits.false
    _ c.in_default.ensures c.in_ok-begin.ensures
