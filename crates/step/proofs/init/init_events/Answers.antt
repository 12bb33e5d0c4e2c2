use mathlib.Core.Path.{refl, sym, ap}
use native.Mathlib.Nat.{sub-zero}
use Rattle.halting.specs.Out.{each}
use Rattle.model.specs.Doing.{init_cell}
use Rattle.step.proofs.Does.{at_first, goes_on, goes_as, goes_halt, goes_end, range_turn, range_end, same_then}
use Rattle.step.proofs.init.init_events.Goals as goal

pub loop-cell-init : goal.loop-cell-init
loop-cell-init c = record {
  same = record { queue = refl; events = refl; order = refl };
  on = goes_as (at_first c.requires) (λ s. ap (λ n. each init_cell n 0 s) (sym (sub-zero c.args.w.sizes.cells)));
}

pub returns-in_err-init_cell-clause-does : goal.returns-in_err-init_cell-clause-does
returns-in_err-init_cell-clause-does c =
    let l = c.loop-cell in
    let e = c.in_err-init_cell in
    goes_halt l.invariant.on _ c.from_residual.result e.field-0.0 (range_turn init_cell c.args.w.sizes.cells l.cell c.loop-cell-test.true) c.from_residual.ensures.1 e.ensures.does

pub loop-cell-preserved : goal.loop-cell-preserved
loop-cell-preserved c =
    let l = c.loop-cell in
    let d = c.in_ok-init_cell.ensures in record {
      same = same_then l.invariant.same d.same;
      on = goes_on l.invariant.on (range_turn init_cell c.args.w.sizes.cells l.cell c.loop-cell-test.true) d.does;
    }

pub returns-clause-does : goal.returns-clause-does
returns-clause-does c =
    let l = c.loop-cell in
    goes_end l.invariant.on (range_end init_cell c.args.w.sizes.cells l.cell c.loop-cell-test.false)
