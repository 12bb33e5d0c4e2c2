use mathlib.Core.Path.{ap}
use Rattle.model.specs.Refusals.{check_number}
use Rattle.tables.specs.Decode.{tables}
use Rattle.simulator.proofs.RunLaws.{run_refused, run_done}
use Rattle.simulator.proofs.run.run.Goals as goal

pub returns-in-Err : goal.returns-in-Err
returns-in-Err c =
    let a = c.args in
    let k = c.check in
    run_refused a.rate a.budget (tables a.lists.now a.grains.now a.queue.now a.events.now a.order.now) (check_number k.result) k.ensures c.ranges.budget.fits c.in-Err.e (ap check_number c.in-Err.is)

pub returns-in-Ok : goal.returns-in-Ok
returns-in-Ok c =
    let a = c.args in
    let k = c.check in
    let w = c.work in
    run_done a.rate a.budget (tables a.lists.now a.grains.now a.queue.now a.events.now a.order.now) (check_number k.result) k.ensures c.ranges.budget.fits w.result _ (ap check_number c.in-Ok.is) w.ensures
