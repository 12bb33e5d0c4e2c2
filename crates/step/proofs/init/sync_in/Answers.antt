use Rattle.step.proofs.Starting.{sync_none, sync_some}
use Rattle.model.specs.Events.{place_of}
use mathlib.Core.Path.{ap, ◌∙◌}
use Rattle.step.proofs.init.sync_in.Goals as goal

pub returns-then-cell-ne0-clause-does : goal.returns-then-cell-ne0-clause-does
returns-then-cell-ne0-clause-does c =
    sync_none c.args.cell c.if-cell-ne0.true

pub returns-clause-does : goal.returns-clause-does
returns-clause-does c =
    sync_some c.args.cell c.place_of.result c.if-cell-ne0.false (c.place_of.ensures ∙ ap place_of c.schedule.ensures) c.insert.ensures.told
