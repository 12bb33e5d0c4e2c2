use Rattle.acts.proofs.Queues.{row_asks, update_asks, take_asks, take_tables, take_done}
use Rattle.acts.proofs.queue.Queues.take.Goals as goal

pub row_of-head-requires : goal.row_of-head-requires
row_of-head-requires c = row_asks c.requires.0.1 c.requires.1

pub take-first-requires : goal.take-first-requires
take-first-requires c =
    take_asks c.args.cell c.requires.0.0 c.requires.0.1 c.row_of-head.ensures c.requires.1 c.requires.2

pub update-requires : goal.update-requires
update-requires c =
    update_asks c.requires.0.1 c.requires.1 (take_tables c.args.cell c.requires.0.0 c.requires.0.1 c.row_of-head.ensures c.requires.1 c.requires.2 c.take-first.ensures)

pub returns-clause-taken : goal.returns-clause-taken
returns-clause-taken c =
    λ s q. take_done c.args.cell s q c.row_of-head.ensures c.requires.1 c.requires.2 c.take-first.ensures (take_tables c.args.cell s q c.row_of-head.ensures c.requires.1 c.requires.2 c.take-first.ensures) c.update.ensures.0
