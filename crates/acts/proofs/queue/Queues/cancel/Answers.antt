use Rattle.acts.proofs.Queues.{row_asks, update_asks, cancel_asks, cancel_tables, cancel_done}
use Rattle.acts.proofs.queue.Queues.cancel.Goals as goal

pub row_of-head-requires : goal.row_of-head-requires
row_of-head-requires c = row_asks c.requires.0.1 c.requires.1

pub cancel-requires : goal.cancel-requires
cancel-requires c =
    cancel_asks c.args.cell c.args.g c.requires.0.0 c.requires.0.1 c.row_of-head.ensures c.requires.1

pub update-requires : goal.update-requires
update-requires c =
    update_asks c.requires.0.1 c.requires.1 (cancel_tables c.args.cell c.args.g c.requires.0.0 c.requires.0.1 c.row_of-head.ensures c.requires.1 c.cancel.ensures)

pub returns-clause-told : goal.returns-clause-told
returns-clause-told c =
    λ s q. cancel_done c.args.cell c.args.g s q c.row_of-head.ensures c.requires.1 (cancel_tables c.args.cell c.args.g s q c.row_of-head.ensures c.requires.1 c.cancel.ensures) c.update.ensures.0
