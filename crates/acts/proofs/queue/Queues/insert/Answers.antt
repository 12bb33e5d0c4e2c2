use Rattle.acts.proofs.Queues.{row_asks, update_asks, count_there, insert_five, insert-six, insert-asks, insert-tables, insert-done}
use mathlib.Core.Path.{subst, sym, ◌∙◌}
use Prim.Native.Nat.{◌<◌, ◌≤◌}
use Rattle.acts.proofs.queue.Queues.insert.Goals as goal

pub returns-then-not-fine_place-clause-told : goal.returns-then-not-fine_place-clause-told
returns-then-not-fine_place-clause-told c =
    λ s q. insert_five c.args.cell c.args.e s q (sym c.fine_place.ensures ∙ c.if-not-fine_place.true)

pub row_of-head-requires : goal.row_of-head-requires
row_of-head-requires c = row_asks c.requires.0.1 c.requires.1

pub count_of-requires : goal.count_of-requires
count_of-requires c =
    count_there c.requires.0.1.tables c.row_of-head.ensures c.requires.1

pub returns-then-z-count_of-clause-told : goal.returns-then-z-count_of-clause-told
returns-then-z-count_of-clause-told c =
    λ s q. insert-six c.args.cell c.args.e s q c.row_of-head.ensures c.requires.1 (sym c.fine_place.ensures ∙ c.if-not-fine_place.false) (subst (λ x. c.args.z.room ≤ x) c.count_of.ensures c.if-z-count_of.true)

pub insert-requires : goal.insert-requires
insert-requires c =
    insert-asks c.args.cell c.args.e c.requires.0.0 c.requires.0.1 c.row_of-head.ensures c.requires.1 (sym c.fine_place.ensures ∙ c.if-not-fine_place.false) (subst (λ x. x < c.args.z.room) c.count_of.ensures c.if-z-count_of.false)

pub update-requires : goal.update-requires
update-requires c =
    update_asks c.requires.0.1 c.requires.1
    (insert-tables c.args.cell c.args.e c.requires.0.0 c.requires.0.1 c.row_of-head.ensures c.requires.1 (sym c.fine_place.ensures ∙ c.if-not-fine_place.false) (subst (λ x. x < c.args.z.room) c.count_of.ensures c.if-z-count_of.false) c.insert.ensures)

pub returns-clause-told : goal.returns-clause-told
returns-clause-told c =
    let l = subst (λ x. x < c.args.z.room) c.count_of.ensures c.if-z-count_of.false in
    λ s q. insert-done c.args.cell c.args.e s q c.row_of-head.ensures c.requires.1 (sym c.fine_place.ensures ∙ c.if-not-fine_place.false) l
    (insert-tables c.args.cell c.args.e s q c.row_of-head.ensures c.requires.1 (sym c.fine_place.ensures ∙ c.if-not-fine_place.false) l c.insert.ensures) c.update.ensures.0
