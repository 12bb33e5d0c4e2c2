use Rattle.step.proofs.Starting.{sync_held, pairs_held, bounds_held, init_first, init_second, init_third}
use Rattle.cell.proofs.Laws.{index_cell}
use Rattle.step.proofs.Scheduling.{made_cell}
use Rattle.step.proofs.Leaves.{members_below}
use Rattle.step.proofs.Does.{after}
use Rattle.step.proofs.init.init_cell.Goals as goal

pub returns-in_err-sync_in-clause-does : goal.returns-in_err-sync_in-clause-does
returns-in_err-sync_in-clause-does c =
    let e = c.in_err-sync_in in
    init_first c.args.cell c.from_residual.result e.field-0.0 c.from_residual.ensures.1 (sync_held c.args.cell e.ensures.does)

pub pairs-requires : goal.pairs-requires
pairs-requires c =
    let a = c.args in
    let o = c.requires.0 in
    let u = after (sync_held a.cell c.in_ok-sync_in.ensures.does) o in
    ((u.0, u.1.seen), made_cell a.cell c.new-cell.ensures c.requires.1, members_below o.0 o.1.listed a.cell c.requires.1 (c.members_of-members.ensures o.0 o.1.listed))

pub returns-in_err-pairs-clause-does : goal.returns-in_err-pairs-clause-does
returns-in_err-pairs-clause-does c =
    let a = c.args in
    let e = c.in_err-pairs in
    init_second a.cell c.from_residual-in_err-pairs.result e.field-0.0 c.members_of-members.result.now (λ s h. c.members_of-members.ensures s h.listed) c.from_residual-in_err-pairs.ensures.1
    (sync_held a.cell c.in_ok-sync_in.ensures.does) (pairs_held _ (index_cell a.w.domain a.cell c.new-cell.ensures) e.ensures.does)

pub bounds_each-requires : goal.bounds_each-requires
bounds_each-requires c =
    let a = c.args in
    let o = c.requires.0 in
    let u = after (pairs_held _ (index_cell a.w.domain a.cell c.new-cell.ensures) c.in_ok-pairs.ensures.does) (after (sync_held a.cell c.in_ok-sync_in.ensures.does) o) in
    ((u.0, u.1.seen), made_cell a.cell c.new-cell.ensures c.requires.1, members_below o.0 o.1.listed a.cell c.requires.1 (c.members_of-members.ensures o.0 o.1.listed))

pub returns-clause-does : goal.returns-clause-does
returns-clause-does c =
    let a = c.args in
    let m = c.members_of-members in
    init_third a.cell m.result.now (λ s h. m.ensures s h.listed) (λ s h. m.ensures s h.listed) (sync_held a.cell c.in_ok-sync_in.ensures.does)
    (pairs_held _ (index_cell a.w.domain a.cell c.new-cell.ensures) c.in_ok-pairs.ensures.does) (bounds_held _ (index_cell a.w.domain a.cell c.new-cell.ensures) c.bounds_each.ensures.does)
