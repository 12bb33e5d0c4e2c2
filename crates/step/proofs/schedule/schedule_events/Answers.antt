use Rattle.cell.proofs.Laws.{index_cell}
use Rattle.step.proofs.Scheduling.{others_held, stepped_held, events_halt, events_on, made_cell}
use Rattle.step.proofs.Leaves.{members_below}
use Rattle.step.proofs.Does.{after}
use Rattle.step.proofs.schedule.schedule_events.Goals as goal

pub step_others-requires : goal.step_others-requires
step_others-requires c =
    let a = c.args in
    let o = c.requires.0 in
    ((o.0, o.1.seen.grained), o.1.seen.queued.ranged, members_below o.0 o.1.listed a.cell c.requires.2 (c.members_of-members.ensures o.0 o.1.listed))

pub returns-in_err-step_others-clause-does : goal.returns-in_err-step_others-clause-does
returns-in_err-step_others-clause-does c =
    let a = c.args in
    let e = c.in_err-step_others in
    events_halt a.p a.cell c.members_of-members.result.now (λ s h. c.members_of-members.ensures s h.listed) c.from_residual.result e.field-0.0 c.from_residual.ensures.1 (others_held a.p _ e.ensures)

pub schedule_stepped-requires : goal.schedule_stepped-requires
schedule_stepped-requires c =
    let a = c.args in
    let o = c.requires.0 in
    let u = after (others_held a.p _ c.in_ok-step_others.ensures) o in
    ((u.0, u.1.seen), made_cell a.cell c.new-cell.ensures c.requires.2, c.requires.1, members_below o.0 o.1.listed a.cell c.requires.2 (c.members_of-members.ensures o.0 o.1.listed))

pub returns-clause-does : goal.returns-clause-does
returns-clause-does c =
    let a = c.args in
    events_on a.p a.cell _ (λ s h. c.members_of-members.ensures s h.listed) (others_held a.p _ c.in_ok-step_others.ensures)
    (stepped_held a.p _ (index_cell a.w.domain a.cell c.new-cell.ensures) c.schedule_stepped.ensures.does)
