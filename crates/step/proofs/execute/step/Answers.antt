use mathlib.Core.Path.{refl}
use Rattle.model.specs.Acts.{taken}
use Rattle.step.proofs.Steps.{order_some, root_is, root_in, root-some, taken_ready, step_says, step_sync}
use Rattle.step.proofs.execute.step.Goals as goal

pub bounds-queues-0 : goal.bounds-queues-0
bounds-queues-0 c =
    let o = c.requires in
    order_some o.0 o.1

pub take-place-requires : goal.take-place-requires
take-place-requires c =
    let o = c.requires in
    ((o.0, o.1.holds.queued), root_in o.0 o.1, root-some o.0 o.1)

pub execute-done-requires : goal.execute-done-requires
execute-done-requires c =
    let o = c.requires in
    let t = c.take-place.ensures.taken o.0 o.1.holds.queued (root_is o.0 o.1) in
    (taken o.0, taken_ready o.0 o.1 c.take-place.result c.event_of-e.result refl refl refl t.0 c.event_of-e.ensures t.1)

pub returns-clause-does : goal.returns-clause-does
returns-clause-does c = record {
  says = λ s h. let t = c.take-place.ensures.taken s h.holds.queued (root_is s h) in
      step_says s h c.take-place.result c.event_of-e.result refl refl refl t.0 c.event_of-e.ensures t.1 c.args.rate c.execute-done.ensures.does;
}

pub returns-clause-kind : goal.returns-clause-kind
returns-clause-kind c =
    λ s h. let t = c.take-place.ensures.taken s h.holds.queued (root_is s h) in step_sync s h c.take-place.result c.event_of-e.result t.0 c.event_of-e.ensures c.is_sync.ensures
