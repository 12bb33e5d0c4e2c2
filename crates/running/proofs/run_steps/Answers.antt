use Prim.Native.Nat.{◌≤◌}
use mathlib.Core.Path.{refl, ◌∙◌}
use native.Mathlib.Omega.{arith}
use Rattle.running.proofs.Going.{steady_of, left_first, left-more, gone-sync, gone-halted, gone_spent}
use Rattle.running.proofs.run_steps.Goals as goal

pub loop-done-init : goal.loop-done-init
loop-done-init c = record { same = record { queue = refl; events = refl; order = refl }; left = λ s h. left_first h }

pub step-requires : goal.step-requires
step-requires c = let N = c.loop-done.invariant.left c.requires.0.0 c.requires.0.1 in (N.now, steady_of N)

pub returns-in-Ok-2-clause-gone : goal.returns-in-Ok-2-clause-gone
returns-in-Ok-2-clause-gone c = λ s h.
    let e = c.step.ensures in
    gone-sync c.step.result c.requires.1 c.loop-done-test.true (c.loop-done.invariant.left s h) e.world e.does e.kind c.from.result (search (c.in-Ok-2)) (search (c.in-Ok-2))
    (omega (arith, c.from.ensures))

pub returns-in-Err-clause-gone : goal.returns-in-Err-clause-gone
returns-in-Err-clause-gone c = λ s h.
    let e = c.step.ensures in
    gone-halted c.step.result c.requires.1 c.loop-done-test.true (c.loop-done.invariant.left s h) e.world e.does c.in-Err.halt c.from-in-Err.result (search (c.in-Err))
    (omega (arith, c.from-in-Err.ensures))

pub loop-done-preserved : goal.loop-done-preserved
loop-done-preserved c =
    let e = c.step.ensures in
    let k = c.loop-done.invariant.same in
    record {
      same = record { queue = e.same.queue ∙ k.queue; events = e.same.events ∙ k.events; order = e.same.order ∙ k.order };
      left = λ s h. left-more c.step.result c.requires.1 c.loop-done-test.true (c.loop-done.invariant.left s h) e.world e.does e.kind (search (c.in-Ok)) (search (c.in-Ok));
    }

pub returns-clause-gone : goal.returns-clause-gone
returns-clause-gone c = λ s h.
    gone_spent c.from-2.result (c.loop-done.invariant.left s h) c.loop-done-test.false
    (let e : c.loop-done.done ≤ c.args.budget = c.loop-done.auto.done-end in let f = c.loop-done-test.false in omega (arith, c.from-2.ensures))
