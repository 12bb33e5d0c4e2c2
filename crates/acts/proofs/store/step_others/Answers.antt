use mathlib.Core.Path.{refl, sym, subst}
use Prim.Native.Nat.{◌<◌, ◌+◌}
use mathlib.Core.List.{List}
use lib.Ieee.{Float}
use lib.ListN.{get_or, drop}
use Rattle.halting.specs.Out.{each_of}
use Rattle.halting.proofs.All.{all_at}
use Rattle.model.specs.Doing.{step_grain}
use Rattle.model.specs.Rows.{others}
use Rattle.acts.specs.Tell.{InGrains}
use Rattle.acts.proofs.StoreLaws.{GoesOn, timed}
use Rattle.acts.proofs.Touch.{step_only, at_on}
use Rattle.acts.proofs.InTurn.{others_end, others-past, others-halt, others-next}
use Rattle.acts.proofs.store.step_others.Goals as goal
use Rattle.acts.proofs.store.step_others.Goals.{then-g-p+in_ok-step_grain, else-g-p}

pub loop-g-init : goal.loop-g-init
loop-g-init c = (c.requires.0, λ t r k. k)

pub step_grain-requires : goal.step_grain-requires
step_grain-requires c =
    (c.loop-g.invariant.0, c.requires.1, all_at (λ g. g < c.args.z.grains) c.args.list.now c.loop-g.g-index 0 c.requires.2 c.loop-g-test.true)

pub returns-in_err-step_grain : goal.returns-in_err-step_grain
returns-in_err-step_grain c =
    let l = c.loop-g in
    let a = c.args in
    let e = c.in_err-step_grain in
    let t = c.step_grain.new.grains in
    l.invariant.1 t _
    (λ s S u. others-halt step_grain s (InGrains a.z t) a.p a.list.now l.g-index c.from_residual.result e.field-0.0 c.loop-g-test.true c.if-g-p.true c.from_residual.ensures.1
    (e.ensures s S u))

pub loop-g-preserved : goal.loop-g-preserved
loop-g-preserved c =
    let l = c.loop-g in
    let a = c.args in
    let g = get_or a.list.now l.g-index 0 in
    let v = timed a.domain a.clock l.invariant.0.0 in
    let goes_on = λ (t : List Float). GoesOn (each_of step_grain (others a.p a.list.now)) (each_of step_grain (others a.p (drop (l.g-index + 1) a.list.now))) a.z a.domain a.clock a.grains.now t in
    elim c.if-g-p.branch [
      | then-g-p+in_ok-step_grain w ↦ let d = w.in_ok-step_grain.ensures in subst goes_on (sym w.grains-is) (
        ((step_grain g v).st, (d v l.invariant.0.1 (refl, refl)).1),
        λ t r k. l.invariant.1 t r (λ s S u. others-next step_grain s (InGrains a.z w.step_grain.new.grains) (InGrains a.z t) a.p a.list.now l.g-index c.loop-g-test.true w.if-g-p.true (d s S u)
            (k (step_grain g s).st (d s S u).1 (at_on a.domain a.clock s (step_grain g s).st (step_only g s) u))),
      )
      | else-g-p w ↦ subst goes_on (sym w.grains-is) (
        l.invariant.0,
        λ t r k. l.invariant.1 t r (λ s S u. others-past step_grain s (InGrains a.z t) a.p a.list.now l.g-index c.loop-g-test.true w.if-g-p.false (k s S u)),
      )
    ]

pub returns : goal.returns
returns c =
    let l = c.loop-g in
    let a = c.args in
    l.invariant.1 l.grains 0 (λ s S u. others_end step_grain s (InGrains a.z l.grains) a.p a.list.now l.g-index c.loop-g-test.false S)
