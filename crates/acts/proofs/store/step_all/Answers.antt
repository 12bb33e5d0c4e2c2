use mathlib.Core.Path.{refl}
use Rattle.model.specs.Doing.{step_grain}
use Rattle.acts.specs.Tell.{InGrains}
use Rattle.acts.proofs.StoreLaws.{all_told, timed}
use Rattle.acts.proofs.Touch.{step_only, at_on}
use Rattle.acts.proofs.InTurn.{each-end, each-halt, each-next}
use native.Mathlib.Omega.{arith}
use Rattle.acts.proofs.store.step_all.Goals as goal

pub loop-g-init : goal.loop-g-init
loop-g-init c = (c.requires.0, λ t r k s S u. all_told (InGrains c.args.z t) step_grain s S.many (k s S u))

pub step_grain-requires : goal.step_grain-requires
step_grain-requires c = (c.loop-g.invariant.0, c.requires.1, c.loop-g-test.true)

pub returns-in_err-step_grain : goal.returns-in_err-step_grain
returns-in_err-step_grain c =
    let l = c.loop-g in
    let a = c.args in
    let e = c.in_err-step_grain in
    let t = c.step_grain.new.grains in
    l.invariant.1 t _ (λ s S u. each-halt step_grain s (InGrains a.z t) a.z.grains l.g c.from_residual.result e.field-0.0 c.loop-g-test.true c.from_residual.ensures.1 (e.ensures s S u))

pub loop-g-preserved : goal.loop-g-preserved
loop-g-preserved c =
    let l = c.loop-g in
    let a = c.args in
    let d = c.in_ok-step_grain.ensures in
    let v = timed a.domain a.clock l.invariant.0.0 in (
      ((step_grain l.g v).st, (d v l.invariant.0.1 (refl, refl)).1),
      λ t r k. l.invariant.1 t r (λ s S u. each-next step_grain s (InGrains a.z c.step_grain.new.grains) (InGrains a.z t) a.z.grains l.g c.loop-g-test.true (d s S u)
          (k (step_grain l.g s).st (d s S u).1 (at_on a.domain a.clock s (step_grain l.g s).st (step_only l.g s) u))),
    )

pub returns : goal.returns
returns c =
    let l = c.loop-g in
    let a = c.args in
    l.invariant.1 l.grains 0 (λ s S u. each-end step_grain s (InGrains a.z l.grains) a.z.grains l.g (omega arith) S)
