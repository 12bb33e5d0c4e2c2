use mathlib.Core.Path.{◌≡◌, refl, subst}
use Prim.Native.Nat.{ℕ, zero-le}
use Rattle.tables.specs.Places.{Keeping}
use Rattle.tables.proofs.Runs.{keeping_none}
use native.Mathlib.Omega.{arith}
use borrow.Author.Rules.{rules}
use Rattle.tables.proofs.places.keep.Goals as goal

pub loop-i-init : goal.loop-i-init
loop-i-init c = (zero-le, zero-le, refl, refl, λ live rest e h. keeping_none c.args.g live rest h)

pub loop-i-preserved : goal.loop-i-preserved
loop-i-preserved c =
    let l = c.loop-i in
    let k = c.keep_one-kept.ensures.0 in (
      omega arith,
      omega arith,
      search rules,
      search rules,
      λ live rest e h. c.keep_one-kept.ensures.1 live rest (let t = c.loop-i-test.true in omega arith) (l.invariant.4 live rest e h),
    )

pub returns : goal.returns
returns c =
    let l = c.loop-i in
    let p : l.i ≡ c.args.n = omega arith in
    (omega arith, λ live rest e h. subst (λ (k : ℕ). Keeping c.args.g live rest k l.kept l.nums l.reals) p (l.invariant.4 live rest e h))
