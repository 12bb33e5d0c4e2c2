use Rattle.tables.proofs.Runs.{passing_none, passing_more, passed_here, passed_all}
use native.Mathlib.Omega.{arith}
use Rattle.tables.proofs.places.passed.Goals as goal

pub loop-i-init : goal.loop-i-init
loop-i-init c = λ live rest e h. passing_none c.args.s live

pub loop-i-preserved : goal.loop-i-preserved
loop-i-preserved c =
    let l = c.loop-i in
    λ live rest e h. passing_more rest (l.invariant live rest e h) e c.loop-i-test.true h c.get_place-next.ensures c.if-not-next-s.false

pub returns-then-not-next-s : goal.returns-then-not-next-s
returns-then-not-next-s c =
    let l = c.loop-i in
    (omega arith, λ live rest e h. passed_here rest (l.invariant live rest e h) e c.loop-i-test.true h c.get_place-next.ensures c.if-not-next-s.true)

pub returns : goal.returns
returns c =
    let l = c.loop-i in
    (omega arith, λ live rest e h. passed_all (l.invariant live rest e h) e (omega arith))
