use Prim.Native.Nat.{ℕ, ◌+◌, ◌*◌, ◌/◌, ◌^◌}
use native.Mathlib.Omega.{arith}
use Rattle.root.specs.declared.Digits.{Digits}
use Rattle.root.specs.Step.{taken, DigitsOf}
use Rattle.root.proofs.Loop.{ready_one, again, looped, goes_on, ready_more, root_small, up, down}
use Rattle.root.proofs.near_root.Goals.{After-loop, After-more-s, After-more-s-2}
use Rattle.root.proofs.near_root.Goals as goal

-- the digits behind the loop, and behind each of the three calls
digits_7 : (c : After-loop) → DigitsOf (c.args.a / 2 ^ 40) c.loop.s
digits_7 c = looped _ _ _ _ c.loop.invariant (omega arith)

digits-14 : (c : After-more-s) → DigitsOf (c.args.a / 2 ^ 26) c.more-s.result
digits-14 c = goes_on _ _ 128 _ _ _ (digits_7 (goal.at.more-s-requires-2 c).After-loop) c.more-s.ensures (omega arith)

digits-27 : (c : After-more-s-2) → DigitsOf c.args.a c.more-s-2.result
digits-27 c = goes_on _ _ 8192 _ _ _ (digits-14 (goal.at.more-s-requires-3 c).After-more-s) c.more-s-2.ensures (omega arith)

digits-53 : (a : ℕ) (s r : Digits) → DigitsOf a s → DigitsOf (taken s * (67108864 * 67108864) + 0) r → DigitsOf (a * 4 ^ 26) r
digits-53 a s r d e = goes_on _ _ 67108864 0 _ _ d e (omega arith)

pub loop-init : goal.loop-init
loop-init c = record { rest = omega arith; wide = omega arith; value = omega arith }

pub step-s-requires : goal.step-s-requires
step-s-requires c =
    ready_one _ _ _ _ (omega (arith, c.requires.1)) (omega arith) c.loop.invariant

pub loop-preserved : goal.loop-preserved
loop-preserved c =
    again _ _ _ _ _ c.loop.invariant c.step-s.ensures

pub more-s-requires : goal.more-s-requires
more-s-requires c =
    let p = c.requires in
    ready_more _ _ 64 128 _ _ (digits_7 c) (omega arith) (omega arith) (omega arith) (omega arith) (omega arith)

pub more-s-requires-2 : goal.more-s-requires-2
more-s-requires-2 c =
    let p = c.requires in
    ready_more _ _ 8192 8192 _ _ (digits-14 c) (omega arith) (omega arith) (omega arith) (omega arith) (omega arith)

pub more-s-requires-3 : goal.more-s-requires-3
more-s-requires-3 c =
    let p = c.requires in
    ready_more _ _ 67108864 67108864 _ _ (digits-27 c) (omega arith) (omega arith) (omega arith) (omega arith) (omega arith)

pub overflow_add-result : goal.overflow_add-result
overflow_add-result c =
    omega (arith, root_small c.args.a c.more-s-3.result (digits-53 _ _ _ (digits-27 (goal.at.overflow_add-result c).After-more-s-2) c.more-s-3.ensures) c.requires.1)

pub returns-then-s : goal.returns-then-s
returns-then-s c =
    up c.args.a c.more-s-3.result (digits-53 _ _ _ (digits-27 (goal.at.returns-then-s c).After-more-s-2) c.more-s-3.ensures) c.requires.1 c.if-s.true

pub returns-else-s : goal.returns-else-s
returns-else-s c =
    down c.args.a c.more-s-3.result (digits-53 _ _ _ (digits-27 (goal.at.returns-else-s c).After-more-s-2) c.more-s-3.ensures) c.requires.1 c.if-s.false
