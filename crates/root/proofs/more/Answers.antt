use native.Mathlib.Omega.{arith}
use Rattle.root.proofs.Longer.{sizes, enough_left, step_back, no_step}
use Rattle.root.proofs.more.Goals as goal

pub overflow_mul-next : goal.overflow_mul-next
overflow_mul-next c = omega (arith, sizes _ _ _ _ c.requires)

pub overflow_add-next : goal.overflow_add-next
overflow_add-next c = omega (arith, sizes _ _ _ _ c.requires)

pub overflow_mul-twice : goal.overflow_mul-twice
overflow_mul-twice c = omega (arith, sizes _ _ _ _ c.requires)

pub nonzero_div-digits : goal.nonzero_div-digits
nonzero_div-digits c = omega (arith, sizes _ _ _ _ c.requires)

pub nonzero_rem-left : goal.nonzero_rem-left
nonzero_rem-left c = omega (arith, sizes _ _ _ _ c.requires)

pub overflow_mul-left : goal.overflow_mul-left
overflow_mul-left c = omega (arith, sizes _ _ _ _ c.requires)

pub overflow_add-left : goal.overflow_add-left
overflow_add-left c = omega (arith, sizes _ _ _ _ c.requires)

pub overflow_mul-square : goal.overflow_mul-square
overflow_mul-square c = omega (arith, sizes _ _ _ _ c.requires)

pub overflow_mul-q : goal.overflow_mul-q
overflow_mul-q c = omega (arith, sizes _ _ _ _ c.requires)

pub overflow_add-q : goal.overflow_add-q
overflow_add-q c = omega (arith, sizes _ _ _ _ c.requires)

pub overflow_sub-result : goal.overflow_sub-result
overflow_sub-result c = omega (arith, sizes _ _ _ _ c.requires)

pub overflow_mul-result : goal.overflow_mul-result
overflow_mul-result c = omega (arith, sizes _ _ _ _ c.requires)

pub overflow_sub-result-then-left-square : goal.overflow_sub-result-then-left-square
overflow_sub-result-then-left-square c = omega (arith, sizes _ _ _ _ c.requires)

pub overflow_add-result : goal.overflow_add-result
overflow_add-result c = omega (arith, sizes _ _ _ _ c.requires)

pub overflow_sub-result-then-left-square-2 : goal.overflow_sub-result-then-left-square-2
overflow_sub-result-then-left-square-2 c = enough_left _ _ _ _ c.requires c.if-left-square.true

pub returns-then-left-square : goal.returns-then-left-square
returns-then-left-square c = step_back _ _ _ _ c.requires c.if-left-square.true

pub returns-else-left-square : goal.returns-else-left-square
returns-else-left-square c = no_step _ _ _ _ c.requires c.if-left-square.false
