use mathlib.Core.Path.{sym}
use lib.Seq.{length-take-le}
use lib.ListN.{length-drop, drop}
use Rattle.std.proofs.Common.{rules}
use Rattle.model.specs.Check.{heaped}
use native.Mathlib.Omega.{arith}
use Rattle.checks.proofs.Lent.heaped.Goals as goal

pub slice_bounds-heap-end : goal.slice_bounds-heap-end
slice_bounds-heap-end c =
    let s = c.args.self.now in
    let k = s.sized.order_long in
    sym (length-take-le 256 s.order.now (omega arith))

pub inverse-requires : goal.inverse-requires
inverse-requires c =
    let s = c.args.self.now in
    let k = s.sized.order_long in
    let n = s.sized.cells_most in
    let a = length-take-le 256 s.order.now (omega arith) in
    let b = length-take-le 256 (drop 256 s.order.now) (omega (arith, length-drop 256 s.order.now)) in
    (omega arith, omega arith)

pub inverse-requires-then-inverse : goal.inverse-requires-then-inverse
inverse-requires-then-inverse c =
    let s = c.args.self.now in
    let k = s.sized.order_long in
    let n = s.sized.cells_most in
    let a = length-take-le 256 s.order.now (omega arith) in
    let b = length-take-le 256 (drop 256 s.order.now) (omega (arith, length-drop 256 s.order.now)) in
    (omega arith, omega arith)

pub ordered-requires : goal.ordered-requires
ordered-requires c =
    let s = c.args.self.now in
    let k = s.sized.order_long in
    let n = s.sized.cells_most in
    let a = length-take-le 256 s.order.now (omega arith) in
    omega arith

pub returns-then-inverse-2 : goal.returns-then-inverse-2
unfolding heaped
returns-then-inverse-2 c = search rules

pub returns-else-inverse-2 : goal.returns-else-inverse-2
unfolding heaped
returns-else-inverse-2 c = search rules
