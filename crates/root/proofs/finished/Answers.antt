use mathlib.Core.Path.{◌≡◌, ap, ◌∙◌}
use Prim.Native.Nat.{ℕ, ◌+◌, ◌*◌, ◌/◌, ◌%◌, ◌^◌}
use native.Mathlib.Omega.{arith}
use Rattle.root.specs.Isqrt.{near}
use Rattle.root.proofs.Finish.{bounds, shifted, small}
use Rattle.root.proofs.finished.Goals.{Start, After-near_root}
use Rattle.root.proofs.finished.Goals as goal

pub near_root-requires : goal.near_root-requires
near_root-requires c =
    let a = c.args in
    let r = c.requires in
    rw (shifted a.m a.b r.0 r.1) (bounds a.m a.b r.0 r.1)

-- the root's digits
found : (c : After-near_root) → c.near_root.result ≡ near (c.args.m * 2 ^ (c.args.b % 2) * 4 ^ 26)
found c = c.near_root.ensures ∙ ap (λ (x : ℕ). near (x * 4 ^ 26)) (shifted c.args.m c.args.b c.requires.0 c.requires.1)

pub overflow_add-result : goal.overflow_add-result
overflow_add-result c = omega (arith, found c, small c.args.m c.args.b c.requires.0 c.requires.1)

pub returns : goal.returns
returns c = ap (λ (x : ℕ). (c.args.b / 2 + 485) * 2 ^ 52 + x) (found c)
