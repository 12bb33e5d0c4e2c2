use mathlib.Core.Path.{◌≡◌, ap, ◌∙◌}
use mathlib.Core.Bool.{Bool, not, ◌&&◌}
use mathlib.Core.List.{List}
use Prim.Native.Nat.{ℕ, suc, ◌+◌, ◌-◌}
use native.Mathlib.Numerals.{add-one}
use lib.Dec.{ltb}
use lib.ListN.{length, get_or, drop}
use borrow.Rule.Slice.PartMut.{mid_of}
use Rattle.std.proofs.Common.{rules}
use borrow.Author.Tests.{tests}
use Rattle.std.proofs.lemmas.Iterator.{YieldsList-from_slice}
use Rattle.std.proofs.lemmas.Iterator.Consumers.{YieldsList-from_enumerate}
use Rattle.std.proofs.lemmas.Iterator.Search.{all_from_yields_List}
use Rattle.chunks.proofs.Laws.{tail_is}
use Rattle.model.specs.State.{has}
use Rattle.checks.proofs.Lists.{below_enumerated}
use native.Mathlib.Omega.{arith}
use Rattle.checks.proofs.rows.once_below.Goals as goal

pub returns : goal.returns
returns c =
    let xs = c.args.numbers.now in
    let test = λ (p : ℕ × ℕ). ltb p.1 c.args.n && not (has p.1 (mid_of (p.0 + 1) (length xs - (p.0 + 1)) xs)) in
    all_from_yields_List test _ _ c.all.result c.all.ensures.ran (YieldsList-from_enumerate (YieldsList-from_slice xs (cc)) (cc)) (λ x b q k. search (rules, tests))
    ∙ below_enumerated c.args.n test 0 xs (λ k j e l. ap (λ (b : Bool). ltb (get_or xs k 0) c.args.n && b) (behind k j (omega arith)))
  where
    xs' : List ℕ
    xs' = c.args.numbers.now

    behind : (k j : ℕ) → j ≡ k → not (has (get_or xs' k 0) (mid_of (j + 1) (length xs' - (j + 1)) xs')) ≡ not (has (get_or xs' k 0) (drop (suc k) xs'))
    behind k j e = rw (e, tail_is (k + 1) xs', add-one)
