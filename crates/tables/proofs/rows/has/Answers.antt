use Prim.Native.Nat.{ℕ}
use lib.Dec.{eqb}
use mathlib.Core.Path.{◌∙◌}
use Rattle.std.proofs.Common.{rules}
use borrow.Author.Tests.{tests}
use Rattle.std.proofs.lemmas.Iterator.{YieldsList-from_slice}
use Rattle.std.proofs.lemmas.Iterator.Search.{any_from_yields_List}
use Rattle.tables.proofs.RowLaws.{any_is_has}
use Rattle.tables.proofs.rows.has.Goals as goal

pub returns : goal.returns
returns c =
    let x = c.args.x in
    let xs = c.args.nums.now in
    any_from_yields_List (λ (y : ℕ). eqb y x) _ _ c.any.result c.any.ensures.ran (YieldsList-from_slice xs (cc)) (λ y b q k. search (rules, tests))
    ∙ any_is_has x xs
