use mathlib.Core.Path.{◌∙◌}
use Rattle.std.proofs.Common.{rules}
use borrow.Author.Tests.{tests}
use Rattle.std.proofs.lemmas.Iterator.{YieldsList-from_range}
use Rattle.std.proofs.lemmas.Iterator.Search.{all_from_yields_List}
use Rattle.scheduler.specs.Inside.{heads_of}
use Rattle.model.specs.Check.{in_order}
use Rattle.checks.proofs.Lists.{every_range}
use native.Mathlib.Omega.{arith}
use Rattle.checks.proofs.heap.ordered.Goals as goal

pub returns : goal.returns
returns c =
    let test = in_order (heads_of c.args.heads) c.args.heap.now c.args.n in
    all_from_yields_List test _ _ c.all.result c.all.ensures.ran (YieldsList-from_range 0 c.args.n c.args.n (cc) (omega arith)) (λ x b q k. search (rules, tests))
    ∙ every_range test c.args.n 0
