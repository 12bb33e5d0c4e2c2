use mathlib.Core.Path.{◌∙◌}
use mathlib.Core.List.{List}
use Prim.Native.Nat.{ℕ}
use lib.Ieee.{Float}
use Rattle.std.proofs.Common.{rules}
use borrow.Author.Tests.{tests}
use Rattle.std.proofs.lemmas.Iterator.{YieldsList-from_zip}
use Rattle.std.proofs.lemmas.Iterator.Consumers.{YieldsList-at}
use Rattle.std.proofs.lemmas.Iterator.Adapters.{serves_from_places}
use Rattle.std.proofs.lemmas.Iterator.Search.{all_from_yields_List}
use Rattle.layout.specs.Widths.{place_nums_wide, place_reals_wide}
use Rattle.model.specs.Check.{held}
use Rattle.tables.specs.Decode.{place_at}
use Rattle.checks.proofs.Chunks.{parts_walked, pair_long, all_pairs, place_part}
use native.Mathlib.Omega.{arith}
use Rattle.checks.proofs.places.all_held.Goals as goal

pub all-requires-clause-callable : goal.all-requires-clause-callable
all-requires-clause-callable c =
    let q = c.args.nums.now in
    let e = c.args.reals.now in
    let n = c.requires.0 in
    serves_from_places
    (YieldsList-from_zip (YieldsList-at c.zip.ensures.first (parts_walked place_nums_wide (omega arith) n q c.chunks_exact.ensures.rest c.chunks_exact.ensures.size c.requires.1))
    (YieldsList-at c.zip.ensures.second (parts_walked place_reals_wide (omega arith) n e c.chunks_exact-2.ensures.rest c.chunks_exact-2.ensures.size c.requires.2)))
    (λ x q k. search (rules, tests))
    (λ x k h is. let long = pair_long place_nums_wide place_reals_wide n q e k (x.0.now, x.1.now) c.requires.1 c.requires.2 h is in search rules)

pub returns : goal.returns
returns c = λ k h i.
    let q = c.args.nums.now in
    let e = c.args.reals.now in
    let test = held c.args.n c.args.c c.args.members.now in
    all_from_yields_List (λ (p : List ℕ × List Float). test (place_at p.0 p.1)) c.all.new.self _ c.all.result c.all.ensures.ran
    (YieldsList-from_zip (YieldsList-at c.zip.ensures.first (parts_walked place_nums_wide (omega arith) k q c.chunks_exact.ensures.rest c.chunks_exact.ensures.size h))
    (YieldsList-at c.zip.ensures.second (parts_walked place_reals_wide (omega arith) k e c.chunks_exact-2.ensures.rest c.chunks_exact-2.ensures.size i)))
    (λ x b q k. search (rules, tests))
    ∙ all_pairs place_at place_nums_wide place_reals_wide place_part test k q e
