use mathlib.Core.Path.{◌∙◌}
use mathlib.Core.List.{List, []}
use Prim.Native.Nat.{ℕ}
use lib.Dec.{eqb}
use lib.ListN.{get_or}
use Rattle.std.proofs.Common.{rules}
use borrow.Author.Tests.{tests}
use Rattle.std.proofs.lemmas.Iterator.Consumers.{YieldsList-from_filter, YieldsList-at, count_from_yields_List}
use Rattle.layout.specs.Widths.{place_nums_wide}
use Rattle.model.specs.Events.{event_of}
use Rattle.model.specs.Standing.{one_if}
use Rattle.tables.specs.Decode.{place_at}
use Rattle.checks.proofs.Chunks.{parts_walked}
use Rattle.checks.proofs.OnePlace.{syncs_parts}
use native.Mathlib.Omega.{arith}
use Rattle.checks.proofs.places.syncs.Goals as goal

pub returns : goal.returns
returns c = λ k e h.
    let q = c.args.nums.now in
    let test = λ (p : List ℕ). eqb (one_if (event_of (get_or p 0 0) (place_at p []))) 1 in
    count_from_yields_List c.filter.result _ c.count.ensures.ran
    (YieldsList-from_filter _ test (YieldsList-at c.filter.ensures.source (parts_walked place_nums_wide (omega arith) k q c.chunks_exact.ensures.rest c.chunks_exact.ensures.size h)) c.filter.ensures.closure (λ x b f p. search (rules, tests)))
    ∙ syncs_parts k q e
