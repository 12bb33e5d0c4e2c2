use mathlib.Core.Path.{refl, ap, ◌∙◌}
use mathlib.Core.List.{List}
use Prim.Native.Nat.{ℕ, ◌+◌}
use native.Mathlib.Omega.{arith}
use Rattle.std.proofs.Common.{rules}
use borrow.Author.Tests.{tests}
use Rattle.std.proofs.lemmas.Iterator.Adapters.{serves_from_places}
use Rattle.std.proofs.lemmas.Iterator.Search.{all_from_yields_List}
use Rattle.std.proofs.lemmas.Iterator.Consumers.{YieldsList-at, YieldsList-from_enumerate}
use Rattle.std.proofs.lemmas.List.FromFn.{length-enumerate_from, get_or-enumerate_from}
use lib.ListN.{length}
use Prim.Native.Nat.{◌<◌}
use Rattle.model.specs.State.{has, live_at}
use Rattle.model.specs.Check.{all, back_row}
use Rattle.checks.specs.Held.{rows_in}
use Rattle.checks.proofs.Chunks.{parts, parts_walked}
use Rattle.checks.proofs.OneRow.{used_of, part_whole, walk_used}
use Rattle.checks.proofs.rows.Rows.back.Goals as goal

pub all-requires-clause-callable : goal.all-requires-clause-callable
all-requires-clause-callable c =
    let s = c.args.self.now in
    let ps = parts (s.room + 1) s.count s.numbers.now in
    serves_from_places
    (YieldsList-from_enumerate (YieldsList-at c.enumerate.ensures.source (parts_walked (s.room + 1) (omega arith) s.count s.numbers.now c.chunks_exact.ensures.rest c.chunks_exact.ensures.size s.rowed.whole)) c.enumerate.ensures.count)
    (λ x q k. search (rules, tests))
    (λ x k h is.
    let j : k < length ps = omega (arith, length-enumerate_from 0 ps) in
    let whole = part_whole s.room s.count s.numbers.now s.rowed k x.1.now j (ap (λ (p : ℕ × List ℕ). p.1) (is ∙ get_or-enumerate_from 0 ps k (x.0, x.1.now) j)) in
    search rules)

pub returns : goal.returns
returns c =
    let s = c.args.self.now in
    let o = rows_in c.args.others.now in
    let test = λ (i : ℕ) (xs : List ℕ). all (λ k. has i (live_at o k)) xs in
    all_from_yields_List (λ (p : ℕ × List ℕ). test p.0 (used_of p.1)) _ _ c.all.result c.all.ensures.ran
    (YieldsList-from_enumerate (YieldsList-at c.enumerate.ensures.source (parts_walked (s.room + 1) (omega arith) s.count s.numbers.now c.chunks_exact.ensures.rest c.chunks_exact.ensures.size s.rowed.whole)) c.enumerate.ensures.count)
    (λ x b q k. search (rules, tests))
    ∙ walk_used s.room s.count s.numbers.now test (back_row o) (λ i k h. refl)
