use mathlib.Core.Path.{refl, ◌∙◌}
use mathlib.Core.List.{List}
use Prim.Native.Nat.{ℕ, ◌+◌}
use native.Mathlib.Omega.{arith}
use Rattle.std.proofs.Common.{rules}
use borrow.Author.Tests.{tests}
use Rattle.std.proofs.lemmas.Iterator.Adapters.{serves_from_places}
use Rattle.std.proofs.lemmas.Iterator.Search.{all_from_yields_List}
use mathlib.Core.Bool.{◌&&◌}
use lib.Dec.{ltb}
use Rattle.model.specs.Check.{all, once, numbers}
use Rattle.checks.proofs.Chunks.{parts_walked}
use Rattle.checks.proofs.OneRow.{used_of, part_whole, all_used, numbers_by}
use Rattle.checks.proofs.rows.Rows.side.Goals as goal

pub all-requires-clause-callable : goal.all-requires-clause-callable
all-requires-clause-callable c =
    let s = c.args.self.now in
    serves_from_places
    (parts_walked (s.room + 1) (omega arith) s.count s.numbers.now c.chunks_exact.ensures.rest c.chunks_exact.ensures.size s.rowed.whole)
    (λ x q k. search (rules, tests))
    (λ x k h is. let whole = part_whole s.room s.count s.numbers.now s.rowed k x.now h is in search rules)

pub returns : goal.returns
returns c =
    let s = c.args.self.now in
    let n = c.args.n in
    let test = λ (xs : List ℕ). all (λ x. ltb x n) xs && once xs in
    all_from_yields_List (λ (p : List ℕ). test (used_of p)) _ _ c.all.result c.all.ensures.ran
    (parts_walked (s.room + 1) (omega arith) s.count s.numbers.now c.chunks_exact.ensures.rest c.chunks_exact.ensures.size s.rowed.whole)
    (λ x b q k. search (rules, tests))
    ∙ all_used s.room s.count s.numbers.now test (numbers n s.room) (λ i h. numbers_by s.room s.count s.numbers.now i s.rowed h n refl refl)
