use mathlib.Core.Path.{◌∙◌}
use mathlib.Core.List.{List}
use Prim.Native.Nat.{ℕ, ◌*◌}
use lib.Dec.{leb}
use lib.ListN.{get_or, take}
use lib.Seq.{length-take-le}
use Rattle.std.proofs.Common.{rules}
use borrow.Author.Tests.{tests}
use Rattle.std.proofs.lemmas.Iterator.Search.{all_from_yields_List}
use Rattle.checks.proofs.Chunks.{parts_walked, counts_read, counts_taken}
use Rattle.checks.proofs.rows.counted.Goals as goal

pub returns : goal.returns
returns c =
    let a = c.args in
    let l = take (a.n * a.width) a.rows.now in
    all_from_yields_List (λ (p : List ℕ). leb (get_or p 0 0) a.room) _ _ c.all.result c.all.ensures.ran
    (parts_walked a.width c.requires.0 a.n l c.chunks_exact.ensures.rest c.chunks_exact.ensures.size (length-take-le (a.n * a.width) a.rows.now c.requires.1)) (λ x b q k. search (rules, tests))
    ∙ counts_read a.room a.width c.requires.0 a.n l ∙ counts_taken a.room a.width c.requires.0 a.n a.rows.now
