use mathlib.Core.Path.{ap, ◌∙◌}
use mathlib.Core.List.{List}
use Prim.Native.Nat.{◌*◌}
use lib.ListN.{take}
use lib.Seq.{length-take-le}
use Rattle.std.specs.List.{list_all}
use lib.Ieee.{Float}
use Rattle.std.proofs.Common.{rules}
use borrow.Author.Tests.{tests}
use Rattle.std.proofs.lemmas.Iterator.Search.{all_from_yields_List}
use Rattle.layout.specs.Widths.{grain_wide}
use Rattle.model.specs.Check.{timely}
use Rattle.tables.specs.Decode.{grain_at}
use Rattle.checks.proofs.Chunks.{parts_walked, parts_taken, all_parts, grain_part}
use native.Mathlib.Omega.{arith}
use Rattle.checks.proofs.grains.settled.Goals as goal

pub returns : goal.returns
returns c =
    let n = c.args.n in
    let l = take (n * grain_wide) c.args.reals.now in
    let test = λ (p : List Float). timely c.args.t (grain_at p) in
    all_from_yields_List test _ _ c.all.result c.all.ensures.ran (parts_walked grain_wide (omega arith) n l c.chunks_exact.ensures.rest c.chunks_exact.ensures.size (length-take-le (n * grain_wide) c.args.reals.now c.requires)) (λ x b q k. search (rules, tests))
    ∙ ap (λ (xs : List (List Float)). list_all test xs) (parts_taken grain_wide n c.args.reals.now)
    ∙ all_parts grain_at grain_wide grain_part (timely c.args.t) n c.args.reals.now
