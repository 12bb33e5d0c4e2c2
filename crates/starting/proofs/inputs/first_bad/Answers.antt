use Prim.Native.Nat.{ℕ}
use mathlib.Core.Path.{◌≡◌}
use mathlib.Core.Bool.{true, false}
use lib.ListN.{get_or}
use borrow.Author.Tests.{tests}
use Rattle.std.proofs.Common.{rules}
use Rattle.std.proofs.lemmas.Iterator.{first_from_Range}
use Rattle.model.specs.Sizes.{grain_ok}
use Rattle.model.specs.State.{zero_g}
use Rattle.tables.specs.Inputs.{inputs_of}
use Rattle.starting.proofs.InputLaws.{bad_found}
use Rattle.starting.proofs.inputs.first_bad.Goals as goal

pub returns : goal.returns
returns c =
    let a = c.args in
    let ok = λ (k : ℕ). grain_ok a.domain (get_or (inputs_of a.n a.inputs.now) k zero_g) in
    bad_found a.domain a.n a.inputs.now c.find.result
    (first_from_Range _ _ _ c.find.result (λ k. ok k ≡ false) (λ k. ok k ≡ true) c.find.ensures.ran (λ x q t. search (rules, tests)) (λ x q t. search (rules, tests)))
