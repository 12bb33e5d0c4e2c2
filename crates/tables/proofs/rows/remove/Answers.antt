use Rattle.std.proofs.lemmas.Iterator.{IsFirst-from_position, YieldsList-from_slice}
use Rattle.std.proofs.option.Match.{if_some}
use Rattle.std.proofs.Common.{◌≡◌, take, rules, tests}
use Rattle.tables.proofs.RowLaws.{removed, not_there}
use Rattle.tables.proofs.rows.remove.Goals as goal

pub returns-in-Some : goal.returns-in-Some
returns-in-Some c =
    let x = c.args.x in
    let found = if_some _ _ _ c.in-Some.is (IsFirst-from_position _ _ _ (λ y. y ≡ x) (λ y. y ≡ x → ⊥) c.position-found.ensures.ran (YieldsList-from_slice _ c.iter.ensures.rest) (λ y q k. search (rules, tests)) (λ y q k. search (rules, tests))) in
    removed x found.0 found.1 found.2 c.pull.ensures

pub returns-in_default : goal.returns-in_default
returns-in_default c =
    let x = c.args.x in
    let all = take c.args.n c.args.nums.now in
    let found = IsFirst-from_position _ _ _ (λ y. y ≡ x) (λ y. y ≡ x → ⊥) c.position-found.ensures.ran (YieldsList-from_slice all c.iter.ensures.rest) (λ y q k. search (rules, tests)) (λ y q k. search (rules, tests)) in
    absurd (not_there x all c.requires.1 (rw c.in_default.is at found))
