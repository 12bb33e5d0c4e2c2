use Rattle.tables.proofs.Runs.{fine_is}
use Rattle.halting.proofs.Bools.{both, neither}
use mathlib.Core.Path.{refl, sym, ◌∙◌}
use Rattle.tables.proofs.places.fine_place.Goals as goal

pub returns-then-fine_vec-4 : goal.returns-then-fine_vec-4
returns-then-fine_vec-4 c =
    both _ _ _ _ c.is_finite.ensures c.if-is_finite.true (both _ _ _ _ refl c.if-time.true
    (both _ _ _ _ c.fine_vec.ensures c.if-fine_vec.true
    (both _ _ _ _ c.fine_vec-then-fine_vec.ensures c.if-fine_vec-2.true
    (both _ _ _ _ c.fine_vec-then-fine_vec-2.ensures c.if-fine_vec-3.true (both _ _ _ _ c.fine_vec-then-fine_vec-3.ensures c.if-fine_vec-4.true c.is_finite-then-fine_vec-4.ensures))))) ∙ sym (fine_is c.args.s)

pub returns-else-fine_vec-4 : goal.returns-else-fine_vec-4
returns-else-fine_vec-4 c =
    both _ _ _ _ c.is_finite.ensures c.if-is_finite.true (both _ _ _ _ refl c.if-time.true
    (both _ _ _ _ c.fine_vec.ensures c.if-fine_vec.true
    (both _ _ _ _ c.fine_vec-then-fine_vec.ensures c.if-fine_vec-2.true
    (both _ _ _ _ c.fine_vec-then-fine_vec-2.ensures c.if-fine_vec-3.true (neither _ _ _ c.fine_vec-then-fine_vec-3.ensures c.if-fine_vec-4.false))))) ∙ sym (fine_is c.args.s)

pub returns-else-fine_vec-3 : goal.returns-else-fine_vec-3
returns-else-fine_vec-3 c =
    both _ _ _ _ c.is_finite.ensures c.if-is_finite.true (both _ _ _ _ refl c.if-time.true
    (both _ _ _ _ c.fine_vec.ensures c.if-fine_vec.true
    (both _ _ _ _ c.fine_vec-then-fine_vec.ensures c.if-fine_vec-2.true (neither _ _ _ c.fine_vec-then-fine_vec-2.ensures c.if-fine_vec-3.false)))) ∙ sym (fine_is c.args.s)

pub returns-else-fine_vec-2 : goal.returns-else-fine_vec-2
returns-else-fine_vec-2 c =
    both _ _ _ _ c.is_finite.ensures c.if-is_finite.true (both _ _ _ _ refl c.if-time.true
    (both _ _ _ _ c.fine_vec.ensures c.if-fine_vec.true (neither _ _ _ c.fine_vec-then-fine_vec.ensures c.if-fine_vec-2.false))) ∙ sym (fine_is c.args.s)

pub returns-else-fine_vec : goal.returns-else-fine_vec
returns-else-fine_vec c =
    both _ _ _ _ c.is_finite.ensures c.if-is_finite.true (both _ _ _ _ refl c.if-time.true (neither _ _ _ c.fine_vec.ensures c.if-fine_vec.false)) ∙ sym (fine_is c.args.s)

pub returns-else-time : goal.returns-else-time
returns-else-time c =
    both _ _ _ _ c.is_finite.ensures c.if-is_finite.true (neither _ _ _ refl c.if-time.false) ∙ sym (fine_is c.args.s)

pub returns-else-is_finite : goal.returns-else-is_finite
returns-else-is_finite c = neither _ _ _ c.is_finite.ensures c.if-is_finite.false ∙ sym (fine_is c.args.s)
