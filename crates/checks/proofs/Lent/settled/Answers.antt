use mathlib.Core.Path.{sym, ap, ◌∙◌}
use mathlib.Core.List.{List}
use lib.Ieee.{Float}
use lib.Ieee.Scale.{finite}
use borrow.Author.Tests.{eq-eqb, ne_eqb}
use Rattle.chunks.proofs.Laws.{tail_is}
use Rattle.model.specs.declared.Domain.{Domain}
use Rattle.model.specs.Check.{all, timely, box_with, settled}
use Rattle.tables.specs.Decode.{grains_of, grains_part}
use Rattle.checks.proofs.Lent.settled.Goals as goal

pub returns-else-mark-eq0 : goal.returns-else-mark-eq0
unfolding settled
returns-else-mark-eq0 c = ne_eqb _ _ c.if-mark-eq0.false ∙ rw (ne_eqb _ _ (λ k. c.if-mark-eq0.false (c.mark.ensures ∙ k)))

pub returns-else-is_finite : goal.returns-else-is_finite
unfolding settled
returns-else-is_finite c =
    c.if-is_finite.false ∙ rw (eq-eqb _ _ (sym c.mark.ensures ∙ c.if-mark-eq0.true), sym (ap finite c.clock-clock.ensures) ∙ sym c.is_finite.ensures ∙ c.if-is_finite.false)

pub returns-else-boxed : goal.returns-else-boxed
unfolding settled
returns-else-boxed c =
    let s = c.args.self.now in
    c.if-boxed.false ∙ rw (
      eq-eqb _ _ (sym c.mark.ensures ∙ c.if-mark-eq0.true),
      sym (ap finite c.clock-clock.ensures) ∙ sym c.is_finite.ensures ∙ c.if-is_finite.true,
      sym (ap (λ (x : Domain). box_with x s.sizes.cells) c.domain_of.ensures) ∙ sym c.boxed.ensures ∙ c.if-boxed.false,
    )

pub returns-then-boxed : goal.returns-then-boxed
unfolding settled
returns-then-boxed c =
    let s = c.args.self.now in
    rw (
      eq-eqb _ _ (sym c.mark.ensures ∙ c.if-mark-eq0.true),
      sym (ap finite c.clock-clock.ensures) ∙ sym c.is_finite.ensures ∙ c.if-is_finite.true,
      sym (ap (λ (x : Domain). box_with x s.sizes.cells) c.domain_of.ensures) ∙ sym c.boxed.ensures ∙ c.if-boxed.true,
    ) (c.settled.ensures ∙ ap (λ (l : List Float). all (timely c.clock-clock.result) (grains_of s.sizes.grains l)) (tail_is 3 s.grains.now)
    ∙ ap (λ (x : Float). all (timely x) (grains_of s.sizes.grains (grains_part s.grains.now))) c.clock-clock.ensures)
