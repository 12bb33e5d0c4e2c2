use mathlib.Core.Path.{sym, ap, ◌∙◌}
use Rattle.model.specs.Check.{halt}
use Rattle.tables.specs.Decode.{tables}
use Rattle.checks.proofs.Stages.{sized_means, halt_marks, check_2, check_mark, check_3, check_10, check_0}
use native.Mathlib.Omega.{arith}
use Rattle.checks.proofs.check.Goals as goal

pub returns-then-not-sized : goal.returns-then-not-sized
returns-then-not-sized c = record {
  is = check_2 _ (tables c.args.lists.now c.args.grains.now c.args.queue.now c.args.events.now c.args.order.now) (sym c.sized.ensures ∙ c.if-not-sized.true);
  floats = record { grains_fit = c.type_inv.grains; events_fit = c.type_inv.events };
}

pub mark-requires : goal.mark-requires
mark-requires c =
    let S = sized_means (tables c.args.lists.now c.args.grains.now c.args.queue.now c.args.events.now c.args.order.now) (sym c.sized.ensures ∙ c.if-not-sized.false) in
    let h = S.lists_long in
    omega arith

pub returns-in-Ok : goal.returns-in-Ok
returns-in-Ok c =
    let t = tables c.args.lists.now c.args.grains.now c.args.queue.now c.args.events.now c.args.order.now in
    let m = c.in-Ok.ensures ∙ c.mark.ensures in
    record {
      is = m ∙ check_mark c.args.rate t (sym c.sized.ensures ∙ c.if-not-sized.false) (sym (ap halt m) ∙ halt_marks c.in-Ok.halt);
      floats = record { grains_fit = c.type_inv.grains; events_fit = c.type_inv.events };
    }

pub returns-then-not-rated : goal.returns-then-not-rated
returns-then-not-rated c =
    let t = tables c.args.lists.now c.args.grains.now c.args.queue.now c.args.events.now c.args.order.now in
    record {
      is = check_3 c.args.rate t (sym c.sized.ensures ∙ c.if-not-sized.false) (sym (ap halt c.mark.ensures) ∙ c.in_default.ensures.1) (sym c.rated.ensures ∙ c.if-not-rated.true);
      floats = record { grains_fit = c.type_inv.grains; events_fit = c.type_inv.events };
    }

pub sizes_of-requires : goal.sizes_of-requires
sizes_of-requires c =
    let S = sized_means (tables c.args.lists.now c.args.grains.now c.args.queue.now c.args.events.now c.args.order.now) (sym c.sized.ensures ∙ c.if-not-sized.false) in
    let h = S.lists_long in
    omega arith

pub invariant_of-lent : goal.invariant_of-lent
invariant_of-lent c =
    let S = sized_means (tables c.args.lists.now c.args.grains.now c.args.queue.now c.args.events.now c.args.order.now) (sym c.sized.ensures ∙ c.if-not-sized.false) in
    record { sized = rw c.sizes_of.ensures S }

pub returns-then-not-standing : goal.returns-then-not-standing
returns-then-not-standing c =
    let t = tables c.args.lists.now c.args.grains.now c.args.queue.now c.args.events.now c.args.order.now in
    record {
      is = check_10 c.args.rate t (sym c.sized.ensures ∙ c.if-not-sized.false) (sym (ap halt c.mark.ensures) ∙ c.in_default.ensures.1) (sym c.rated.ensures ∙ c.if-not-rated.false) (sym c.standing.ensures ∙ c.if-not-standing.true);
      floats = record { grains_fit = c.type_inv.grains; events_fit = c.type_inv.events };
    }

pub returns : goal.returns
returns c =
    let t = tables c.args.lists.now c.args.grains.now c.args.queue.now c.args.events.now c.args.order.now in
    record {
      is = check_0 c.args.rate t (sym c.sized.ensures ∙ c.if-not-sized.false) (sym (ap halt c.mark.ensures) ∙ c.in_default.ensures.1) (sym c.rated.ensures ∙ c.if-not-rated.false) (sym c.standing.ensures ∙ c.if-not-standing.false);
      floats = record { grains_fit = c.type_inv.grains; events_fit = c.type_inv.events };
    }
