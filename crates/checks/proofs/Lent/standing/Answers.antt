use mathlib.Core.Path.{sym, ap, ◌∙◌, subst}
use Prim.Native.Nat.{ℕ}
use lib.ListN.{length, take}
use lib.Seq.{length-take-le}
use Rattle.layout.specs.Widths.{home_room, member_room, home_wide, members_wide, queue_wide}
use Rattle.checks.specs.Inside.{Rowed}
use Rattle.checks.specs.Held.{tables_in}
use Rattle.checks.proofs.Same.{legible_means}
use Rattle.checks.proofs.Stages.{homes_rowed, members_rowed, queue_rowed, part_1, part_2, part_3, part_4, part_5, linked_lent, queued_lent}
use native.Mathlib.Omega.{arith}
use Rattle.checks.proofs.Lent.standing.Goals as goal

pub returns-then-not-legible : goal.returns-then-not-legible
returns-then-not-legible c =
    let s = c.args.self.now in
    part_1 s.sizes (tables_in s) s.sized (sym c.legible.ensures ∙ c.if-not-legible.true)

pub invariant_of-homes : goal.invariant_of-homes
invariant_of-homes c =
    let s = c.args.self.now in
    let L = legible_means s.sizes s.lists.now s.queue.now (sym c.legible.ensures ∙ c.if-not-legible.false) in
    record {
      rowed = subst (Rowed home_room home_wide s.sizes.grains) (sym c.homes.ensures) (homes_rowed s.sizes (tables_in s) s.sized L);
      room_most = omega arith;
      count_most = s.sized.grains_most;
    }

pub invariant_of-members : goal.invariant_of-members
invariant_of-members c =
    let s = c.args.self.now in
    let L = legible_means s.sizes s.lists.now s.queue.now (sym c.legible.ensures ∙ c.if-not-legible.false) in
    record {
      rowed = subst (Rowed member_room members_wide s.sizes.cells) (sym c.members.ensures) (members_rowed s.sizes (tables_in s) s.sized L);
      room_most = omega arith;
      count_most = s.sized.cells_most;
    }

pub invariant_of-queues : goal.invariant_of-queues
invariant_of-queues c =
    let s = c.args.self.now in
    let L = legible_means s.sizes s.lists.now s.queue.now (sym c.legible.ensures ∙ c.if-not-legible.false) in
    record {
      rowed = subst (Rowed s.sizes.room (queue_wide s.sizes.room) s.sizes.cells) (sym c.queue.ensures) (queue_rowed s.sizes (tables_in s) s.sized L);
      reals_whole = ap (λ (k : ℕ). length (take k s.events.now)) c.events_from.ensures ∙ length-take-le _ _ s.sized.events_long;
      room_most = s.sized.room_most;
      count_most = s.sized.cells_most;
    }

pub returns-else-settled : goal.returns-else-settled
returns-else-settled c =
    let s = c.args.self.now in
    c.if-settled.false ∙ part_2 s.sizes (tables_in s) s.sized (sym c.legible.ensures ∙ c.if-not-legible.false) (sym c.settled.ensures ∙ c.if-settled.false)

pub returns-else-linked : goal.returns-else-linked
returns-else-linked c =
    let s = c.args.self.now in
    let e = linked_lent s.sizes (tables_in s) c.homes.ensures c.members.ensures c.linked.ensures in
    c.if-linked.false ∙ part_3 s.sizes (tables_in s) s.sized (sym c.legible.ensures ∙ c.if-not-legible.false) (sym c.settled.ensures ∙ c.if-settled.true) (sym e ∙ c.if-linked.false)

pub returns-else-queued : goal.returns-else-queued
returns-else-queued c =
    let s = c.args.self.now in
    let e = linked_lent s.sizes (tables_in s) c.homes.ensures c.members.ensures c.linked.ensures in
    let f = queued_lent s.sizes (tables_in s) c.clock.ensures c.members.ensures c.queue.ensures c.events_from.ensures c.queued.ensures in
    c.if-queued.false
    ∙ part_4 s.sizes (tables_in s) s.sized (sym c.legible.ensures ∙ c.if-not-legible.false) (sym c.settled.ensures ∙ c.if-settled.true) (sym e ∙ c.if-linked.true) (sym f ∙ c.if-queued.false)

pub returns-then-queued : goal.returns-then-queued
returns-then-queued c =
    let s = c.args.self.now in
    let e = linked_lent s.sizes (tables_in s) c.homes.ensures c.members.ensures c.linked.ensures in
    let f = queued_lent s.sizes (tables_in s) c.clock.ensures c.members.ensures c.queue.ensures c.events_from.ensures c.queued.ensures in
    part_5 s.sizes (tables_in s) s.sized (sym c.legible.ensures ∙ c.if-not-legible.false) (sym c.settled.ensures ∙ c.if-settled.true) (sym e ∙ c.if-linked.true) (sym f ∙ c.if-queued.true) c.heaped.ensures
