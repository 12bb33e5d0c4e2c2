use Rattle.acts.proofs.Updates.{update_same}
use Rattle.acts.specs.Queues.{shifted_to}
use lib.ListN.{length, take}
use mathlib.Core.Bool.{Bool}
use Rattle.tables.specs.Decode.{scheduler_of}
use Rattle.tables.specs.Layout.{order_bytes}
use Rattle.scheduler.specs.Heap.{updated, update_swaps}
use Rattle.scheduler.specs.Inside.{head_in}
use Rattle.scheduler.specs.declared.Scheduler.{Scheduler}
use Rattle.scheduler.specs.Head.{Head}
use Prim.Native.Nat.{ℕ, ◌≤◌}
use mathlib.Core.Path.{◌≡◌, refl, sym, ap, subst, ◌∙◌}
use Rattle.acts.proofs.heap.update.Goals as goal

pub returns-then-to-at : goal.returns-then-to-at
returns-then-to-at c =
    let a = c.args in
    let t = a.order.now in
    let h = head_in a.events.now a.queue.now a.z.room in
    let at = c.from-at.ensures in
    let to = c.shifted_to-to.ensures ∙ ap (λ (x : Bool). shifted_to h (take a.z.cells t) (length (take a.z.cells t)) c.from-at.result x) c.is_earlier.ensures in
    update_same t c.requires.0 h a.z.cells a.cell a.before c.head-after.result c.shifted_to-to.result c.requires.1 c.head-after.ensures (rw at at to) (c.if-to-at.true ∙ at)

pub update-swaps-requires : goal.update-swaps-requires
update-swaps-requires c =
    (subst (λ (s : Scheduler). s.cells ≤ 256) (sym c.load-s.ensures) c.requires.1, c.requires.2)

pub store-requires : goal.store-requires
store-requires c = c.requires.0

pub returns : goal.returns
returns c =
    let a = c.args in
    let t = a.order.now in
    let h = head_in a.events.now a.queue.now a.z.room in
    let s = scheduler_of a.z.cells t in
    let is : (A : Type 0) (f : Scheduler → Head → A) → f c.load-s.result c.head-after.result ≡ f s (h a.cell) = λ A f. rw (c.load-s.ensures, c.head-after.ensures) refl in (
      c.store.ensures ∙ ap order_bytes (c.update-swaps.ensures.0 ∙ is Scheduler (λ x y. updated h x a.cell a.before y)),
      c.update-swaps.ensures.1 ∙ is ℕ (λ x y. update_swaps h x a.cell a.before y),
    )
