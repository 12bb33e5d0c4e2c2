use mathlib.Core.Path.{refl, ◌∙◌}
use Prim.Native.Nat.{ℕ, ◌<◌}
use lib.ListN.{get_or}
use Rattle.halting.proofs.All.{all_at}
use Rattle.model.specs.Acts.{cancel, cancelled}
use Rattle.acts.specs.Tell.{InQueues}
use Rattle.acts.proofs.InTurn.{from_end, from-next}
use Rattle.acts.proofs.queue.Queues.cancel_each.Goals as goal

pub loop-cell-init : goal.loop-cell-init
loop-cell-init c = (record { queue = refl; events = refl; order = refl }, c.requires.0, λ q r k. k)

pub cancel-requires : goal.cancel-requires
cancel-requires c = (c.loop-cell.invariant.1, all_at (λ n. n < c.args.z.cells) c.args.list.now c.loop-cell.cell-index 0 c.requires.1 c.loop-cell-test.true)

pub loop-cell-preserved : goal.loop-cell-preserved
loop-cell-preserved c =
    let l = c.loop-cell in
    let a = c.args in
    let d = c.cancel.ensures in
    let n = get_or a.list.now l.cell-index 0 in
    let o = l.invariant.1 in (
      record { queue = d.same.queue ∙ l.invariant.0.queue; events = d.same.events ∙ l.invariant.0.events; order = d.same.order ∙ l.invariant.0.order },
      (cancelled a.g n o.0, (d.told o.0 o.1).1),
      λ q r k. l.invariant.2 q r (λ s S. from-next (λ (m : ℕ). cancel a.g m) s (InQueues a.z c.cancel.new.self) (InQueues a.z q) a.list.now l.cell-index c.loop-cell-test.true (d.told s S) (k _ (d.told s S).1)),
    )

pub returns : goal.returns
returns c =
    let l = c.loop-cell in
    let a = c.args in
    record {
      same = l.invariant.0;
      told = l.invariant.2 l.self 0 (λ s S. from_end (λ (m : ℕ). cancel a.g m) s (InQueues a.z l.self) a.list.now l.cell-index c.loop-cell-test.false S);
    }
