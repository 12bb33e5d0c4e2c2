use Rattle.tables.proofs.HeapLaws.{stored_as}
use lib.ListN.{length}
use mathlib.Core.Path.{◌≡◌}
use borrow.Author.Rules.{rules}
use Rattle.tables.proofs.heap.store.Goals as goal

pub returns : goal.returns
returns c =
    let s = c.args.s in
    let p : length s.heap ≡ 256 = search rules in
    stored_as c.args.order.now c.requires s c.copy_from_slice.new.self c.copy_from_slice-2.new.self c.copy_from_slice.ensures.after c.copy_from_slice-2.ensures.after p
