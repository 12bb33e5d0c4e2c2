use mathlib.Core.Path.{refl}
use native.Mathlib.Omega.{arith}
use Rattle.scheduler.specs.Heap.{swap_at}
use Rattle.scheduler.proofs.Laws.{swapped}
use Rattle.scheduler.proofs.Scheduler.swap.Goals as goal

pub returns : goal.returns
unfolding swap_at
returns c =
    let a = c.args in
    let h = swapped a.self.now.heap a.a a.b (omega arith) (omega arith) in
    rw (c.swap.ensures.after, h, c.from-i.ensures, c.from-j.ensures) refl
