use Rattle.layout.specs.Widths.{queue_wide}
use Rattle.tables.proofs.PartLaws.{end_most}
use native.Mathlib.Omega.{arith}
use Rattle.tables.proofs.parts.queue_part.Goals as goal

pub overflow_add-result : goal.overflow_add-result
overflow_add-result c =
    let a = c.args in omega (arith, end_most a.cell (queue_wide a.z.room) (queue_wide 256) c.requires.1 (omega (arith, c.requires.0)) c.queue_from-from.ensures c.queue_wide.ensures)
