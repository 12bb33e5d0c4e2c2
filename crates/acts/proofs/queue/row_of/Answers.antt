use Rattle.layout.specs.Widths.{queue_wide, events_wide}
use Rattle.tables.proofs.PartLaws.{part_in}
use Rattle.acts.proofs.queue.row_of.Goals as goal

pub returns : goal.returns
returns c =
    let nums = part_in c.args.cell c.args.z.cells (queue_wide c.args.z.room) c.queue_part.ensures c.requires.1 c.requires.2 in
    let reals = part_in c.args.cell c.args.z.cells (events_wide c.args.z.room) c.events_part.ensures c.requires.1 c.requires.3 in
    record {
      nums_are = c.queue_part.ensures;
      reals_are = c.events_part.ensures;
      head_is = c.head.ensures;
      nums_on = nums.0;
      nums_in = nums.1;
      reals_on = reals.0;
      reals_in = reals.1;
    }
