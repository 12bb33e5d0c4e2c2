use lib.ListN.{get_or}
use Rattle.model.specs.State.{none}
use Rattle.tables.specs.Decode.{rows_of}
use Rattle.checks.proofs.OneRow.{row_part}
use Rattle.checks.proofs.rows.Rows.live.Goals as goal

pub live_of-requires : goal.live_of-requires
live_of-requires c =
    let s = c.args.self.now in
    (get_or (rows_of s.room s.count s.numbers.now) c.args.i none, row_part s.room s.count s.numbers.now c.args.i s.rowed c.requires)

pub returns : goal.returns
returns c =
    let s = c.args.self.now in
    c.live_of.ensures (get_or (rows_of s.room s.count s.numbers.now) c.args.i none) (row_part s.room s.count s.numbers.now c.args.i s.rowed c.requires)
