use native.Mathlib.Omega.{arith}
use Rattle.text.proofs.Putting.{puts_as, puts_then, puts_room, decimal_most}
use Rattle.listing_text.proofs.Putting.{line_is}
use Rattle.listing_text.proofs.writer.put_line.Goals as goal

pub decimal-requires : goal.decimal-requires
decimal-requires c = puts_room _ c.field.ensures (omega (arith, decimal_most 2 c.args.i c.requires.index))

pub byte-requires : goal.byte-requires
byte-requires c = puts_room 1 c.decimal.ensures (puts_room _ c.field.ensures (omega (arith, decimal_most 2 c.args.i c.requires.index)))

pub put_numbers-requires-clause-room : goal.put_numbers-requires-clause-room
put_numbers-requires-clause-room c = puts_room _ c.byte.ensures (puts_room _ c.decimal.ensures (puts_room _ c.field.ensures (omega (arith, decimal_most 2 c.args.i c.requires.index))))

pub returns : goal.returns
returns c = puts_as (line_is c.args.time c.args.i c.args.row.now c.requires.whole) (puts_then (puts_then (puts_then c.field.ensures c.decimal.ensures) c.byte.ensures) c.put_numbers.ensures)
