use mathlib.Core.Path.{sym, ap}
use native.Mathlib.Omega.{arith}
use Rattle.text.proofs.Putting.{puts_as, puts_then, puts_room, decimal_most}
use Rattle.listing_text.specs.Answers.{answer_of}
use Rattle.listing_text.proofs.writer.Answer.put.Goals as goal

pub decimal-requires : goal.decimal-requires
decimal-requires c = puts_room _ c.bytes-in-Refused.ensures (omega (arith, decimal_most 19 c.in-Refused.number (omega arith)))

pub bytes-requires-in-Refused-2 : goal.bytes-requires-in-Refused-2
bytes-requires-in-Refused-2 c =
    puts_room 2 (puts_then c.bytes-in-Refused.ensures c.decimal.ensures) (omega (arith, decimal_most 19 c.in-Refused.number (omega arith)))

pub returns-in-Malformed : goal.returns-in-Malformed
returns-in-Malformed c = puts_as (sym (ap answer_of c.in-Malformed.is)) c.bytes.ensures

pub returns-in-TooLarge : goal.returns-in-TooLarge
returns-in-TooLarge c = puts_as (sym (ap answer_of c.in-TooLarge.is)) c.bytes-in-TooLarge.ensures

pub returns-in-Refused : goal.returns-in-Refused
returns-in-Refused c = puts_as (sym (ap answer_of c.in-Refused.is)) (puts_then (puts_then c.bytes-in-Refused.ensures c.decimal.ensures) c.bytes-in-Refused-2.ensures)
