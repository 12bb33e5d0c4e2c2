use mathlib.Core.Path.{ap}
use mathlib.Core.List.{List}
use Prim.Native.Nat.{ℕ, ◌+◌, ◌-◌, ◌*◌, ◌<◌, ◌≤◌}
use native.Mathlib.Omega.{arith}
use lib.ListN.{length, take}
use lib.Seq.{length-take-le}
use Rattle.std.proofs.lemmas.List.{take_all}
use Rattle.text.specs.Lines.{field_wide}
use Rattle.text.proofs.Putting.{puts_as, puts_then, puts_room}
use Rattle.listing_text.proofs.Putting.{fields, fields_wide, field_more, line_fields}
use Rattle.listing_text.proofs.writer.put_numbers.Goals as goal

-- the room of some fields of all but the last number
room : (l : List ℕ) (k at n : ℕ) → k ≤ length (take (length l - 1) l) → 0 < length l → at + (length l * field_wide + 1) ≤ n → at + (length (fields (take k (take (length l - 1) l))) + (field_wide + 1)) ≤ n
room l k at n h s r = omega (arith, fields_wide (take (length l - 1) l) k h, length-take-le (length l - 1) l (omega arith))

pub field-requires : goal.field-requires
field-requires c = let h = puts_room 18 c.loop-number.invariant (room _ c.loop-number.number-index _ _ c.loop-number.auto.number-index-end c.requires.some c.requires.room) in omega arith

pub loop-number-preserved : goal.loop-number-preserved
loop-number-preserved c = puts_as (field_more _ c.loop-number.number-index c.loop-number-test.true) (puts_then c.loop-number.invariant c.field.ensures)

pub field-requires-2 : goal.field-requires-2
field-requires-2 c = let h = puts_room 18 c.loop-number.invariant (room _ c.loop-number.number-index _ _ c.loop-number.auto.number-index-end c.requires.some c.requires.room) in omega arith

pub byte-requires : goal.byte-requires
byte-requires c =
    puts_room 1 c.field-2.ensures (puts_room 18 c.loop-number.invariant (room _ c.loop-number.number-index _ _ c.loop-number.auto.number-index-end c.requires.some c.requires.room))

pub returns : goal.returns
returns c =
    let l = c.args.numbers.now in
    let e = take_all c.loop-number.number-index (take (length l - 1) l) c.loop-number-test.false in
    puts_as (line_fields l (length l - 1) (omega arith)) (puts_then (puts_then (puts_as (ap fields e) c.loop-number.invariant) c.field-2.ensures) c.byte.ensures)
