use mathlib.Core.Path.{◌≡◌, ap}
use Prim.Native.Nat.{ℕ, ◌+◌, ◌-◌, ◌*◌}
use native.Mathlib.Omega.{arith}
use lib.ListN.{length}
use Rattle.text.proofs.Putting.{puts_as, puts_then, puts_room, puts_from}
use Rattle.listing_text.specs.Answers.{listing_lines}
use Rattle.listing_text.specs.Rows.{first_grain, grains_from}
use Rattle.listing_text.proofs.Rows.{row_numbers}
use Rattle.listing_text.proofs.Putting.{lines_short, lines_more, listed_is}
use Rattle.listing_text.proofs.writer.put_listing.Goals as goal

pub put_line-requires-clause-room : goal.put_line-requires-clause-room
put_line-requires-clause-room c =
    puts_room _ c.loop-i.invariant (puts_room _ c.bytes.ensures (omega (arith, c.fits-out, ap length c.new-writer.ensures.unwritten, lines_short c.args.time 0 c.loop-i.i c.args.numbers.now (omega arith))))

pub put_line-requires-clause-whole : goal.put_line-requires-clause-whole
put_line-requires-clause-whole c = ap length (row_numbers c.args.numbers.now c.loop-i.i _ (omega arith) (omega arith))

pub loop-i-preserved : goal.loop-i-preserved
loop-i-preserved c =
    let e = ap first_grain (row_numbers c.args.numbers.now c.loop-i.i ((c.loop-i.i + 1) * 6 - c.loop-i.i * 6) (omega arith) (omega arith)) in
    puts_as (lines_more c.args.time c.loop-i.i c.args.numbers.now e) (puts_then c.loop-i.invariant c.put_line.ensures)

pub returns : goal.returns
returns c =
    let a = c.args in
    let k : c.loop-i.i ≡ a.n = omega arith in
    let lines = puts_as (ap (λ (n : ℕ). listing_lines a.time 0 (grains_from a.numbers.now 0 n)) k) c.loop-i.invariant in
    let new = c.new-writer.ensures in
    puts_from new.at_start new.unwritten (puts_as (listed_is a.time a.n a.numbers.now c.if-n-gt-MOST.false) (puts_then c.bytes.ensures lines))
