use Rattle.std.proofs.lemmas.List.{take_all}
use Rattle.text.specs.Numerals.{hex}
use Rattle.text.proofs.Putting.{puts_as, puts_then, hex_more}
use Rattle.text.proofs.writer.Writer.field.Goals as goal

pub loop-k-preserved : goal.loop-k-preserved
loop-k-preserved c = puts_as (hex_more c.loop-k.k c.args.v _ c.loop-k-test.true c.hex_glyph.ensures) (puts_then c.loop-k.invariant c.byte.ensures)

pub returns : goal.returns
returns c = puts_then (puts_as (take_all c.loop-k.k (hex c.args.v) c.loop-k-test.false) c.loop-k.invariant) c.byte-2.ensures
