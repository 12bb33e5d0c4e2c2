use mathlib.Core.Path.{sym}
use native.Mathlib.Omega.{arith}
use Rattle.text.proofs.Putting.{puts_as, puts_then, decimal_longer, ButLast, but_last_none, but_last_more, last_room}
use Rattle.text.proofs.writer.Writer.+decimal.Goals.{then-v-ge10, else-v-ge10}
use Rattle.text.proofs.writer.Writer.+decimal.Goals as goal

pub decimal-requires : goal.decimal-requires
decimal-requires t c = (omega arith, omega (arith, decimal_longer c.args.v c.if-v-ge10.true))

pub byte-requires : goal.byte-requires
byte-requires t c =
    let b : ButLast c.args.v c.args.self.now c.if-v-ge10.self = elim c.if-v-ge10.branch [
      | then-v-ge10 w ↦ but_last_more _ w.if-v-ge10.true w.decimal.ensures w.self-is
      | else-v-ge10 w ↦ but_last_none _ w.if-v-ge10.false c.requires w.self-is
    ] in
    last_room b c.requires

pub returns : goal.returns
returns t c =
    let b : ButLast c.args.v c.args.self.now c.if-v-ge10.self = elim c.if-v-ge10.branch [
      | then-v-ge10 w ↦ but_last_more _ w.if-v-ge10.true w.decimal.ensures w.self-is
      | else-v-ge10 w ↦ but_last_none _ w.if-v-ge10.false c.requires w.self-is
    ] in
    puts_as (sym b.split) (puts_then b.puts c.byte.ensures)
