use lib.ListN.{take}
use Rattle.text.specs.Numerals.{hex}
use Rattle.text.specs.Put.{Puts}
use Rattle.text.proofs.writer.Writer.field.Given as goal

abbrev pub invariant-loop-k : goal.invariant-loop-k
invariant-loop-k l = Puts (take l.k (hex l.v)) l.initial.self l.self
