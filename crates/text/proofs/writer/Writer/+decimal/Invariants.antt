use Rattle.text.proofs.writer.Writer.+decimal.Given as goal

abbrev pub decreases-decimal : goal.decreases-decimal
decreases-decimal l = l.v
