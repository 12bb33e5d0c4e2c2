use Rattle.tables.proofs.grains.read_grain.Goals as goal

pub returns : goal.returns
returns c = λ p e. rw e
