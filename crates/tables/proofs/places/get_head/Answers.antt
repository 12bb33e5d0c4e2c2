use Rattle.tables.proofs.places.get_head.Goals as goal

pub returns : goal.returns
returns c = λ s ps h. rw (h.nums_is, h.reals_is)
