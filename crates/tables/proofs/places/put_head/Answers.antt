use Rattle.tables.proofs.places.put_head.Goals as goal

pub returns : goal.returns
returns c = λ x ps h. record { nums_is = rw h.nums_is; reals_is = rw h.reals_is }
