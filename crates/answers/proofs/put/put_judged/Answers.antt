use Rattle.answers.specs.Runs.{served}
use Rattle.text.proofs.Putting.{put_as}
use Rattle.answers.proofs.RunLaws.{judged_put, few}
use Rattle.answers.proofs.put.put_judged.Goals as goal

pub returns-then-too_large : goal.returns-then-too_large
returns-then-too_large c = judged_put c.args.numbers.now c.args.grains.now c.args.n _ _ _ _ _ _ c.box_of-domain.ensures c.too_large.ensures c.if-too_large.true c.put_answer.ensures

pub put_served-requires : goal.put_served-requires
put_served-requires c = few _ _ _ _ c.too_large.ensures c.if-too_large.false

pub returns : goal.returns
returns c =
    let a = c.args in
    let b = c.box_of-domain.ensures in
    judged_put a.numbers.now a.grains.now a.n _ _ _ _ _ _ b c.too_large.ensures c.if-too_large.false
    (put_as (λ i. served (b i) (c.float_of_bits.ensures i) a.grains.now a.n) c.put_served.ensures)
