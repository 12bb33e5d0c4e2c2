use Rattle.answers.proofs.RunLaws.{served_put}
use Rattle.answers.proofs.put.put_served.Goals as goal

pub returns : goal.returns
returns c =
    let r = c.serve-served in
    served_put c.args.domain c.args.rate c.args.grains.now c.args.n _ r.result _ _ _ _ c.floats.ensures (r.ensures.value, r.ensures.bits_after) c.put_report.ensures
