use Rattle.answers.specs.Runs.{blank}
use Rattle.answers.proofs.RunLaws.{serve_ends}
use Rattle.answers.proofs.runs.serve.Goals as goal

pub returns : goal.returns
unfolding blank
returns c =
    let r = c.simulate-served in
    let (value, bits_after) = serve_ends r.result _ _ _ _ _ _ _ r.ensures.told c.show.ensures in
    record { value = value; started = r.ensures.started; bits_after = bits_after }
