use Rattle.tables.proofs.Runs.{pushed_up}
use Rattle.tables.proofs.places.push.Goals as goal

pub returns : goal.returns
returns c = λ live rest x e h. pushed_up live rest x e h c.copy_within.ensures.after c.copy_within-2.ensures.after c.put_head.ensures
