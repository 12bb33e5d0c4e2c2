use Rattle.tables.proofs.Runs.{pulled_down}
use Rattle.tables.proofs.places.pull.Goals as goal

pub returns : goal.returns
returns c = λ live rest x e h. pulled_down live rest x e h c.copy_within.ensures.after c.copy_within-2.ensures.after c.zero_place.ensures c.put_place.ensures
