use mathlib.Core.List.{◌∷◌}
use Rattle.tables.proofs.Runs.{insert_ends}
use Rattle.tables.proofs.places.insert.Goals as goal

pub returns : goal.returns
returns c =
    λ live rest x e h. insert_ends rest x (c.passed-i.ensures.1 live (x ∷ rest) e h) e c.push.ensures h
