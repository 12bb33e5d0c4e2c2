use mathlib.Core.Path.{refl}
use Rattle.tables.proofs.places.first_time.Goals as goal

pub returns : goal.returns
returns c = λ q. refl
