use mathlib.Core.Path.{ap}
use mathlib.Core.List.{[]}
use Prim.Native.Nat.{ℕ}
use lib.Dec.{eqb}
use Rattle.checks.proofs.places.is_sync.Goals as goal

pub returns : goal.returns
returns c = ap (λ (n : ℕ). eqb n 1) (c.first_sync.ensures [])
