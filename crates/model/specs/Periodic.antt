-- 01, "Periodic correction (port's rule)": it goes by the cell's position, and ignores the periodicity flag. Assumes nothing: these are definitions.
use Rattle.std.specs.Prelude.{ℕ, cond, Float}
use Rattle.std.specs.Float.{binary64}
use Rattle.std.specs.Float.Ieee.{add, sub, div, neg, lt}
use Rattle.order.specs.Numbers.{two}
use Rattle.myvec.specs.declared.MyVec.{MyVec}
use Rattle.myvec.specs.Vec.{vec}
use Rattle.model.specs.declared.Domain.{Domain}
use Rattle.model.specs.declared.CellPosition.{CellPosition}
use Rattle.model.specs.declared.CellPosition.TheVariants.{NegativeEdge, Centre, PositiveEdge}
use Rattle.model.specs.Grid.{length_of, position}

-- below -length / 2 adds length, above length / 2 subtracts it
abbrev pub nearer : Float → Float → Float
nearer l x = cond (lt x (div binary64 (neg l) two)) (add binary64 x l) (cond (lt (div binary64 l two) x) (sub binary64 x l) x)

-- Centre: unchanged; either edge: corrected
abbrev pub corrected : Float → CellPosition → Float → Float
corrected l NegativeEdge x = nearer l x
corrected l Centre x = x
corrected l PositiveEdge x = nearer l x

-- a difference of positions, corrected in each direction by the position of cell c
unfoldable pub apart : Domain → ℕ → MyVec → MyVec
apart b c v = vec (corrected (length_of 0 b) (position 0 b c) v.x) (corrected (length_of 1 b) (position 1 b c) v.y)
