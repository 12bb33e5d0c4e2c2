-- A position or velocity: what its sum, difference, scaling, quotient and product give, each by component, and its component in a direction (0 or 1).
-- Assumes nothing: these are definitions.
use Rattle.std.specs.Prelude.{ℕ, zero, suc, Float}
use Rattle.std.specs.Float.{binary64}
use Rattle.std.specs.Float.Ieee.{add, sub, mul, div}
use Rattle.myvec.specs.declared.MyVec.{MyVec}

abbrev pub vec : Float → Float → MyVec
vec x y = record { x = x; y = y }

abbrev pub vadd : MyVec → MyVec → MyVec
vadd a b = vec (add binary64 a.x b.x) (add binary64 a.y b.y)

abbrev pub vsub : MyVec → MyVec → MyVec
vsub a b = vec (sub binary64 a.x b.x) (sub binary64 a.y b.y)

-- each component times k, k times each component, and each component over k
abbrev pub vscale : MyVec → Float → MyVec
vscale a k = vec (mul binary64 a.x k) (mul binary64 a.y k)

abbrev pub vtimes : Float → MyVec → MyVec
vtimes k a = vec (mul binary64 k a.x) (mul binary64 k a.y)

abbrev pub vover : MyVec → Float → MyVec
vover a k = vec (div binary64 a.x k) (div binary64 a.y k)

-- the product, summed from the first
abbrev pub vdot : MyVec → MyVec → Float
vdot a b = add binary64 (mul binary64 a.x b.x) (mul binary64 a.y b.y)

-- the component in direction d, and the vector with another one there
abbrev pub along : ℕ → MyVec → Float
along zero v = v.x
along (suc d) v = v.y

abbrev pub bent : ℕ → Float → MyVec → MyVec
bent zero k v = vec k v.y
bent (suc d) k v = vec v.x k
