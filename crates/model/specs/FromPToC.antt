-- 01, "Grid (cell.rs)", the cells that a grain goes to at start, in the order that `from_p_to_c` of particle.rs gives. Assumes nothing: these are definitions.
use Rattle.std.specs.Prelude.{ℕ, zero, suc, ◌-◌, cond, List, [], ◌∷◌, ◌++◌, map, pos, Float}
use Rattle.std.specs.Float.{binary64}
use Rattle.std.specs.Float.Ieee.{add, sub, div, lt, to_unsigned, of_int}
use Rattle.order.specs.Numbers.{fzero, one, max_of, min_of}
use Rattle.model.specs.declared.Domain.{Domain}
use Rattle.model.specs.declared.Particle.{Particle}
use Rattle.model.specs.Grid.{length_of, across, cell_at}

-- k numbers from i on, and the numbers from lo to below hi
unfoldable pub up_from : ℕ → ℕ → List ℕ
up_from i zero = []
up_from i (suc k) = i ∷ up_from (suc i) k

abbrev pub between : ℕ → ℕ → List ℕ
between lo hi = up_from lo (hi - lo)

-- of n cells in a length, those that reach from min to max: the first is min / width cut, but not below 0; the end is max / width + 1 cut, but not above n
abbrev pub width : Float → ℕ → Float
width l n = div binary64 l (of_int binary64 (pos n))

abbrev pub first_cell : Float → ℕ → Float → ℕ
first_cell l n min = to_unsigned 64 (max_of (div binary64 min (width l n)) fzero)

abbrev pub end_cell : Float → ℕ → Float → ℕ
end_cell l n max = to_unsigned 64 (min_of (add binary64 (div binary64 max (width l n)) one) (of_int binary64 (pos n)))

abbrev pub kernel : Float → ℕ → Float → Float → List ℕ
kernel l n min max = between (first_cell l n min) (end_cell l n max)

-- the cells of one direction that a grain of radius rad at x touches, those at the low edge first where it lies across both
unfoldable pub reached : Float → ℕ → Float → Float → List ℕ
reached l n rad x =
    let min = sub binary64 x rad in
    let max = add binary64 x rad in
    cond (lt min fzero) (kernel l n fzero max ++ kernel l n (add binary64 l min) l)
    (cond (lt l max) (kernel l n fzero (sub binary64 max l) ++ kernel l n min l)
    (kernel l n min max))

-- for each index in direction 1, each in direction 0
unfoldable pub cells_at : Domain → List ℕ → List ℕ → List ℕ
cells_at b is [] = []
cells_at b is (j ∷ js) = map (λ (i : ℕ). cell_at b i j) is ++ cells_at b is js

unfoldable pub cells_of_grain : Domain → Particle → List ℕ
cells_of_grain b p = cells_at b (reached (length_of 0 b) (across 0 b) p.rad p.pos.x) (reached (length_of 1 b) (across 1 b) p.rad p.pos.y)
