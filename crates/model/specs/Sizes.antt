-- 01, "Sizes": what is in range. A comparison with a NaN fails, so what is not a number is in no range. Assumes nothing: these are definitions.
use Rattle.std.specs.Prelude.{ℕ, suc, List, [], ◌∷◌, Bool, ◌&&◌, cond, leb, Float}
use Rattle.std.specs.Float.{binary64}
use Rattle.std.specs.Float.Ieee.{sub, neg, le}
use Rattle.order.specs.Numbers.{fzero}
use Rattle.myvec.specs.Vec.{along}
use Rattle.model.specs.declared.Domain.{Domain}
use Rattle.model.specs.declared.Particle.{Particle}
use Rattle.model.specs.Constants.{shortest, longest, finest, coarsest, least_radius, greatest_radius, fastest, least_val, greatest_val}
use Rattle.model.specs.Grid.{periodic, length_of}

abbrev pub within : Float → Float → Float → Bool
within lo hi x = le lo x && le x hi

-- box length, each direction: 9 to 48, ends accepted
abbrev pub length_ok : Float → Bool
length_ok l = within shortest longest l

abbrev pub box_ok : Domain → Bool
box_ok b = length_ok (length_of 0 b) && length_ok (length_of 1 b)

-- grains: 0 to 256; events a cell holds: 16 to 256
abbrev pub most_grains : ℕ
most_grains = 256

abbrev pub least_room : ℕ
least_room = 16

abbrev pub most_room : ℕ
most_room = 256

abbrev pub counts_ok : ℕ → ℕ → Bool
counts_ok room grains = leb grains most_grains && (leb least_room room && leb room most_room)

-- cells: 9 to 256
abbrev pub fewest_cells : ℕ
fewest_cells = 9

abbrev pub most_cells : ℕ
most_cells = 256

abbrev pub cells_ok : ℕ → Bool
cells_ok n = leb fewest_cells n && leb n most_cells

-- (how many grains a cell lists and how many cells a grain: layout's Widths, since their tables have as many places)

-- sync rate: 2 ^ -20 to 2 ^ 20
abbrev pub rated : Float → Bool
rated rate = within finest coarsest rate

-- start position: 0 to length where periodic; the grain's radius to length - radius where wall-bounded
abbrev pub place_ok : ℕ → Domain → Particle → Bool
place_ok d b p =
    let x = along d p.pos in
    cond (periodic d b) (within fzero (length_of d b) x) (within p.rad (sub binary64 (length_of d b) p.rad) x)

-- start velocity, each component: -1024 to 1024; value: 0 to 1; radius: 0.25 to 0.5
abbrev pub speed_ok : Float → Bool
speed_ok v = within (neg fastest) fastest v

abbrev pub grain_ok : Domain → Particle → Bool
grain_ok b p =
    (place_ok 0 b p && place_ok 1 b p) &&
    ((speed_ok p.vel.x && speed_ok p.vel.y) && (within least_val greatest_val p.val && within least_radius greatest_radius p.rad))

-- the lowest grain whose numbers are out of range, and how many there are if none is
unfoldable pub first_bad : Domain → List Particle → ℕ
first_bad b [] = 0
first_bad b (p ∷ ps) = cond (grain_ok b p) (suc (first_bad b ps)) 0
