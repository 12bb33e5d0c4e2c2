-- A grain in one direction of a cell, and what the moves and the walls ask of it; each is the definition of document 01, read off the course.
-- Assumes nothing: these are definitions.
use Rattle.std.specs.Prelude.{ℕ, Bool, not, ◌&&◌, ◌||◌, cond, Float, Option, Some, None}
use Rattle.std.specs.Float.{binary64}
use Rattle.std.specs.Float.Ieee.{add, sub, mul, div, lt, le, eq}
use Rattle.order.specs.Numbers.{fzero}
use Rattle.myvec.specs.Vec.{along}
use Rattle.model.specs.declared.Domain.{Domain}
use Rattle.model.specs.declared.Particle.{Particle}
use Rattle.model.specs.Constants.{wall_of, wall_factor}
use Rattle.model.specs.Grid.{length_of, periodic, is_low, is_high}
use Rattle.model.specs.Periodic.{corrected}
use Rattle.cell.specs.Cell.{cell_along}
use Rattle.event.specs.declared.course.Course.{Course}

unfoldable pub course_of : ℕ → Domain → ℕ → Particle → Course
course_of d b c p =
    record { periodic = periodic d b; length = length_of d b; pos = along d p.pos; vel = along d p.vel; rad = p.rad; cell = cell_along d b c }

abbrev pub low_in : Course → Bool
low_in m = lt m.vel fzero

abbrev pub still_in : Course → Bool
still_in m = eq m.vel fzero

abbrev pub edge_in : Course → Bool
edge_in m = cond (low_in m) (is_low m.cell.position) (is_high m.cell.position)

abbrev pub shut_in : Course → Bool
shut_in m = still_in m || (not m.periodic && edge_in m)

abbrev pub gap_in : Course → Float → Float
gap_in m rad = cond (low_in m) (sub binary64 (add binary64 m.cell.low rad) m.pos) (sub binary64 (sub binary64 m.cell.high rad) m.pos)

abbrev pub dt_in : Course → Float → Float
dt_in m rad = div binary64 (corrected m.length m.cell.position (gap_in m rad)) m.vel

abbrev pub aside_in : Course → ℕ
aside_in m = cond (low_in m) m.cell.below m.cell.above

abbrev pub no_wall_in : Course → Bool
no_wall_in m = m.periodic || (still_in m || not (edge_in m))

-- a time that lies ahead
abbrev pub ahead : Float → Option Float
ahead dt = cond (le dt fzero) None (Some dt)

abbrev pub crossing_in : Course → Float → Option Float
crossing_in m rad = cond (shut_in m) None (ahead (dt_in m rad))

abbrev pub reflection_in : Course → Option Float
reflection_in m = cond (no_wall_in m) None (ahead (div binary64 (gap_in m m.rad) m.vel))

abbrev pub wall_val_in : Domain → ℕ → Course → Float → Float
wall_val_in b d m val = mul binary64 wall_factor (add binary64 (wall_of b d (low_in m)) val)
