-- 01, "Walls": when grain i, which is p, reflects in direction d in cell c, at the clock t. Assumes nothing: these are definitions.
use Rattle.std.specs.Prelude.{ℕ, Bool, not, ◌||◌, cond, Float, None, Ok}
use Rattle.std.specs.Float.{binary64}
use Rattle.std.specs.Float.Ieee.{add, mul, div, neg}
use Rattle.myvec.specs.Vec.{along, bent}
use Rattle.model.specs.declared.Domain.{Domain}
use Rattle.model.specs.declared.Particle.{Particle}
use Rattle.model.specs.declared.Event.TheVariants.{WallReflection}
use Rattle.model.specs.Plans.{Plan}
use Rattle.model.specs.Constants.{wall_of, wall_factor}
use Rattle.model.specs.Grid.{periodic}
use Rattle.model.specs.Stepping.{new_pos}
use Rattle.model.specs.Moves.{still, side_low, at_edge, gap, later}

-- a wall fixes a value; the new value is half of wall plus old
abbrev pub wall_val : ℕ → Domain → Particle → Float
wall_val d b p = mul binary64 wall_factor (add binary64 (wall_of b d (side_low d p)) p.val)

-- only wall-bounded directions, only the edge cell moved toward
abbrev pub no_wall : ℕ → Domain → ℕ → Particle → Bool
no_wall d b c p = periodic d b || (still d p || not (at_edge d b c p))

-- dpos as to neighbour, uncorrected; only dt > 0; the velocity component negated
unfoldable pub wall : ℕ → Domain → Float → ℕ → ℕ → Particle → Plan
wall d b t c i p =
    let dt = div binary64 (gap d b c p.rad p) (along d p.vel) in
    cond (no_wall d b c p) (Ok None) (later t dt (WallReflection i (new_pos b p.pos p.vel dt) (bent d (neg (along d p.vel)) p.vel) (wall_val d b p)))
