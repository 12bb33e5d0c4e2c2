-- 01, "Moves": when grain i, which is p, enters the neighbour of cell c that it moves to in direction d, and when it leaves c, at the clock t.
-- Assumes nothing: these are definitions.
use Rattle.std.specs.Prelude.{ℕ, Bool, not, ◌&&◌, ◌||◌, cond, Float, None, Ok}
use Rattle.std.specs.Float.{binary64}
use Rattle.std.specs.Float.Ieee.{add, sub, div, neg, lt, le, eq}
use Rattle.order.specs.Numbers.{fzero}
use Rattle.myvec.specs.Vec.{along}
use Rattle.model.specs.declared.Domain.{Domain}
use Rattle.model.specs.declared.Particle.{Particle}
use Rattle.model.specs.declared.Event.{Event}
use Rattle.model.specs.declared.Event.TheVariants.{MoveToNeighbour, MoveOutOfCell}
use Rattle.model.specs.Plans.{Plan}
use Rattle.model.specs.Grid.{periodic, length_of, low, high, below, above, position, is_low, is_high}
use Rattle.model.specs.Stepping.{new_pos, due}
use Rattle.model.specs.Periodic.{corrected}

-- velocity is 0 (either sign); the side it moves to is the low one
abbrev pub still : ℕ → Particle → Bool
still d p = eq (along d p.vel) fzero

abbrev pub side_low : ℕ → Particle → Bool
side_low d p = lt (along d p.vel) fzero

-- by the side it moves to: whether that is an edge of the box, and the neighbour there
abbrev pub at_edge : ℕ → Domain → ℕ → Particle → Bool
at_edge d b c p = cond (side_low d p) (is_low (position d b c)) (is_high (position d b c))

abbrev pub aside : ℕ → Domain → ℕ → Particle → ℕ
aside d b c p = cond (side_low d p) (below d b c) (above d b c)

-- dpos is bound + rad - pos (low) or bound - rad - pos (high)
abbrev pub gap : ℕ → Domain → ℕ → Float → Particle → Float
gap d b c rad p =
    cond (side_low d p) (sub binary64 (add binary64 (low d b c) rad) (along d p.pos))
    (sub binary64 (sub binary64 (high d b c) rad) (along d p.pos))

-- corrected; dt = dpos / vel
abbrev pub move_dt : ℕ → Domain → ℕ → Float → Particle → Float
move_dt d b c rad p = div binary64 (corrected (length_of d b) (position d b c) (gap d b c rad p)) (along d p.vel)

-- none if velocity is 0, or at a non-periodic edge in that direction
abbrev pub shut : ℕ → Domain → ℕ → Particle → Bool
shut d b c p = still d p || (not (periodic d b) && at_edge d b c p)

-- none if dt ≤ 0
unfoldable pub later : Float → Float → Event → Plan
later t dt e = cond (le dt fzero) (Ok None) (due t dt e)

unfoldable pub to_neighbour : ℕ → Domain → Float → ℕ → ℕ → Particle → Plan
to_neighbour d b t c i p =
    let dt = move_dt d b c p.rad p in
    cond (shut d b c p) (Ok None) (later t dt (MoveToNeighbour i (new_pos b p.pos p.vel dt) (aside d b c p)))

-- out of cell, rad's sign flips
unfoldable pub out_of_cell : ℕ → Domain → Float → ℕ → ℕ → Particle → Plan
out_of_cell d b t c i p =
    let dt = move_dt d b c (neg p.rad) p in
    cond (shut d b c p) (Ok None) (later t dt (MoveOutOfCell i (new_pos b p.pos p.vel dt) c))
