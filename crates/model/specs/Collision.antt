-- 01, "Collision": when two grains of a cell touch, and what inter_particle_collision.rs then stores of them, operation by operation.
-- Assumes nothing: these are definitions.
use Rattle.std.specs.Prelude.{ℕ, Bool, true, false, cond, Float, Option, Some, None, Ok, Err}
use Rattle.std.specs.Float.{binary64}
use Rattle.std.specs.Float.Ieee.{add, sub, mul, div, neg, lt, le}
use Rattle.order.specs.Numbers.{fzero, one}
use Rattle.root.specs.Root.{root_of}
use Rattle.myvec.specs.declared.MyVec.{MyVec}
use Rattle.myvec.specs.Vec.{vec, vadd, vsub, vtimes, vover, vdot}
use Rattle.model.specs.declared.Domain.{Domain}
use Rattle.model.specs.declared.Particle.{Particle}
use Rattle.model.specs.declared.Event.{Event}
use Rattle.model.specs.declared.Event.TheVariants.{InterParticleCollision}
use Rattle.model.specs.Plans.{Contact, Plan, root_refused}
use Rattle.model.specs.Constants.{restitution, least_a, mean_factor, centre_factor, gravity_size, neutral_val}
use Rattle.model.specs.Stepping.{new_pos, due}
use Rattle.model.specs.Periodic.{apart}

-- r + r: the two radii
abbrev pub reach : Particle → Particle → Float
reach p q = add binary64 p.rad q.rad

-- a = dvel·dvel, b = dvel·dpos, c = dpos·dpos - (r + r)², d = b² - a·c; rr is r + r
abbrev pub a_of : MyVec → Float
a_of dvel = vdot dvel dvel

abbrev pub b_of : MyVec → MyVec → Float
b_of dpos dvel = vdot dvel dpos

abbrev pub c_of : Float → MyVec → Float
c_of rr dpos = sub binary64 (vdot dpos dpos) (mul binary64 rr rr)

abbrev pub d_of : Float → Float → Float → Float
d_of a b c = sub binary64 (mul binary64 b b) (mul binary64 a c)

-- dt = (1 / a)·(-√d - b); none if dt < 0; refused if the root is
abbrev pub after_root : Float → Float → Option Float → Contact
after_root a b None = Err root_refused
after_root a b (Some s) =
    let dt = mul binary64 (div binary64 one a) (sub binary64 (neg s) b) in
    cond (lt dt fzero) (Ok None) (Ok (Some dt))

abbrev pub time_of : Float → Float → Float → Contact
time_of d a b = after_root a b (root_of d)

-- none if a < 2 ^ -52, 0 ≤ b, c < 0, d < 0, tested so
abbrev pub too_slow : Float → Bool
too_slow a = lt a least_a

abbrev pub tests : Float → Float → Float → Float → Contact → Contact
tests a b c d k =
    cond (too_slow a) (Ok None) (cond (le fzero b) (Ok None) (cond (lt c fzero) (Ok None) (cond (lt d fzero) (Ok None) k)))

abbrev pub contact_by : Float → Float → Float → Contact
contact_by a b c = tests a b c (d_of a b c) (time_of (d_of a b c) a b)

abbrev pub collide : Float → MyVec → MyVec → Contact
collide rr dpos dvel = contact_by (a_of dvel) (b_of dpos dvel) (c_of rr dpos)

-- ---- what is stored: positions, velocities and the mean value
abbrev pub mean : Particle → Particle → Float
mean p q = add binary64 (mul binary64 mean_factor p.val) (mul binary64 mean_factor q.val)

-- gravity is -0.5 in a wall-bounded direction and 0 in a periodic one
abbrev pub pull : Bool → Float
pull true = fzero
pull false = neg gravity_size

abbrev pub gravity : Domain → MyVec
gravity b = vec (pull b.periodic0) (pull b.periodic1)

-- the unit vector from p to q, at their new positions x and y
abbrev pub normal : Domain → ℕ → Float → MyVec → MyVec → MyVec
normal b c rr x y = vover (apart b c (vsub y x)) rr

-- the velocity of the two together
abbrev pub centre : Domain → Particle → Particle → MyVec
centre b p q =
    vadd (vadd (vtimes centre_factor p.vel) (vtimes centre_factor q.vel)) (vtimes (sub binary64 (mean p q) neutral_val) (gravity b))

-- the difference of their velocities afterwards
abbrev pub bounced : MyVec → MyVec → MyVec
bounced dvel n = vsub dvel (vtimes (mul binary64 (add binary64 one restitution) (vdot dvel n)) n)

abbrev pub struck : Domain → ℕ → ℕ → ℕ → Particle → Particle → Float → Event
struck b c i j p q dt =
    let x = new_pos b p.pos p.vel dt in
    let y = new_pos b q.pos q.vel dt in
    let g = centre b p q in
    let w = vtimes centre_factor (bounced (vsub q.vel p.vel) (normal b c (reach p q) x y)) in
    InterParticleCollision i j x y (vsub g w) (vadd g w) (mean p q)

abbrev pub planned : Contact → Float → (Float → Event) → Plan
planned (Ok None) t e = Ok None
planned (Ok (Some dt)) t e = due t dt (e dt)
planned (Err _) t e = Err root_refused

-- of the grains i and j, which are p and q, in cell c at the clock t
unfoldable pub collision : Domain → Float → ℕ → ℕ → ℕ → Particle → Particle → Plan
collision b t c i j p q = planned (collide (reach p q) (apart b c (vsub q.pos p.pos)) (vsub q.vel p.vel)) t (struck b c i j p q)
