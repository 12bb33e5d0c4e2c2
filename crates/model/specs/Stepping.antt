-- 01, "Stepping": where a grain is after dt, and a grain stepped to a time. Assumes nothing: these are definitions.
use Rattle.std.specs.Prelude.{Float, cond, Some, Ok}
use Rattle.std.specs.Float.{binary64}
use Rattle.std.specs.Float.Ieee.{add, sub, lt}
use Rattle.order.specs.Numbers.{fzero}
use Rattle.myvec.specs.declared.MyVec.{MyVec}
use Rattle.myvec.specs.Vec.{vec, vadd, vscale}
use Rattle.model.specs.declared.Domain.{Domain}
use Rattle.model.specs.declared.Particle.{Particle}
use Rattle.model.specs.declared.Event.{Event}
use Rattle.model.specs.Plans.{Plan}
use Rattle.model.specs.Grid.{length_of}

abbrev pub grain_of : MyVec → MyVec → Float → Float → Float → Particle
grain_of x v t w r = record { pos = x; vel = v; time = t; val = w; rad = r }

-- a grain at another place and time: what else it has stays
abbrev pub landed : MyVec → Float → Particle → Particle
landed x t p = grain_of x p.vel t p.val p.rad

-- a grain to which an event gives place, velocity, time and value: its radius stays
abbrev pub renewed : MyVec → MyVec → Float → Float → Particle → Particle
renewed x v t w p = grain_of x v t w p.rad

-- a grain as a start stores it, at time 0
abbrev pub at_zero : Particle → Particle
at_zero p = landed p.pos fzero p

-- below 0 adds length once, above length subtracts it once, walls or not
abbrev pub wrapped : Float → Float → Float
wrapped l x = cond (lt x fzero) (add binary64 x l) (cond (lt l x) (sub binary64 x l) x)

-- pos + vel * dt, wrapped in each direction
unfoldable pub new_pos : Domain → MyVec → MyVec → Float → MyVec
new_pos b x v dt = let y = vadd x (vscale v dt) in vec (wrapped (length_of 0 b) y.x) (wrapped (length_of 1 b) y.y)

-- dt is the time stepped to less the grain's own, whose time is then exactly the time stepped to
abbrev pub stepped : Domain → Float → Particle → Particle
stepped b t p = landed (new_pos b p.pos p.vel (sub binary64 t p.time)) t p

-- an event's time is the clock plus its dt
abbrev pub due : Float → Float → Event → Plan
due t dt e = Ok (Some (record { time = add binary64 t dt; event = e }))
