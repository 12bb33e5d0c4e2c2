-- The numbers, boxes and grains of 01's examples, and what the rules plan for them. Assumes nothing: these are definitions.
use Prim.Native.Nat.{ℕ, ◌+◌, ◌-◌}
use mathlib.Core.List.{List, [], ◌∷◌}
use mathlib.Core.Bool.{true, false}
use lib.Ieee.{Float, binary64, of_bits, to_bits, round}
use Rattle.order.specs.Numbers.{fzero, half, nine}
use Rattle.myvec.specs.declared.MyVec.{MyVec}
use Rattle.myvec.specs.Vec.{vec, vsub}
use Rattle.model.specs.declared.Domain.{Domain}
use Rattle.model.specs.declared.Particle.{Particle}
use Rattle.model.specs.declared.Place.{Place}
use Rattle.model.specs.declared.Event.TheVariants.{MoveOutOfCell}
use Rattle.std.specs.Prelude.{Some, None, Ok, Err}
use Rattle.model.specs.Plans.{Contact, Plan, root_refused}
use Rattle.model.specs.Grid.{box_of}
use Rattle.model.specs.Periodic.{apart}
use Rattle.model.specs.Stepping.{grain_of}
use Rattle.model.specs.Collision.{collision}
use Rattle.model.specs.Moves.{to_neighbour, out_of_cell}
use Rattle.model.specs.Walls.{wall}
use Rattle.model.specs.Events.{zero_v, zero_p, place_of}
use Rattle.model.specs.Start.{Begun, refused, started, start}

-- a / b and -a / b
abbrev pub plus : ℕ → ℕ → Float
plus a b = round binary64 false a b

abbrev pub minus : ℕ → ℕ → Float
minus a b = round binary64 true a b

-- 9 by 9: periodic, or wall-bounded in direction 0 or 1
abbrev pub periodic_box : Domain
periodic_box = box_of (vec nine nine) true true

abbrev pub walled_box : Domain
walled_box = box_of (vec nine nine) false true

abbrev pub floored_box : Domain
floored_box = box_of (vec nine nine) true false

-- a grain of radius 0.5 that moves in direction 0; one in the middle row; a grain with another radius
abbrev pub slider : Float → Float → Float → Particle
slider x y v = grain_of (vec x y) (vec v fzero) fzero half half

abbrev pub mover : Float → Float → Particle
mover x v = slider x (plus 9 2) v

abbrev pub sized : Float → Particle → Particle
sized r p = grain_of p.pos p.vel p.time p.val r

-- the dt of a plan at the clock 0, and the event's place, with the cell and the floats that it carries
abbrev pub dt : Plan → Contact
dt (Ok None) = Ok None
dt (Ok (Some e)) = Ok (Some e.time)
dt (Err _) = Err root_refused

abbrev pub place : Plan → Place
place (Ok None) = zero_p
place (Ok (Some e)) = place_of e
place (Err _) = zero_p

-- in direction 0 and cell c: when it enters the neighbour, leaves the cell, reflects
abbrev pub entering : Domain → ℕ → Particle → Plan
entering b c p = to_neighbour 0 b fzero c 0 p

abbrev pub leaving : Domain → ℕ → Particle → Plan
leaving b c p = out_of_cell 0 b fzero c 0 p

abbrev pub reflecting : Domain → ℕ → Particle → Plan
reflecting b c p = wall 0 b fzero c 0 p

-- two grains in cell 4, the Centre cell of a 9 by 9 box: dpos, dvel, and their collision
abbrev pub dpos : Particle → Particle → MyVec
dpos p q = apart periodic_box 4 (vsub q.pos p.pos)

abbrev pub dvel : Particle → Particle → MyVec
dvel p q = vsub q.vel p.vel

abbrev pub colliding : Domain → Particle → Particle → Plan
colliding b p q = collision b fzero 4 0 1 p q

-- the grains that some events name, in order; an event of grain i at a time
abbrev pub grains : List Place → List ℕ
grains [] = []
grains (x ∷ xs) = x.p ∷ grains xs

abbrev pub of_grain : ℕ → Float → Place
of_grain i t = place_of (record { time = t; event = MoveOutOfCell i zero_v 0 })

-- the number of a refused start
abbrev pub refusal : Begun → ℕ
refusal (refused r i) = r
refusal (started s) = 0

abbrev pub start_in : Float → Float → Begun
start_in l0 l1 = start (box_of (vec l0 l1) true true) 64 []

-- the next float away from zero, and towards it
abbrev pub outward : Float → Float
outward x = of_bits binary64 (to_bits binary64 x + 1)

abbrev pub inward : Float → Float
inward x = of_bits binary64 (to_bits binary64 x - 1)
