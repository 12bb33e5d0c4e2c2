-- The moves and the reflection, from the time that a course finds. Assumes nothing.
use Prim.Native.Nat.{ℕ}
use mathlib.Core.Path.{◌≡◌, refl, sym, ap, ◌∙◌}
use mathlib.Core.Bool.{Bool, true, false, cond}
use lib.Ieee.{Float, binary64, div, neg, le}
use Rattle.std.specs.Prelude.{Option, Some, None, Ok}
use Rattle.order.specs.Numbers.{fzero}
use Rattle.myvec.specs.Vec.{along, bent}
use Rattle.model.specs.declared.Domain.{Domain}
use Rattle.model.specs.declared.Particle.{Particle}
use Rattle.model.specs.declared.Event.{Event}
use Rattle.model.specs.declared.Event.TheVariants.{MoveToNeighbour, MoveOutOfCell, WallReflection}
use Rattle.model.specs.declared.Pending.{Pending}
use Rattle.model.specs.Plans.{Plan}
use Rattle.model.specs.Reports.{plan_told}
use Rattle.model.specs.Stepping.{new_pos, due}
use Rattle.model.specs.Moves.{later, shut, move_dt, gap, to_neighbour, out_of_cell}
use Rattle.model.specs.Walls.{no_wall, wall_val, wall}
use Rattle.event.specs.declared.course.Course.{Course}
use Rattle.event.specs.Course.{course_of, aside_in, wall_val_in, ahead, crossing_in, reflection_in}
use Rattle.cell.specs.Cell.{cell_along}

-- an event at the time that is found
abbrev pub found : Float → (Float → Event) → Option Float → Plan
found t e None = Ok None
found t e (Some dt) = due t dt (e dt)

pub none_found : (t : Float) (e : Float → Event) (o : Option Float) (x : Plan) (r : Option Pending) → found t e o ≡ x → o ≡ None → r ≡ None → plan_told (Ok r) ≡ plan_told x
none_found t e o x r f n h = ap plan_told (ap (λ r. Ok r) h ∙ ap (found t e) (sym n) ∙ f)

pub one_found : (t : Float) (e : Float → Event) (o : Option Float) (x : Plan) (dt : Float) (a : Event) → found t e o ≡ x → o ≡ Some dt → a ≡ e dt → plan_told (due t dt a) ≡ plan_told x
one_found t e o x dt a f n h = ap plan_told (ap (due t dt) h ∙ ap (found t e) (sym n) ∙ f)

-- by a test that stops the grain, and the time else
module _ (t D : Float) (e : Float → Event) where
  by_test : (s : Bool) → found t e (cond s None (ahead D)) ≡ cond s (Ok None) (later t D (e D))
  unfolding later
  by_test true = refl
  by_test false = by (le D fzero)
    where
      by : (x : Bool) → found t e (cond x None (Some D)) ≡ cond x (Ok None) (due t D (e D))
      by true = refl
      by false = refl

-- ---- of the grain i, which is p, in the cell c: o is the time found
module _ (d : ℕ) (b : Domain) (t : Float) (c i : ℕ) (p : Particle) (m : Course) (M : m ≡ course_of d b c p) (o : Option Float) where
  pub neighbour_found : o ≡ crossing_in m m.rad → found t (λ dt. MoveToNeighbour i (new_pos b p.pos p.vel dt) (aside_in m)) o ≡ to_neighbour d b t c i p
  unfolding to_neighbour course_of cell_along
  neighbour_found e =
      ap (found t (λ dt. MoveToNeighbour i (new_pos b p.pos p.vel dt) (aside_in m))) e
      ∙ ap (λ (m : Course). found t (λ dt. MoveToNeighbour i (new_pos b p.pos p.vel dt) (aside_in m)) (crossing_in m m.rad)) M
      ∙ by_test t (move_dt d b c p.rad p) (λ dt. MoveToNeighbour i (new_pos b p.pos p.vel dt) (aside_in (course_of d b c p))) (shut d b c p)

  pub out_found : o ≡ crossing_in m (neg m.rad) → found t (λ dt. MoveOutOfCell i (new_pos b p.pos p.vel dt) c) o ≡ out_of_cell d b t c i p
  unfolding out_of_cell course_of cell_along
  out_found e =
      ap (found t (λ dt. MoveOutOfCell i (new_pos b p.pos p.vel dt) c)) (e ∙ ap (λ (m : Course). crossing_in m (neg m.rad)) M)
      ∙ by_test t (move_dt d b c (neg p.rad) p) (λ dt. MoveOutOfCell i (new_pos b p.pos p.vel dt) c) (shut d b c p)

  pub wall_found : o ≡ reflection_in m → found t (λ dt. WallReflection i (new_pos b p.pos p.vel dt) (bent d (neg m.vel) p.vel) (wall_val_in b d m p.val)) o ≡ wall d b t c i p
  unfolding wall course_of cell_along
  wall_found e =
      ap (found t (λ dt. WallReflection i (new_pos b p.pos p.vel dt) (bent d (neg m.vel) p.vel) (wall_val_in b d m p.val))) e
      ∙ ap (λ (m : Course). found t (λ dt. WallReflection i (new_pos b p.pos p.vel dt) (bent d (neg m.vel) p.vel) (wall_val_in b d m p.val)) (reflection_in m)) M
      ∙ by_test t (div binary64 (gap d b c p.rad p) (along d p.vel)) (λ dt. WallReflection i (new_pos b p.pos p.vel dt) (bent d (neg (along d p.vel)) p.vel) (wall_val d b p)) (no_wall d b c p)
