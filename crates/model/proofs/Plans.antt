-- What the scheduling of each kind finds may be inserted: it names grains of the cell, and is not before the clock. Assumes nothing.
use Prim.Native.Nat.{ℕ, zero, suc, ◌+◌, ◌-◌, ◌*◌, ◌/◌, ◌%◌, ◌≤◌, ◌<◌}
use mathlib.Core.Path.{◌≡◌, refl, sym, subst, ◌∙◌}
use mathlib.Core.List.{List}
use mathlib.Core.Bool.{Bool, true, false, not, cond}
use native.Mathlib.Omega.{arith}
use native.Mathlib.Nat.{mod-lt, mul-le-mul_left, mul-suc, mul_comm, div-lt_iff_lt-mul, mul-pos}
use lib.Dec.{T, eqb}
use lib.Ieee.{Float, binary64, of_bits, add, neg, le, lt, is_nan, fits}
use lib.Ieee.Fits.{add-fits}
use lib.Ieee.Scale.{finite}
use lib.Ieee.Bits.{is_true}
use Rattle.root.specs.Root.{root_of}
use Rattle.myvec.specs.declared.MyVec.{MyVec}
use Rattle.std.specs.Prelude.{Option, Some, None, Ok, Err}
use Rattle.model.specs.Plans.{Contact, Plan}
use Rattle.model.specs.declared.Domain.{Domain}
use Rattle.model.specs.declared.Particle.{Particle}
use Rattle.model.specs.declared.Event.{Event}
use Rattle.model.specs.declared.Event.TheVariants.{InterParticleCollision, MoveToNeighbour, MoveOutOfCell, WallReflection, Synchronisation}
use Rattle.order.specs.Numbers.{fzero}
use Rattle.myvec.specs.Vec.{vsub}
use Rattle.order.proofs.Order.{lt→le}
use Rattle.order.proofs.Clock.{clock_on}
use Rattle.model.specs.Collision.{reach, after_root, collide, planned, collision, struck}
use Rattle.model.specs.Grid.{across, cells, index, cell_on, below, above}
use Rattle.model.specs.Events.{place_of, event_of}
use Rattle.model.specs.Periodic.{apart}
use Rattle.model.specs.Stepping.{new_pos, due}
use Rattle.model.specs.State.{has}
use Rattle.model.specs.Moves.{later, to_neighbour, out_of_cell, shut, side_low, aside, move_dt}
use Rattle.model.specs.Walls.{wall, no_wall}
use Rattle.model.specs.Standing.{one_if}
use Rattle.model.proofs.Sound.{Named}
use Rattle.halting.proofs.Bools.{clash}
use Rattle.model.proofs.Queue.{T_of}
use Rattle.model.proofs.Cases.{on_test}
use Rattle.model.proofs.Keeps.{Apt}

-- ---- the grid
pub across_min : (d : ℕ) (b : Domain) → 3 ≤ across d b
unfolding across
across_min d b = omega arith

pub grid_in : (x y a b : ℕ) → x < a → y < b → x + a * y < a * b
grid_in x y a b h k =
    let p : a * suc y ≤ a * b = mul-le-mul_left a k in
    omega (arith, p, mul-suc a y)

pub cells_some : (b : Domain) → 0 < cells b
cells_some b = mul-pos (let h = across_min 0 b in omega arith) (let h = across_min 1 b in omega arith)

pub row_in : (b : Domain) (c : ℕ) → c < cells b → c / across 0 b < across 1 b
row_in b c h =
    let w = across_min 0 b in
    let z : 0 < across 0 b = omega arith in
    (div-lt_iff_lt-mul {k = across 0 b} {x = c} {y = across 1 b} z).1 (rw (mul_comm (across 1 b) (across 0 b)) h)

pub shifted_in : (d : ℕ) (b : Domain) (c k : ℕ) → c < cells b → cell_on d b c k < cells b
shifted_in zero b c k h = grid_in ((index 0 b c + k) % across 0 b) (index 1 b c) (across 0 b) (across 1 b) (mod-lt (index 0 b c + k) (let w = across_min 0 b in omega arith)) (row_in b c h)
shifted_in (suc d) b c k h = grid_in (index 0 b c) ((index 1 b c + k) % across 1 b) (across 0 b) (across 1 b) (mod-lt c (let w = across_min 0 b in omega arith)) (mod-lt (index 1 b c + k) (let w = across_min 1 b in omega arith))

-- ---- dt is not below 0
pub not_below : (dt : Float) → le dt fzero ≡ false → lt dt fzero ≡ false
not_below dt h = by (lt dt fzero) refl
  where
    by : (b : Bool) → lt dt fzero ≡ b → lt dt fzero ≡ false
    by true e = clash (sym h ∙ is_true (le dt fzero) (lt→le dt fzero (T_of (lt dt fzero) e)))
    by false e = e

-- ---- a collision's dt is not below 0
abbrev pub Late : Contact → Type 0
Late (Ok None) = Unit {0}
Late (Ok (Some dt)) = lt dt fzero ≡ false
Late (Err _) = Unit {0}

on_hit : (b : Bool) (x y : Contact) → (b ≡ true → Late x) → (b ≡ false → Late y) → Late (cond b x y)
on_hit true x y p q = p refl
on_hit false x y p q = q refl

late_after : (a b : Float) (r : Option Float) → Late (after_root a b r)
late_after a b None = tt
late_after a b (Some s) = on_hit (lt _ fzero) (Ok None) (Ok (Some _)) (λ h. tt) (λ h. h)

pub late_collide : (rr : Float) (x v : MyVec) → Late (collide rr x v)
late_collide rr x v = on_hit (lt _ _) (Ok None) _ (λ h. tt) (λ h. on_hit (le _ _) (Ok None) _ (λ h. tt) (λ h. on_hit (lt _ _) (Ok None) _ (λ h. tt) (λ h. on_hit (lt _ _) (Ok None) _ (λ h. tt) (λ h. late_after _ _ (root_of _)))))

-- ---- an event dt after the clock, dt not below 0
abbrev pub AptPlan : ℕ → ℕ → List ℕ → Float → Plan → Type 0
AptPlan n c l t (Ok None) = Unit {0}
AptPlan n c l t (Err _) = Unit {0}
AptPlan n c l t (Ok (Some e)) = Apt n c l t (place_of e) × (one_if (event_of (place_of e).kind (place_of e)) ≡ 0)

module _ (n c : ℕ) (l : List ℕ) (t : Float) (F : T (finite t)) (f : T (fits binary64 t)) where
  ahead : (dt : Float) → lt dt fzero ≡ false → T (not (is_nan (add binary64 t dt))) → T (le t (add binary64 t dt))
  unfolding of_bits
  ahead dt h k = clock_on binary64 t dt f F (subst (λ (b : Bool). T (not b)) (sym h) tt) k

  pub due_apt : (dt : Float) (e : Event) → lt dt fzero ≡ false → Named n c l e → one_if e ≡ 0 → AptPlan n c l t (due t dt e)
  due_apt dt (InterParticleCollision p q x y v w k) h m z = (record { kind = (omega arith, omega arith); fit = add-fits binary64 t dt; named = m; ahead = ahead dt h }, refl)
  due_apt dt (MoveToNeighbour p x k) h m z = (record { kind = (omega arith, omega arith); fit = add-fits binary64 t dt; named = m; ahead = ahead dt h }, refl)
  due_apt dt (MoveOutOfCell p x k) h m z = (record { kind = (omega arith, omega arith); fit = add-fits binary64 t dt; named = m; ahead = ahead dt h }, refl)
  due_apt dt (WallReflection p x v w) h m z = (record { kind = (omega arith, omega arith); fit = add-fits binary64 t dt; named = m; ahead = ahead dt h }, refl)
  due_apt dt Synchronisation h m z = absurd (omega (arith, z))

  later_apt : (dt : Float) (e : Event) → Named n c l e → one_if e ≡ 0 → AptPlan n c l t (later t dt e)
  unfolding later
  later_apt dt e m z = on_test (AptPlan n c l t) (le dt fzero) (Ok None) (due t dt e) (λ h. tt) (λ h. due_apt dt e (not_below dt h) m z)

  hit_apt : (h : Contact) (e : Float → Event) → Late h → ((dt : Float) → Named n c l (e dt) × (one_if (e dt) ≡ 0)) → AptPlan n c l t (planned h t e)
  hit_apt (Ok None) e p m = tt
  hit_apt (Ok (Some dt)) e p m = due_apt dt (e dt) p (m dt).0 (m dt).1
  hit_apt (Err _) e p m = tt

  -- ---- the four kinds
  pub collision_apt : (b : Domain) (i j : ℕ) (p q : Particle) → has i l ≡ true → has j l ≡ true → eqb i j ≡ false → AptPlan n c l t (collision b t c i j p q)
  unfolding collision
  collision_apt b i j p q hi hj d = hit_apt (collide (reach p q) (apart b c (vsub q.pos p.pos)) (vsub q.vel p.vel)) (struck b c i j p q) (late_collide _ _ _) (λ dt. ((hi, hj, d), refl))

  pub to_neighbour_apt : (d : ℕ) (b : Domain) (i : ℕ) (p : Particle) → cells b ≡ n → c < n → has i l ≡ true → AptPlan n c l t (to_neighbour d b t c i p)
  unfolding to_neighbour
  to_neighbour_apt d b i p e C hi =
      on_test (AptPlan n c l t) (shut d b c p) (Ok None) _ (λ h. tt) (λ h. later_apt _ (MoveToNeighbour i (new_pos b p.pos p.vel (move_dt d b c p.rad p)) (aside d b c p)) (hi, beside) refl)
    where
      in' : c < cells b
      in' = rw e C

      beside : aside d b c p < n
      beside = rw (← e) (on_test (λ k. k < cells b) (side_low d p) (below d b c) (above d b c) (λ h. shifted_in d b c (across d b - 1) in') (λ h. shifted_in d b c 1 in'))

  pub out_of_cell_apt : (d : ℕ) (b : Domain) (i : ℕ) (p : Particle) → has i l ≡ true → AptPlan n c l t (out_of_cell d b t c i p)
  unfolding out_of_cell
  out_of_cell_apt d b i p hi = on_test (AptPlan n c l t) (shut d b c p) (Ok None) _ (λ h. tt) (λ h. later_apt _ (MoveOutOfCell i (new_pos b p.pos p.vel (move_dt d b c (neg p.rad) p)) c) (hi, refl) refl)

  pub wall_apt : (d : ℕ) (b : Domain) (i : ℕ) (p : Particle) → has i l ≡ true → AptPlan n c l t (wall d b t c i p)
  unfolding wall
  wall_apt d b i p hi = on_test (AptPlan n c l t) (no_wall d b c p) (Ok None) _ (λ h. tt) (λ h. later_apt _ (WallReflection i _ _ _) (hi, tt) refl)
