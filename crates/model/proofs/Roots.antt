-- After a start the first event of all is the synchronisation at 0: cell 0 is the heap's root, and ties never rise. Assumes nothing.
use Prim.Native.Nat.{ℕ, zero, suc, ◌<◌}
use mathlib.Core.Path.{◌≡◌, refl, sym, ap, subst, ◌∙◌}
use mathlib.Core.Logic.{◌⊎◌, inl, inr}
use mathlib.Core.List.{List, [], ◌∷◌}
use mathlib.Core.Bool.{Bool, true, false, not, ◌&&◌, cond}
use native.Mathlib.Omega.{arith}
use native.Mathlib.Decide.{ℕ_discrete}
use lib.Dec.{T, eqb, ltb}
use lib.ListN.{length, get_or, set, drop, length-set}
use lib.Seq.{get_or-set_other}
use lib.Ieee.{Float, binary64, of_bits, add, neg, le, lt, is_nan}
use lib.Ieee.Bits.{is_true, is_false}
use borrow.Author.Tests.{ltb-true, eq-eqb}
use Rattle.scheduler.specs.declared.Scheduler.{Scheduler}
use Rattle.scheduler.specs.Heap.{swap, swap_at, time_at, parent, parent_in, parent_of, up, upshifted, updated}
use Rattle.scheduler.proofs.Laws.{time_in_lem}
use Rattle.order.specs.Numbers.{fzero}
use Rattle.scheduler.specs.Head.{Head, earlier}
use Rattle.order.proofs.Order.{lt→le, lt_left, lt_not_le}
use Rattle.order.proofs.Compare.{lt_irrefl, le_of_not_lt, fails}
use Rattle.order.proofs.Clock.{clock_on}
use Rattle.myvec.specs.Vec.{vsub}
use Rattle.model.specs.declared.Domain.{Domain}
use Rattle.model.specs.declared.Particle.{Particle}
use Rattle.model.specs.declared.Place.{Place}
use Rattle.model.specs.declared.Event.{Event}
use Rattle.model.specs.declared.Event.TheVariants.{InterParticleCollision, MoveToNeighbour, MoveOutOfCell, WallReflection, Synchronisation}
use Rattle.std.specs.Prelude.{Some, None, Ok, Err, Some}
use Rattle.model.specs.Plans.{Contact, Plan}
use Rattle.halting.specs.Out.{then, each, each_of}
use Rattle.halting.proofs.Laws.{then_sound, each_sound}
use Rattle.model.specs.Stepping.{new_pos, due}
use Rattle.model.specs.Periodic.{apart}
use Rattle.model.specs.Collision.{reach, collide, planned, struck, collision}
use Rattle.model.specs.Moves.{later, to_neighbour, out_of_cell, shut, aside, move_dt}
use Rattle.model.specs.Walls.{wall, no_wall}
use Rattle.model.specs.Events.{place_of, insert_by, head_time, head_place, fine_place}
use Rattle.model.specs.State.{Row, row, State, grain, listed, queue, heads, live_at, requeued}
use Rattle.model.specs.Acts.{queue_row, insert, inserted, put, first}
use Rattle.model.specs.Doing.{schedule_collision, schedule_by, boundaries, sync_at, pairs}
use Rattle.model.specs.Rows.{Finder}
use Rattle.halting.proofs.Bools.{clash, and_l, and_r}
use Rattle.model.proofs.Lists.{live_same, live_other}
use Rattle.model.proofs.Queue.{fine_real}
use Rattle.model.proofs.Frame.{of_sound}
use Rattle.model.proofs.Cases.{on_test, insert_case}
use Rattle.model.proofs.Cleared.{zero_fits, zero_finite}
use Rattle.model.proofs.Plans.{Late, late_collide, not_below}

-- ---- the heap: where no head is earlier than cell 0's, which is the root, an upshift leaves it there
module _ (h : ℕ → Head) (late : (k : ℕ) → earlier (h k) (h 0) ≡ false) where
  stays : (s : Scheduler) (c : ℕ) → get_or s.heap 0 0 ≡ 0 → (parent_of h s c ≡ c) ⊎ ((0 < c) × (0 < parent_of h s c))
  unfolding parent_in
  stays s c z = by (ltb c s.cells && earlier (time_at h s c) (time_at h s (parent c))) refl
    where
      apart' : (ltb c s.cells && earlier (time_at h s c) (time_at h s (parent c))) ≡ true → parent c ≡ 0 → ⊥
      apart' e p =
          let C : c < s.cells = ltb-true c s.cells (and_l (ltb c s.cells) _ e) in
          let t0 : time_at h s (parent c) ≡ h 0 = ap (time_at h s) p ∙ time_in_lem h s 0 (omega arith) ∙ ap h z in
          let l : earlier (h (get_or s.heap c 0)) (h 0) ≡ true = sym (ap (λ (t : Head). earlier t (h 0)) (time_in_lem h s c C)) ∙ sym (ap (λ (t : Head). earlier (time_at h s c) t) t0) ∙ and_r (ltb c s.cells) _ e in
          clash (sym (late (get_or s.heap c 0)) ∙ l)

      by : (b : Bool) → (ltb c s.cells && earlier (time_at h s c) (time_at h s (parent c))) ≡ b
          → (cond b (parent c) c ≡ c) ⊎ ((0 < c) × (0 < cond b (parent c) c))
      by false e = inl refl
      by true e = elim (ℕ_discrete (parent c) 0) [
        | yes p ↦ absurd (apart' e p)
        | no d ↦ inr (elim (ℕ_discrete c 0) [ yes q ↦ absurd (d (rw q)) | no q ↦ omega arith ], omega arith)
      ]

  swap_root : (l : List ℕ) (a b : ℕ) → 0 < a → 0 < b → get_or (swap l a b) 0 0 ≡ get_or l 0 0
  swap_root l a b p q = get_or-set_other (set l a (get_or l b 0)) b 0 (get_or l a 0) 0 (λ e. omega (arith, e)) ∙ get_or-set_other l a 0 (get_or l b 0) 0 (λ e. omega (arith, e))

  up_root : (k : ℕ) (s : Scheduler) (c : ℕ) → get_or s.heap 0 0 ≡ 0 → get_or (up h k s c).heap 0 0 ≡ 0
  unfolding up swap_at
  up_root zero s c z = z
  up_root (suc k) s c z = by (eqb (parent_of h s c) c) refl (stays s c z) (up_root k (swap_at s c (parent_of h s c)) (parent_of h s c))
    where
      by : (b : Bool) → eqb (parent_of h s c) c ≡ b → (parent_of h s c ≡ c) ⊎ ((0 < c) × (0 < parent_of h s c))
          → (get_or (swap_at s c (parent_of h s c)).heap 0 0 ≡ 0 → get_or (up h k (swap_at s c (parent_of h s c)) (parent_of h s c)).heap 0 0 ≡ 0)
          → get_or (cond b s (up h k (swap_at s c (parent_of h s c)) (parent_of h s c))).heap 0 0 ≡ 0
      by true e m again = z
      by false e (inl p) again = clash (sym e ∙ eq-eqb (parent_of h s c) c p)
      by false e (inr p) again = again (swap_root s.heap c (parent_of h s c) p.0 p.1 ∙ z)

  pub updated_root : (s : Scheduler) (c : ℕ) (before after : Head) → earlier before after ≡ false → get_or s.heap 0 0 ≡ 0 → get_or (updated h s c before after).heap 0 0 ≡ 0
  unfolding updated upshifted
  updated_root s c before after e z = rw e (up_root (get_or s.lookups c 0) s (get_or s.lookups c 0) z)

-- ---- an insertion does not make a head later
pub head_later : (e : Place) (l : List Place) → earlier (head_time l) (head_time (insert_by e l)) ≡ false
unfolding insert_by
head_later e [] = refl
head_later e (x ∷ xs) = by (le x.time e.time) refl
  where
    by : (b : Bool) → le x.time e.time ≡ b → earlier (Some x.time) (head_time (cond b (x ∷ insert_by e xs) (e ∷ x ∷ xs))) ≡ false
    by true q = lt_irrefl x.time
    by false q = fails (lt x.time e.time) (λ t. clash (sym q ∙ is_true _ (lt→le x.time e.time t)))

-- what is not before 0, and the synchronisation at 0 in front of it
head_from : (e : Place) (l : List Place) → lt e.time fzero ≡ false → earlier (head_time l) (Some fzero) ≡ false → earlier (head_time (insert_by e l)) (Some fzero) ≡ false
unfolding insert_by
head_from e [] h k = h
head_from e (x ∷ xs) h k = on_test (λ m. earlier (head_time m) (Some fzero) ≡ false) (le x.time e.time) (x ∷ insert_by e xs) (e ∷ x ∷ xs) (λ q. k) (λ q. h)

zero_real : is_nan fzero ≡ false
unfolding is_nan of_bits
zero_real = refl

head_stays : (e : Place) (l : List Place) → fine_place e ≡ true → lt e.time fzero ≡ false → head_place l ≡ sync_at fzero → head_place (insert_by e l) ≡ sync_at fzero
unfolding insert_by
head_stays e [] f h z = absurd (let k : ◌≡◌ {A = ℕ} 0 5 = ap (λ (p : Place). p.kind) z in omega (arith, k))
head_stays e (x ∷ xs) f h z =
    let t : x.time ≡ fzero = ap (λ (p : Place). p.time) z in
    let q : le x.time e.time ≡ true = rw t (le_of_not_lt fzero e.time zero_real (is_false _ (fine_real e f)) h) in
    rw q z

-- ---- a state whose first event of all is that synchronisation
pub record Rooted (n : ℕ) (u : State) : Type 0 where
  pub long : length u.queues ≡ n
  pub clock : u.clock ≡ fzero
  pub root : first u ≡ 0
  pub head : head_place (queue u 0) ≡ sync_at fzero
  pub late : (c : ℕ) → earlier (head_time (queue u c)) (Some fzero) ≡ false

headed : (l : List Place) → head_place l ≡ sync_at fzero → head_time l ≡ Some fzero
headed [] z = absurd (let k : ◌≡◌ {A = ℕ} 0 5 = ap (λ (p : Place). p.kind) z in omega (arith, k))
headed (x ∷ xs) z = ap (λ (p : Place). Some p.time) z

rooted_insert : (n c : ℕ) (e : Place) (u : State) → c < n → Rooted n u → fine_place e ≡ true → lt e.time fzero ≡ false → Rooted n (inserted c e u)
unfolding requeued
rooted_insert n c e u C r f h = record {
  long = length-set u.queues c new ∙ r.long;
  clock = r.clock;
  root = updated_root (heads (set u.queues c new)) (λ k. heads-late k) u.sched c (heads u.queues c) (head_time (insert_by e (queue u c))) (unfold heads in head_later e (queue u c)) r.root;
  head = front;
  late = behind;
}
  where
    new : Row Place
    new = row (insert_by e (queue u c)) (drop 1 (queue_row u c).spare)

    here : live_at (set u.queues c new) c ≡ insert_by e (queue u c)
    here = live_same u.queues c new (omega (arith, r.long))

    front : head_place (live_at (set u.queues c new) 0) ≡ sync_at fzero
    front = elim (ℕ_discrete 0 c) [
      | yes z ↦ ap (λ (k : ℕ). head_place (live_at (set u.queues c new) k)) z ∙ ap head_place here ∙ head_stays e (queue u c) f h (ap (λ (k : ℕ). head_place (queue u k)) (sym z) ∙ r.head)
      | no d ↦ ap head_place (live_other u.queues c 0 new d) ∙ r.head
    ]

    behind : (k : ℕ) → earlier (head_time (live_at (set u.queues c new) k)) (Some fzero) ≡ false
    behind k = elim (ℕ_discrete k c) [
      | yes z ↦ ap (λ (j : ℕ). earlier (head_time (live_at (set u.queues c new) j)) (Some fzero)) z ∙ ap (λ (l : List Place). earlier (head_time l) (Some fzero)) here ∙ head_from e (queue u c) h (r.late c)
      | no d ↦ ap (λ (l : List Place). earlier (head_time l) (Some fzero)) (live_other u.queues c k new d) ∙ r.late k
    ]

    heads-late : (k : ℕ) → earlier (heads (set u.queues c new) k) (heads (set u.queues c new) 0) ≡ false
    heads-late k = unfold heads in ap (λ (t : Head). earlier (head_time (live_at (set u.queues c new) k)) t) (headed (live_at (set u.queues c new) 0) front) ∙ behind k

-- ---- what is found at the clock 0 is not before 0
abbrev FromZero : Plan → Type 0
FromZero (Ok None) = Unit {0}
FromZero (Err _) = Unit {0}
FromZero (Ok (Some e)) = lt (place_of e).time fzero ≡ false

from_zero : (dt : Float) → lt dt fzero ≡ false → lt (add binary64 fzero dt) fzero ≡ false
from_zero dt h = fails (lt (add binary64 fzero dt) fzero) (λ t. lt_not_le (add binary64 fzero dt) fzero t (on (lt_left (add binary64 fzero dt) fzero t)))
  where
    on : T (not (is_nan (add binary64 fzero dt))) → T (le fzero (add binary64 fzero dt))
    on k = unfold of_bits in clock_on binary64 fzero dt zero_fits zero_finite (subst (λ (b : Bool). T (not b)) (sym h) tt) k

due_from : (dt : Float) (e : Event) → lt dt fzero ≡ false → FromZero (due fzero dt e)
due_from dt e h = at e
  where
    at : (e : Event) → lt (place_of (record { time = add binary64 fzero dt; event = e })).time fzero ≡ false
    at (InterParticleCollision p q x y v w k) = from_zero dt h
    at (MoveToNeighbour p x k) = from_zero dt h
    at (MoveOutOfCell p x k) = from_zero dt h
    at (WallReflection p x v w) = from_zero dt h
    at Synchronisation = from_zero dt h

later_from : (dt : Float) (e : Event) → FromZero (later fzero dt e)
unfolding later
later_from dt e = on_test FromZero (le dt fzero) (Ok None) (due fzero dt e) (λ h. tt) (λ h. due_from dt e (not_below dt h))

hit_from : (x : Contact) (e : Float → Event) → Late x → FromZero (planned x fzero e)
hit_from (Ok None) e l = tt
hit_from (Ok (Some dt)) e l = due_from dt (e dt) l
hit_from (Err _) e l = tt

collision_from : (b : Domain) (c i j : ℕ) (p q : Particle) → FromZero (collision b fzero c i j p q)
unfolding collision
collision_from b c i j p q = hit_from (collide (reach p q) (apart b c (vsub q.pos p.pos)) (vsub q.vel p.vel)) (struck b c i j p q) (late_collide _ _ _)

abbrev Finds : Finder → Type 0
Finds f = (d : ℕ) (b : Domain) (c i : ℕ) (p : Particle) → FromZero (f d b fzero c i p)

neighbour_from : Finds to_neighbour
unfolding to_neighbour
neighbour_from d b c i p = on_test FromZero (shut d b c p) (Ok None) _ (λ h. tt) (λ h. later_from _ (MoveToNeighbour i (new_pos b p.pos p.vel (move_dt d b c p.rad p)) (aside d b c p)))

out_from : Finds out_of_cell
unfolding out_of_cell
out_from d b c i p = on_test FromZero (shut d b c p) (Ok None) _ (λ h. tt) (λ h. later_from _ (MoveOutOfCell i (new_pos b p.pos p.vel (move_dt d b c (neg p.rad) p)) c))

wall_from : Finds wall
unfolding wall
wall_from d b c i p = on_test FromZero (no_wall d b c p) (Ok None) _ (λ h. tt) (λ h. later_from _ (WallReflection i _ _ _))

-- ---- init_events keeps it, done or refused
module _ (n c : ℕ) (C : c < n) where
  insert_root : (e : Place) (u : State) → Rooted n u → lt e.time fzero ≡ false → Rooted n (insert c e u).st
  insert_root e u r h = insert_case (λ o. Rooted n o.st) u c e r (λ q. r) (λ f q. rooted_insert n c e u C r f h)

  put_root : (x : Plan) (u : State) → Rooted n u → FromZero x → Rooted n (put c x u).st
  put_root (Ok None) u r h = r
  put_root (Err _) u r h = r
  put_root (Ok (Some e)) u r h = insert_root (place_of e) u r h

  by_root : (f : Finder) → Finds f → (p d : ℕ) (u : State) → Rooted n u → Rooted n (schedule_by f c p d u).st
  by_root f finds p d u r = put_root (f d u.box u.clock c p (grain u p)) u r (subst (λ (t : Float). FromZero (f d u.box t c p (grain u p))) (sym r.clock) (finds d u.box c p (grain u p)))

  bound_root : (f : Finder) → Finds f → (p : ℕ) (u : State) → Rooted n u → Rooted n (each (schedule_by f c p) 2 0 u).st
  bound_root f finds p u r = each_sound (schedule_by f c p) (Rooted n) 2 (λ d w h k. by_root f finds p d w k) 2 0 u (omega arith) r

  boundaries_root : (p : ℕ) (u : State) → Rooted n u → Rooted n (boundaries c p u).st
  unfolding boundaries
  boundaries_root p u r =
      then_sound (Rooted n) (each (schedule_by to_neighbour c p) 2 0 u) _ (bound_root to_neighbour neighbour_from p u r)
      (λ v q. then_sound (Rooted n) (each (schedule_by out_of_cell c p) 2 0 v) _ (bound_root out_of_cell out_from p v q) (λ w k. bound_root wall wall_from p w k))

  collide_root : (p q : ℕ) (u : State) → Rooted n u → Rooted n (schedule_collision c p q u).st
  collide_root p q u r = put_root (collision u.box u.clock c p q (grain u p) (grain u q)) u r (subst (λ (t : Float). FromZero (collision u.box t c p q (grain u p) (grain u q))) (sym r.clock) (collision_from u.box c p q (grain u p) (grain u q)))

  pairs_root : (l : List ℕ) (u : State) → Rooted n u → Rooted n (pairs c l u).st
  unfolding pairs
  pairs_root [] u r = r
  pairs_root (p ∷ qs) u r =
      then_sound (Rooted n) (each_of (λ q. schedule_collision c p q) qs u) (pairs c qs) (of_sound (Rooted n) (λ q. schedule_collision c p q) qs (λ q w h k. collide_root p q w k) u r)
      (λ w k. pairs_root qs w k)

  pub rest_root : (u : State) → Rooted n u → Rooted n (then (pairs c (listed u c) u) (λ w. each_of (λ p. boundaries c p) (listed w c) w)).st
  rest_root u r =
      then_sound (Rooted n) (pairs c (listed u c) u) _ (pairs_root (listed u c) u r)
      (λ w k. of_sound (Rooted n) (λ p. boundaries c p) (listed w c) (λ p v h q. boundaries_root p v q) w k)
