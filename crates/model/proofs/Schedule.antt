-- schedule_events and the five executions keep `Sound`, done or refused. Assumes nothing.
use Prim.Native.Nat.{ℕ, zero, suc, ◌<◌}
use mathlib.Core.Path.{◌≡◌, refl, sym, ◌∙◌, subst}
use mathlib.Core.List.{List, [], ◌∷◌}
use mathlib.Core.Bool.{Bool, true, false, ◌||◌, or-true}
use native.Mathlib.Omega.{arith}
use lib.Dec.{eqb}
use lib.ListN.{length}
use borrow.Author.Tests.{eqb-true}
use Rattle.myvec.specs.declared.MyVec.{MyVec}
use Rattle.model.specs.declared.Particle.{Particle}
use Rattle.halting.specs.Out.{Out, next, then, each, each_of}
use Rattle.halting.proofs.Laws.{then_sound, each_sound}
use Rattle.model.specs.Grid.{cells}
use Rattle.model.specs.Events.{names, event_of}
use Rattle.model.specs.State.{State, grain, home, listed, queue, has}
use Rattle.model.specs.Acts.{store, cancelled, cancel, enter, leave}
use Rattle.model.specs.Collision.{collision}
use Rattle.model.specs.Moves.{to_neighbour, out_of_cell}
use Rattle.model.specs.Walls.{wall}
use Rattle.model.specs.Doing.{step_grain, schedule_collision, schedule_by, boundaries, schedule_with, schedule_events, again, forget, do_collision, do_neighbour, do_out, do_wall}
use Rattle.model.specs.Rows.{others, Finder}
use Rattle.model.specs.Stepping.{stepped, landed}
use Rattle.model.proofs.Sound.{Sound}
use Rattle.halting.proofs.Bools.{clash, or_case}
use Rattle.model.proofs.Plans.{AptPlan, collision_apt, to_neighbour_apt, out_of_cell_apt, wall_apt}
use Rattle.halting.specs.Every.{All}
use Rattle.model.proofs.Cases.{store_case, leave_case}
use Rattle.model.proofs.Frame.{same_clock, Keeps, Goes, keeps_refl, keeps_on, goes_on, keeps_goes, store_keeps, put_keeps, cancelled_keeps, cancelled_free, In, in_frame, in_home, in_cell, enter_goes, enter_in, leave_goes, of_sound}
use Rattle.model.proofs.Forgets.{forget_keeps}

-- ---- an act whose second part needs the first to be done
next_both : {S : Type 0} (P Q : S → Type 0) (r : ℕ) (s : S) (k : S → Out S) → P s → (r ≡ 0 → Q s) → ((u : S) → P u → Q u → P (k u).st) → P (next r s k).st
next_both P Q zero s k p q g = g s p (q refl)
next_both P Q (suc r) s k p q g = p

pub then_both : {S : Type 0} (P Q : S → Type 0) (o : Out S) (k : S → Out S) → P o.st → (o.num ≡ 0 → Q o.st) → ((u : S) → P u → Q u → P (k u).st) → P (then o k).st
then_both P Q o k = next_both P Q o.num o.st k

-- ---- stepping
pub step_keeps : (s : State) (g : ℕ) → Sound s → g < length s.grains → Keeps s (step_grain g s).st
unfolding step_grain
step_keeps s g sound G = store_keeps s g (stepped s.box s.clock (grain s g)) sound G (same_clock s sound)

-- ---- scheduling
pub collide_keeps : (s : State) (c p q : ℕ) → Sound s → In p c s → In q c s → eqb p q ≡ false → Keeps s (schedule_collision c p q s).st
collide_keeps s c p q sound i j d =
    put_keeps s c (collision s.box s.clock c p q (grain s p) (grain s q)) sound i.cell
    (collision_apt (cells s.box) c (listed s c) s.clock sound.clock sound.fit s.box p q (grain s p) (grain s q) i.there j.there d)

-- what a finder finds may go in
abbrev Finds : Finder → Type 0
Finds f = (s : State) (c p d : ℕ) → Sound s → In p c s → AptPlan (cells s.box) c (listed s c) s.clock (f d s.box s.clock c p (grain s p))

bound_keeps : (f : Finder) → Finds f → (c p : ℕ) (s : State) → Sound s → In p c s → Keeps s (each (schedule_by f c p) 2 0 s).st
bound_keeps f finds c p s sound i =
    each_sound (schedule_by f c p) (Keeps s) 2
    (λ d u h k. keeps_on s u _ k (put_keeps u c (f d u.box u.clock c p (grain u p)) k.sound (in_frame p c s u k.frame i).cell (finds u c p d k.sound (in_frame p c s u k.frame i))))
    2 0 s (omega arith) (keeps_refl s sound)

pub boundaries_keeps : (c p : ℕ) (s : State) → Sound s → In p c s → Keeps s (boundaries c p s).st
unfolding boundaries
boundaries_keeps c p s sound i =
    then_sound (Keeps s) (each (schedule_by to_neighbour c p) 2 0 s) (λ u. then (each (schedule_by out_of_cell c p) 2 0 u) (λ w. each (schedule_by wall c p) 2 0 w))
    (bound_keeps to_neighbour (λ u c' p' d h j. to_neighbour_apt (cells u.box) c' (listed u c') u.clock h.clock h.fit d u.box p' (grain u p') refl j.cell j.there) c p s sound i)
    (λ u k. then_sound (Keeps s) (each (schedule_by out_of_cell c p) 2 0 u) (λ w. each (schedule_by wall c p) 2 0 w)
    (keeps_on s u _ k (bound_keeps out_of_cell (λ u c' p' d h j. out_of_cell_apt (cells u.box) c' (listed u c') u.clock h.clock h.fit d u.box p' (grain u p') j.there) c p u k.sound (in_frame p c s u k.frame i)))
    (λ w l. keeps_on s w _ l (bound_keeps wall (λ u c' p' d h j. wall_apt (cells u.box) c' (listed u c') u.clock h.clock h.fit d u.box p' (grain u p') j.there) c p w l.sound (in_frame p c s w l.frame i))))

pub has_others : (p q : ℕ) (l : List ℕ) → has q (others p l) ≡ true → (has q l ≡ true) × (eqb p q ≡ false)
unfolding has others
has_others p q [] h = (h, clash h)
has_others p q (x ∷ xs) h = by (eqb p x) refl (has_others p q xs)
  where
    by : (b : Bool) → eqb p x ≡ b → (has q (others p xs) ≡ true → (has q xs ≡ true) × (eqb p q ≡ false)) → ((eqb q x || has q xs) ≡ true) × (eqb p q ≡ false)
    by true e ih = let w = ih (rw e at h) in (rw w.0 (or-true (eqb q x)), w.1)
    by false e ih = or_case (eqb q x) (has q (others p xs)) (((eqb q x || has q xs) ≡ true) × (eqb p q ≡ false)) (rw e at h)
        (λ f. ((rw f), rw (eqb-true q x f) e)) (λ f. let w = ih f in (rw w.0 (or-true (eqb q x)), w.1))

pub schedule_with_keeps : (p c : ℕ) (qs : List ℕ) (s : State) → Sound s → In p c s → ((q : ℕ) → has q qs ≡ true → In q c s × (eqb p q ≡ false)) → Keeps s (schedule_with p c qs s).st
unfolding schedule_with
schedule_with_keeps p c qs s sound i j =
    then_sound (Keeps s) (each_of step_grain qs s) (λ u. then (each_of (schedule_collision c p) qs u) (λ w. boundaries c p w))
    (of_sound (Keeps s) step_grain qs (λ q u h k. keeps_on s u _ k (step_keeps u q k.sound (in_frame q c s u k.frame (j q h).0).grain)) s (keeps_refl s sound))
    (λ u k. then_sound (Keeps s) (each_of (schedule_collision c p) qs u) (λ w. boundaries c p w)
    (of_sound (Keeps s) (schedule_collision c p) qs (λ q w h l. keeps_on s w _ l (collide_keeps w c p q l.sound (in_frame p c s w l.frame i) (in_frame q c s w l.frame (j q h).0) (j q h).1)) u k)
    (λ w l. keeps_on s w _ l (boundaries_keeps c p w l.sound (in_frame p c s w l.frame i))))

pub schedule_keeps : (p c : ℕ) (s : State) → Sound s → In p c s → Keeps s (schedule_events p c s).st
unfolding schedule_events
schedule_keeps p c s sound i =
    schedule_with_keeps p c (others p (listed s c)) s sound i (λ q h. let w = has_others p q (listed s c) h in (in_cell q c s sound i.cell w.0, w.1))

-- ---- in all cells of a grain
pub again_keeps : (p : ℕ) (s : State) → Sound s → p < length s.grains → Keeps s (again p s).st
unfolding again
again_keeps p s sound P =
    of_sound (Keeps s) (λ c. schedule_events p c) (home s p)
    (λ c u h k. keeps_on s u _ k (schedule_keeps p c u k.sound (in_frame p c s u k.frame (in_home p c s sound P h)))) s (keeps_refl s sound)

-- ---- the executions
still_in_lem : (p : ℕ) (s u : State) → Keeps s u → p < length s.grains → p < length u.grains
still_in_lem p s u k h = rw k.frame.near.few h

pub collision_goes : (p q : ℕ) (x y : Particle) (s : State) → Sound s → p < length s.grains → q < length s.grains → x.time ≡ s.clock → y.time ≡ s.clock → Keeps s (do_collision p q x y s).st
unfolding do_collision
collision_goes p q x y s sound P Q X Y =
    then_sound (Keeps s) (store p x s) _ (store_keeps s p x sound P (rw X (same_clock s sound)))
    (λ s1 k1. then_sound (Keeps s) (store q y s1) _ (keeps_on s s1 _ k1 (store_keeps s1 q y k1.sound (still_in_lem q s s1 k1 Q) (rw (Y ∙ sym k1.frame.near.clock) (same_clock s1 k1.sound))))
    (λ s2 k2. then_sound (Keeps s) (forget p s2) _ (keeps_on s s2 _ k2 (forget_keeps p s2 k2.sound (still_in_lem p s s2 k2 P)))
    (λ s3 k3. then_sound (Keeps s) (forget q s3) _ (keeps_on s s3 _ k3 (forget_keeps q s3 k3.sound (still_in_lem q s s3 k3 Q)))
    (λ s4 k4. then_sound (Keeps s) (again p s4) _ (keeps_on s s4 _ k4 (again_keeps p s4 k4.sound (still_in_lem p s s4 k4 P)))
    (λ s5 k5. keeps_on s s5 _ k5 (again_keeps q s5 k5.sound (still_in_lem q s s5 k5 Q)))))))

pub wall_goes : (p : ℕ) (x : Particle) (s : State) → Sound s → p < length s.grains → x.time ≡ s.clock → Keeps s (do_wall p x s).st
unfolding do_wall
wall_goes p x s sound P X =
    then_sound (Keeps s) (store p x s) _ (store_keeps s p x sound P (rw X (same_clock s sound)))
    (λ s1 k1. then_sound (Keeps s) (forget p s1) _ (keeps_on s s1 _ k1 (forget_keeps p s1 k1.sound (still_in_lem p s s1 k1 P)))
    (λ s2 k2. keeps_on s s2 _ k2 (again_keeps p s2 k2.sound (still_in_lem p s s2 k2 P))))

pub neighbour_goes : (p : ℕ) (x : MyVec) (k : ℕ) (s : State) → Sound s → p < length s.grains → k < cells s.box → Goes s (do_neighbour p x k s).st
unfolding do_neighbour
neighbour_goes p x k s sound P K =
    then_both (Goes s) (λ u. Keeps s u) (store p (landed x s.clock (grain s p)) s) _ (keeps_goes s _ stored) (λ z. stored)
    (λ s1 g1 k1.
    let K1 : k < cells s1.box = rw k1.frame.near.box K in
    then_both (Goes s) (λ u. In p k u) (enter p k s1) _ (goes_on s s1 _ g1 (enter_goes s1 p k k1.sound (still_in_lem p s s1 k1 P) K1)) (enter_in s1 p k k1.sound (still_in_lem p s s1 k1 P) K1)
    (λ s2 g2 i. goes_on s s2 _ g2 (keeps_goes s2 _ (schedule_keeps p k s2 g2.sound i))))
  where
    stored : Keeps s (store p (landed x s.clock (grain s p)) s).st
    stored = store_keeps s p (landed x s.clock (grain s p)) sound P (same_clock s sound)

pub out_goes : (p : ℕ) (x : MyVec) (k : ℕ) (s : State) → Sound s → In p k s → Goes s (do_out p x k s).st
unfolding do_out
out_goes p x k s sound i =
    then_both (Goes s) (λ u. Keeps s u) (store p (landed x s.clock (grain s p)) s) _ (keeps_goes s _ stored) (λ z. stored)
    (λ s1 g1 k1.
    let i1 = in_frame p k s s1 k1.frame i in
    let k2 = cancelled_keeps s1 p k k1.sound i1.cell in
    goes_on s (cancelled p k s1) _ (keeps_goes s (cancelled p k s1) (keeps_on s s1 (cancelled p k s1) k1 k2))
    (leave_goes (cancelled p k s1) p k k2.sound (in_frame p k s1 (cancelled p k s1) k2.frame i1) (cancelled_free s1 p k k1.sound i1.cell)))
  where
    stored : Keeps s (store p (landed x s.clock (grain s p)) s).st
    stored = store_keeps s p (landed x s.clock (grain s p)) sound i.grain (same_clock s sound)

-- at 9 the grain's events in that cell are already cancelled and both lists still hold the pair
next_num : (r n : ℕ) (u : State) (k : State → Out State) → (next r u k).num ≡ n → (r ≡ n → ⊥) → ((k u).num ≡ n) × ((next r u k).st ≡ (k u).st)
next_num zero n u k e d = (e, refl)
next_num (suc r) n u k e d = absurd (d e)

pub nine_leaves : (p : ℕ) (x : MyVec) (k : ℕ) (s : State) → Sound s → In p k s → (do_out p x k s).num ≡ 9
    → All (λ e. names (event_of e.kind e) p ≡ false) (queue (do_out p x k s).st k) × (has p (listed (do_out p x k s).st k) ≡ true) × (has k (home (do_out p x k s).st p) ≡ true)
unfolding do_out
nine_leaves p x k s sound i z =
    let o = store p (landed x s.clock (grain s p)) s in
    let k1 = store_keeps s p (landed x s.clock (grain s p)) sound i.grain (same_clock s sound) in
    let i1 = in_frame p k s o.st k1.frame i in
    let k2 = cancelled_keeps o.st p k k1.sound i1.cell in
    let u = cancelled p k o.st in
    let i2 = in_frame p k o.st u k2.frame i1 in
    let q = next_num o.num 9 o.st (λ s1. then (cancel p k s1) (λ s2. leave p k s2)) z (store_case (λ w. w.num ≡ 9 → ⊥) s p (landed x s.clock (grain s p)) (λ e. omega (arith, e)) (λ f e. omega (arith, e))) in
    let l : (leave p k u).st ≡ u = leave_case (λ w. w.num ≡ 9 → w.st ≡ u) u p k (λ e. refl) (λ h e. absurd (omega (arith, e))) q.0 in
    subst (λ (w : State). All (λ e. names (event_of e.kind e) p ≡ false) (queue w k) × (has p (listed w k) ≡ true) × (has k (home w p) ≡ true)) (sym (q.1 ∙ l))
    (cancelled_free o.st p k k1.sound i1.cell, i2.there, k2.sound.lists.mutual' p k i2.grain i2.cell ∙ i2.there)
