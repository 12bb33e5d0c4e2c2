-- CANCELLED IN ALL ITS CELLS: after a grain's events are cancelled no pending event of any cell names it. Assumes nothing.
use Prim.Native.Nat.{ℕ, ◌<◌}
use mathlib.Core.Path.{◌≡◌, refl, sym, ap, subst, ◌∙◌}
use mathlib.Core.List.{List, [], ◌∷◌, ◌++◌}
use mathlib.Core.Bool.{Bool, true, false, or-true}
use native.Mathlib.Omega.{arith}
use native.Mathlib.Decide.{ℕ_discrete}
use lib.Dec.{eqb}
use lib.ListN.{length, replicate}
use borrow.Author.Tests.{eqb-true, eq-eqb}
use Rattle.halting.specs.Out.{then, each_of}
use Rattle.halting.proofs.Laws.{next_go}
use Rattle.model.specs.declared.Particle.{Particle}
use Rattle.model.specs.declared.Place.{Place}
use Rattle.model.specs.declared.Event.{Event}
use Rattle.model.specs.declared.Event.TheVariants.{InterParticleCollision, MoveToNeighbour, MoveOutOfCell, WallReflection, Synchronisation}
use Rattle.model.specs.Grid.{cells}
use Rattle.model.specs.Events.{keep_by, gone_by, names, event_of, zero_p}
use Rattle.model.specs.State.{State, Row, row, home, listed, queue, has, requeued}
use Rattle.model.specs.Acts.{store, cancelled, cancel, queue_row}
use Rattle.model.specs.Doing.{forget, again, do_collision, do_wall}
use Rattle.model.proofs.Sound.{Sound, Named, Held}
use Rattle.halting.specs.Every.{All}
use Rattle.halting.proofs.Bools.{clash}
use Rattle.model.proofs.Lists.{live_same, live_other}
use Rattle.halting.proofs.All.{all_to}
use Rattle.model.proofs.Queue.{all_keep}
use Rattle.model.proofs.Frame.{store_keeps, same_clock, Keeps, keeps_refl, keeps_on, cancelled_keeps, cancelled_free, in_frame, in_home, of_sound}

-- no event of cell c names p
abbrev pub Free : ℕ → ℕ → State → Type 0
Free p c s = All (λ e. names (event_of e.kind e) p ≡ false) (queue s c)

-- a cancelling adds no event
keeps_free : (p q k c : ℕ) (s : State) → Sound s → k < cells s.box → Free p c s → Free p c (cancelled q k s)
keeps_free p q k c s sound K f = elim (ℕ_discrete c k) [
  | yes e ↦ unfold cancelled requeued in subst (λ (j : ℕ). Free p j (requeued k r s)) (sym e)
      (subst (λ (l : List Place). All (λ e. names (event_of e.kind e) p ≡ false) l) (sym (live_same s.queues k r (omega (arith, sound.long))))
      (all_keep (λ e. names (event_of e.kind e) p ≡ false) q (queue s k) (subst (λ (j : ℕ). Free p j s) e f)))
  | no d ↦ unfold cancelled requeued in subst (λ (l : List Place). All (λ e. names (event_of e.kind e) p ≡ false) l) (sym (live_other s.queues k c r d)) f
]
  where
    r : Row Place
    r = row (keep_by q (queue s k)) (replicate (gone_by q (queue s k)) zero_p ++ (queue_row s k).spare)

keeps_loop : (p q c : ℕ) (xs : List ℕ) (s : State) → Sound s → ((x : ℕ) → has x xs ≡ true → x < cells s.box) → Free p c s → Free p c (each_of (λ k. cancel q k) xs s).st
unfolding each_of has
keeps_loop p q c [] s sound h f = f
keeps_loop p q c (x ∷ xs) s sound h f =
    let X = h x (rw (eq-eqb x x refl)) in
    let k = cancelled_keeps s q x sound X in
    keeps_loop p q c xs (cancelled q x s) k.sound (λ y w. rw k.frame.near.box (h y (rw w (or-true (eqb y x))))) (keeps_free p q x c s sound X f)

module _ (p c : ℕ) where
  free_reached : (xs : List ℕ) (s : State) → Sound s → ((x : ℕ) → has x xs ≡ true → x < cells s.box) → has c xs ≡ true → Free p c (each_of (λ k. cancel p k) xs s).st
  unfolding each_of has
  free_reached [] s sound h q = clash q
  free_reached (x ∷ xs) s sound h q = by (eqb c x) refl (free_reached xs (cancelled p x s) k.sound below)
    where
      X : x < cells s.box
      X = h x (rw (eq-eqb x x refl))

      k : Keeps s (cancelled p x s)
      k = cancelled_keeps s p x sound (h x (rw (eq-eqb x x refl)))

      below : (y : ℕ) → has y xs ≡ true → y < cells (cancelled p x s).box
      below y q = rw k.frame.near.box (h y (rw q (or-true (eqb y x))))

      by : (b : Bool) → eqb c x ≡ b → (has c xs ≡ true → Free p c (each_of (λ k. cancel p k) xs (cancelled p x s)).st) → Free p c (each_of (λ k. cancel p k) xs (cancelled p x s)).st
      by true e ih = keeps_loop p p c xs (cancelled p x s) k.sound below (subst (λ (j : ℕ). Free p j (cancelled p x s)) (sym (eqb-true c x e)) (cancelled_free s p x sound X))
      by false e ih = ih (rw e at q)

-- an event names only grains that its cell lists
module _ (l : List ℕ) (p : ℕ) (no' : has p l ≡ false) where
  other : (q : ℕ) → has q l ≡ true → eqb q p ≡ false
  other q h = by (eqb q p) refl
    where
      by : (b : Bool) → eqb q p ≡ b → eqb q p ≡ false
      by true e = clash (sym no' ∙ ap (λ (x : ℕ). has x l) (sym (eqb-true q p e)) ∙ h)
      by false e = e

  pub unnamed : (n c : ℕ) (e : Event) → Named n c l e → names e p ≡ false
  unnamed n c (InterParticleCollision i j x y v w k) h = rw (other i h.0, other j h.1)
  unnamed n c (MoveToNeighbour i x k) h = other i h.0
  unnamed n c (MoveOutOfCell i x k) h = other i h.0
  unnamed n c (WallReflection i x v w) h = other i h.0
  unnamed n c Synchronisation h = refl

-- AFTER THE CANCELLING IN ALL ITS CELLS, NO PENDING EVENT NAMES THE GRAIN
pub forget_free : (p : ℕ) (s : State) → Sound s → p < length s.grains → (c : ℕ) → c < cells s.box → Free p c (forget p s).st
unfolding forget
forget_free p s sound P c C = by (has c (home s p)) refl
  where
    below : (x : ℕ) → has x (home s p) ≡ true → x < cells s.box
    below = (sound.lists.homes.each p P).below

    by : (b : Bool) → has c (home s p) ≡ b → Free p c (each_of (λ k. cancel p k) (home s p) s).st
    by true e = free_reached p c (home s p) s sound below e
    by false e =
        keeps_loop p p c (home s p) s sound below
        (all_to (Held (cells s.box) c (listed s c)) (λ e. names (event_of e.kind e) p ≡ false) (queue s c)
        (λ x h. unnamed (listed s c) p (sym (sound.lists.mutual' p c P C) ∙ e) (cells s.box) c (event_of x.kind x) h.named) (sound.queues c C).held)

-- it keeps the lists, and what is sound
pub forget_keeps : (p : ℕ) (s : State) → Sound s → p < length s.grains → Keeps s (forget p s).st
unfolding forget
forget_keeps p s sound P =
    of_sound (Keeps s) (λ c. cancel p c) (home s p)
    (λ c u h k. keeps_on s u _ k (cancelled_keeps u p c k.sound (in_frame p c s u k.frame (in_home p c s sound P h)).cell)) s (keeps_refl s sound)

-- ---- two grains, one after the other
forget_stays : (p q c : ℕ) (s : State) → Sound s → q < length s.grains → Free p c s → Free p c (forget q s).st
unfolding forget
forget_stays p q c s sound Q f = keeps_loop p q c (home s q) s sound (sound.lists.homes.each q Q).below f

-- what a collision schedules is scheduled where no pending event names either grain
pub both_free : (p q : ℕ) (s : State) → Sound s → p < length s.grains → q < length s.grains → (c : ℕ) → c < cells s.box
    → Free p c (forget q (forget p s).st).st × Free q c (forget q (forget p s).st).st
both_free p q s sound P Q c C =
    let k = forget_keeps p s sound P in
    let u = (forget p s).st in
    let Q' : q < length u.grains = rw k.frame.near.few Q in
    let C' : c < cells u.box = rw k.frame.near.box C in
    (forget_stays p q c u k.sound Q' (forget_free p s sound P c C), forget_free q u k.sound Q' c C')

-- ---- a collision and a reflection: the grains' new numbers are stored, then no pending event of any cell names them, and then their events are scheduled
cancels_done : (p : ℕ) (xs : List ℕ) (s : State) → (each_of (λ c. cancel p c) xs s).num ≡ 0
unfolding each_of
cancels_done p [] s = refl
cancels_done p (x ∷ xs) s = cancels_done p xs (cancelled p x s)

forget_done : (p : ℕ) (s : State) → (forget p s).num ≡ 0
unfolding forget
forget_done p s = cancels_done p (home s p) s

-- no pending event names p
abbrev pub Nowhere : ℕ → State → Type 0
Nowhere p u = (c : ℕ) → c < cells u.box → Free p c u

module _ (p : ℕ) (x : Particle) (s : State) (sound : Sound s) (P : p < length s.grains) (X : x.time ≡ s.clock) where
  stored : Keeps s (store p x s).st
  stored = store_keeps s p x sound P (rw X (same_clock s sound))

  pub wall_renews : (store p x s).num ≡ 0 → (u : State) × Nowhere p u × (do_wall p x s ≡ again p u)
  unfolding do_wall
  wall_renews z =
      let s1 = (store p x s).st in
      let P1 : p < length s1.grains = rw stored.frame.near.few P in (
        (forget p s1).st,
        λ c C. forget_free p s1 stored.sound P1 c (rw (← (forget_keeps p s1 stored.sound P1).frame.near.box) C),
        next_go (store p x s).num s1 _ z ∙ next_go (forget p s1).num (forget p s1).st _ (forget_done p s1),
      )

  pub collision_renews : (q : ℕ) (y : Particle) → q < length s.grains → y.time ≡ s.clock → (store p x s).num ≡ 0 → (store q y (store p x s).st).num ≡ 0
      → (u : State) × Nowhere p u × Nowhere q u × (do_collision p q x y s ≡ then (again p u) (λ w. again q w))
  unfolding do_collision
  collision_renews q y Q Y z w =
      let s1 = (store p x s).st in
      let s2 = (store q y s1).st in
      let s3 = (forget p s2).st in
      let Q1 : q < length s1.grains = rw stored.frame.near.few Q in
      let k2 = keeps_on s s1 s2 stored (store_keeps s1 q y stored.sound Q1 (rw (Y ∙ sym stored.frame.near.clock) (same_clock s1 stored.sound))) in
      let P2 : p < length s2.grains = rw k2.frame.near.few P in
      let Q2 : q < length s2.grains = rw k2.frame.near.few Q in
      let k3 = forget_keeps p s2 k2.sound P2 in
      let Q3 : q < length s3.grains = rw k3.frame.near.few Q2 in
      let same : (forget q s3).st.box ≡ s2.box = (forget_keeps q s3 k3.sound Q3).frame.near.box ∙ k3.frame.near.box in (
        (forget q s3).st,
        λ c C. (both_free p q s2 k2.sound P2 Q2 c (rw (← same) C)).0,
        λ c C. (both_free p q s2 k2.sound P2 Q2 c (rw (← same) C)).1,
        next_go (store p x s).num s1 _ z ∙ next_go (store q y s1).num s2 _ w ∙ next_go (forget p s2).num s3 _ (forget_done p s2) ∙ next_go (forget q s3).num (forget q s3).st _ (forget_done q s3),
      )
