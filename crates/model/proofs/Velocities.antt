-- ONLY A TURN CHANGES A VELOCITY: every other act, done or refused, and every event and step that does not turn a grain keep its velocity's bits. Of any state; and so of any part
-- of a grain that stepping keeps (`row_gives`). Assumes nothing.
use Prim.Native.Nat.{ℕ, zero, suc}
use mathlib.Core.Path.{◌≡◌, refl, ap, ◌∙◌}
use mathlib.Core.List.{List, [], ◌∷◌}
use mathlib.Core.Bool.{Bool, false, ◌||◌}
use lib.Dec.{eqb}
use lib.ListN.{length}
use lib.Ieee.{Float}
use borrow.Author.Tests.{eqb-false}
use Rattle.halting.specs.Out.{next}
use Rattle.halting.proofs.Bools.{or_false_l, or_false_r}
use Rattle.myvec.specs.declared.MyVec.{MyVec}
use Rattle.model.specs.declared.Particle.{Particle}
use Rattle.model.specs.declared.Event.{Event}
use Rattle.model.specs.declared.Event.TheVariants.{InterParticleCollision, MoveToNeighbour, MoveOutOfCell, WallReflection, Synchronisation}
use Rattle.model.specs.State.{State, zero_g, grain, home, listed, requeued}
use Rattle.model.specs.Stepping.{renewed, landed}
use Rattle.model.specs.Acts.{cancelled, taken}
use Rattle.model.specs.Execute.{finish, execute, head_event, event, step}
use Rattle.model.specs.Rows.{Act, moving, turning, trying, cancelling, entering, leaving, perform, Acts, ended, act, doing, only, ◌⨟◌, stepping, colliding, finding, bounding, scheduling, reschedules, forgets, acts_of, pairing, first_sync, initiates}
use Rattle.model.specs.History.{did, turns}
use Rattle.model.proofs.Cases.{store_case, put_case, enter_case, leave_case}
use Rattle.model.proofs.Lists.{set_case}
use Rattle.model.proofs.Renews.{reflects, collides}
use Rattle.model.proofs.Told.{Every, every_before, every_each, every_turn}

-- the grains that an event turns: a collision its two, a reflection its one; entering, leaving and a synchronisation none
abbrev pub turned_by : Event → ℕ → Bool
turned_by (InterParticleCollision p q x y v w k) g = eqb p g || eqb q g
turned_by (MoveToNeighbour p x k) g = false
turned_by (MoveOutOfCell p x k) g = false
turned_by (WallReflection p x v w) g = eqb p g
turned_by Synchronisation g = false

-- ---- rows that turn no grain g
-- an act that does not
abbrev pub Calm : ℕ → Act → Type 0
Calm g a = turns g (did a) ≡ false

module _ (g : ℕ) where
  calm_bound : (c p : ℕ) (s : State) → Every (Calm g) (bounding c p s)
  calm_bound c p s =
      every_before (Calm g) _ _ s (every_turn (Calm g) (finding _ c p) 2 0 s (λ d u. (refl, λ v. tt)))
      (λ u. every_before (Calm g) _ _ u (every_turn (Calm g) (finding _ c p) 2 0 u (λ d v. (refl, λ v. tt))) (λ v. every_turn (Calm g) (finding _ c p) 2 0 v (λ d v. (refl, λ v. tt))))

  calm_schedule : (p c : ℕ) (s : State) → Every (Calm g) (scheduling p c s)
  calm_schedule p c s =
      every_before (Calm g) _ _ s (every_each (Calm g) stepping _ s (λ q u. (refl, λ v. tt)))
      (λ u. every_before (Calm g) _ _ u (every_each (Calm g) (colliding c p) _ u (λ q v. (refl, λ v. tt))) (calm_bound c p))

  pub calm_again : (p : ℕ) (s : State) → Every (Calm g) (reschedules p s)
  calm_again p s = every_each (Calm g) (scheduling p) (home s p) s (calm_schedule p)

  pub calm_forget : (p : ℕ) (s : State) → Every (Calm g) (forgets p s)
  calm_forget p s = every_each (Calm g) (λ c. only (cancelling p c)) (home s p) s (λ c u. (refl, λ v. tt))

  calm_pairs : (c : ℕ) (l : List ℕ) (s : State) → Every (Calm g) (pairing c l s)
  unfolding pairing
  calm_pairs c [] s = tt
  calm_pairs c (p ∷ qs) s = every_before (Calm g) _ _ s (every_each (Calm g) (colliding c p) qs s (λ q u. (refl, λ v. tt))) (calm_pairs c qs)

  calm_sync : (c : ℕ) (s : State) → Every (Calm g) (first_sync c s)
  calm_sync zero s = (refl, λ u. tt)
  calm_sync (suc c) s = tt

  pub calm_init : (c : ℕ) (s : State) → Every (Calm g) (initiates c s)
  calm_init c s =
      every_before (Calm g) _ _ s (calm_sync c s)
      (λ u. every_before (Calm g) _ _ u (calm_pairs c (listed u c) u) (λ w. every_each (Calm g) (bounding c) (listed w c) w (calm_bound c)))

  pub calm_wall : (p : ℕ) (x : Particle) (s : State) → eqb p g ≡ false → Every (Calm g) (reflects p x s)
  calm_wall p x s e = every_before (Calm g) _ _ s (e, λ u. tt) (λ u. every_before (Calm g) _ _ u (calm_forget p u) (calm_again p))

  pub calm_both : (p q : ℕ) (s : State) → Every (Calm g) ((reschedules p ⨟ reschedules q) s)
  calm_both p q s = every_before (Calm g) (reschedules p s) (reschedules q) s (calm_again p s) (calm_again q)

  pub calm_collision : (p : ℕ) (x : Particle) (q : ℕ) (y : Particle) (s : State) → eqb p g ≡ false → eqb q g ≡ false → Every (Calm g) (collides p x q y s)
  calm_collision p x q y s e e' =
      every_before (Calm g) _ _ s (e, λ u. tt) (λ u. every_before (Calm g) _ _ u (e', λ v. tt) (λ u. every_before (Calm g) _ _ u (calm_forget p u)
      (λ u. every_before (Calm g) _ _ u (calm_forget q u) (calm_both p q))))

  pub acts_calm : (rate : Float) (e : Event) (s : State) → turned_by e g ≡ false → Every (Calm g) (acts_of rate e s)
  acts_calm rate (InterParticleCollision p q x y v w k) s n = calm_collision p (renewed x v s.clock k (grain s p)) q (renewed y w s.clock k (grain s q)) s (or_false_l (eqb p g) (eqb q g) n) (or_false_r (eqb p g) (eqb q g) n)
  acts_calm rate (MoveToNeighbour p x k) s n = every_before (Calm g) _ _ s (refl, λ u. tt) (λ u. every_before (Calm g) _ _ u (refl, λ v. tt) (calm_schedule p k))
  acts_calm rate (MoveOutOfCell p x k) s n = every_before (Calm g) _ _ s (refl, λ u. tt) (λ u. every_before (Calm g) _ _ u (refl, λ v. tt) (λ v. (refl, λ w. tt)))
  acts_calm rate (WallReflection p x v w) s n = calm_wall p (renewed x v s.clock w (grain s p)) s n
  acts_calm rate Synchronisation s n = every_before (Calm g) _ _ s (every_turn (Calm g) stepping (length s.grains) 0 s (λ i u. (refl, λ v. tt))) (λ u. (refl, λ v. tt))

-- ---- a part of a grain that stepping keeps
-- an act that gives grain g the part v, if it gives it one
abbrev pub Gives : {A : Type 0} → (Particle → A) → ℕ → A → Act → Type 0
Gives f g v (moving i x t) = Unit {0}
Gives f g v (turning i p) = i ≡ g → f p ≡ v
Gives f g v (trying c r x) = Unit {0}
Gives f g v (cancelling i c) = Unit {0}
Gives f g v (entering i c) = Unit {0}
Gives f g v (leaving i c) = Unit {0}

module _ {A : Type 0} (f : Particle → A) (stays : (x : MyVec) (t : Float) (p : Particle) → f (landed x t p) ≡ f p) (g : ℕ) (v : A) where
  -- where it is v, such an act leaves it so, done or refused
  act_gives : (a : Act) (s : State) → Gives f g v a → f (grain s g) ≡ v → f (grain (perform a s).st g) ≡ v
  act_gives (moving i x t) s e h =
      store_case (λ o. f (grain o.st g) ≡ v) s i (landed x t (grain s i)) h
      (λ q. set_case (λ p. f p ≡ v) zero_g s.grains i g (landed x t (grain s i)) (λ k. stays x t (grain s i) ∙ ap (λ (n : ℕ). f (grain s n)) k ∙ h) h)
  act_gives (turning i x) s e h = store_case (λ o. f (grain o.st g) ≡ v) s i x h (λ q. set_case (λ p. f p ≡ v) zero_g s.grains i g x e h)
  act_gives (trying c r x) s e h = put_case (λ o. f (grain o.st g) ≡ v) s c x (λ n. h) (λ n q. h)
  act_gives (cancelling i c) s e h = unfold cancelled requeued in h
  act_gives (entering i c) s e h = enter_case (λ o. f (grain o.st g) ≡ v) s i c (λ a. h) h (λ a b d. h)
  act_gives (leaving i c) s e h = leave_case (λ o. f (grain o.st g) ≡ v) s i c h (λ a. h)

  pub row_gives : (w : Acts) (s : State) → Every (Gives f g v) w → f (grain s g) ≡ v → f (grain (doing w s).st g) ≡ v
  unfolding doing
  row_gives ended s e h = h
  row_gives (act a k) s e h = let j = act_gives a s e.0 h in by (perform a s).num j (row_gives (k (perform a s).st) (perform a s).st (e.1 (perform a s).st) j)
    where
      by : (n : ℕ) → let u = (perform a s).st in f (grain u g) ≡ v → f (grain (doing (k u) u).st g) ≡ v → f (grain (next n u (λ y. doing (k y) y)).st g) ≡ v
      by zero j i = i
      by (suc n) j i = j

-- an act that does not turn g gives it none
calm_gives : {A : Type 0} (f : Particle → A) (g : ℕ) (v : A) (a : Act) → Calm g a → Gives f g v a
calm_gives f g v (moving i x t) n = tt
calm_gives f g v (turning i p) n = λ e. absurd (eqb-false i g n e)
calm_gives f g v (trying c r x) n = tt
calm_gives f g v (cancelling i c) n = tt
calm_gives f g v (entering i c) n = tt
calm_gives f g v (leaving i c) n = tt

pub row_calm : {A : Type 0} (f : Particle → A) (g : ℕ) (v : A) (w : Acts) → Every (Calm g) w → Every (Gives f g v) w
row_calm f g v ended e = tt
row_calm f g v (act a k) e = (calm_gives f g v a e.0, λ u. row_calm f g v (k u) (e.1 u))

-- what an event keeps, a step keeps, halted or not
pub step_keeps : {A : Type 0} (f : Particle → A) (rate : Float) (s : State) (g : ℕ) → f (grain (execute rate (head_event s) (taken s)).st g) ≡ f (grain (taken s) g) → f (grain (step rate s).state g) ≡ f (grain s g)
unfolding step event taken requeued
step_keeps f rate s g = by (event rate s).num
  where
    by : (n : ℕ) → f (grain (event rate s).st g) ≡ f (grain s g) → f (grain (finish n (event rate s).st (head_event s)).state g) ≡ f (grain s g)
    by zero i = i
    by (suc n) i = i

-- ---- EVERY ACT BUT A TURN KEEPS EVERY VELOCITY, done or refused
abbrev vel : Particle → MyVec
vel p = p.vel

pub act_keeps_velocity : (a : Act) (s : State) (g : ℕ) → turns g (did a) ≡ false → (grain (perform a s).st g).vel ≡ (grain s g).vel
act_keeps_velocity a s g n = act_gives vel (λ x t p. refl) g (grain s g).vel a s (calm_gives vel g (grain s g).vel a n) refl

-- SO AN EVENT KEEPS THE VELOCITY OF EVERY GRAIN THAT IT DOES NOT TURN, and so does a step, halted or not
pub execute_keeps_velocity : (rate : Float) (e : Event) (s : State) (g : ℕ) → turned_by e g ≡ false → (grain (execute rate e s).st g).vel ≡ (grain s g).vel
execute_keeps_velocity rate e s g n = row_gives vel (λ x t p. refl) g (grain s g).vel (acts_of rate e s) s (row_calm vel g (grain s g).vel (acts_of rate e s) (acts_calm g rate e s n)) refl

pub step_keeps_velocity : (rate : Float) (s : State) (g : ℕ) → turned_by (head_event s) g ≡ false → (grain (step rate s).state g).vel ≡ (grain s g).vel
step_keeps_velocity rate s g n = step_keeps vel rate s g (execute_keeps_velocity rate (head_event s) (taken s) g n)
