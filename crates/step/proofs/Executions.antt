-- What each execution does to the tables, from what its calls do. Assumes nothing.
use Prim.Native.Nat.{ℕ}
use mathlib.Core.Path.{◌≡◌, sym, ap, subst, ◌∙◌}
use mathlib.Core.List.{List, [], ◌∷◌}
use lib.Ieee.{Float, binary64, add}
use lib.ListN.{length}
use Rattle.halting.specs.Out.{Out, then, each, each_of}
use Rattle.myvec.specs.declared.MyVec.{MyVec}
use Rattle.model.specs.declared.Particle.{Particle}
use Rattle.model.specs.declared.Place.{Place}
use Rattle.model.specs.declared.Event.{Event}
use Rattle.model.specs.declared.Event.TheVariants.{InterParticleCollision, MoveToNeighbour, MoveOutOfCell, WallReflection, Synchronisation}
use Rattle.model.specs.Stepping.{grain_of, landed, renewed}
use Rattle.model.specs.State.{State, home, grain}
use Rattle.model.specs.Acts.{store, insert, cancel, enter, leave}
use Rattle.model.specs.Doing.{step_grain, again, forget, sync_at, do_collision, do_neighbour, do_out, do_wall, do_sync, execution}
use Rattle.tables.specs.declared.Sizes.{Sizes}
use Rattle.acts.specs.declared.queue.Queues.{Queues}
use Rattle.acts.specs.Tell.{At, InLists, ListsTold, InGrains, GrainsTold, InQueues, QueuesTold, Pair}
use Rattle.step.specs.declared.World.{World}
use Rattle.step.specs.World.{Seen, Held, Listing, Says, Does, Apt}
use Rattle.acts.proofs.Touch.{touch_then, store_only, all_step_only, grains_along, enter_only, leave_only}
use Rattle.acts.proofs.Frame.{OnlyQueues, insert_only, cancelled_only, each_cancel_only, queues_along}
use Rattle.step.proofs.Does.{does_as, then_none, then_then}
use Rattle.step.proofs.Leaves.{queues_do, seen_do, held_do, grains_seen, grains_do, lists_do, listing_do}
use Rattle.step.proofs.Scheduling.{Read}

-- ---- the parts
forget_only : (p : ℕ) (s : State) → OnlyQueues s (forget p s).st
unfolding forget
forget_only p s = each_cancel_only p (home s p) s

-- over the part of the lists where the grain's cells stand
pub forget_does : {z : Sizes} {l m : List ℕ} {q q₁ : Queues} (p : ℕ) → ((s : State) → InLists z l s → m ≡ home s p) → ((s : State) → InQueues z q s → QueuesTold z q₁ 0 (each_of (λ c. cancel p c) m s))
    → Does (Listing z l q) (Listing z l q₁) 0 (forget p)
unfolding forget
forget_does {z} {l} {m} p is t = does_as (λ s h. ap (λ (k : List ℕ). each_of (λ c. cancel p c) k s) (is s h.listed)) (record {
  says = λ s h. (
    (t s h.queued).0,
    record {
      listed = queues_along (InLists z l) s (each_of (λ c. cancel p c) m s).st (each_cancel_only p m s) h.listed;
      queued = (t s h.queued).1;
    },
  );
})

pub landed_told : {z : Sizes} {g g₁ : List Float} {r : ℕ} (p : ℕ) (x : MyVec) (t : Float) {a b : Particle} → b ≡ landed x t a → Read g p a
    → ((s : State) → InGrains z g s → GrainsTold z g₁ r (store p b s)) → (s : State) → InGrains z g s → s.clock ≡ t → GrainsTold z g₁ r (store p (landed x s.clock (grain s p)) s)
landed_told {z} {g₁ = g₁} {r = r} p x t {a} {b} e f k s h c =
    let m : a ≡ grain s p = f z s.grains h in
    subst (λ (y : Particle). GrainsTold z g₁ r (store p y s)) (e ∙ rw (← m, c)) (k s h)

-- a is grain i with what an event gives it at the clock t
abbrev pub Renewed : Sizes → List Float → Float → MyVec → MyVec → Float → ℕ → Particle → Type 0
Renewed z g t x v k i a = (s : State) → InGrains z g s → s.clock ≡ t → a ≡ renewed x v s.clock k (grain s i)

pub renewed_told : {z : Sizes} {g : List Float} (p : ℕ) (x v : MyVec) (t k : Float) {a b : Particle} → b ≡ grain_of x v t k a.rad → Read g p a → Renewed z g t x v k p b
renewed_told {z} p x v t k {a} e f s h c = let m : a ≡ grain s p = f z s.grains h in e ∙ (λ i. grain_of x v (sym c i) k (m i).rad)

abbrev pub lands : ℕ → MyVec → State → Out State
lands p x s = store p (landed x s.clock (grain s p)) s

module _ {w : World} where
  -- a grain's numbers
  pub store_does : {l : List ℕ} {g g₁ : List Float} {q : Queues} {r : ℕ} (p : ℕ) (x : Particle) → ((s : State) → InGrains w.sizes g s → GrainsTold w.sizes g₁ r (store p x s))
      → Does (Held w l g q) (Held w l g₁ q) r (store p x)
  store_does p x t = grains_do (store p x) (store_only p x) (λ s h a. t s h)

  pub land_does : {l : List ℕ} {g g₁ : List Float} {q : Queues} {r : ℕ} (p : ℕ) (x : MyVec) → ((s : State) → InGrains w.sizes g s → s.clock ≡ w.clock → GrainsTold w.sizes g₁ r (lands p x s))
      → Does (Held w l g q) (Held w l g₁ q) r (lands p x)
  land_does p x t = grains_do (lands p x) (λ s. store_only p (landed x s.clock (grain s p)) s) (λ s h a. t s h a.1)

  -- a grain's events go
  pub forget_held : {l : List ℕ} {g : List Float} {q q₁ : Queues} {r : ℕ} (p : ℕ) → Does (Listing w.sizes l q) (Listing w.sizes l q₁) r (forget p) → Does (Held w l g q) (Held w l g q₁) r (forget p)
  forget_held p d = listing_do (forget p) (forget_only p) d

  -- a grain enters; with the pair, it leaves
  pub enter_does : {l l₁ : List ℕ} {g : List Float} {q : Queues} {r : ℕ} (p c : ℕ) → ((s : State) → InLists w.sizes l s → ListsTold w.sizes l₁ r (enter p c s)) → Does (Held w l g q) (Held w l₁ g q) r (enter p c)
  enter_does p c t = record { says = λ s h. (lists_do (λ u. Unit {0}) (enter p c) (λ u. enter_only p c u) (λ u k x. t u k)).says s (h, tt) }

  pub leave_does : {l l₁ : List ℕ} {g : List Float} {q : Queues} {r : ℕ} (p c : ℕ) → ((s : State) → InLists w.sizes l s → Pair p c s → ListsTold w.sizes l₁ r (leave p c s))
      → Does (λ s. Held w l g q s × Pair p c s) (Held w l₁ g q) r (leave p c)
  leave_does p c t = lists_do (Pair p c) (leave p c) (leave_only p c) t

  pub land_pair : {l : List ℕ} {g g₁ : List Float} {q : Queues} {r : ℕ} (p : ℕ) (x : MyVec) (c : ℕ) → ((s : State) → InGrains w.sizes g s → s.clock ≡ w.clock → GrainsTold w.sizes g₁ r (lands p x s))
      → Does (λ s. Held w l g q s × Pair p c s) (λ s. Held w l g₁ q s × Pair p c s) r (lands p x)
  land_pair p x c t = record {
    says = λ s h. let d = (land_does p x t).says s h.0 in (d.0, (d.1, grains_along (Pair p c) s (lands p x s).st (store_only p (landed x s.clock (grain s p)) s) h.1));
  }

  pub cancel_pair : {l : List ℕ} {g : List Float} {q q₁ : Queues} {r : ℕ} (p c : ℕ) → ((s : State) → InQueues w.sizes q s → QueuesTold w.sizes q₁ r (cancel p c s))
      → Does (λ s. Held w l g q s × Pair p c s) (λ s. Held w l g q₁ s × Pair p c s) r (cancel p c)
  cancel_pair p c t = record {
    says = λ s h. let d = (held_do (cancel p c) (cancelled_only p c) (queues_do (cancel p c) (cancelled_only p c) (λ u k. t u k.queued))).says s h.0 in
        (d.0, (d.1, queues_along (Pair p c) s (cancel p c s).st (cancelled_only p c s) h.1));
  }

-- the pair is not asked for any more
pub without_pair : {P Q R : State → Type 0} {r : ℕ} {a : State → Out State} → Does P (λ s. Q s × R s) r a → Does P Q r a
without_pair d = record { says = λ s h. ((d.says s h).0, (d.says s h).1.0) }

-- ---- what a loop over two grains, or over one, does
pub of_two : (act : ℕ → State → Out State) (p q : ℕ) (s : State) → each_of act (p ∷ q ∷ []) s ≡ then (act p s) (act q)
unfolding each_of
of_two act p q s = λ i. then (act p s) (λ u. then_none (act q u) i)

pub of_one : (act : ℕ → State → Out State) (p : ℕ) (s : State) → each_of act (p ∷ []) s ≡ act p s
unfolding each_of
of_one act p s = then_none (act p s)

-- their events gone and scheduled again, after a collision and after a wall
pub again_two : (p q : ℕ) (s : State) → then (each_of forget (p ∷ q ∷ []) s) (each_of again (p ∷ q ∷ [])) ≡ then (forget p s) (λ s₁. then (forget q s₁) (λ s₂. then (again p s₂) (again q)))
again_two p q s =
    (λ i. then (of_two forget p q s i) (λ u. of_two again p q u i))
    ∙ then_then (forget p s) (forget q) (λ u. then (again p u) (again q))

pub again_one : (p : ℕ) (s : State) → then (each_of forget (p ∷ []) s) (each_of again (p ∷ [])) ≡ then (forget p s) (again p)
again_one p s = λ i. then (of_one forget p s i) (λ u. of_one again p u i)

-- ---- a synchronisation
module _ {w : World} {g : List Float} {q : Queues} {r : ℕ} where
  pub steps_does : {g₁ : List Float} → ((s : State) → InGrains w.sizes g s → At w.domain w.clock s → GrainsTold w.sizes g₁ r (each step_grain (length s.grains) 0 s))
      → Does (Seen w g q) (Seen w g₁ q) r (λ s. each step_grain (length s.grains) 0 s)
  steps_does t = grains_seen (λ s. each step_grain (length s.grains) 0 s) (λ s. all_step_only (length s.grains) 0 s) t

  -- the next one, by the clock of the tables
  pub sync_does : {q₁ : Queues} (x : Place) → ((s : State) → InQueues w.sizes q s → QueuesTold w.sizes q₁ r (insert 0 x s)) → Does (Seen w g q) (Seen w g q₁) r (insert 0 x)
  sync_does x t = queues_do (insert 0 x) (insert_only 0 x) (λ s h. t s h.queued)

-- ---- any event
-- what neither touches the grains' nor the queues' acts, they leave
lists_then : {z : Sizes} {l : List ℕ} (rate : Float) (s : State) → InLists z l s → InLists z l (do_sync rate s).st
unfolding do_sync
lists_then {z} {l} rate s =
    touch_then (λ u v. InLists z l u → InLists z l v) (λ u h. h) (λ u v x f g h. g (f h)) s (each step_grain (length s.grains) 0 s) (λ u. insert 0 (sync_at (add binary64 s.clock rate)) u)
    (λ h. grains_along (InLists z l) s (each step_grain (length s.grains) 0 s).st (all_step_only (length s.grains) 0 s) h)
    (λ u h. queues_along (InLists z l) u (insert 0 (sync_at (add binary64 s.clock rate)) u).st (insert_only 0 (sync_at (add binary64 s.clock rate)) u) h)

module _ {w : World} {l : List ℕ} {g : List Float} {q : Queues} {Q : State → Type 0} {r : ℕ} (rate : Float) {ev : Event} where
  pub as_collision : {i j : ℕ} {x y v u : MyVec} {k : Float} {a b : Particle} → ev ≡ InterParticleCollision i j x y v u k → Renewed w.sizes g w.clock x v k i a → Renewed w.sizes g w.clock y u k j b
      → Does (Held w l g q) Q r (do_collision i j a b) → Does (λ s. Held w l g q s × Apt w.sizes ev s) Q r (execution rate ev)
  as_collision {i} {j} {x} {y} {v} {u} {k} {a} {b} is A B d =
      subst (λ (f : Event). Does (λ s. Held w l g q s × Apt w.sizes f s) Q r (execution rate f)) (sym is) (record {
        says = λ s h.
            let t : s.clock ≡ w.clock = h.0.seen.at.1 in
            subst (Says Q r) (λ n. do_collision i j (A s h.0.seen.grained t n) (B s h.0.seen.grained t n) s) (d.says s h.0);
      })

  pub as_neighbour : {i : ℕ} {x : MyVec} {k : ℕ} → ev ≡ MoveToNeighbour i x k → Does (Held w l g q) Q r (do_neighbour i x k) → Does (λ s. Held w l g q s × Apt w.sizes ev s) Q r (execution rate ev)
  as_neighbour is d = subst (λ (f : Event). Does (λ s. Held w l g q s × Apt w.sizes f s) Q r (execution rate f)) (sym is) (record { says = λ s h. d.says s h.0 })

  pub as_out : {i : ℕ} {x : MyVec} {k : ℕ} → ev ≡ MoveOutOfCell i x k → Does (λ s. Held w l g q s × Pair i k s) Q r (do_out i x k) → Does (λ s. Held w l g q s × Apt w.sizes ev s) Q r (execution rate ev)
  as_out is d = subst (λ (f : Event). Does (λ s. Held w l g q s × Apt w.sizes f s) Q r (execution rate f)) (sym is) (record { says = λ s h. d.says s (h.0, h.1.2) })

  pub as_wall : {i : ℕ} {x v : MyVec} {k : Float} {a : Particle} → ev ≡ WallReflection i x v k → Renewed w.sizes g w.clock x v k i a → Does (Held w l g q) Q r (do_wall i a)
      → Does (λ s. Held w l g q s × Apt w.sizes ev s) Q r (execution rate ev)
  as_wall {i} {x} {v} {k} is A d =
      subst (λ (f : Event). Does (λ s. Held w l g q s × Apt w.sizes f s) Q r (execution rate f)) (sym is) (record {
        says = λ s h. let t : s.clock ≡ w.clock = h.0.seen.at.1 in subst (Says Q r) (λ n. do_wall i (A s h.0.seen.grained t n) s) (d.says s h.0);
      })

pub as_sync : {w : World} {l : List ℕ} {g g₁ : List Float} {q q₁ : Queues} {r : ℕ} (rate : Float) {ev : Event} → ev ≡ Synchronisation → Does (Seen w g q) (Seen w g₁ q₁) r (do_sync rate)
    → Does (λ s. Held w l g q s × Apt w.sizes ev s) (Held w l g₁ q₁) r (execution rate ev)
as_sync {w} {l} {g} {g₁} {q} {q₁} {r} rate is d =
    subst (λ (f : Event). Does (λ s. Held w l g q s × Apt w.sizes f s) (Held w l g₁ q₁) r (execution rate f)) (sym is)
    (record { says = λ s h. (seen_do (do_sync rate) (λ u k. lists_then rate u k) d).says s h.0 })
