-- Every reached state is sound, and stands unless a halt's mark is on it; so does each state between the steps of a run on it. Assumes nothing.
use Prim.Native.Nat.{ℕ, zero, suc, ◌<◌}
use mathlib.Core.Path.{◌≡◌, refl, sym, ap, subst, ◌∙◌}
use mathlib.Core.List.{List, [], ◌∷◌}
use mathlib.Core.Bool.{true}
use native.Mathlib.Omega.{arith}
use lib.Ieee.{Float}
use Rattle.model.specs.declared.Domain.{Domain}
use Rattle.model.specs.declared.Particle.{Particle}
use Rattle.model.specs.declared.Event.{Event}
use Rattle.model.specs.declared.Event.TheVariants.{InterParticleCollision, MoveToNeighbour, MoveOutOfCell, WallReflection, Synchronisation}
use Rattle.model.specs.State.{State}
use Rattle.model.specs.Sizes.{rated}
use Rattle.model.specs.Execute.{halted, Moved, was_sync, finish, head_event, event, step}
use Rattle.model.specs.Run.{How, spent, refused, run_from}
use Rattle.model.specs.Start.{start, started}
use Rattle.model.proofs.Sound.{Sound, Stands}
use Rattle.model.specs.Standing.{Standing}
use Rattle.model.specs.Check.{Fitted, Fits, run_all}
use Rattle.model.specs.Reached.{Call, after, Reached, steps}
use Rattle.model.proofs.Steps.{Whole, step_stands}
use Rattle.model.proofs.Runs.{run_stands, run_clock}
use Rattle.model.proofs.Counts.{Ended, step_at, counts}
use Rattle.model.proofs.Stands.{stands, standing as standing-facts, sound_fitted}
use Rattle.model.proofs.Refusals.{run_case}
use Rattle.model.proofs.Reflect.{says_stands}
use Rattle.model.proofs.Whole.{rated_later, runs}
use Rattle.model.proofs.Starts.{WellBegun, start_stands}

-- ---- a halted step is marked by its number, which is not 0
same_number : {r n : ℕ} → halted r ≡ halted n → r ≡ n
same_number e = cc

whole_not : {A : Type 0} (e : Event) (n : ℕ) → was_sync e ≡ halted n → A
whole_not (InterParticleCollision p q x y v w k) n z = absurd (let z : ◌≡◌ {A = ℕ} 0 1 = cc in omega arith)
whole_not (MoveToNeighbour p x k) n z = absurd (let z : ◌≡◌ {A = ℕ} 0 1 = cc in omega arith)
whole_not (MoveOutOfCell p x k) n z = absurd (let z : ◌≡◌ {A = ℕ} 0 1 = cc in omega arith)
whole_not (WallReflection p x v w) n z = absurd (let z : ◌≡◌ {A = ℕ} 0 1 = cc in omega arith)
whole_not Synchronisation n z = absurd (let z : ◌≡◌ {A = ℕ} 0 1 = cc in omega arith)

finish_mark : (r : ℕ) (u : State) (e : Event) (n : ℕ) → (finish r u e).how ≡ halted n → ((finish r u e).state.mark ≡ n) × (0 < n) × (r ≡ n)
finish_mark zero u e n h = whole_not e n h
finish_mark (suc r) u e n h = let q = same_number h in (q, omega (arith, q), q)

pub halted_mark : (rate : Float) (s : State) (n : ℕ) → (step rate s).how ≡ halted n → ((step rate s).state.mark ≡ n) × (0 < n) × ((event rate s).num ≡ n)
unfolding step
halted_mark rate s n h = finish_mark (event rate s).num (event rate s).st (head_event s) n h

-- ---- sound, and standing unless marked
pub record Well (s : State) : Type 0 where
  pub sound : Sound s
  pub stands : s.mark ≡ 0 → Stands s

-- how a run on a state that stands leaves it
module _ (rate : Float) (R : rated rate ≡ true) (s : State) (st : Stands s) where
  pub run_well : (b : ℕ) → Well (run_from rate b 0 s).state
  run_well b = record { sound = (run_clock rate (rated_later rate R) b 0 s st).sound; stands = by (run_from rate b 0 s).how refl }
    where
      by : (h : How) → (run_from rate b 0 s).how ≡ h → (run_from rate b 0 s).state.mark ≡ 0 → Stands (run_from rate b 0 s).state
      by How.synchronised e m = rw e at (run_stands rate (rated_later rate R) b 0 s st)
      by spent e m = rw e at (run_stands rate (rated_later rate R) b 0 s st)
      by (refused n) e m =
          let w : Ended rate s b (refused n) (run_from rate b 0 s).count (run_from rate b 0 s).state = subst (λ (h : How). Ended rate s b h (run_from rate b 0 s).count (run_from rate b 0 s).state) e (counts rate s b).ended in
          let q = halted_mark rate (steps rate (run_from rate b 0 s).count s) n (ap (λ (z : Moved). z.how) w.1) in
          let z : (run_from rate b 0 s).state.mark ≡ n = ap (λ (x : Moved). x.state.mark) (sym w.1) ∙ q.0 in
          absurd (let p = q.1 in omega (arith, z, m, p))

  -- between its steps
  pub steps_stand : (n : ℕ) → ((m : ℕ) → m < n → Whole (step_at rate s m).how) → Stands (steps rate n s)
  unfolding steps
  steps_stand zero w = st
  steps_stand (suc n) w = step_stands rate (rated_later rate R) (steps rate n s) (steps_stand n (λ m h. w m (omega arith))) (w n (omega arith))

-- ---- behind the checks
pub run_all_well : (rate : Float) (b : ℕ) (s : State) → Well s → Well (run_all rate b s).state
run_all_well rate b s w = run_case (λ f. Well (f b).state) rate s w (λ h. w) w w (λ h R t. run_well rate R s ((says_stands s (sound_fitted s w.sound)).means t) b)

-- a run that counts a step passed them
pub counted_runs : (rate : Float) (b : ℕ) (s : State) (n : ℕ) → Sound s → n < (run_all rate b s).count → (rated rate ≡ true) × Stands s
counted_runs rate b s n sound =
    run_case (λ f. n < (f b).count → (rated rate ≡ true) × Stands s) rate s (λ c. absurd (omega arith)) (λ h c. absurd (omega arith)) (λ c. absurd (omega arith)) (λ c. absurd (omega arith))
    (λ h R t c. (R, (says_stands s (sound_fitted s sound)).means t))

-- ---- reached
after_well : (ks : List Call) (s : State) → Well s → Well (after ks s)
unfolding after
after_well [] s w = w
after_well (k ∷ ks) s w = after_well ks (run_all k.rate k.budget s).state (run_all_well k.rate k.budget s w)

pub reached_well : (s : State) → Reached s → Well s
reached_well s r =
    let w : WellBegun (started r.begun) = subst WellBegun r.accepted (start_stands r.box r.room r.grains r.fits) in
    subst Well r.there (after_well r.calls r.begun (record { sound = w.0; stands = w.1 }))

-- ---- in 01's own words
-- an accepted start that did not halt gives the standing facts; so does every reached state without a mark
pub start_standing : (b : Domain) (room : ℕ) (gs : List Particle) (s : State) → Fits b → start b room gs ≡ started s → s.mark ≡ 0 → Standing s
start_standing b room gs s f e m = let w : WellBegun (started s) = subst WellBegun e (start_stands b room gs f) in standing-facts s (w.1 m)

pub reached_standing : (s : State) → Reached s → s.mark ≡ 0 → Standing s
reached_standing s r m = standing-facts s ((reached_well s r).stands m)

-- an unhalted step keeps them, and that times are 64-bit floats
pub step_standing : (rate : Float) (s : State) → rated rate ≡ true → Fitted s → Standing s → Whole (step rate s).how → Standing (step rate s).state × Fitted (step rate s).state
step_standing rate s R f h w =
    let u = step_stands rate (rated_later rate R) s (stands s f h) w in
    (standing-facts (step rate s).state u, sound_fitted (step rate s).state u.sound)

-- a reached state without a mark passes the run's checks at every accepted rate: no run on it is refused by 2, 3 or 10
pub reached_runs : (s : State) → Reached s → s.mark ≡ 0 → (rate : Float) → rated rate ≡ true → (b : ℕ) → run_all rate b s ≡ run_from rate b 0 s
reached_runs s r m rate R b = runs rate b s R ((reached_well s r).stands m)
