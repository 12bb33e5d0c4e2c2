-- COUNTS ARE STEPS: the events that a run counts are the whole steps that it did, and the state that it leaves is what these steps make of the one it found.
-- Assumes nothing.
use Prim.Native.Nat.{ℕ, zero, suc, ◌+◌, ◌≤◌, ◌<◌}
use mathlib.Core.Path.{◌≡◌, refl, sym, ap, subst, ◌∙◌}
use native.Mathlib.Omega.{arith}
use native.Mathlib.Decide.{ℕ_discrete}
use lib.Ieee.{Float}
use Rattle.model.specs.State.{State}
use Rattle.model.specs.Execute.{Stepped, done, halted, Moved, moved_to, step}
use Rattle.model.specs.Run.{How, spent, refused, Ran, onward, run_from}
use Rattle.model.specs.Reached.{steps}
use Rattle.model.proofs.Steps.{Whole}

-- how the step after n steps ends
abbrev pub step_at : Float → State → ℕ → Moved
step_at rate s n = step rate (steps rate n s)

-- what ends a run after `count` steps: its budget is spent; the last one was a synchronisation; or the next one was halted, and is not counted
abbrev pub Ended : Float → State → ℕ → How → ℕ → State → Type 0
Ended rate s b spent count u = (count ≡ b) × (u ≡ steps rate count s)
Ended rate s b How.synchronised count u = (n : ℕ) × (count ≡ suc n) × ((step_at rate s n).how ≡ Stepped.synchronised) × (u ≡ steps rate count s)
Ended rate s b (refused r) count u = (count < b) × (step_at rate s count ≡ moved_to (halted r) u)

-- a run of at most b steps from s, of which d were done before
pub record Counted (rate : Float) (s : State) (d b : ℕ) (r : Ran) : Type 0 where
  pub from : d ≤ r.count
  pub small : r.count ≤ b
  pub clock : r.clock ≡ r.state.clock
  -- each counted step was done whole; only the last may be a synchronisation, and the run says so
  pub whole : (n : ℕ) → d ≤ n → n < r.count → Whole (step_at rate s n).how
  pub last : (n : ℕ) → d ≤ n → n < r.count → (step_at rate s n).how ≡ Stepped.synchronised → (suc n ≡ r.count) × (r.how ≡ How.synchronised)
  pub ended : Ended rate s b r.how r.count r.state

not_done : {A : Type 0} → done ≡ Stepped.synchronised → A
not_done e = absurd (let z : ◌≡◌ {A = ℕ} 0 1 = cc in omega arith)

module _ (rate : Float) (s : State) where
  -- the d-th step ended so, and left u
  turn : (b d : ℕ) (h : Stepped) (u : State) (k : ℕ → State → Ran) → (step_at rate s d).how ≡ h → (step_at rate s d).state ≡ u → suc d ≤ b
      → (steps rate (suc d) s ≡ u → Counted rate s (suc d) b (k (suc d) u)) → Counted rate s d b (onward h u d k)
  unfolding steps
  turn b d done u k e f D again =
      let q = again f in
      record {
        from = let w = q.from in omega (arith, w);
        small = q.small;
        clock = q.clock;
        whole = λ n N M. elim (ℕ_discrete n d) [ yes z ↦ rw (z, e) tt | no z ↦ q.whole n (omega arith) M ];
        last = λ n N M g. elim (ℕ_discrete n d) [ yes z ↦ not_done (sym e ∙ (rw z at g)) | no z ↦ q.last n (omega arith) M g ];
        ended = q.ended;
      }
  turn b d Stepped.synchronised u k e f D again = record {
    from = omega arith;
    small = D;
    clock = refl;
    whole = λ n N M. let z : n ≡ d = omega arith in rw (z, e) tt;
    last = λ n N M g. (omega arith, refl);
    ended = (d, refl, e, sym f);
  }
  turn b d (halted r) u k e f D again = record {
    from = omega arith;
    small = omega arith;
    clock = refl;
    whole = λ n N M. absurd (omega arith);
    last = λ n N M g. absurd (omega arith);
    ended = (D, moved (step_at rate s d) e f);
  }
    where
      moved : (m : Moved) → m.how ≡ halted r → m.state ≡ u → m ≡ moved_to (halted r) u
      moved m e f = ap (λ (h : Stepped). moved_to h m.state) e ∙ ap (moved_to (halted r)) f

  from_here : (b d : ℕ) (u : State) → steps rate d s ≡ u → Counted rate s d (d + b) (run_from rate b d u)
  unfolding run_from
  from_here zero d u e = record {
    from = omega arith;
    small = omega arith;
    clock = refl;
    whole = λ n N M. absurd (omega arith);
    last = λ n N M g. absurd (omega arith);
    ended = (omega arith, sym e);
  }
  from_here (suc b) d u e =
      turn (d + suc b) d (step rate u).how (step rate u).state (run_from rate b) (ap (λ (w : State). (step rate w).how) e) (ap (λ (w : State). (step rate w).state) e) (omega arith)
      (λ f. subst (λ (k : ℕ). Counted rate s (suc d) k (run_from rate b (suc d) (step rate u).state)) (omega arith) (from_here b (suc d) (step rate u).state f))

  pub counts : (b : ℕ) → Counted rate s 0 b (run_from rate b 0 s)
  counts b = subst (λ (k : ℕ). Counted rate s 0 k (run_from rate b 0 s)) (omega arith) (from_here b 0 s (unfold steps in refl))

-- after n of the steps that a run counts: what a run with budget n leaves
pub state_at : (rate : Float) (s : State) (b n : ℕ) → n ≤ (run_from rate b 0 s).count → (run_from rate n 0 s).state ≡ steps rate n s
state_at rate s b n N = by (run_from rate n 0 s).how (counts rate s n).ended
  where
    c : ℕ
    c = (run_from rate n 0 s).count

    by : (x : How) → Ended rate s n x (run_from rate n 0 s).count (run_from rate n 0 s).state → (run_from rate n 0 s).state ≡ steps rate n s
    by spent e = e.1 ∙ ap (λ (k : ℕ). steps rate k s) e.0
    by How.synchronised e =
        let small = (counts rate s n).small in
        let d = e.1 in
        e.3 ∙ ap (λ (k : ℕ). steps rate k s) (elim (ℕ_discrete c n) [
          | yes z ↦ z
          | no z ↦ let q = ((counts rate s b).last e.0 (omega arith) (omega (arith, small, d)) e.2).0 in absurd (z (omega (arith, small, d, q)))
        ])
    by (refused r) e = absurd (subst (λ (m : Moved). Whole m.how) e.1 ((counts rate s b).whole c (omega arith) (let f = e.0 in omega (arith, f))))
