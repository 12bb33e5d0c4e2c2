-- The public run, behind its checks: a run of j + k is a run of j and, if that was spent, a run of k. Assumes nothing.
use Prim.Native.Nat.{ℕ, ◌+◌, ◌*◌, ◌≤◌}
use mathlib.Core.Path.{◌≡◌, refl, sym, ap, ◌∙◌}
use mathlib.Core.Bool.{Bool, true, false}
use native.Mathlib.Omega.{arith}
use native.Mathlib.Nat.{add-zero, mul-le-mul}
use lib.Dec.{T}
use lib.Ieee.{Float, binary64, of_bits, le, lt}
use borrow.Author.Tests.{le-leb}
use Rattle.model.specs.declared.Domain.{Domain}
use Rattle.order.specs.Numbers.{fzero}
use Rattle.order.proofs.Order.{le_lt_trans}
use Rattle.model.specs.Grid.{across, cells}
use Rattle.model.specs.State.{State}
use Rattle.model.specs.Run.{How, spent, Ran, run_from, refused}
use Rattle.model.proofs.Sound.{Sound, Stands}
use Rattle.model.specs.Check.{standing, Fitted, sized, halt, run_all}
use Rattle.model.specs.Sizes.{rated}
use Rattle.halting.proofs.Bools.{and_l}
use Rattle.model.proofs.Queue.{T_of}
use Rattle.model.proofs.Plans.{across_min}
use Rattle.model.proofs.Refusals.{run_goes, run_case}
use Rattle.model.proofs.Reflect.{says_stands}
use Rattle.model.proofs.Stands.{sound_fitted}
use Rattle.model.proofs.Runs.{plus, go_on, split, count, run_stands}

-- a run, and if it was spent another
abbrev pub follow_by : How → Ran → (State → Ran) → Ran
follow_by How.synchronised r k = r
follow_by spent r k = record { how = (k r.state).how; clock = (k r.state).clock; count = r.count + (k r.state).count; state = (k r.state).state }
follow_by (refused n) r k = r

abbrev pub followed : Ran → (State → Ran) → Ran
followed r k = follow_by r.how r k

-- what stands, passes each check
nine_cells : (b : Domain) → 9 ≤ cells b
nine_cells b = let p : 3 * 3 ≤ across 0 b * across 1 b = mul-le-mul (across_min 0 b) (across_min 1 b) in p

pub sound_sized : (s : State) → Sound s → sized s ≡ true
sound_sized s h =
    let w = nine_cells s.box in
    let n : 9 ≤ s.sched.cells = omega (arith, h.heap.cells) in
    rw (le-leb _ _ h.few, le-leb _ _ h.room.0, le-leb _ _ h.room.1, le-leb _ _ n, le-leb _ _ h.heap.inverse.room)

free_halt : (m : ℕ) → m ≡ 0 → halt m ≡ false
free_halt m e = rw e

pub rated_later : (rate : Float) → rated rate ≡ true → lt rate fzero ≡ false
rated_later rate h = by (lt rate fzero) refl
  where
    low : T (lt (of_bits binary64 0x3eb0_0000_0000_0000) fzero) → ⊥
    low t = unfold lt of_bits in t

    by : (b : Bool) → lt rate fzero ≡ b → lt rate fzero ≡ false
    by true e = absurd (low (le_lt_trans (of_bits binary64 0x3eb0_0000_0000_0000) rate fzero (T_of _ (and_l (le (of_bits binary64 0x3eb0_0000_0000_0000) rate) (le rate (of_bits binary64 0x4130_0000_0000_0000)) h)) (T_of _ e)))
    by false e = e

-- at standing facts a run is its steps
pub runs : (rate : Float) (b : ℕ) (s : State) → rated rate ≡ true → Stands s → run_all rate b s ≡ run_from rate b 0 s
runs rate b s r st = run_goes rate b s (sound_sized s st.sound) (free_halt s.mark st.free) r ((says_stands s (sound_fitted s st.sound)).holds st)

refused_not : {A : Type 0} (n : ℕ) → refused n ≡ spent → A
refused_not n e = absurd (let z : ◌≡◌ {A = ℕ} 0 1 = cc in omega arith)

continue_spent : (h : How) (r : Ran) (k : ℕ → State → Ran) → h ≡ spent → go_on h r k ≡ k r.count r.state
continue_spent h r k e = rw e

continue_ended : (h : How) (r : Ran) (k : ℕ → State → Ran) → (h ≡ spent → ⊥) → go_on h r k ≡ r
continue_ended How.synchronised r k n = refl
continue_ended spent r k n = absurd (n refl)
continue_ended (refused m) r k n = refl

module _ (rate : Float) (j k : ℕ) (s : State) (fitted : Fitted s) where
  after_spent : (run_all rate j s).how ≡ spent → run_all rate (j + k) s ≡ plus (run_all rate j s).count (run_all rate k (run_all rate j s).state)
  after_spent e =
      runs rate (j + k) s g.0 st ∙ split rate j k 0 s ∙ continue_spent r.how r (run_from rate k) e' ∙
      ap (λ (d : ℕ). run_from rate k d r.state) (sym (add-zero r.count)) ∙ count rate k r.count 0 r.state ∙
      ap (plus r.count) (sym (runs rate k r.state g.0 stands')) ∙
      ap (λ (q : Ran). plus q.count (run_all rate k q.state)) (sym x)
    where
      -- a spent run passed the checks
      g : (rated rate ≡ true) × (standing s ≡ true)
      g = run_case (λ f. (f j).how ≡ spent → (rated rate ≡ true) × (standing s ≡ true)) rate s (refused_not 2) (λ h. refused_not s.mark) (refused_not 3) (refused_not 10) (λ h r t x. (r, t)) e

      st : Stands s
      st = (says_stands s fitted).means g.1

      r : Ran
      r = run_from rate j 0 s

      x : run_all rate j s ≡ r
      x = runs rate j s g.0 st

      e' : r.how ≡ spent
      e' = ap (λ (q : Ran). q.how) (sym x) ∙ e

      by : (h : How) → (run_from rate j 0 s).how ≡ h → h ≡ spent → Stands (run_from rate j 0 s).state
      by How.synchronised p q = absurd (let z : ◌≡◌ {A = ℕ} 0 1 = cc in omega arith)
      by spent p q = rw p at (run_stands rate (rated_later rate g.0) j 0 s st)
      by (refused m) p q = refused_not m q

      stands' : Stands r.state
      stands' = by r.how refl e'

  -- one that ended otherwise ends so with any greater budget
  after_ended : ((run_all rate j s).how ≡ spent → ⊥) → run_all rate (j + k) s ≡ run_all rate j s
  after_ended =
      run_case (λ f. ((f j).how ≡ spent → ⊥) → f (j + k) ≡ f j) rate s (λ n. refl) (λ h n. refl) (λ n. refl) (λ n. refl)
      (λ h r t n. split rate j k 0 s ∙ continue_ended (run_from rate j 0 s).how (run_from rate j 0 s) (run_from rate k) n)

  -- A RUN OF j + k IS A RUN OF j FOLLOWED BY A RUN OF k
  pub whole : run_all rate (j + k) s ≡ followed (run_all rate j s) (run_all rate k)
  whole = by (run_all rate j s).how refl
    where
      by : (w : How) → (run_all rate j s).how ≡ w → run_all rate (j + k) s ≡ follow_by w (run_all rate j s) (run_all rate k)
      by How.synchronised e = after_ended (λ q. let z : ◌≡◌ {A = ℕ} 0 1 = cc in omega arith)
      by spent e = after_spent e
      by (refused m) e = after_ended (λ q. refused_not m (sym e ∙ q))
