-- A run, step by step: the standing facts along it, the clock, and a run of j + k as two. Assumes nothing.
use Prim.Native.Nat.{ℕ, zero, suc, ◌+◌}
use mathlib.Core.Path.{◌≡◌, refl}
use mathlib.Core.Bool.{false}
use native.Mathlib.Nat.{zero-add, suc-add, add-suc}
use lib.Dec.{T}
use lib.Ieee.{Float, le, lt}
use Rattle.order.specs.Numbers.{fzero}
use Rattle.order.proofs.Order.{le_trans, le_refl}
use Rattle.order.proofs.Clock.{finite_no_nan}
use Rattle.model.specs.State.{State}
use Rattle.model.specs.Execute.{Stepped, done, halted, step}
use Rattle.model.specs.Run.{How, spent, Ran, onward, run_from, refused}
use Rattle.model.proofs.Sound.{Sound, Stands}
use Rattle.model.proofs.Steps.{Whole, step_sound, step_clock, step_stands}

-- ---- a run after a run: the steps add up
abbrev pub plus : ℕ → Ran → Ran
plus c r = record { how = r.how; clock = r.clock; count = c + r.count; state = r.state }

abbrev pub go_on : How → Ran → (ℕ → State → Ran) → Ran
go_on How.synchronised r k = r
go_on spent r k = k r.count r.state
go_on (refused n) r k = r

abbrev pub continue : Ran → (ℕ → State → Ran) → Ran
continue r k = go_on r.how r k

-- ---- over the steps alone: j + k steps are j steps and then, if they were spent, k more
onward_continue : (h : Stepped) (s : State) (d : ℕ) (f g k : ℕ → State → Ran) → ((e : ℕ) (u : State) → f e u ≡ continue (g e u) k) → onward h s d f ≡ continue (onward h s d g) k
onward_continue done s d f g k p = p (suc d) s
onward_continue Stepped.synchronised s d f g k p = refl
onward_continue (halted r) s d f g k p = refl

pub split : (rate : Float) (j k d : ℕ) (s : State) → run_from rate (j + k) d s ≡ continue (run_from rate j d s) (run_from rate k)
unfolding run_from
split rate zero k d s = rw (zero-add k)
split rate (suc j) k d s = rw (suc-add j k) (onward_continue (step rate s).how (step rate s).state d (run_from rate (j + k)) (run_from rate j) (run_from rate k) (split rate j k))

-- the steps done before are added to those done
onward_plus : (c : ℕ) (h : Stepped) (s : State) (d : ℕ) (f : ℕ → State → Ran) → ((e : ℕ) (u : State) → f (c + e) u ≡ plus c (f e u)) → onward h s (c + d) f ≡ plus c (onward h s d f)
onward_plus c done s d f p = rw (← add-suc c d) (p (suc d) s)
onward_plus c Stepped.synchronised s d f p = rw (add-suc c d)
onward_plus c (halted r) s d f p = refl

pub count : (rate : Float) (b c d : ℕ) (s : State) → run_from rate b (c + d) s ≡ plus c (run_from rate b d s)
unfolding run_from
count rate zero c d s = refl
count rate (suc b) c d s = onward_plus c (step rate s).how (step rate s).state d (run_from rate b) (count rate b c)

-- ---- what a run keeps
module _ (rate : Float) (later : lt rate fzero ≡ false) where
  -- where the run is not refused, all stands at its end
  abbrev Unless : How → State → Type 0
  Unless How.synchronised s = Stands s
  Unless spent s = Stands s
  Unless (refused r) s = Unit {0}

  onward_stands : (h : Stepped) (s : State) (d : ℕ) (f : ℕ → State → Ran) → (Whole h → Stands s) → ((e : ℕ) (u : State) → Stands u → Unless (f e u).how (f e u).state) → Unless (onward h s d f).how (onward h s d f).state
  onward_stands done s d f p k = k (suc d) s (p tt)
  onward_stands Stepped.synchronised s d f p k = p tt
  onward_stands (halted r) s d f p k = tt

  pub run_stands : (b d : ℕ) (s : State) → Stands s → Unless (run_from rate b d s).how (run_from rate b d s).state
  unfolding run_from
  run_stands zero d s st = st
  run_stands (suc b) d s st = onward_stands (step rate s).how (step rate s).state d (run_from rate b) (step_stands rate later s st) (run_stands b)

  -- sound in any case, and the clock has not gone back
  pub record Onward (t : Float) (s : State) : Type 0 where
    pub sound : Sound s
    pub clock : T (le t s.clock)

  onward_on : (t : Float) (h : Stepped) (s : State) (d : ℕ) (f : ℕ → State → Ran) → Onward t s → (Whole h → Stands s)
      → ((e : ℕ) (u : State) → Stands u → Onward t u → Onward t (f e u).state) → Onward t (onward h s d f).state
  onward_on t done s d f o p k = k (suc d) s (p tt) o
  onward_on t Stepped.synchronised s d f o p k = o
  onward_on t (halted r) s d f o p k = o

  run_on : (t : Float) (b d : ℕ) (s : State) → Stands s → Onward t s → Onward t (run_from rate b d s).state
  unfolding run_from
  run_on t zero d s st o = o
  run_on t (suc b) d s st o =
      onward_on t (step rate s).how (step rate s).state d (run_from rate b)
      (record { sound = step_sound rate later s st; clock = le_trans t s.clock (step rate s).state.clock o.clock (step_clock rate later s st) })
      (step_stands rate later s st) (λ e u x y. run_on t b e u x y)

  pub run_clock : (b d : ℕ) (s : State) → Stands s → Onward s.clock (run_from rate b d s).state
  run_clock b d s st = run_on s.clock b d s st (record { sound = st.sound; clock = le_refl s.clock (finite_no_nan s.clock st.sound.clock) })
