-- 01, "Doing an event": "a run does events until one is a synchronisation or the budget is spent; budget 0 does none". Assumes nothing: these are definitions.
use Rattle.std.specs.Prelude.{ℕ, zero, suc, Float}
use Rattle.model.specs.State.{State}
use Rattle.model.specs.Execute.{Stepped, done, halted, step}

pub data How : Type 0 where
  synchronised spent : How
  refused : ℕ → How

-- how it ended, the clock, the whole steps done, and the state
pub record Ran : Type 0 where
  pub how : How
  pub clock : Float
  pub count : ℕ
  pub state : State

abbrev pub ends : How → ℕ → State → Ran
ends h d s = record { how = h; clock = s.clock; count = d; state = s }

abbrev pub onward : Stepped → State → ℕ → (ℕ → State → Ran) → Ran
onward done s d k = k (suc d) s
onward Stepped.synchronised s d k = ends How.synchronised (suc d) s
onward (halted r) s d k = ends (refused r) d s

-- at most b steps, d done before them
unfoldable pub run_from : Float → ℕ → ℕ → State → Ran
run_from rate zero d s = ends spent d s
run_from rate (suc b) d s = onward (step rate s).how (step rate s).state d (run_from rate b)
