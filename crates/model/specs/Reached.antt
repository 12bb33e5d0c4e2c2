-- The states that an accepted start and any runs after it reach, each run at its own rate and budget, and the unhalted steps of such runs.
-- Assumes nothing: these are definitions.
use Rattle.std.specs.Prelude.{ℕ, zero, suc, ◌≤◌, ◌<◌, ◌≡◌, List, [], ◌∷◌, Float}
use Rattle.model.specs.declared.Domain.{Domain}
use Rattle.model.specs.declared.Particle.{Particle}
use Rattle.model.specs.State.{State}
use Rattle.model.specs.Execute.{step}
use Rattle.model.specs.Start.{start, started}
use Rattle.model.specs.Check.{Fits, run_all}

-- the greatest budget of a run
abbrev pub most : ℕ
most = 4294967295

-- a call of a run: any rate, and a budget in its range
pub record Call : Type 0 where
  pub rate : Float
  pub budget : ℕ
  pub small : budget ≤ most

-- what calls, one after another, leave
unfoldable pub after : List Call → State → State
after [] s = s
after (k ∷ ks) s = after ks (run_all k.rate k.budget s).state

-- any box of 64-bit floats, room and grains that a start accepts, halted or not, and then any calls
pub record Reached (s : State) : Type 0 where
  pub box : Domain
  pub fits : Fits box
  pub room : ℕ
  pub grains : List Particle
  pub begun : State
  pub accepted : start box room grains ≡ started begun
  pub calls : List Call
  pub there : after calls begun ≡ s

-- n steps
unfoldable pub steps : Float → ℕ → State → State
steps rate zero s = s
steps rate (suc n) s = (step rate (steps rate n s)).state

-- an unhalted step, from u to v, of any run on a reached state: the n-th of those that the run counts
pub record StepOf (u v : State) : Type 0 where
  pub from : State
  pub reached : Reached from
  pub call : Call
  pub n : ℕ
  pub counted : n < (run_all call.rate call.budget from).count
  pub before : steps call.rate n from ≡ u
  pub after' : steps call.rate (suc n) from ≡ v
