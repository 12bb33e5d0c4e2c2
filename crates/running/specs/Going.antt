-- What the loop over a run's steps asks of the parts behind the headers, and what it answers and leaves. Assumes nothing: these are definitions.
use Rattle.std.specs.Prelude.{ℕ, ◌≡◌, List, Float}
use Rattle.model.specs.declared.Report.{Report}
use Rattle.model.specs.State.{State}
use Rattle.model.specs.Standing.{Standing}
use Rattle.model.specs.Check.{Fitted}
use Rattle.model.specs.Run.{Ran}
use Rattle.model.specs.Refusals.{check_number}
use Rattle.model.specs.Reports.{told}
use Rattle.tables.specs.Holds.{Holds}
use Rattle.step.specs.declared.World.{World}

-- the parts hold a state that stands, of this box, at this clock
pub record Lent (w : World) (lists : List ℕ) (grains : List Float) (queue : List ℕ) (events : List Float) (order : List ℕ) (s : State) : Type 0 where
  pub holds : Holds w.sizes lists grains queue events order s
  pub box : s.box ≡ w.domain
  pub clock : s.clock ≡ w.clock
  pub stands : Standing s
  pub fitted : Fitted s

-- the report is the run's, and the parts hold the state that it left
pub record Gone (w : World) (lists : List ℕ) (grains : List Float) (queue : List ℕ) (events : List Float) (order : List ℕ) (r : Report) (ran : Ran) : Type 0 where
  pub answer : told r ran.state ≡ ran
  pub holds : Holds w.sizes lists grains queue events order ran.state
  pub box : ran.state.box ≡ w.domain
  pub clock : ran.state.clock ≡ r.clock
  pub mark : ran.state.mark ≡ check_number r.end
