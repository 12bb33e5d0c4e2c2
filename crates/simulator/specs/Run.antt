-- A run over the lent tables. 01: "a run checks 2, then the halt mark, then 3, then 10"; "a run's other refusals, the number and zeros", and they change nothing;
-- otherwise the steps of the model's run, and the tables hold the state that it left. Assumes nothing: these are definitions.
use Rattle.std.specs.Prelude.{ℕ, zero, suc, ◌≤◌, ◌≡◌, Float}
use Rattle.model.specs.declared.Report.{Report}
use Rattle.model.specs.Run.{run_from}
use Rattle.model.specs.Check.{refusal}
use Rattle.model.specs.Reached.{most}
use Rattle.tables.specs.Decode.{Tables, decoded}
use Rattle.checks.specs.Check.{checked}
use Rattle.checks.specs.Answered.{Floats}
use Rattle.running.specs.Ran.{RanTables, beside, told_tables, ran_over}

-- by the number that refuses it, 0 for none
abbrev pub by_check : ℕ → Float → ℕ → Tables → RanTables
by_check zero rate b t = ran_over (run_from rate b 0 (decoded t)) t
by_check (suc r) rate b t = beside (refusal (suc r) (decoded t)) t

unfoldable pub run_tables : Float → ℕ → Tables → RanTables
run_tables rate b t = by_check (checked rate t) rate b t

-- what the types of a run's arguments say: its tables are of 64-bit floats, and its budget is in its range
pub record Owned (budget : ℕ) (t : Tables) : Type 0 where
  pub floats : Floats t
  pub small : budget ≤ most

-- what a run that reports r and leaves u promises: the above, and report and tables are the definition's
pub record RunPromise (rate : Float) (budget : ℕ) (t : Tables) (r : Report) (u : Tables) : Type 0 where
  pub owned : Owned budget t
  pub is : told_tables r u ≡ run_tables rate budget t
