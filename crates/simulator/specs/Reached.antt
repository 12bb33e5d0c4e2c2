-- The tables that an accepted start and any runs after it reach, each run at its own rate and budget. Assumes nothing: these are definitions.
use Rattle.std.specs.Prelude.{ℕ, ◌≡◌, List, [], ◌∷◌, Float, Ok, Err}
use Rattle.model.specs.declared.Domain.{Domain}
use Rattle.model.specs.declared.refusal.StartError.TheVariants.{BoxOutOfRange, TooShort, BadGrain, Halted}
use Rattle.model.specs.Reached.{Call}
use Rattle.tables.specs.Decode.{Tables}
use Rattle.simulator.specs.Start.{Started, StartPromise}
use Rattle.simulator.specs.Run.{run_tables}

-- a start that was not refused, halted or not
abbrev pub Taken : Started → Type 0
Taken (Ok a) = Unit {0}
Taken (Err (Halted h)) = Unit {0}
Taken (Err BoxOutOfRange) = ⊥
Taken (Err TooShort) = ⊥
Taken (Err (BadGrain g)) = ⊥

-- what calls, one after another, leave
unfoldable pub after_calls : List Call → Tables → Tables
after_calls [] t = t
after_calls (k ∷ ks) t = after_calls ks (run_tables k.rate k.budget t).after

-- a start of any box, counts, start numbers and tables, by what it promises, that was taken; and then any calls
pub record ReachedTables (t : Tables) : Type 0 where
  pub box : Domain
  pub count : ℕ
  pub room : ℕ
  pub inputs : List Float
  pub lent : Tables
  pub answer : Started
  pub begun : Tables
  pub began : StartPromise box count room inputs lent answer begun
  pub taken : Taken answer
  pub calls : List Call
  pub there : after_calls calls begun ≡ t
