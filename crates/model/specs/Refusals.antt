-- 01, "Numbers given back": the number that stands for each refusal. Assumes nothing: these are definitions.
use Rattle.std.specs.Prelude.{◌≡◌, ℕ, false, ◌&&◌, leb, Result, Ok, Err, MatchResult}
use Rattle.model.specs.declared.refusal.Halt.{Halt}
use Rattle.model.specs.declared.refusal.Halt.TheVariants.{NotFinite, QueueFull, ListFull, AlreadyListed, OnlyCell}
use Rattle.model.specs.declared.refusal.NoHalt.{NoHalt}
use Rattle.model.specs.declared.refusal.StartError.{StartError}
use Rattle.model.specs.declared.refusal.StartError.TheVariants as start
use Rattle.model.specs.declared.refusal.RunError.{RunError}
use Rattle.model.specs.declared.refusal.RunError.TheVariants as run

abbrev pub halt_number : Halt → ℕ
halt_number NotFinite = 5
halt_number QueueFull = 6
halt_number ListFull = 7
halt_number AlreadyListed = 8
halt_number OnlyCell = 9

-- of an act: 0 if it is done, else the number of its halt
abbrev pub number_of : {A : Type 0} → Result A Halt → ℕ
number_of (Ok a) = 0
number_of (Err h) = halt_number h

-- of a start that does not stand ready to run
abbrev pub start_error_number : StartError → ℕ
start_error_number start.BoxOutOfRange = 1
start_error_number start.TooShort = 2
start_error_number (start.BadGrain g) = 4
start_error_number (start.Halted h) = halt_number h

-- of a run that did not end as it should
abbrev pub run_error_number : RunError → ℕ
run_error_number run.TooShort = 2
run_error_number (run.Halted h) = halt_number h
run_error_number run.RateOutOfRange = 3
run_error_number run.Broken = 10

-- of a run's checks: 0 if they pass
abbrev pub check_number : {A : Type 0} → Result A RunError → ℕ
check_number (Ok a) = 0
check_number (Err e) = run_error_number e

-- ---- the conversions
abbrev pub NumberOfHalt : Halt → ℕ → Type 0
NumberOfHalt h n = n ≡ halt_number h

abbrev pub NumberOfStart : StartError → ℕ → Type 0
NumberOfStart e n = n ≡ start_error_number e

abbrev pub NumberOfRun : RunError → ℕ → Type 0
NumberOfRun e n = n ≡ run_error_number e

-- the halt with this number, 5 to 9, or any other number as it is
abbrev pub HaltOfNumber : ℕ → Result Halt NoHalt → Type 0
HaltOfNumber n r = MatchResult r (λ h. halt_number h ≡ n) (λ e. (e.0 ≡ n) × ((leb 5 n && leb n 9) ≡ false))
