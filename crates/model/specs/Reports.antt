-- 01, "Numbers given back", "Collision" and "Doing an event": the number and the values that each case of an answer stands for. Assumes nothing: these are definitions.
use Rattle.std.specs.Prelude.{ℕ, List, [], ◌∷◌, Float, Option, Result, Some, None, Ok, Err}
use Rattle.model.specs.declared.refusal.StartError.{StartError}
use Rattle.model.specs.declared.refusal.StartError.TheVariants as start
use Rattle.model.specs.declared.refusal.RootRefused.{RootRefused}
use Rattle.model.specs.declared.refusal.RunError.{RunError}
use Rattle.model.specs.declared.End.{End}
use Rattle.model.specs.declared.End.TheVariants as ending
use Rattle.model.specs.declared.Report.{Report}
use Rattle.model.specs.Plans.{Contact, Plan}
use Rattle.model.specs.declared.Pending.{Pending}
use Rattle.model.specs.State.{State}
use Rattle.model.specs.Refusals.{start_error_number, run_error_number}
use Rattle.model.specs.Run.{How, synchronised, spent, refused, Ran}

-- of a start: 0 if it was accepted and did not halt, else the number of the halt or the refusal
abbrev pub start_number : {A : Type 0} → Result A StartError → ℕ
start_number (Ok a) = 0
start_number (Err e) = start_error_number e

-- the grain that a start refused by 4 names; 0 beside every other answer
abbrev pub grain_named : {A : Type 0} → Result A StartError → ℕ
grain_named (Ok a) = 0
grain_named (Err start.BoxOutOfRange) = 0
grain_named (Err start.TooShort) = 0
grain_named (Err (start.BadGrain g)) = g
grain_named (Err (start.Halted h)) = 0

-- of a run: how it ended, the clock, the events done, beside the state it left
abbrev pub ran_of : How → Float → ℕ → State → Ran
ran_of h t n s = record { how = h; clock = t; count = n; state = s }

abbrev pub how_of : Result End RunError → How
how_of (Ok ending.Synchronised) = synchronised
how_of (Ok ending.Spent) = spent
how_of (Err e) = refused (run_error_number e)

abbrev pub told : Report → State → Ran
told r s = ran_of (how_of r.end) r.clock r.events s

-- of an answer that may be refused by 5: 0 and no value, 0 and the value, or 5
unfoldable pub answered : {A : Type 0} → Result (Option A) RootRefused → ℕ × List A
answered (Ok None) = (0, [])
answered (Ok (Some a)) = (0, a ∷ [])
answered (Err _) = (5, [])

-- of a contact, by its dt, and of what a scheduling found, by the event that is due
abbrev pub contact_told : Contact → ℕ × List Float
contact_told k = answered k

abbrev pub plan_told : Plan → ℕ × List Pending
plan_told x = answered x
