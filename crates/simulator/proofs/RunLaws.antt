-- What a run promises, by the check's answer. Assumes nothing.
use Prim.Native.Nat.{ℕ, ◌^◌, ◌<◌}
use mathlib.Core.Path.{◌≡◌, refl, sym, ap, ◌∙◌}
use lib.Ieee.{Float}
use Rattle.std.specs.Prelude.{Err}
use Rattle.order.specs.Numbers.{fzero}
use Rattle.model.specs.declared.Report.{Report}
use Rattle.model.specs.declared.refusal.Halt.TheVariants.{NotFinite, QueueFull, ListFull, AlreadyListed, OnlyCell}
use Rattle.model.specs.declared.refusal.RunError.{RunError}
use Rattle.model.specs.declared.refusal.RunError.TheVariants.{TooShort, Halted, RateOutOfRange, Broken}
use Rattle.model.specs.Run.{run_from}
use Rattle.model.specs.Refusals.{run_error_number}
use Rattle.model.proofs.Allowed.{budgets}
use Rattle.tables.specs.Decode.{Tables, decoded}
use Rattle.checks.specs.Answered.{Answered}
use Rattle.running.specs.Ran.{told_tables, ran_over}
use Rattle.simulator.specs.Run.{by_check, run_tables, Owned, RunPromise}

-- a refusal that changes nothing
abbrev pub refusing : RunError → Report
refusing e = record { end = Err e; clock = fzero; events = 0 }

module _ (rate : Float) (budget : ℕ) (t : Tables) where
  refused_is : (e : RunError) → told_tables (refusing e) t ≡ by_check (run_error_number e) rate budget t
  refused_is TooShort = refl
  refused_is RateOutOfRange = refl
  refused_is Broken = refl
  refused_is (Halted NotFinite) = refl
  refused_is (Halted QueueFull) = refl
  refused_is (Halted ListFull) = refl
  refused_is (Halted AlreadyListed) = refl
  refused_is (Halted OnlyCell) = refl

  module _ (r : ℕ) (A : Answered rate t r) (B : budget < 2 ^ 32) where
    owned : Owned budget t
    owned = record { floats = A.floats; small = (budgets budget).only B }

    pub run_refused : (e : RunError) → r ≡ run_error_number e → RunPromise rate budget t (refusing e) t
    unfolding run_tables
    run_refused e is = record { owned = owned; is = refused_is e ∙ ap (λ (k : ℕ). by_check k rate budget t) (sym is ∙ A.is) }

    pub run_done : (x : Report) (u : Tables) → r ≡ 0 → told_tables x u ≡ ran_over (run_from rate budget 0 (decoded t)) t → RunPromise rate budget t x u
    unfolding run_tables
    run_done x u z e = record { owned = owned; is = e ∙ ap (λ (k : ℕ). by_check k rate budget t) (sym z ∙ A.is) }
