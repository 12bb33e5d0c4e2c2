-- The number of an act that is done is 0, and that of a halt is not. Assumes nothing.
use mathlib.Core.Path.{◌≡◌, ap}
use native.Mathlib.Omega.{arith}
use Rattle.std.specs.Prelude.{Result, Ok, Err}
use Rattle.std.specs.Result.{IsErrAnd}
use Rattle.model.specs.declared.refusal.Halt.{Halt}
use Rattle.model.specs.declared.refusal.Halt.TheVariants.{NotFinite, QueueFull, ListFull, AlreadyListed, OnlyCell}
use Rattle.model.specs.Refusals.{halt_number, number_of}

pub halt_no_zero : (h : Halt) → halt_number h ≡ 0 → ⊥
halt_no_zero NotFinite e = absurd (omega arith)
halt_no_zero QueueFull e = absurd (omega arith)
halt_no_zero ListFull e = absurd (omega arith)
halt_no_zero AlreadyListed e = absurd (omega arith)
halt_no_zero OnlyCell e = absurd (omega arith)

-- what the exit of a `?` hands on, from what it ensures
pub halted_number : {A : Type 0} (r : Result A Halt) (h : Halt) → IsErrAnd r (λ (x : Halt). x ≡ h) → number_of r ≡ halt_number h
halted_number (Ok a) h e = absurd e
halted_number (Err x) h e = ap halt_number e
