-- 01: "Start takes no rate and checks 1, 2, 4 in that order"; "a start refused 1, 2 or 4 changes nothing"; "accepted start clears every table place to zero";
-- "start can halt too, and then gives that number". Assumes nothing: these are definitions.
use Rattle.std.specs.Prelude.{ℕ, zero, suc, ◌*◌, ◌≡◌, List, Bool, true, ◌&&◌, cond, eqb, leb, length, Float, Result, Ok, Err}
use Rattle.layout.specs.Widths.{input_wide}
use Rattle.model.specs.declared.Domain.{Domain}
use Rattle.model.specs.declared.refusal.Halt.{Halt}
use Rattle.model.specs.declared.refusal.Halt.TheVariants.{NotFinite, QueueFull, ListFull, AlreadyListed, OnlyCell}
use Rattle.model.specs.declared.refusal.StartError.{StartError}
use Rattle.model.specs.declared.refusal.StartError.TheVariants.{BoxOutOfRange, TooShort, BadGrain, Halted}
use Rattle.model.specs.Sizes.{box_ok, counts_ok}
use Rattle.model.specs.Check.{Fits}
use Rattle.model.specs.Start.{Begun, refused, started, start_checks, start}
use Rattle.model.specs.Reports.{start_number, grain_named}
use Rattle.tables.specs.declared.Sizes.{Sizes}
use Rattle.tables.specs.Decode.{Tables}
use Rattle.tables.specs.Lengths.{long}
use Rattle.tables.specs.Inputs.{inputs_of}
use Rattle.starting.specs.Cleared.{sizes_for, cleared}
use Rattle.tables.specs.Encode.{encoded}

-- 2: a count is out of range, or a lent table is shorter than the counts need
unfoldable pub fits : Sizes → ℕ → ℕ → ℕ → ℕ → ℕ → ℕ → Bool
fits z inputs l g q e o = counts_ok z.room z.grains && (leb (z.grains * input_wide) inputs && long z l g q e o)

-- what a start answers
abbrev pub Started : Type 0
Started = Result (Unit {0}) StartError

-- an answer, the number of 01 that it stands for (0: accepted, not halted), the grain that 4 names (0 beside every other answer), and the tables afterwards
pub record StartedWith : Type 0 where
  pub number : ℕ
  pub grain : ℕ
  pub answer : Started
  pub after : Tables

abbrev pub with : Started → Tables → StartedWith
with a t = record { number = start_number a; grain = grain_named a; answer = a; after = t }

-- the halt by its number, 5 to 9
abbrev pub halt_of : ℕ → Halt
halt_of r = cond (eqb r 5) NotFinite (cond (eqb r 6) QueueFull (cond (eqb r 7) ListFull (cond (eqb r 8) AlreadyListed OnlyCell)))

-- by the mark that the start left, 0 or a halt's number; by a refusal's number, 1, 2 or 4, and the grain that 4 names
abbrev pub mark_told : ℕ → Started
mark_told zero = Ok tt
mark_told (suc r) = Err (Halted (halt_of (suc r)))

abbrev pub by_number : ℕ → ℕ → Started
by_number r g = Err (cond (eqb r 4) (BadGrain g) (cond (eqb r 1) BoxOutOfRange TooShort))

abbrev pub started_over : Begun → Tables → StartedWith
started_over (refused r g) t = record { number = r; grain = g; answer = by_number r g; after = t }
started_over (started s) t = record { number = s.mark; grain = 0; answer = mark_told s.mark; after = encoded s (cleared t) }

-- 1, then 2 of the tables too; 4 is the model's start's
unfoldable pub start_all : Domain → ℕ → ℕ → List Float → Tables → StartedWith
start_all b n room inputs t =
    start_checks (box_ok b)
    (fits (sizes_for b n room) (length inputs) (length t.lists) (length t.grains) (length t.queue) (length t.events) (length t.order))
    true (λ r. with (by_number r 0) t) (started_over (start b room (inputs_of n inputs)) t)

-- what a start that answers r and leaves u promises: the box's lengths are 64-bit floats, as every owned float is, and answer and tables are the definition's
pub record StartPromise (b : Domain) (n room : ℕ) (inputs : List Float) (t : Tables) (r : Started) (u : Tables) : Type 0 where
  pub box_fits : Fits b
  pub is : with r u ≡ start_all b n room inputs t
