-- HALTS OVER ANY TABLES: a run that passes its checks and is refused halts by 5 to 9 with exactly the acts before the refused one done and its number as the mark, and
-- every later run on those tables gives that number again and changes nothing. Assumes nothing.
use Prim.Native.Nat.{ℕ}
use mathlib.Core.Path.{◌≡◌, sym, ap, ◌∙◌, subst}
use mathlib.Core.Bool.{true}
use lib.Ieee.{Float}
use Rattle.std.specs.Prelude.{Err}
use Rattle.model.specs.declared.refusal.RunError.{RunError}
use Rattle.model.specs.Refusals.{run_error_number}
use Rattle.model.specs.State.{State}
use Rattle.model.proofs.Sound.{Sound, Stands}
use Rattle.model.specs.Acts.{taken}
use Rattle.model.specs.Execute.{head_event}
use Rattle.model.specs.Run.{refused, Ran, run_from}
use Rattle.model.specs.Check as model
use Rattle.model.specs.Reached.{steps}
use Rattle.halting.proofs.Bools.{and_l, and_r}
use Rattle.model.proofs.Reflect.{says_stands}
use Rattle.model.specs.Rows.{acts_of}
use Rattle.model.proofs.Halts.{HaltIn, run_halts_in_order, in_range_lem}
use Rattle.tables.specs.Decode.{Tables, mark, decoded}
use Rattle.checks.specs.Check.{legible, standing, checked}
use Rattle.tables.specs.Encode.{encoded}
use Rattle.checks.proofs.Accepts.{fitted, Passed, checked_means}
use Rattle.running.specs.Ran.{RanTables, ran_over}
use Rattle.simulator.specs.Run.{by_check, run_tables, RunPromise}
use Rattle.simulator.proofs.Encoded.{decoded-encoded, encoded-sized}
use Rattle.simulator.proofs.Ran.{halted_tables, left_sound, left_long}
use Rattle.simulator.proofs.Numbers.{OneOf, halts, unchanged, run_passed_halts}

-- what a halt by r is, of a run that leaves `left` and counts n events from the tables t
pub record HaltsBy (r : ℕ) (rate : Float) (t : Tables) (n : ℕ) (left : Tables) : Type 0 where
  -- r is 5 to 9
  pub number : OneOf r halts
  -- the counted steps were done whole; of the next event's acts in 01's order those before the refused one were done, it was not
  pub did : let u = steps rate n (decoded t) in HaltIn (acts_of rate (head_event u) (taken u)) r (taken u) (decoded left)
  -- the mark holds its number
  pub marked : mark left.lists ≡ r
  -- and each later run, at any rate and budget, gives it again with zeros and changes nothing
  pub again : (later : Float) (b : ℕ) → run_tables later b left ≡ unchanged r left

-- tables whose state stands
module _ (t : Tables) (stood : Stands (decoded t)) (rate : Float) (C : checked rate t ≡ 0) (b : ℕ) where
  passed : Passed rate t
  passed = checked_means rate t C

  reads : legible t ≡ true
  reads = unfold standing in and_l (legible t) (model.standing (decoded t)) passed.stands

  abbrev ran : Ran
  ran = run_from rate b 0 (decoded t)

  run_is : run_tables rate b t ≡ ran_over (run_from rate b 0 (decoded t)) t
  unfolding run_tables
  run_is = ap (λ (k : ℕ). by_check k rate b t) C

  sound : Sound ran.state
  sound = left_sound rate b t passed.sizes reads passed.rate_in stood

  abbrev left : Tables
  left = encoded ran.state t

  read : decoded left ≡ ran.state
  read = decoded-encoded ran.state sound t (left_long rate b t passed.sizes reads passed.rate_in stood)

  halts_over : (r : ℕ) → ran.how ≡ refused r → OneOf r halts → HaltsBy r rate t ran.count (encoded ran.state t)
  halts_over r e o =
      let h = run_halts_in_order rate b (decoded t) r e in
      let u = steps rate ran.count (decoded t) in
      let m : mark left.lists ≡ r = ap (λ (s : State). s.mark) (read ∙ h.left) in
      record {
        number = o;
        did = subst (HaltIn (acts_of rate (head_event u) (taken u)) r (taken u)) (sym read) h;
        marked = m;
        again = λ later k.
            halted_tables later k left (encoded-sized ran.state sound t (left_long rate b t passed.sizes reads passed.rate_in stood)) (rw m (in_range_lem r h.five h.nine))
            ∙ ap (λ (x : ℕ). unchanged x left) m;
      }

  pub halts_standing : (r : ℕ) → (run_tables rate b t).how ≡ refused r → HaltsBy r rate t (run_tables rate b t).count (run_tables rate b t).after
  halts_standing r e = subst (λ (x : RanTables). HaltsBy r rate t x.count x.after) (sym run_is) (halts_over r (ap (λ (x : RanTables). x.how) (sym run_is) ∙ e) (run_passed_halts rate b t C r e))

-- any tables, and any run on them that passes its checks and is refused
pub halts_any_tables : (t : Tables) (rate : Float) (b : ℕ) (e : RunError) (n : ℕ) (c : Float) (u : Tables) → RunPromise rate b t (record { end = Err e; clock = c; events = n }) u → checked rate t ≡ 0
    → HaltsBy (run_error_number e) rate t n u
halts_any_tables t rate b e n c u p C =
    let m : model.standing (decoded t) ≡ true = unfold standing in and_r (legible t) (model.standing (decoded t)) (checked_means rate t C).stands in
    let st = (says_stands (decoded t) (fitted t p.owned.floats)).means m in
    subst (λ (x : RanTables). HaltsBy (run_error_number e) rate t x.count x.after) (sym p.is) (halts_standing t st rate C b (run_error_number e) (ap (λ (x : RanTables). x.how) (sym p.is)))
