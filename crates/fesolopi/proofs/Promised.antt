-- What an exported call promises is what the call behind it promises, of an answer that has its numbers: so every theorem over the lent tables holds of what it leaves.
-- Assumes nothing.
use Prim.Native.Nat.{ℕ}
use mathlib.Core.Path.{◌≡◌, refl, sym, ap, ◌∙◌}
use mathlib.Core.List.{List}
use lib.Ieee.{Float}
use Rattle.model.specs.declared.Domain.{Domain}
use Rattle.model.specs.declared.Report.{Report}
use Rattle.model.specs.Check.{Fits}
use Rattle.model.specs.Reports.{start_number, grain_named, how_of}
use Rattle.tables.specs.Decode.{Tables}
use Rattle.simulator.specs.Start.{Started, StartedWith, with, start_all, StartPromise}
use Rattle.simulator.specs.Run.{run_tables, Owned, RunPromise}
use Rattle.simulator.proofs.Exactly.{answer_tells}
use Rattle.simulator.proofs.Numbers.{run_number_lem, how_back}
use Rattle.simulator.proofs.Ran.{end_of}
use Rattle.fesolopi.specs.Codes.{StartGiven, start_given, start_given_by, run_number, Ended, ended, ended_by, report_number}

pub start_promised : (b : Domain) (n room : ℕ) (inputs : List Float) (t : Tables) (r g : ℕ) (u : Tables) → Fits b → start_given r g u ≡ start_given_by (start_all b n room inputs t)
    → (a : Started) × (r ≡ start_number a) × (g ≡ grain_named a) × StartPromise b n room inputs t a u
start_promised b n room inputs t r g u f e =
    let w = start_all b n room inputs t in
    let q = sym (answer_tells b n room inputs t) in (
      w.answer,
      ap (λ (x : StartGiven). x.number) e ∙ ap (λ (x : StartedWith). x.number) q,
      ap (λ (x : StartGiven). x.grain) e ∙ ap (λ (x : StartedWith). x.grain) q,
      record { box_fits = f; is = ap (λ (x : StartGiven). with w.answer x.after) e ∙ sym q },
    )

module _ (rate : Float) (budget : ℕ) (t : Tables) (r : ℕ) (c : Float) (k : ℕ) (u : Tables) (o : Owned budget t) (e : ended r c k u ≡ ended_by (run_tables rate budget t)) where
  abbrev told : Report
  told = record { end = end_of (run_tables rate budget t).how; clock = c; events = k }

  how_is : how_of told.end ≡ (run_tables rate budget t).how
  how_is = how_back (run_tables rate budget t).how (run_number_lem rate budget t)

  pub run_promised : (a : Report) × (r ≡ report_number a) × (c ≡ a.clock) × (k ≡ a.events) × RunPromise rate budget t a u
  run_promised = (
    told,
    ap (λ (x : Ended). x.number) e ∙ ap run_number (sym how_is),
    refl,
    refl,
    record { owned = o; is = λ i. record { how = how_is i; clock = (e i).clock; count = (e i).count; after = (e i).after } },
  )
