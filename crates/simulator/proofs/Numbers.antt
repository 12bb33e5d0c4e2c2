-- THE NUMBERS GIVEN, for any tables and arguments: a start gives 0, 1, 2, 4 or a halt's; a run ends synchronised, spent, or refused by 2, 3, 10 or a halt's; 2, 3 and 10
-- change nothing, and 10 is given exactly if a standing fact does not hold. Assumes nothing.
use Prim.Native.Nat.{ℕ, zero, suc, ◌≤◌}
use mathlib.Core.Path.{◌≡◌, refl, sym, ap, subst, ◌∙◌}
use mathlib.Core.Bool.{Bool, true, false, ◌&&◌}
use mathlib.Core.List.{List, [], ◌∷◌}
use mathlib.Core.Logic.{◌⊎◌, inl, inr}
use native.Mathlib.Omega.{arith}
use native.Mathlib.Nat.{eq-or-lt_of_le}
use native.Mathlib.Decide.{ℕ_discrete}
use lib.Ieee.{Float}
use Rattle.halting.specs.Every.{All}
use Rattle.order.specs.Numbers.{fzero}
use Rattle.model.specs.declared.Domain.{Domain}
use Rattle.model.specs.declared.Report.{Report}
use Rattle.model.specs.Sizes.{rated}
use Rattle.model.specs.Refusals.{run_error_number}
use Rattle.model.specs.Reports.{how_of}
use Rattle.model.specs.Start.{begin}
use Rattle.model.specs.Run.{How, synchronised, spent, refused, run_from}
use Rattle.model.specs.Standing.{Standing}
use Rattle.model.specs.Check.{halt}
use Rattle.model.specs.Check as model
use Rattle.model.proofs.Reflect.{Says, says_standing}
use Rattle.model.proofs.Halts.{run_halts, refused_is}
use Rattle.halting.proofs.Bools.{differ}
use Rattle.model.proofs.Exactly.{Exactly}
use Rattle.tables.specs.Decode.{Tables, mark, decoded}
use Rattle.checks.specs.Check.{sized, legible, standing, checked}
use Rattle.checks.proofs.Accepts.{fitted}
use Rattle.tables.specs.Inputs.{inputs_of}
use Rattle.running.specs.Ran.{RanTables, told_tables}
use Rattle.simulator.specs.Start.{start_all}
use Rattle.simulator.specs.Run.{by_check, run_tables, RunPromise}
use Rattle.simulator.proofs.Ran.{error_of, end_of}
use Rattle.simulator.proofs.Exactly.{check_case, halt_most, begin_halts, start_case, run_gives_10}

-- n is one of these
abbrev pub OneOf : ℕ → List ℕ → Type 0
OneOf n [] = ⊥
OneOf n (x ∷ xs) = (n ≡ x) ⊎ OneOf n xs

-- the numbers of halts
abbrev pub halts : List ℕ
halts = 5 ∷ 6 ∷ 7 ∷ 8 ∷ 9 ∷ []

pub of_halts : (n : ℕ) → 5 ≤ n → n ≤ 9 → OneOf n halts
of_halts n h k = elim (eq-or-lt_of_le h) [
  | inl e ↦ inl (sym e)
  | inr a ↦ elim (eq-or-lt_of_le {n = 6} a) [
    | inl e ↦ inr (inl (sym e))
    | inr b ↦ elim (eq-or-lt_of_le {n = 7} b) [
      | inl e ↦ inr (inr (inl (sym e)))
      | inr c ↦ elim (eq-or-lt_of_le {n = 8} c) [ inl e ↦ inr (inr (inr (inl (sym e)))) | inr d ↦ inr (inr (inr (inr (inl (omega (arith, d, k)))))) ]
    ]
  ]
]

-- ---- a start: its number is one of 0, 1, 2, 4 and 5 to 9
pub start_number_lem : (b : Domain) (n room : ℕ) (inputs : List Float) (t : Tables) → OneOf (start_all b n room inputs t).number (0 ∷ 1 ∷ 2 ∷ 4 ∷ halts)
start_number_lem b n room inputs t =
    start_case b n room inputs t (λ w. OneOf w.number (0 ∷ 1 ∷ 2 ∷ 4 ∷ halts)) (λ e. inr (inl refl)) (λ e f. inr (inr (inl refl))) (λ e f g. inr (inr (inr (inl refl))))
    (λ e f g. elim (ℕ_discrete (begin b room (inputs_of n inputs)).num 0) [
      | yes z ↦ inl z
      | no z ↦ let h = begin_halts b n room inputs t e f g z in inr (inr (inr (inr (of_halts _ h.0 h.1))))
    ])

-- ---- a run
no_halt : (r : ℕ) → OneOf r (2 ∷ 3 ∷ 10 ∷ []) → 5 ≤ r → r ≤ 9 → ⊥
no_halt r o h k = elim o [ inl e ↦ omega (arith, e, h) | inr p ↦ elim p [ inl e ↦ omega (arith, e, h) | inr q ↦ elim q [ inl e ↦ omega (arith, e, k) | inr z ↦ z ] ] ]

-- what holds of each of a list holds of one of it
of_each : (P : ℕ → Type 0) (r : ℕ) (xs : List ℕ) → All P xs → OneOf r xs → P r
of_each P r [] h o = absurd o
of_each P r (x ∷ xs) h (inl e) = subst P (sym e) h.0
of_each P r (x ∷ xs) h (inr o) = of_each P r xs h.1 o

-- a refusal's number is the one it is found by
error_back : (r : ℕ) → OneOf r (2 ∷ 3 ∷ 10 ∷ halts) → run_error_number (error_of r) ≡ r
error_back r o = of_each (λ (k : ℕ). run_error_number (error_of k) ≡ k) r (2 ∷ 3 ∷ 10 ∷ halts) (refl, (refl, (refl, (refl, (refl, (refl, (refl, (refl, tt)))))))) o

abbrev pub Given : How → Type 0
Given synchronised = Unit {0}
Given spent = Unit {0}
Given (refused r) = OneOf r (2 ∷ 3 ∷ 10 ∷ halts)

-- each end that can be given is that of a report
pub how_back : (h : How) → Given h → how_of (end_of h) ≡ h
how_back synchronised g = refl
how_back spent g = refl
how_back (refused r) g = ap refused (error_back r g)

-- a refusal that changes nothing: the number, the clock +0, 0 events, the tables as they were
abbrev pub unchanged : ℕ → Tables → RanTables
unchanged r t = record { how = refused r; clock = fzero; count = 0; after = t }

module _ (rate : Float) (b : ℕ) (t : Tables) where
  check_number : OneOf (checked rate t) (0 ∷ 2 ∷ 3 ∷ 10 ∷ halts)
  check_number =
      check_case rate b t (λ k. OneOf k (0 ∷ 2 ∷ 3 ∷ 10 ∷ halts)) (λ z. inr (inl refl)) (λ z h. let a = halt_most rate b t h in inr (inr (inr (inr (of_halts _ a.0 a.1)))))
      (λ z h r. inr (inr (inl refl))) (λ z h r s. inr (inr (inr (inl refl)))) (inl refl)

  steps_given : (h : How) → (run_from rate b 0 (decoded t)).how ≡ h → Given h
  steps_given synchronised e = tt
  steps_given spent e = tt
  steps_given (refused r) e = let h = run_halts rate b (decoded t) r e in inr (inr (inr (of_halts r h.five h.nine)))

  check_given : (k : ℕ) → OneOf k (0 ∷ 2 ∷ 3 ∷ 10 ∷ halts) → Given (by_check k rate b t).how
  check_given zero o = steps_given (run_from rate b 0 (decoded t)).how refl
  check_given (suc k) o = elim o [ inl e ↦ absurd (omega (arith, e)) | inr q ↦ q ]

  -- a run ends synchronised, spent, or refused by 2, 3, 10 or 5 to 9
  pub run_number_lem : Given (run_tables rate b t).how
  unfolding run_tables
  run_number_lem = check_given (checked rate t) check_number

  stops : (k : ℕ) → (k ≡ 0 → ⊥) → by_check k rate b t ≡ unchanged k t
  stops zero n = absurd (n refl)
  stops (suc k) n = refl

  -- a run that its check refuses, by 2, 3, 10 or the mark of an earlier halt, answers that number and zeros and leaves the tables as they were
  pub check_refused_keeps : (checked rate t ≡ 0 → ⊥) → run_tables rate b t ≡ unchanged (checked rate t) t
  unfolding run_tables
  check_refused_keeps n = stops (checked rate t) n

  passed_range : checked rate t ≡ 0 → (r : ℕ) → (run_tables rate b t).how ≡ refused r → (5 ≤ r) × (r ≤ 9)
  unfolding run_tables
  passed_range z r e = let h = run_halts rate b (decoded t) r (sym (ap (λ (k : ℕ). (by_check k rate b t).how) z) ∙ e) in (h.five, h.nine)

  -- a run that passes its check is refused by 5 to 9 only
  pub run_passed_halts : checked rate t ≡ 0 → (r : ℕ) → (run_tables rate b t).how ≡ refused r → OneOf r halts
  run_passed_halts z r e = let h = passed_range z r e in of_halts r h.0 h.1

  -- a run refused by 2, 3 or 10 changes nothing, and tells zeros
  pub run_refused_keeps : (r : ℕ) → OneOf r (2 ∷ 3 ∷ 10 ∷ []) → (run_tables rate b t).how ≡ refused r → run_tables rate b t ≡ unchanged r t
  run_refused_keeps r o e = elim (ℕ_discrete (checked rate t) 0) [
    | yes z ↦ let h = passed_range z r e in absurd (no_halt r o h.0 h.1)
    | no n ↦ let k = check_refused_keeps n in k ∙ ap (λ (m : ℕ). unchanged m t) (refused_is (ap (λ (x : RanTables). x.how) (sym k) ∙ e))
  ]

  -- 10 is given exactly if the run passes 2, the mark and 3, and the tables are not legible or their state breaks one of 01's standing facts
  pub run_gives_10_facts : (r : Report) (u : Tables) → RunPromise rate b t r u
      → Exactly ((told_tables r u).how ≡ refused 10) ((sized t ≡ true) × (halt (mark t.lists) ≡ false) × (rated rate ≡ true) × ((legible t ≡ true) × Standing (decoded t) → ⊥))
  unfolding standing
  run_gives_10_facts r u p = record {
    only = λ e. let w = (run_gives_10 rate b t).only (sym how ∙ e) in (w.0, w.1, w.2, λ k. differ (rw (k.0, facts.holds k.1)) w.3);
    so = λ w. how ∙ (run_gives_10 rate b t).so (w.0, w.1, w.2, fails (legible t) refl (model.standing (decoded t)) refl w.3);
  }
    where
      how : (told_tables r u).how ≡ (run_tables rate b t).how
      how = ap (λ (x : RanTables). x.how) p.is

      facts : Says (model.standing (decoded t)) (Standing (decoded t))
      facts = says_standing (decoded t) (fitted t p.owned.floats)

      fails : (x : Bool) → legible t ≡ x → (y : Bool) → model.standing (decoded t) ≡ y → ((legible t ≡ true) × Standing (decoded t) → ⊥) → (x && y) ≡ false
      fails true d true e n = absurd (n (d, facts.means e))
      fails true d false e n = refl
      fails false d y e n = refl
