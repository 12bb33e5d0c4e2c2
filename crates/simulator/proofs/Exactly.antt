-- EACH NUMBER THAT CHANGES NOTHING IS GIVEN EXACTLY IF, over the lent tables: 2, 3 and 10 of a run, 1, 2 and 4 of a start, with the grain that 4
-- names. Assumes nothing.
use Prim.Native.Nat.{ℕ, zero, suc, ◌≤◌, ◌<◌}
use mathlib.Core.Path.{◌≡◌, refl, sym, ap, ◌∙◌, subst}
use mathlib.Core.Bool.{Bool, true, false, cond}
use mathlib.Core.List.{List, [], ◌∷◌}
use mathlib.Core.Logic.{inl, inr}
use native.Mathlib.Omega.{arith}
use native.Mathlib.Decide.{ℕ_discrete}
use native.Mathlib.Nat.{eq-or-lt_of_le}
use lib.Dec.{leb}
use lib.ListN.{length}
use lib.Ieee.{Float}
use Rattle.std.specs.Prelude.{Err}
use borrow.Author.Tests.{leb-true}
use Rattle.layout.specs.Widths.{input_wide}
use Rattle.model.specs.declared.Domain.{Domain}
use Rattle.model.specs.declared.Particle.{Particle}
use Rattle.model.specs.declared.refusal.StartError.TheVariants.{BoxOutOfRange, TooShort, BadGrain}
use Rattle.model.specs.Sizes.{box_ok, rated, grain_ok, first_bad}
use Rattle.model.specs.Start.{Begun, started_at, begin}
use Rattle.model.specs.Run.{refused}
use Rattle.model.specs.Check.{halt}
use Rattle.halting.proofs.Bools.{and_l, and_r, differ}
use Rattle.model.proofs.Halts.{run_halts, start_halts}
use Rattle.model.proofs.Exactly.{Exactly}
use Rattle.model.proofs.Allowed.{LowestBad, lowest_named}
use Rattle.tables.specs.Decode.{Tables, mark, decoded}
use Rattle.checks.specs.Check.{sized, standing, checked}
use Rattle.checks.proofs.Cut.{cut_long}
use Rattle.tables.specs.Inputs.{input_at, inputs_of}
use Rattle.starting.specs.Cleared.{sizes_for}
use Rattle.simulator.specs.Start.{fits, StartedWith, with, mark_told, started_over, start_all}
use Rattle.simulator.specs.Run.{by_check, run_tables}
use Rattle.simulator.proofs.StartLaws.{start_1, start-2, start-4, start_is, start_good, counts-ok, mark_number, mark_grain}

both : {A B C : Type 0} → Exactly A B → Exactly B C → Exactly A C
both e f = record { only = λ a. f.only (e.only a); so = λ c. e.so (f.so c) }

-- ---- 2, 3 and 10: a run
module _ (rate : Float) (b : ℕ) (t : Tables) where
  abbrev m : ℕ
  m = mark t.lists

  -- the check's number, by its tests
  pub check_case : (P : ℕ → Type 0) → (sized t ≡ false → P 2) → (sized t ≡ true → halt m ≡ true → P m) → (sized t ≡ true → halt m ≡ false → rated rate ≡ false → P 3)
      → (sized t ≡ true → halt m ≡ false → rated rate ≡ true → standing t ≡ false → P 10) → P 0 → P (checked rate t)
  unfolding checked
  check_case P two at three ten none = by (sized t) refl (halt m) refl (rated rate) refl (standing t) refl
    where
      by : (x : Bool) → sized t ≡ x → (y : Bool) → halt m ≡ y → (z : Bool) → rated rate ≡ z → (w : Bool) → standing t ≡ w → P (cond x (cond y m (cond z (cond w 0 10) 3)) 2)
      by true e true f z g w h = at e f
      by true e false f true g true h = none
      by true e false f true g false h = ten e f g h
      by true e false f false g w h = three e f g
      by false e y f z g w h = two e

  pub halt_most : halt m ≡ true → (5 ≤ m) × (m ≤ 9)
  halt_most e = (leb-true _ _ (and_l (leb 5 m) (leb m 9) e), leb-true _ _ (and_r (leb 5 m) (leb m 9) e))

  -- a run refuses by its check's number, or halts by 5 to 9
  by_check_lem : (k r : ℕ) → 0 < r → (5 ≤ r → r ≤ 9 → ⊥) → Exactly ((by_check k rate b t).how ≡ refused r) (k ≡ r)
  by_check_lem zero r p n = record {
    only = λ e. let h = run_halts rate b (decoded t) r e in absurd (n h.five h.nine);
    so = λ e. absurd (omega (arith, e, p));
  }
  by_check_lem (suc k) r p n = record { only = λ e. cc; so = λ e. ap refused e }

  run_by : (r : ℕ) → 0 < r → (5 ≤ r → r ≤ 9 → ⊥) → Exactly ((run_tables rate b t).how ≡ refused r) (checked rate t ≡ r)
  unfolding run_tables
  run_by r p n = by_check_lem (checked rate t) r p n

  pub run_gives_2 : Exactly ((run_tables rate b t).how ≡ refused 2) (sized t ≡ false)
  run_gives_2 = both (run_by 2 (omega arith) (λ h k. omega (arith, h))) (record {
    only = check_case (λ k. k ≡ 2 → sized t ≡ false) (λ z e. z) (λ z h e. let a = halt_most h in absurd (omega (arith, a.0, e))) (λ z h r e. absurd (omega (arith, e))) (λ z h r s e. absurd (omega (arith, e))) (λ e. absurd (omega (arith, e)));
    so = λ z. unfold checked in rw z;
  })

  pub run_gives_3 : Exactly ((run_tables rate b t).how ≡ refused 3) ((sized t ≡ true) × (halt (mark t.lists) ≡ false) × (rated rate ≡ false))
  run_gives_3 = both (run_by 3 (omega arith) (λ h k. omega (arith, h))) (record {
    only = check_case (λ k. k ≡ 3 → (sized t ≡ true) × (halt m ≡ false) × (rated rate ≡ false))
        (λ z e. absurd (omega (arith, e))) (λ z h e. let a = halt_most h in absurd (omega (arith, a.0, e))) (λ z h r e. (z, h, r)) (λ z h r s e. absurd (omega (arith, e))) (λ e. absurd (omega (arith, e)));
    so = λ z. unfold checked in rw (z.0, z.1, z.2);
  })

  pub run_gives_10 : Exactly ((run_tables rate b t).how ≡ refused 10) ((sized t ≡ true) × (halt (mark t.lists) ≡ false) × (rated rate ≡ true) × (standing t ≡ false))
  run_gives_10 = both (run_by 10 (omega arith) (λ h k. omega (arith, k))) (record {
    only = check_case (λ k. k ≡ 10 → (sized t ≡ true) × (halt m ≡ false) × (rated rate ≡ true) × (standing t ≡ false))
        (λ z e. absurd (omega (arith, e))) (λ z h e. let a = halt_most h in absurd (omega (arith, a.1, e))) (λ z h r e. absurd (omega (arith, e))) (λ z h r s e. (z, h, r, s)) (λ e. absurd (omega (arith, e)));
    so = λ z. unfold checked in rw (z.0, z.1, z.2, z.3);
  })

-- ---- 1, 2 and 4: a start
bad_most : (b : Domain) (ps : List Particle) → first_bad b ps ≤ length ps
unfolding first_bad
bad_most b [] = omega arith
bad_most b (p ∷ ps) = by (grain_ok b p) (bad_most b ps)
  where
    by : (x : Bool) → first_bad b ps ≤ length ps → cond x (suc (first_bad b ps)) 0 ≤ suc (length ps)
    by true h = omega (arith, h)
    by false h = omega arith

module _ (b : Domain) (n room : ℕ) (inputs : List Float) (t : Tables) where
  abbrev gs : List Particle
  gs = inputs_of n inputs

  abbrev fit : Bool
  fit = fits (sizes_for b n room) (length inputs) (length t.lists) (length t.grains) (length t.queue) (length t.events) (length t.order)

  abbrev number : ℕ
  number = (start_all b n room inputs t).number

  many : length (inputs_of n inputs) ≡ n
  many = cut_long input_at input_wide n inputs

  -- a start that was not refused gives 0 or a halt's number, so not 1 to 4
  pub begin_halts : box_ok b ≡ true → fit ≡ true → first_bad b (inputs_of n inputs) ≡ n → ((begin b room (inputs_of n inputs)).num ≡ 0 → ⊥) → (5 ≤ (begin b room (inputs_of n inputs)).num) × ((begin b room (inputs_of n inputs)).num ≤ 9)
  begin_halts box f g z =
      let h = start_halts b room gs _ (start_good b room gs box (counts-ok b n room inputs t box f) (g ∙ sym many)) z in
      (h.five, h.nine)

  begin_not : (r : ℕ) → 0 < r → r < 5 → box_ok b ≡ true → fit ≡ true → first_bad b (inputs_of n inputs) ≡ n → (begin b room (inputs_of n inputs)).num ≡ r → ⊥
  begin_not r p q box f g e =
      let a = (begin_halts box f g (λ z. omega (arith, z, e, p))).0 in
      omega (arith, a, e, q)

  -- a fact of each outcome, by its tests, is a fact of the start
  pub start_case : (P : StartedWith → Type 0) → (box_ok b ≡ false → P (with (Err BoxOutOfRange) t)) → (box_ok b ≡ true → fit ≡ false → P (with (Err TooShort) t))
      → (box_ok b ≡ true → fit ≡ true → (first_bad b (inputs_of n inputs) ≡ n → ⊥) → P (with (Err (BadGrain (first_bad b (inputs_of n inputs)))) t))
      → (box_ok b ≡ true → fit ≡ true → first_bad b (inputs_of n inputs) ≡ n → P (started_over (started_at (begin b room (inputs_of n inputs))) t)) → P (start_all b n room inputs t)
  start_case P one two four none = by (box_ok b) refl fit refl
    where
      by : (x : Bool) → box_ok b ≡ x → (y : Bool) → fit ≡ y → P (start_all b n room inputs t)
      by false e y f = subst P (start_1 b n room inputs t e) (one e)
      by true e false f = subst P (start-2 b n room inputs t e f) (two e f)
      by true e true f = elim (ℕ_discrete (first_bad b gs) n) [
        | yes g ↦ subst P (sym (start_is b n room inputs t e f ∙ ap (λ (o : Begun). started_over o t) (start_good b room gs e (counts-ok b n room inputs t e f) (g ∙ sym many)))) (none e f g)
        | no g ↦ subst P (start-4 b n room inputs t e f (first_bad b gs) refl g) (four e f g)
      ]

  pub start_gives_1 : Exactly (number ≡ 1) (box_ok b ≡ false)
  start_gives_1 = record {
    only = start_case (λ w. w.number ≡ 1 → box_ok b ≡ false) (λ e h. e) (λ e f h. absurd (omega (arith, h))) (λ e f g h. absurd (omega (arith, h))) (λ e f g h. absurd (begin_not 1 (omega arith) (omega arith) e f g h));
    so = λ e. start_case (λ w. w.number ≡ 1) (λ x. refl) (λ x f. differ x e) (λ x f g. differ x e) (λ x f g. differ x e);
  }

  pub start_gives_2 : Exactly (number ≡ 2) ((box_ok b ≡ true) × (fit ≡ false))
  start_gives_2 = record {
    only = start_case (λ w. w.number ≡ 2 → (box_ok b ≡ true) × (fit ≡ false)) (λ e h. absurd (omega (arith, h))) (λ e f h. (e, f)) (λ e f g h. absurd (omega (arith, h)))
        (λ e f g h. absurd (begin_not 2 (omega arith) (omega arith) e f g h));
    so = λ e. start_case (λ w. w.number ≡ 2) (λ x. differ e.0 x) (λ x f. refl) (λ x f g. differ f e.1) (λ x f g. differ f e.1);
  }

  -- the grain that the tests find is the lowest that is out of range
  lowest_is : (g : ℕ) → Exactly ((first_bad b (inputs_of n inputs) ≡ g) × (g < n)) ((g < n) × LowestBad b (inputs_of n inputs) g)
  lowest_is g = subst (λ (k : ℕ). Exactly ((first_bad b gs ≡ g) × (g < k)) ((g < k) × LowestBad b gs g)) many (lowest_named b gs g)

  found : (first_bad b (inputs_of n inputs) ≡ n → ⊥) → (first_bad b (inputs_of n inputs) < n) × LowestBad b (inputs_of n inputs) (first_bad b (inputs_of n inputs))
  found q = (lowest_is (first_bad b gs)).only (refl, elim (eq-or-lt_of_le (subst (λ (k : ℕ). first_bad b gs ≤ k) many (bad_most b gs))) [ inl e ↦ absurd (q e) | inr h ↦ h ])

  none_found : {A : Type 0} (g : ℕ) → (g < n) × LowestBad b (inputs_of n inputs) g → first_bad b (inputs_of n inputs) ≡ n → A
  none_found g h e = let w = (lowest_is g).so h in absurd (let d = w.0 in let l = w.1 in omega (arith, d, l, e))

  pub start_gives_4 : Exactly (number ≡ 4) ((box_ok b ≡ true) × (fit ≡ true) × ((g : ℕ) × (g < n) × LowestBad b (inputs_of n inputs) g))
  start_gives_4 = record {
    only = start_case (λ w. w.number ≡ 4 → (box_ok b ≡ true) × (fit ≡ true) × ((g : ℕ) × (g < n) × LowestBad b gs g)) (λ e h. absurd (omega (arith, h))) (λ e f h. absurd (omega (arith, h)))
        (λ e f q h. let w = found q in (e, f, (first_bad b gs, w.0, w.1))) (λ e f g h. absurd (begin_not 4 (omega arith) (omega arith) e f g h));
    so = λ e. start_case (λ w. w.number ≡ 4) (λ x. differ e.0 x) (λ x f. differ e.1 f) (λ x f q. refl) (λ x f q. none_found e.2.0 (e.2.1, e.2.2) q);
  }

  -- and that grain is named
  not_named : (m g : ℕ) → mark_told m ≡ Err (BadGrain g) → ⊥
  not_named zero g e = cc
  not_named (suc m) g e = cc

  pub start_names : (g : ℕ) → Exactly ((start_all b n room inputs t).answer ≡ Err (BadGrain g)) ((box_ok b ≡ true) × (fit ≡ true) × (g < n) × LowestBad b (inputs_of n inputs) g)
  start_names g = record {
    only = start_case (λ w. w.answer ≡ Err (BadGrain g) → (box_ok b ≡ true) × (fit ≡ true) × (g < n) × LowestBad b gs g)
        (λ e h. cc) (λ e f h. cc)
        (λ e f q h. let is : first_bad b gs ≡ g = cc in let w = subst (λ (k : ℕ). (k < n) × LowestBad b gs k) is (found q) in (e, f, w.0, w.1)) (λ e f q h. absurd (not_named (begin b room gs).num g h));
    so = λ e. start_case (λ w. w.answer ≡ Err (BadGrain g)) (λ x. differ e.0 x) (λ x f. differ e.1 f) (λ x f q. ap (λ (k : ℕ). Err (BadGrain k)) ((lowest_is g).so (e.2, e.3)).0) (λ x f q. none_found g (e.2, e.3) q);
  }

  -- the answer tells the number and the grain
  pub answer_tells : with (start_all b n room inputs t).answer (start_all b n room inputs t).after ≡ start_all b n room inputs t
  answer_tells = start_case (λ w. with w.answer w.after ≡ w) (λ e. refl) (λ e f. refl) (λ e f q. refl)
      (λ e f q. let o = begin b room gs in λ i. record { number = mark_number o.num (begin_halts e f q) i; grain = mark_grain o.num i; answer = mark_told o.num; after = (started_over (started_at o) t).after })
