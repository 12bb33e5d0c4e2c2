-- What a start's answers say, over the definition that its contract cites. Assumes nothing.
use Prim.Native.Nat.{ℕ, zero, suc, ◌*◌, ◌≤◌}
use mathlib.Core.Path.{◌≡◌, refl, sym, ap, ◌∙◌, subst}
use mathlib.Core.Bool.{Bool, true, false, cond}
use mathlib.Core.List.{List}
use native.Mathlib.Nat.{suc-ne-zero}
use native.Mathlib.Omega.{arith}
use lib.Dec.{eqb}
use lib.ListN.{length}
use lib.Ieee.{Float}
use Rattle.std.specs.Prelude.{Ok, Err}
use Rattle.layout.specs.Widths.{input_wide}
use Rattle.model.specs.declared.Domain.{Domain}
use Rattle.model.specs.declared.refusal.Halt.{Halt}
use Rattle.model.specs.declared.refusal.StartError.TheVariants.{BoxOutOfRange, TooShort, BadGrain, Halted}
use Rattle.model.specs.Refusals.{halt_number}
use Rattle.model.specs.Sizes.{box_ok}
use Rattle.model.specs.State.{State}
use Rattle.model.specs.Start.{Begun, refused, started, start}
use Rattle.model.proofs.Halts.{start_halts}
use Rattle.model.proofs.Never.{no_8_or_9_at_start}
use Rattle.tables.specs.declared.Sizes.{Sizes}
use Rattle.tables.specs.Decode.{Tables}
use Rattle.checks.proofs.Needs.{allowed}
use Rattle.tables.specs.Inputs.{inputs_of}
use Rattle.starting.specs.Cleared.{sizes_for}
use Rattle.simulator.specs.Start.{Started, fits, StartedWith, with, halt_of, mark_told, started_over, start_all, StartPromise}
use Rattle.simulator.proofs.StartLaws.{number_back}

-- a fact of each refusal that leaves the tables before the model's start, and of all that the model's start answers, is a fact of every start
every_start : (P : StartedWith → Type 0) (b : Domain) (n room : ℕ) (inputs : List Float) (t : Tables) → P (with (Err BoxOutOfRange) t) → P (with (Err TooShort) t)
    → ((x : Begun) → start b room (inputs_of n inputs) ≡ x → P (started_over x t)) → P (start_all b n room inputs t)
unfolding start_all
every_start P b n room inputs t one two g =
    go (box_ok b) (fits (sizes_for b n room) (length inputs) (length t.lists) (length t.grains) (length t.queue) (length t.events) (length t.order))
  where
    go : (x y : Bool) → P (cond x (cond y (started_over (start b room (inputs_of n inputs)) t) (with (Err TooShort) t)) (with (Err BoxOutOfRange) t))
    go true true = g (start b room (inputs_of n inputs)) refl
    go true false = two
    go false y = one

-- refused, and the tables are as they were
abbrev Refusing : Started → Type 0
Refusing (Ok a) = ⊥
Refusing (Err (Halted h)) = ⊥
Refusing (Err BoxOutOfRange) = Unit {0}
Refusing (Err TooShort) = Unit {0}
Refusing (Err (BadGrain g)) = Unit {0}

by_mark : (m : ℕ) → Refusing (mark_told m) → ⊥
by_mark zero h = h
by_mark (suc m) h = h

pub refused_keeps : (b : Domain) (n room : ℕ) (inputs : List Float) (t : Tables) → Refusing (start_all b n room inputs t).answer → (start_all b n room inputs t).after ≡ t
refused_keeps b n room inputs t = every_start (λ (w : StartedWith). Refusing w.answer → w.after ≡ t) b n room inputs t (λ h. refl) (λ h. refl) go
  where
    go : (x : Begun) → start b room (inputs_of n inputs) ≡ x → Refusing (started_over x t).answer → (started_over x t).after ≡ t
    go (refused r g) e h = refl
    go (started s) e h = absurd (by_mark s.mark h)

-- a start that halts leaves the halt's number as the mark
halted_mark : (m : ℕ) (h : Halt) → ((m ≡ 0 → ⊥) → (5 ≤ m) × (m ≤ 9)) → mark_told m ≡ Err (Halted h) → (m ≡ halt_number h) × (m ≡ 0 → ⊥)
halted_mark zero h k e = cc
halted_mark (suc m) h k e =
    let r = k (suc-ne-zero m) in
    let is : halt_of (suc m) ≡ h = cc in
    (sym (number_back (suc m) r.0 r.1) ∙ ap halt_number is, suc-ne-zero m)

not_halted : (b c : Bool) (g : ℕ) (h : Halt) → ◌≡◌ {A = Started} (Err (cond b (BadGrain g) (cond c BoxOutOfRange TooShort))) (Err (Halted h)) → ⊥
not_halted true c g h e = cc
not_halted false true g h e = cc
not_halted false false g h e = cc

pub halted_start : (b : Domain) (n room : ℕ) (inputs : List Float) (t : Tables) (h : Halt) → (start_all b n room inputs t).answer ≡ Err (Halted h)
    → (s : State) → start b room (inputs_of n inputs) ≡ started s → (s.mark ≡ halt_number h) × (s.mark ≡ 0 → ⊥)
halted_start b n room inputs t h =
    every_start (λ (w : StartedWith). w.answer ≡ Err (Halted h) → (s : State) → start b room (inputs_of n inputs) ≡ started s → (s.mark ≡ halt_number h) × (s.mark ≡ 0 → ⊥)) b n room inputs t
    (λ e. cc) (λ e. cc) go
  where
    go : (x : Begun) → start b room (inputs_of n inputs) ≡ x → (started_over x t).answer ≡ Err (Halted h) → (s : State) → start b room (inputs_of n inputs) ≡ started s → (s.mark ≡ halt_number h) × (s.mark ≡ 0 → ⊥)
    go (refused k g) e a s f = absurd (not_halted (eqb k 4) (eqb k 1) g h a)
    go (started u) e a s f =
        let q : u ≡ s = cc in
        subst (λ (x : State). (x.mark ≡ halt_number h) × (x.mark ≡ 0 → ⊥)) q (halted_mark u.mark h (λ z. let w = start_halts b room (inputs_of n inputs) u e z in (w.five, w.nine)) a)

-- and by neither 8 nor 9
pub halts_fairly : (b : Domain) (n room : ℕ) (inputs : List Float) (t : Tables) (h : Halt) (u : Tables) → StartPromise b n room inputs t (Err (Halted h)) u
    → (halt_number h ≡ 8 → ⊥) × (halt_number h ≡ 9 → ⊥)
halts_fairly b n room inputs t h u p =
    every_start (λ (w : StartedWith). w.answer ≡ Err (Halted h) → (halt_number h ≡ 8 → ⊥) × (halt_number h ≡ 9 → ⊥)) b n room inputs t
    (λ e. cc) (λ e. cc) go (ap (λ (w : StartedWith). w.answer) (sym p.is))
  where
    go : (x : Begun) → start b room (inputs_of n inputs) ≡ x → (started_over x t).answer ≡ Err (Halted h) → (halt_number h ≡ 8 → ⊥) × (halt_number h ≡ 9 → ⊥)
    go (refused k g) e a = absurd (not_halted (eqb k 4) (eqb k 1) g h a)
    go (started s) e a =
        let m = (halted_start b n room inputs t h (ap (λ (w : StartedWith). w.answer) (sym p.is)) s e).0 in
        let never = no_8_or_9_at_start b room (inputs_of n inputs) s p.box_fits e in
        (λ q. never.0 (m ∙ q), λ q. never.1 (m ∙ q))

-- ONLY ONE OUTCOME FITS what a start promises: the answer, and every table afterwards
pub one_start : (b : Domain) (n room : ℕ) (inputs : List Float) (t : Tables) (r q : Started) (a c : Tables) → with r a ≡ start_all b n room inputs t → with q c ≡ start_all b n room inputs t
    → (r ≡ q) × (a ≡ c)
one_start b n room inputs t r q a c e f = (ap (λ (w : StartedWith). w.answer) (e ∙ sym f), ap (λ (w : StartedWith). w.after) (e ∙ sym f))

-- the table of start numbers is within 01's bound, as the five are (checks, Needs)
pub inputs_most : (z : Sizes) → z.grains * input_wide ≤ allowed z
inputs_most z = omega arith
