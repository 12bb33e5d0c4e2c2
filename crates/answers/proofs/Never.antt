-- WHAT A TEXT OF THE FORM IS ANSWERED: too large, spent, a listing, or refused by 1, 3, 4 or 5 to 9; never by 2 or 10 (`answers_are`). Assumes nothing.
use Prim.Native.Nat.{ℕ, zero, suc, ◌≤◌}
use mathlib.Core.Path.{◌≡◌, refl, sym, ap, ◌∙◌, subst}
use mathlib.Core.Logic.{◌⊎◌, inl, inr}
use mathlib.Core.List.{List, [], map}
use mathlib.Core.Bool.{Bool, true, false, ◌||◌, cond}
use native.Mathlib.Omega.{arith}
use lib.Dec.{T, eqb, ltb}
use lib.ListN.{length, length-map}
use lib.Ieee.{Float, binary64, to_bits}
use lib.Ieee.Bits.{of_bits-fits}
use borrow.Author.Tests.{le-leb, ltb-false}
use Rattle.model.specs.declared.Domain.{Domain}
use Rattle.model.specs.declared.Particle.{Particle}
use Rattle.model.specs.Sizes.{box_ok, counts_ok, first_bad, rated}
use Rattle.model.specs.State.{State}
use Rattle.model.proofs.Sound.{Stands}
use Rattle.model.specs.Start.{Begun, refused, started, start}
use Rattle.model.specs.Start as begin
use Rattle.model.specs.Run.{How, synchronised, spent, refused as refused_by, Ran, run_from}
use Rattle.model.specs.Check.{Fits, halt, run_all}
use Rattle.model.specs.Reached.{after}
use Rattle.model.proofs.Reached.{Well, reached_well}
use Rattle.model.proofs.Runs.{run_stands}
use Rattle.model.proofs.Whole.{runs, sound_sized, rated_later}
use Rattle.model.proofs.Refusals.{run_refused_3}
use Rattle.model.proofs.Halts.{run_halts, start_halts}
use Rattle.listing_text.specs.declared.writer.Answer.TheVariants.{TooLarge, Refused, Spent}
use Rattle.listing_text.specs.Columns.{most_kept}
use Rattle.listing_text.specs.Grammar.{Input}
use Rattle.listing_text.specs.Answers.{listing_of, answer_of}
use Rattle.listing_text.specs.Size.{long_length}
use Rattle.answers.specs.Answer.{float, box_from, grain_from, shown_grain, room, budget, by_how, listing, to_next, unless_halted, after_start, answer_to}

abbrev Given : ℕ → Type 0
Given k = (k ≡ 1) ⊎ ((k ≡ 3) ⊎ ((k ≡ 4) ⊎ ((5 ≤ k) × (k ≤ 9))))

-- one of the answers, and for which number
pub data Reply (a : List ℕ) : Type 0 where
  large : a ≡ answer_of TooLarge → Reply a
  ends : a ≡ answer_of Spent → Reply a
  refuses : (k : ℕ) → Given k → a ≡ answer_of (Refused k) → Reply a
  lists : (t : Float) (ps : List Particle) → a ≡ listing_of (to_bits binary64 t) (map shown_grain ps) → Reply a

refused_same : (j k : ℕ) → refused_by j ≡ refused_by k → j ≡ k
refused_same j k e = ap number_of e
  where
    number_of : How → ℕ
    number_of synchronised = 0
    number_of spent = 0
    number_of (refused_by r) = r

apart : (r : ℕ) → refused_by r ≡ synchronised → ⊥
apart r e = let z : ◌≡◌ {A = ℕ} 0 1 = cc in omega arith

-- ---- a run on a state that stands
module _ (rate : Float) (s : State) (st : Stands s) where
  free : halt s.mark ≡ false
  free = ap halt st.free

  run_number_lem : (r : ℕ) → (run_all rate budget s).how ≡ refused_by r → Given r
  run_number_lem r = by (rated rate) refl
    where
      by : (x : Bool) → rated rate ≡ x → (run_all rate budget s).how ≡ refused_by r → Given r
      by true R e = let h = run_halts rate budget s r (sym (ap (λ (x : Ran). x.how) (runs rate budget s R st)) ∙ e) in inr (inr (inr (h.five, h.nine)))
      by false R e = inr (inl (sym (refused_same 3 r (sym (ap (λ (x : Ran). x.how) (run_refused_3 rate budget s (sound_sized s st.sound) free R)) ∙ e))))

  -- where it synchronised, all stands after it
  next_stands : (run_all rate budget s).how ≡ synchronised → Stands (run_all rate budget s).state
  next_stands = by (rated rate) refl
    where
      by : (x : Bool) → rated rate ≡ x → (run_all rate budget s).how ≡ synchronised → Stands (run_all rate budget s).state
      by true R e =
          let q = runs rate budget s R st in
          let h : (run_from rate budget 0 s).how ≡ synchronised = sym (ap (λ (x : Ran). x.how) q) ∙ e in
          subst (λ (x : Ran). Stands x.state) (sym q) (rw h at (run_stands rate (rated_later rate R) budget 0 s st))
      by false R e = absurd (apart 3 (sym (ap (λ (x : Ran). x.how) (run_refused_3 rate budget s (sound_sized s st.sound) free R)) ∙ e))

  listed_reply : Reply (listing (run_all rate budget s))
  listed_reply = by (run_all rate budget s).how refl
    where
      by : (h : How) → (run_all rate budget s).how ≡ h → Reply (by_how h (listing_of (to_bits binary64 (run_all rate budget s).clock) (map shown_grain (run_all rate budget s).state.grains)))
      by synchronised e = lists (run_all rate budget s).clock (run_all rate budget s).state.grains refl
      by spent e = ends refl
      by (refused_by r) e = refuses r (run_number_lem r e) refl

next_reply : (rate : Float) (s : State) → Stands s → Reply (to_next rate (run_all rate budget s))
next_reply rate s st = by (run_all rate budget s).how refl
  where
    by : (h : How) → (run_all rate budget s).how ≡ h → Reply (by_how h (listing (run_all rate budget (run_all rate budget s).state)))
    by synchronised e = listed_reply rate (run_all rate budget s).state (next_stands rate s st e)
    by spent e = ends refl
    by (refused_by r) e = refuses r (run_number_lem rate s st r e) refl

-- ---- a start
begun_same : (r g k h : ℕ) → refused r g ≡ refused k h → r ≡ k
begun_same r g k h e = ap number_of e
  where
    number_of : Begun → ℕ
    number_of (refused n m) = n
    number_of (started s) = 0

module _ (b : Domain) (F : Fits b) (gs : List Particle) (few : length gs ≤ most_kept) (rate : Float) where
  counts : counts_ok room (length gs) ≡ true
  counts = rw (le-leb (length gs) 256 (omega (arith, few)))

  start_number_lem : (r g : ℕ) → start b room gs ≡ refused r g → Given r
  unfolding start
  start_number_lem r g = by (box_ok b) (counts_ok room (length gs)) counts (eqb (first_bad b gs) (length gs))
    where
      by : (x y : Bool) → y ≡ true → (z : Bool) → cond x (cond y (cond z (begin.started_at (begin.begin b room gs)) (refused 4 (first_bad b gs))) (refused 2 0)) (refused 1 0) ≡ refused r g → Given r
      by true true q true e = absurd (let z : ◌≡◌ {A = ℕ} 0 1 = cc in omega arith)
      by true true q false e = inr (inr (inl (sym (begun_same 4 (first_bad b gs) r g e))))
      by true false q z e = absurd (subst T (sym q) tt)
      by false y q z e = inl (sym (begun_same 1 0 r g e))

  started_reply : (x : Begun) → start b room gs ≡ x → Reply (after_start rate x)
  started_reply (refused r g) e = refuses r (start_number_lem r g e) refl
  started_reply (started s) e = by s.mark refl
    where
      well : Well s
      well = reached_well s (record { box = b; fits = F; room = room; grains = gs; begun = s; accepted = e; calls = []; there = unfold after in refl })

      by : (m : ℕ) → s.mark ≡ m → Reply (unless_halted m (to_next rate (run_all rate budget s)))
      by zero h = next_reply rate s (well.stands h)
      by (suc r) h =
          let q = start_halts b room gs s e (λ z. let w = sym h ∙ z in omega (arith, w)) in
          let f = q.five in
          let n = q.nine in
          refuses (suc r) (inr (inr (inr (omega (arith, f, h), omega (arith, n, h))))) refl

pub answers_are : (i : Input) → Reply (answer_to i)
unfolding answer_to
answers_are i = by (ltb most_kept (length i.grains)) refl (long_length (float i.l0) || long_length (float i.l1))
  where
    by : (x : Bool) → ltb most_kept (length i.grains) ≡ x → (y : Bool) → Reply (cond (x || y) (answer_of TooLarge) (after_start (float i.rate) (start (box_from i) room (map grain_from i.grains))))
    by true e y = large refl
    by false e true = large refl
    by false e false =
        let m = length-map i.grains grain_from in
        let f = ltb-false most_kept (length i.grains) e in
        started_reply (box_from i) (record { first = of_bits-fits binary64 i.l0; second = of_bits-fits binary64 i.l1 }) (map grain_from i.grains) (omega (arith, m, f)) (float i.rate) (start (box_from i) room (map grain_from i.grains)) refl
