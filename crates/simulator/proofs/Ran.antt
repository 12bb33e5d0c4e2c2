-- THE PUBLIC RUN IS THE MODEL'S: on tables that pass check 2 and are legible it answers as the model's run of the state that they are read as, and leaves tables
-- that hold the state which that leaves; on tables that hold a sound state it is that run. Only one outcome fits. Assumes nothing.
use Prim.Native.Nat.{ℕ, zero, suc}
use mathlib.Core.Path.{◌≡◌, refl, sym, ap, ◌∙◌, subst}
use mathlib.Core.Bool.{Bool, true, false, ◌&&◌, cond}
use lib.Dec.{eqb}
use lib.Ieee.{Float}
use Rattle.std.specs.Prelude.{Result, Ok, Err}
use Rattle.layout.specs.Widths.{grain_wide}
use Rattle.model.specs.Grid.{cells}
use Rattle.model.specs.Sizes.{rated}
use Rattle.model.specs.State.{State}
use Rattle.model.proofs.Sound.{Sound, Stands}
use Rattle.model.specs.Run.{How, synchronised, spent, refused, Ran, run_from}
use Rattle.model.specs.Check.{halt, refusal, run_all}
use Rattle.model.specs.Check as model
use Rattle.halting.proofs.Bools.{clash}
use Rattle.model.proofs.Stands.{sound_fitted}
use Rattle.model.proofs.Reflect.{says_stands}
use Rattle.model.proofs.Whole.{sound_sized}
use Rattle.model.proofs.Reached.{run_well}
use Rattle.tables.specs.declared.Sizes.{Sizes}
use Rattle.tables.specs.Decode.{Tables, mark, grain_at, decoded, sizes_of, grains_part}
use Rattle.checks.specs.Check.{sized, checked, legible, standing}
use Rattle.checks.proofs.Cut.{cut_long}
use Rattle.tables.specs.Encode.{sizes_in, encoded}
use Rattle.running.specs.Ran.{RanTables, beside, told_tables, ran_over as over-found}
use Rattle.simulator.specs.Run.{by_check, run_tables, RunPromise}
use Rattle.simulator.proofs.Kept.{Kept, run_kept}
use Rattle.simulator.proofs.Encoded.{Long, decoded-encoded, encoded-mark, encoded-standing, encoded-sized, encoded_again}
use Rattle.model.specs.declared.Report.{Report}
use Rattle.model.specs.declared.End.{End}
use Rattle.model.specs.declared.End.TheVariants.{Synchronised, Spent}
use Rattle.model.specs.declared.refusal.Halt.TheVariants.{NotFinite, QueueFull, ListFull, AlreadyListed, OnlyCell}
use Rattle.model.specs.declared.refusal.RunError.{RunError}
use Rattle.model.specs.declared.refusal.RunError.TheVariants.{TooShort, Halted, RateOutOfRange, Broken}
use Rattle.model.specs.Reports.{how_of}
use Rattle.simulator.specs.Start.{halt_of}
use Rattle.checks.proofs.Stages.{sized_means}
use Rattle.checks.proofs.Accepts.{fitted, sized_model}

-- ---- 1. tables that the mark of an earlier halt refuses: its number and zeros, nothing changed, whatever they hold
by_halt : (k : ℕ) (rate : Float) (b : ℕ) (t : Tables) → halt k ≡ true → by_check k rate b t ≡ beside (refusal k (decoded t)) t
by_halt zero rate b t h = clash h
by_halt (suc k) rate b t h = refl

pub halted_tables : (rate : Float) (b : ℕ) (t : Tables) → sized t ≡ true → halt (mark t.lists) ≡ true → run_tables rate b t ≡ beside (refusal (mark t.lists) (decoded t)) t
unfolding run_tables checked
halted_tables rate b t z h =
    let e : checked rate t ≡ mark t.lists = rw (z, h) in
    ap (λ (k : ℕ). by_check k rate b t) e ∙ by_halt (mark t.lists) rate b t h

-- states that a run leads to have the sizes of the one that it found
pub sizes_same : (s u : State) → Sound s → Sound u → Kept s u → sizes_in u ≡ sizes_in s
sizes_same s u K L k = λ i. record { grains = k.few i; cells = (L.heap.cells ∙ ap cells k.box ∙ sym K.heap.cells) i; room = k.room i }

-- ---- 2. any tables that pass check 2 and are legible
module _ (rate : Float) (b : ℕ) (t : Tables) (S : sized t ≡ true) (L : legible t ≡ true) where
  abbrev d : State
  d = decoded t

  standing_same : standing t ≡ model.standing (decoded t)
  unfolding standing
  standing_same = ap (λ (x : Bool). x && model.standing d) L

  check_is : checked rate t ≡ cond (halt (mark t.lists)) (mark t.lists) (cond (rated rate) (cond (model.standing (decoded t)) 0 10) 3)
  unfolding checked
  check_is = rw (S, standing_same)

  run_in : run_all rate b (decoded t) ≡ cond (halt (mark t.lists)) (refusal (mark t.lists) (decoded t)) (cond (rated rate) (cond (model.standing (decoded t)) (run_from rate b 0 (decoded t)) (refusal 10 (decoded t))) (refusal 3 (decoded t)))
  unfolding run_all
  run_in = rw (sized_model t S)

  -- what holds of each answer, beside the model's, holds of the run's
  both_case : (P : RanTables → Ran → Type 0) → ((k : ℕ) → P (beside (refusal k (decoded t)) t) (refusal k (decoded t)))
      → (rated rate ≡ true → model.standing (decoded t) ≡ true → P (over-found (run_from rate b 0 (decoded t)) t) (run_from rate b 0 (decoded t))) → P (run_tables rate b t) (run_all rate b (decoded t))
  unfolding run_tables
  both_case P stops does = subst (λ (k : ℕ). P (by_check k rate b t) (run_all rate b d)) (sym check_is) (subst (P (by_check (cond (halt m) m (cond (rated rate) (cond (model.standing d) 0 10) 3)) rate b t)) (sym run_in)
      (by (halt m) refl (rated rate) refl (model.standing d) refl))
    where
      m : ℕ
      m = mark t.lists

      by : (h : Bool) → halt m ≡ h → (r : Bool) → rated rate ≡ r → (s : Bool) → model.standing (decoded t) ≡ s
          → P (by_check (cond h m (cond r (cond s 0 10) 3)) rate b t) (cond h (refusal m (decoded t)) (cond r (cond s (run_from rate b 0 (decoded t)) (refusal 10 (decoded t))) (refusal 3 (decoded t))))
      by true e r f s g = subst (λ (x : RanTables). P x (refusal m (decoded t))) (sym (by_halt m rate b t e)) (stops m)
      by false e true f true g = does f g
      by false e true f false g = stops 10
      by false e false f s g = stops 3

  -- the answer
  pub answers : beside (run_all rate b (decoded t)) (run_tables rate b t).after ≡ run_tables rate b t
  answers = both_case (λ x r. beside r x.after ≡ x) (λ k. refl) (λ R s. refl)

  -- the state that steps leave is sound, and the tables have places for it
  pub left_sound : rated rate ≡ true → Stands (decoded t) → Sound (run_from rate b 0 (decoded t)).state
  left_sound R st = (run_well rate R (decoded t) st b).sound

  pub left_long : rated rate ≡ true → Stands (decoded t) → Long (sizes_in (run_from rate b 0 (decoded t)).state) t
  left_long R st =
      let u = (run_from rate b 0 (decoded t)).state in
      let n : (sizes_in (decoded t)).grains ≡ (sizes_of t.lists).grains = cut_long grain_at grain_wide (sizes_of t.lists).grains (grains_part t.grains) in
      let z : sizes_in u ≡ sizes_of t.lists = sizes_same (decoded t) u st.sound (left_sound R st) (run_kept rate b 0 (decoded t)) ∙ (λ i. record { grains = n i; cells = (sizes_of t.lists).cells; room = (sizes_of t.lists).room }) in
      let F = sized_means t S in
      subst (λ (y : Sizes). Long y t) (sym z) (record { lists = F.lists_long; grains = F.grains_long; queue = F.queue_long; events = F.events_long; order = F.order_long })

  -- and the state that the tables hold afterwards
  pub leaves : (r : Report) (u : Tables) → RunPromise rate b t r u → decoded u ≡ (run_all rate b (decoded t)).state
  leaves r u p = ap (λ (x : RanTables). decoded x.after) p.is ∙ both_case (λ x r. decoded x.after ≡ r.state) (λ k. refl) (λ R s. held R s)
    where
      held : rated rate ≡ true → model.standing (decoded t) ≡ true → decoded (encoded (run_from rate b 0 (decoded t)).state t) ≡ (run_from rate b 0 (decoded t)).state
      held R s =
          let st = (says_stands (decoded t) (fitted t p.owned.floats)).means s in
          decoded-encoded (run_from rate b 0 (decoded t)).state (left_sound R st) t (left_long R st)

-- ---- 3. a run over tables that hold a sound state is the model's run of that state
module _ (s : State) (t : Tables) (K : Sound s) (F : Long (sizes_in s) t) (rate : Float) (b : ℕ) where
  checked_is : checked rate (encoded s t) ≡ cond (halt s.mark) s.mark (cond (rated rate) (cond (model.standing s) 0 10) 3)
  unfolding checked
  checked_is = rw (encoded-sized s K t F, encoded-mark s K t F, encoded-standing s K t F)

  model_is : run_all rate b s ≡ cond (halt s.mark) (refusal s.mark s) (cond (rated rate) (cond (model.standing s) (run_from rate b 0 s) (refusal 10 s)) (refusal 3 s))
  unfolding run_all
  model_is = rw (sound_sized s K)

  abbrev over-t : Ran → RanTables
  over-t r = beside r (encoded r.state t)

  goes : rated rate ≡ true → model.standing s ≡ true → beside (run_from rate b 0 (decoded (encoded s t))) (encoded (run_from rate b 0 (decoded (encoded s t))).state (encoded s t)) ≡ over-t (run_from rate b 0 s)
  goes R m =
      let u = (run_from rate b 0 s).state in
      let L : Sound u = (run_well rate R s ((says_stands s (sound_fitted s K)).means m) b).sound in
      ap (λ (x : State). beside (run_from rate b 0 x) (encoded (run_from rate b 0 x).state (encoded s t))) (decoded-encoded s K t F)
      ∙ ap (beside (run_from rate b 0 s)) (encoded_again s u t K L (sizes_same s u K L (run_kept rate b 0 s)))

  pub run_over : run_tables rate b (encoded s t) ≡ beside (run_all rate b s) (encoded (run_all rate b s).state t)
  unfolding run_tables
  run_over = ap (λ (k : ℕ). by_check k rate b (encoded s t)) checked_is ∙ by (halt s.mark) refl (rated rate) refl (model.standing s) refl ∙ sym (ap over-t model_is)
    where
      by : (h : Bool) → halt s.mark ≡ h → (r : Bool) → rated rate ≡ r → (m : Bool) → model.standing s ≡ m
          → by_check (cond h s.mark (cond r (cond m 0 10) 3)) rate b (encoded s t) ≡ over-t (cond h (refusal s.mark s) (cond r (cond m (run_from rate b 0 s) (refusal 10 s)) (refusal 3 s)))
      by true e r f m g = by_halt s.mark rate b (encoded s t) e
      by false e true f true g = goes f g
      by false e true f false g = refl
      by false e false f m g = refl

-- ---- 4. ONLY ONE OUTCOME FITS what a call promises: the report, and every table afterwards
-- the refusal by its number
abbrev pub error_of : ℕ → RunError
error_of r = cond (eqb r 2) TooShort (cond (eqb r 3) RateOutOfRange (cond (eqb r 10) Broken (Halted (halt_of r))))

-- how a report says that a run ended so
abbrev pub end_of : How → Result End RunError
end_of synchronised = Ok Synchronised
end_of spent = Ok Spent
end_of (refused r) = Err (error_of r)

end_back : (x : Result End RunError) → end_of (how_of x) ≡ x
end_back (Ok Synchronised) = refl
end_back (Ok Spent) = refl
end_back (Err TooShort) = refl
end_back (Err RateOutOfRange) = refl
end_back (Err Broken) = refl
end_back (Err (Halted NotFinite)) = refl
end_back (Err (Halted QueueFull)) = refl
end_back (Err (Halted ListFull)) = refl
end_back (Err (Halted AlreadyListed)) = refl
end_back (Err (Halted OnlyCell)) = refl

pub one_report : (r q : Report) (a b : Tables) → told_tables r a ≡ told_tables q b → r ≡ q
one_report r q a b e =
    let end : r.end ≡ q.end = sym (end_back r.end) ∙ ap (λ (x : RanTables). end_of x.how) e ∙ end_back q.end in
    λ i. record { end = end i; clock = (e i).clock; events = (e i).count }

pub one_outcome : (rate : Float) (b : ℕ) (t : Tables) (r q : Report) (a c : Tables) → told_tables r a ≡ run_tables rate b t → told_tables q c ≡ run_tables rate b t → (r ≡ q) × (a ≡ c)
one_outcome rate b t r q a c e f = (one_report r q a c (e ∙ sym f), ap (λ (x : RanTables). x.after) (e ∙ sym f))
