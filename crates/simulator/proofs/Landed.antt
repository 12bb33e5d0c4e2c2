-- DEMAND 3 AND THE HALTS OVER THE TABLES: on tables that hold a sound state the public run is the model's, so what is proved of reached states holds of
-- reached tables. Assumes nothing.
use Prim.Native.Nat.{ℕ, suc, ◌+◌, ◌*◌, ◌≤◌, ◌<◌}
use mathlib.Core.Path.{◌≡◌, refl, sym, ap, ◌∙◌, subst}
use mathlib.Core.Bool.{Bool, true, false, ◌&&◌, cond}
use mathlib.Core.List.{List, [], ◌∷◌, ◌++◌}
use mathlib.Core.Logic.{inl, inr}
use native.Mathlib.Omega.{arith}
use lib.Dec.{eqb, leb}
use lib.ListN.{length, get_or, length-replicate}
use lib.Ieee.{Float}
use Rattle.std.specs.Prelude.{Err}
use borrow.Author.Tests.{leb-true}
use Rattle.layout.specs.Widths.{input_wide, order_wide}
use Rattle.order.specs.Numbers.{fzero}
use Rattle.model.specs.declared.Domain.{Domain}
use Rattle.model.specs.declared.Particle.{Particle}
use Rattle.model.specs.declared.Report.{Report}
use Rattle.model.specs.declared.refusal.Halt.{Halt}
use Rattle.model.specs.declared.refusal.StartError.TheVariants.{BoxOutOfRange, TooShort, BadGrain, Halted}
use Rattle.model.specs.Refusals.{halt_number}
use Rattle.model.specs.Grid.{cells}
use Rattle.model.specs.Sizes.{box_ok, counts_ok, rated}
use Rattle.model.specs.State.{State, zero_g, grain}
use Rattle.model.proofs.Sound.{Sound, Stands}
use Rattle.model.specs.Run.{synchronised, spent, refused, Ran, run_from}
use Rattle.model.specs.Start.{Begun, started, start, clear, begin}
use Rattle.model.specs.Start as begun
use Rattle.model.specs.Check.{halt, refusal, run_all}
use Rattle.model.specs.Reached.{most, Call, after, Reached, StepOf, steps}
use Rattle.halting.proofs.Bools.{and_l, and_r}
use Rattle.model.proofs.Stands.{sound_fitted}
use Rattle.model.proofs.Reflect.{says_stands}
use Rattle.model.proofs.Whole.{runs}
use Rattle.model.proofs.Counts.{counts, state_at}
use Rattle.model.proofs.Reached.{Well, run_all_well, reached_well, counted_runs}
use Rattle.model.proofs.Demand3.{AfterStep, after_each_step, splits}
use Rattle.model.specs.Rows.{start_acts}
use Rattle.model.specs.History.{history}
use Rattle.model.proofs.Histories.{Said, reached_said, step_reached}
use Rattle.model.proofs.Radii.{radius_for_life, radius_given, begun_unhalted}
use Rattle.model.proofs.Performs.{begin_acted}
use Rattle.model.proofs.Halts.{HaltIn, start_halts_in_order, accepted, reached_marked}
use Rattle.tables.specs.declared.Sizes.{Sizes}
use Rattle.tables.specs.Decode.{Tables, mark, decoded}
use Rattle.checks.specs.Check.{sized, standing, checked}
use Rattle.tables.specs.Lengths.{lists_need, grains_need, queue_need, events_need, long}
use Rattle.checks.proofs.Cut.{cut_long}
use Rattle.tables.specs.Inputs.{input_at, inputs_of}
use Rattle.tables.specs.Encode.{sizes_in, encoded}
use Rattle.starting.specs.Cleared.{sizes_for, cleared}
use Rattle.simulator.specs.Start.{Started, fits, StartedWith, with, by_number, started_over, start_all, StartPromise}
use Rattle.running.specs.Ran.{RanTables, beside}
use Rattle.simulator.specs.Run.{run_tables, RunPromise}
use Rattle.simulator.specs.Reached.{Taken, after_calls, ReachedTables}
use Rattle.simulator.proofs.Answers.{halted_start}
use Rattle.simulator.proofs.Kept.{does_kept, all_kept}
use Rattle.simulator.proofs.Encoded.{Long, decoded-encoded, encoded-standing, encoded-sized}
use Rattle.simulator.proofs.Ran.{halted_tables, sizes_same, run_over}
use Rattle.simulator.proofs.Halted.{HaltsBy, halts_standing}

-- ---- 1. reached tables hold a reached state
pub record Reaches (t : Tables) : Type 0 where
  pub state : State
  pub reached : Reached state
  pub ground : Tables
  pub long : Long (sizes_in state) ground
  pub is : t ≡ encoded state ground

-- what a start leaves
pub record Begins (b : Domain) (n room : ℕ) (inputs : List Float) (t u : Tables) : Type 0 where
  pub state : State
  pub accepted : start b room (inputs_of n inputs) ≡ started state
  pub fits_in : long (sizes_for b n room) (length t.lists) (length t.grains) (length t.queue) (length t.events) (length t.order) ≡ true
  pub is : u ≡ encoded state (cleared t)

not_taken : (r g : ℕ) → Taken (by_number r g) → ⊥
not_taken r g x = by (eqb r 4) (eqb r 1) x
  where
    by : (b c : Bool) → Taken (Err (cond b (BadGrain g) (cond c BoxOutOfRange TooShort))) → ⊥
    by true c x = x
    by false true x = x
    by false false x = x

begins : (b : Domain) (n room : ℕ) (inputs : List Float) (t : Tables) → Taken (start_all b n room inputs t).answer → Begins b n room inputs t (start_all b n room inputs t).after
unfolding start_all fits
begins b n room inputs t = by (box_ok b) (counts_ok room n) (leb (n * input_wide) (length inputs)) (long (sizes_for b n room) (length t.lists) (length t.grains) (length t.queue) (length t.events) (length t.order)) refl (start b room (inputs_of n inputs)) refl
  where
    by : (x y w v : Bool) → long (sizes_for b n room) (length t.lists) (length t.grains) (length t.queue) (length t.events) (length t.order) ≡ v → (o : Begun) → start b room (inputs_of n inputs) ≡ o
        → Taken (cond x (cond (y && (w && v)) (started_over o t) (with (Err TooShort) t)) (with (Err BoxOutOfRange) t)).answer
        → Begins b n room inputs t (cond x (cond (y && (w && v)) (started_over o t) (with (Err TooShort) t)) (with (Err BoxOutOfRange) t)).after
    by true true true true e (started s) f k = record { state = s; accepted = f; fits_in = e; is = refl }
    by true true true true e (begun.refused r g) f k = absurd (not_taken r g k)
    by true true true false e o f k = absurd k
    by true true false v e o f k = absurd k
    by true false w v e o f k = absurd k
    by false y w v e o f k = absurd k

pub start_kept : (b : Domain) (room : ℕ) (n : ℕ) (inputs : List Float) (s : State) → start b room (inputs_of n inputs) ≡ started s → (s.box ≡ b) × (s.room ≡ room) × (length s.grains ≡ n)
unfolding clear
start_kept b room n inputs s e =
    let gs = inputs_of n inputs in
    let a = begin_acted b room gs in
    let k = does_kept a.acts (clear b room (length gs)) (begin b room gs).st a.did in
    let q = (accepted b room gs s e).is in
    (ap (λ (u : State). u.box) q ∙ k.box, ap (λ (u : State). u.room) q ∙ k.room, ap (λ (u : State). length u.grains) q ∙ k.few ∙ length-replicate (length gs) zero_g ∙ cut_long input_at input_wide n inputs)

long_apart : (z : Sizes) (t : Tables) → long z (length t.lists) (length t.grains) (length t.queue) (length t.events) (length t.order) ≡ true → Long z (cleared t)
long_apart z t e =
    let a = leb (lists_need z) (length t.lists) in
    let b = leb (grains_need z) (length t.grains) in
    let c = leb (queue_need z) (length t.queue) in
    let d = leb (events_need z) (length t.events) in
    let o = leb order_wide (length t.order) in
    let f = and_l (a && b) ((c && d) && o) e in
    let g = and_r (a && b) ((c && d) && o) e in
    let h = and_l (c && d) o g in
    record {
      lists = let w = leb-true (lists_need z) (length t.lists) (and_l a b f) in let r = length-replicate {A = ℕ} (length t.lists) 0 in omega (arith, w, r);
      grains = let w = leb-true (grains_need z) (length t.grains) (and_r a b f) in let r = length-replicate (length t.grains) fzero in omega (arith, w, r);
      queue = let w = leb-true (queue_need z) (length t.queue) (and_l c d h) in let r = length-replicate {A = ℕ} (length t.queue) 0 in omega (arith, w, r);
      events = let w = leb-true (events_need z) (length t.events) (and_r c d h) in let r = length-replicate (length t.events) fzero in omega (arith, w, r);
      order = let w = leb-true order_wide (length t.order) (and_r (c && d) o g) in let r = length-replicate {A = ℕ} (length t.order) 0 in omega (arith, w, r);
    }

-- what calls leave
calls_over : (ks : List Call) (s : State) (t : Tables) → Well s → Long (sizes_in s) t → (after_calls ks (encoded s t) ≡ encoded (after ks s) t) × Long (sizes_in (after ks s)) t
unfolding after_calls after
calls_over [] s t w F = (refl, F)
calls_over (k ∷ ks) s t w F =
    let u = (run_all k.rate k.budget s).state in
    let v = run_all_well k.rate k.budget s w in
    let e = sizes_same s u w.sound v.sound (all_kept k.rate k.budget s) in
    let q = calls_over ks u t v (subst (λ (z : Sizes). Long z t) (sym e) F) in
    (ap (λ (x : RanTables). after_calls ks x.after) (run_over s t w.sound F k.rate k.budget) ∙ q.0, q.1)

-- a start that is taken leaves a reached state, and the cleared tables have places for it
module _ (b : Domain) (n room : ℕ) (inputs : List Float) (t : Tables) (a : Started) (u : Tables) (p : StartPromise b n room inputs t a u) (k : Taken a) where
  begun_so : Begins b n room inputs t u
  begun_so = subst (λ (w : StartedWith). Taken w.answer → Begins b n room inputs t w.after) (sym p.is) (begins b n room inputs t) k

  begun_reached : Reached begun_so.state
  begun_reached = record { box = b; fits = p.box_fits; room = room; grains = inputs_of n inputs; begun = begun_so.state; accepted = begun_so.accepted; calls = []; there = unfold after in refl }

  begun_well : Well begun_so.state
  begun_well = reached_well begun_so.state begun_reached

  begun_long : Long (sizes_in begun_so.state) (cleared t)
  begun_long =
      let s = begun_so.state in
      let e = start_kept b room n inputs s begun_so.accepted in
      let z : sizes_for b n room ≡ sizes_in s = λ i. record { grains = sym e.2 i; cells = sym (begun_well.sound.heap.cells ∙ ap cells e.0) i; room = sym e.1 i } in
      subst (λ (y : Sizes). Long y (cleared t)) z (long_apart (sizes_for b n room) t begun_so.fits_in)

pub reaches : (t : Tables) → ReachedTables t → Reaches t
reaches t r =
    let g = begun_so r.box r.count r.room r.inputs r.lent r.answer r.begun r.began r.taken in
    let w = begun_well r.box r.count r.room r.inputs r.lent r.answer r.begun r.began r.taken in
    let l = begun_long r.box r.count r.room r.inputs r.lent r.answer r.begun r.began r.taken in
    let s = g.state in
    let q = calls_over r.calls s (cleared r.lent) w l in
    record {
      state = after r.calls s;
      reached = record { box = r.box; fits = r.began.box_fits; room = r.room; grains = inputs_of r.count r.inputs; begun = s; accepted = g.accepted; calls = r.calls; there = refl };
      ground = cleared r.lent;
      long = q.1;
      is = sym r.there ∙ ap (after_calls r.calls) g.is ∙ q.0;
    }

-- ---- 2. so every run on reached tables is the model's run on the state that they are read as
module _ (t : Tables) (h : Reaches t) where
  sound : Sound h.state
  sound = (reached_well h.state h.reached).sound

  pub read_is : decoded t ≡ h.state
  read_is = ap decoded h.is ∙ decoded-encoded h.state sound h.ground h.long

  -- they pass check 2
  passes : sized t ≡ true
  passes = subst (λ (x : Tables). sized x ≡ true) (sym h.is) (encoded-sized h.state sound h.ground h.long)

  pub run_is : (rate : Float) (b : ℕ) → run_tables rate b t ≡ beside (run_all rate b h.state) (encoded (run_all rate b h.state).state h.ground)
  run_is rate b = ap (run_tables rate b) h.is ∙ run_over h.state h.ground sound h.long rate b

  -- the tables that a run leaves are reached too, over the same ground
  abbrev left : Float → ℕ → State
  left rate b = (run_all rate b h.state).state

  left_sound : (rate : Float) (b : ℕ) → Sound (left rate b)
  left_sound rate b = (run_all_well rate b h.state (reached_well h.state h.reached)).sound

  left_long : (rate : Float) (b : ℕ) → Long (sizes_in (left rate b)) h.ground
  left_long rate b = subst (λ (z : Sizes). Long z h.ground) (sym (sizes_same h.state (left rate b) sound (left_sound rate b) (all_kept rate b h.state))) h.long

  left_read : (rate : Float) (b : ℕ) → decoded (run_tables rate b t).after ≡ left rate b
  left_read rate b = ap (λ (x : RanTables). decoded x.after) (run_is rate b) ∙ decoded-encoded (left rate b) (left_sound rate b) h.ground (left_long rate b)

-- ---- 3. DEMAND 3: a run of j + k events is a run of j and, if that was spent, a run of k
pub record SplitsTables (rate : Float) (j k : ℕ) (t : Tables) : Type 0 where
  pub followed : (run_tables rate j t).how ≡ spent
      → let u = (run_tables rate j t).after in run_tables rate (j + k) t ≡ record { how = (run_tables rate k u).how; clock = (run_tables rate k u).clock; count = (run_tables rate j t).count + (run_tables rate k u).count; after = (run_tables rate k u).after }
  pub synchronises : (run_tables rate j t).how ≡ synchronised → run_tables rate (j + k) t ≡ run_tables rate j t
  pub halts : (r : ℕ) → (run_tables rate j t).how ≡ refused r → run_tables rate (j + k) t ≡ run_tables rate j t

pub splits_tables : (t : Tables) → ReachedTables t → (rate : Float) → rated rate ≡ true → (j k : ℕ) → j + k ≤ most → SplitsTables rate j k t
splits_tables t r rate R j k B =
    let w = splits s h.reached rate R j k B in
    record {
      followed = λ e. run_is t h rate (j + k) ∙ ap over-g (w.followed (sym how ∙ e)) ∙ sym (λ i. record { how = (then-run i).how; clock = (then-run i).clock; count = (run_is t h rate j i).count + (then-run i).count; after = (then-run i).after });
      synchronises = λ e. run_is t h rate (j + k) ∙ ap over-g (w.synchronises (sym how ∙ e)) ∙ sym (run_is t h rate j);
      halts = λ n e. run_is t h rate (j + k) ∙ ap over-g (w.halts n (sym how ∙ e)) ∙ sym (run_is t h rate j);
    }
  where
    h : Reaches t
    h = reaches t r

    s : State
    s = h.state

    u : State
    u = (run_all rate j s).state

    over-g : Ran → RanTables
    over-g x = beside x (encoded x.state h.ground)

    how : (run_tables rate j t).how ≡ (run_all rate j s).how
    how = ap (λ (x : RanTables). x.how) (run_is t h rate j)

    then-run : run_tables rate k (run_tables rate j t).after ≡ over-g (run_all rate k u)
    then-run = ap (λ (x : RanTables). run_tables rate k x.after) (run_is t h rate j) ∙ run_over u h.ground (left_sound t h rate j) (left_long t h rate j) rate k

-- ---- 4. DEMAND 3: after each unhalted step of all these runs. The tables after n events are what a run with budget n leaves
module _ (t : Tables) (r : ReachedTables t) (k : Call) (n : ℕ) (N : n < (run_tables k.rate k.budget t).count) where
  abbrev now : State
  now = (reaches t r).state

  counted : n < (run_all k.rate k.budget now).count
  counted = subst (λ (x : RanTables). n < x.count) (run_is t (reaches t r) k.rate k.budget) N

  goes_on : (b : ℕ) → run_all k.rate b now ≡ run_from k.rate b 0 now
  goes_on b = let w = counted_runs k.rate k.budget now n (sound t (reaches t r)) counted in runs k.rate b now w.0 w.1

  within_count : n < (run_from k.rate k.budget 0 now).count
  within_count = subst (λ (x : Ran). n < x.count) (goes_on k.budget) counted

  step_tables : StepOf (decoded (run_tables k.rate n t).after) (decoded (run_tables k.rate (suc n) t).after)
  step_tables = record { from = now; reached = (reaches t r).reached; call = k; n = n; counted = counted; before = sym (at n (omega arith)); after' = sym (at (suc n) (omega arith)) }
    where
      at : (m : ℕ) → m ≤ suc n → decoded (run_tables k.rate m t).after ≡ steps k.rate m now
      at m M = left_read t (reaches t r) k.rate m ∙ ap (λ (x : Ran). x.state) (goes_on m) ∙ state_at k.rate now k.budget m (let c = within_count in omega (arith, c, M))

  pub after_each_step_tables : AfterStep (decoded (run_tables k.rate n t).after) (decoded (run_tables k.rate (suc n) t).after)
  after_each_step_tables = after_each_step _ _ step_tables

-- ---- 5. HALTS: a run that halts leaves the acts before the refused one done and its number as the mark, and every later run gives it again and changes nothing
check_passed : (rate : Float) (t : Tables) → sized t ≡ true → mark t.lists ≡ 0 → rated rate ≡ true → standing t ≡ true → checked rate t ≡ 0
unfolding checked
check_passed rate t z m R p = rw (z, m, R, p)

pub halts_tables : (t : Tables) → ReachedTables t → (rate : Float) → rated rate ≡ true → mark t.lists ≡ 0 → (b r : ℕ) → (run_tables rate b t).how ≡ refused r
    → HaltsBy r rate t (run_tables rate b t).count (run_tables rate b t).after
halts_tables t q rate R m b r e =
    let h = reaches t q in
    let s = h.state in
    let st = (reached_well s h.reached).stands (sym (ap (λ (x : State). x.mark) (read_is t h)) ∙ m) in
    let p : standing t ≡ true = ap standing h.is ∙ encoded-standing s (sound t h) h.ground h.long ∙ (says_stands s (sound_fitted s (sound t h))).holds st in
    halts_standing t (subst Stands (sym (read_is t h)) st) rate (check_passed rate t (passes t h) m R p) b r e

pub halted_again_tables : (t : Tables) → ReachedTables t → (mark t.lists ≡ 0 → ⊥) → (rate : Float) (b : ℕ) → run_tables rate b t ≡ beside (refusal (mark t.lists) (decoded t)) t
halted_again_tables t q n rate b =
    let h = reaches t q in
    let m : h.state.mark ≡ mark t.lists = sym (ap (λ (x : State). x.mark) (read_is t h)) in
    halted_tables rate b t (passes t h) (subst (λ (k : ℕ). halt k ≡ true) m (elim (reached_marked h.state h.reached) [ inl z ↦ absurd (n (sym m ∙ z)) | inr k ↦ k ]))

-- a start that halts: every place was cleared, and of the start's acts in 01's order those before the refused one were done
pub start_halts_tables : (b : Domain) (n room : ℕ) (inputs : List Float) (t : Tables) (h : Halt) (u : Tables) → StartPromise b n room inputs t (Err (Halted h)) u
    → let gs = inputs_of n inputs in HaltIn (start_acts b gs (clear b room (length gs))) (halt_number h) (clear b room (length gs)) (decoded u)
start_halts_tables b n room inputs t h u p =
    let gs = inputs_of n inputs in
    let c = clear b room (length gs) in
    let g = begun_so b n room inputs t (Err (Halted h)) u p tt in
    let s = g.state in
    let m = halted_start b n room inputs t h (ap (λ (w : StartedWith). w.answer) (sym p.is)) s g.accepted in
    let read : decoded u ≡ s = ap decoded g.is ∙ decoded-encoded s (begun_well b n room inputs t (Err (Halted h)) u p tt).sound (cleared t) (begun_long b n room inputs t (Err (Halted h)) u p tt) in
    subst (HaltIn (start_acts b gs c) (halt_number h) c) (sym read) (subst (λ (x : ℕ). HaltIn (start_acts b gs c) x c s) m.0 (start_halts_in_order b room gs s g.accepted m.1))

-- ---- 6. what the calls promise leads to reached tables: a start that was taken, and every run on reached tables
after_more : (ks : List Call) (k : Call) (t : Tables) → after_calls (ks ++ k ∷ []) t ≡ (run_tables k.rate k.budget (after_calls ks t)).after
unfolding after_calls
after_more [] k t = refl
after_more (j ∷ ks) k t = after_more ks k (run_tables j.rate j.budget t).after

pub run_reaches : (t : Tables) → ReachedTables t → (k : Call) → ReachedTables (run_tables k.rate k.budget t).after
run_reaches t r k = record {
  box = r.box;
  count = r.count;
  room = r.room;
  inputs = r.inputs;
  lent = r.lent;
  answer = r.answer;
  begun = r.begun;
  began = r.began;
  taken = r.taken;
  calls = r.calls ++ k ∷ [];
  there = after_more r.calls k r.begun ∙ ap (λ (x : Tables). (run_tables k.rate k.budget x).after) r.there;
}

pub promised_start_reaches : (b : Domain) (n room : ℕ) (inputs : List Float) (t : Tables) (a : Started) (u : Tables) → StartPromise b n room inputs t a u → Taken a → ReachedTables u
promised_start_reaches b n room inputs t a u p k = record {
  box = b;
  count = n;
  room = room;
  inputs = inputs;
  lent = t;
  answer = a;
  begun = u;
  began = p;
  taken = k;
  calls = [];
  there = unfold after_calls in refl;
}

pub promised_run_reaches : (t : Tables) → ReachedTables t → (rate : Float) (budget : ℕ) (a : Report) (u : Tables) → RunPromise rate budget t a u → ReachedTables u
promised_run_reaches t r rate budget a u p =
    subst ReachedTables (ap (λ (x : RanTables). x.after) (sym p.is)) (run_reaches t r (record { rate = rate; budget = budget; small = p.owned.small }))

-- ---- 7. THE HISTORY: of reached tables that are not halted, what is said over the history of acts of the state that they are read as: no event from an old velocity,
-- none missing, nothing else pending
abbrev pub SaidOf : (t : Tables) → ReachedTables t → Type 0
SaidOf t r = let h = reaches t r in Said (history h.state h.reached) (clear h.reached.box h.reached.room (length h.reached.grains)) (decoded t)

pub said_tables : (t : Tables) (r : ReachedTables t) → mark t.lists ≡ 0 → SaidOf t r
said_tables t r m =
    let h = reaches t r in
    let z : h.state.mark ≡ 0 = sym (ap (λ (x : State). x.mark) (read_is t h)) ∙ m in
    subst (Said (history h.state h.reached) (clear h.reached.box h.reached.room (length h.reached.grains))) (sym (read_is t h)) (reached_said h.state h.reached z)

-- and after each unhalted step of all runs: the tables after n events are reached by a run with budget n, and not halted
pub each_step_said_tables : (t : Tables) → ReachedTables t → (k : Call) (n : ℕ) → n < (run_tables k.rate k.budget t).count
    → let u = (run_tables k.rate (suc n) t).after in (r : ReachedTables u) × (mark u.lists ≡ 0) × SaidOf u r
each_step_said_tables t r k n N =
    let small : suc n ≤ most = let c = within_count t r k n N in let a = (counts k.rate (reaches t r).state k.budget).small in let b = k.small in omega (arith, a, b, c) in
    let u = (run_tables k.rate (suc n) t).after in
    let q = run_reaches t r (record { rate = k.rate; budget = suc n; small = small }) in
    let free : mark u.lists ≡ 0 = (step_reached _ (decoded u) (step_tables t r k n N)).1 in
    (q, free, said_tables u q free)

-- ---- 8. RADII: in reached tables, halted or not, each grain has the radius that it had when the start was over; in those that are not halted, the one that the start was lent
begun_is : (t : Tables) (r : ReachedTables t)
    → (reaches r.begun (promised_start_reaches r.box r.count r.room r.inputs r.lent r.answer r.begun r.began r.taken)).state ≡ (reaches t r).reached.begun
unfolding reaches promised_start_reaches after
begun_is t r = refl

grains_are : (t : Tables) (r : ReachedTables t) → (reaches t r).reached.grains ≡ inputs_of r.count r.inputs
unfolding reaches
grains_are t r = refl

pub radius_for_life_tables : (t : Tables) (r : ReachedTables t) (g : ℕ) → (grain (decoded t) g).rad ≡ (grain (decoded r.begun) g).rad
radius_for_life_tables t r g =
    let h = reaches t r in
    let k = reaches r.begun (promised_start_reaches r.box r.count r.room r.inputs r.lent r.answer r.begun r.began r.taken) in
    ap (λ (s : State). (grain s g).rad) (read_is t h) ∙ radius_for_life h.state h.reached g ∙ sym (ap (λ (s : State). (grain s g).rad) (read_is r.begun k ∙ begun_is t r))

pub radius_tables : (t : Tables) (r : ReachedTables t) → mark t.lists ≡ 0 → (g : ℕ) → g < r.count → (grain (decoded t) g).rad ≡ (get_or (inputs_of r.count r.inputs) g zero_g).rad
radius_tables t r m g G =
    let h = reaches t r in
    let z : h.state.mark ≡ 0 = sym (ap (λ (x : State). x.mark) (read_is t h)) ∙ m in
    let n : length h.reached.grains ≡ r.count = ap length (grains_are t r) ∙ cut_long input_at input_wide r.count r.inputs in
    ap (λ (s : State). (grain s g).rad) (read_is t h) ∙ radius_given h.state h.reached (begun_unhalted h.state h.reached z) g (omega (arith, n))
    ∙ ap (λ (l : List Particle). (get_or l g zero_g).rad) (grains_are t r)
