-- What a start gives and every unhalted step keeps of a history and its state holds in every unhalted state that is reached, and after each step of every run.
-- Assumes nothing.
use Prim.Native.Nat.{ℕ, zero, suc, ◌+◌, ◌<◌, ◌≤◌}
use mathlib.Core.Path.{◌≡◌, refl, sym, ap, subst, ◌∙◌}
use mathlib.Core.List.{List, [], ◌∷◌}
use mathlib.Core.Bool.{true, ◌&&◌}
use lib.Dec.{leb}
use lib.ListN.{length, get_or}
use borrow.Author.Tests.{leb-true}
use Rattle.halting.proofs.Bools.{and_l, and_r}
use native.Mathlib.Omega.{arith}
use lib.Ieee.{Float}
use Rattle.model.specs.declared.Domain.{Domain}
use Rattle.model.specs.declared.Particle.{Particle}
use Rattle.model.specs.declared.Event.{Event}
use Rattle.model.specs.State.{State, zero_g, listed, requeued, marked}
use Rattle.model.specs.Sizes.{box_ok, rated}
use Rattle.model.specs.Acts.{first, taken}
use Rattle.model.specs.Execute.{Moved, finish, execute, head_event, event, step}
use Rattle.model.specs.Run.{How, spent, refused, run_from}
use Rattle.model.specs.Start.{start, started, clear, begin}
use Rattle.model.specs.Check.{Fits, run_all}
use Rattle.model.proofs.Born.{born}
use Rattle.model.proofs.Starts.{Reaches, first_good, begin_stands}
use Rattle.model.specs.Reached.{Call, after, Reached, steps}
use Rattle.model.specs.Rows.{doing, in_turn, acts_of, goes, initiates, start_acts}
use Rattle.model.specs.History.{took, History, row_done, dated, dated_places, step_done, steps_done, calls_done, start_done, history}
use Rattle.model.proofs.Sound.{Sound, Named, Stands}
use Rattle.model.proofs.Counts.{Ended, counts, step_at}
use Rattle.model.proofs.Told.{Tells, taken_tells, done_tells, then_whole, row_box}
use Rattle.model.proofs.Cleared.{empty_live}
use Rattle.model.proofs.Keeps.{first_in, taken_sound}
use Rattle.model.proofs.Plans.{cells_some}
use Rattle.model.proofs.Steps.{Whole, Ends, first_some, head_ok, event_ends}
use Rattle.model.proofs.Whole.{rated_later}
use Rattle.model.specs.Standing.{one_if}
use Rattle.model.specs.Grid.{cells}
use Rattle.model.specs.Events.{zero_p}
use Rattle.model.proofs.Stands.{sound_fitted}
use Rattle.model.proofs.Reflect.{says_stands}
use Rattle.model.proofs.Refusals.{run_case}
use Rattle.model.proofs.Halts.{accepted}
use Rattle.model.proofs.Reached.{Well, halted_mark, run_all_well, reached_well, steps_stand}

-- ---- a whole step is its event's acts, all done
whole_zero : (r : ℕ) (u : State) (e : Event) → Whole (finish r u e).how → (r ≡ 0) × ((finish r u e).state ≡ u)
whole_zero zero u e w = (refl, refl)
whole_zero (suc r) u e w = absurd w

step_whole : (rate : Float) (s : State) → Whole (step rate s).how
    → let o = doing (acts_of rate (head_event s) (taken s)) (taken s) in (o.num ≡ 0) × ((step rate s).state ≡ o.st)
unfolding step event
step_whole rate s w =
    let z = whole_zero (event rate s).num (event rate s).st (head_event s) w in
    (z.0, z.1)

-- it leaves the box
taken_box : (s : State) → (taken s).box ≡ s.box
unfolding taken requeued
taken_box s = refl

step_box : (rate : Float) (s : State) → rated rate ≡ true → Stands s → Whole (step rate s).how → (step rate s).state.box ≡ s.box
step_box rate s R st w =
    let e : Ends (one_if (head_event s)) (taken s) (execute rate (head_event s) (taken s)) = unfold event in event_ends rate (rated_later rate R) s st in
    ap (λ (u : State). u.box) (step_whole rate s w).1 ∙ e.box ∙ taken_box s

-- its parts: the head is taken out, and the acts of its event are done from there
pub record Parts (rate : Float) (s : State) (h : History) : Type 0 where
  pub tells₀ : Tells (took (first s) ∷ h) (taken s)
  pub sound₀ : Sound (taken s)
  pub cells₀ : cells s.box ≡ cells (taken s).box
  pub cell : first s < cells (taken s).box
  pub named : Named (cells (taken s).box) (first s) (listed (taken s) (first s)) (head_event s)
  pub whole : (doing (acts_of rate (head_event s) (taken s)) (taken s)).num ≡ 0
  pub left : (step rate s).state ≡ (doing (acts_of rate (head_event s) (taken s)) (taken s)).st
  pub box : (step rate s).state.box ≡ s.box
  pub tells : Tells (step_done rate s h) (step rate s).state

step_parts : (rate : Float) (s : State) (h : History) → rated rate ≡ true → Stands s → Tells h s → Whole (step rate s).how → Parts rate s h
unfolding step_done
step_parts rate s h R st t w =
    let row = acts_of rate (head_event s) (taken s) in
    let z = step_whole rate s w in
    let t0 = taken_tells h s t in
    record {
      tells₀ = t0;
      sound₀ = taken_sound s st.sound (cells_some s.box) (first_some s st);
      cells₀ = ap cells (sym (taken_box s));
      cell = rw (taken_box s) (first_in s st.sound (cells_some s.box));
      named = unfold taken requeued in (head_ok s st).named;
      whole = z.0;
      left = z.1;
      box = step_box rate s R st w;
      tells = subst (Tells (row_done row (taken s) (took (first s) ∷ h))) (sym z.1) (done_tells row (taken s) (took (first s) ∷ h) t0);
    }

-- ---- an accepted start
-- what it was given: a box and counts in range, and grains of which each reaches a cell
record Ready (b : Domain) (room : ℕ) (gs : List Particle) : Type 0 where
  box : box_ok b ≡ true
  low : 16 ≤ room
  high : room ≤ 256
  few : length gs ≤ 256
  some : Reaches b room gs box

-- and what it left, unhalted
record Begun (b : Domain) (room : ℕ) (gs : List Particle) (s : State) : Type 0 where
  ready : Ready b room gs
  done : (begin b room gs).num ≡ 0
  stands : Stands (begin b room gs).st
  is : s ≡ (begin b room gs).st

begun : (b : Domain) (room : ℕ) (gs : List Particle) (s : State) → Fits b → start b room gs ≡ started s → s.mark ≡ 0 → Begun b room gs s
begun b room gs s fit e m =
    let a = accepted b room gs s e in
    let rooms = and_r (leb (length gs) 256) (leb 16 room && leb room 256) a.counts in
    let ready : Ready b room gs = record {
      box = a.box;
      low = leb-true _ _ (and_l (leb 16 room) (leb room 256) rooms);
      high = leb-true _ _ (and_r (leb 16 room) (leb room 256) rooms);
      few = leb-true _ _ (and_l (leb (length gs) 256) _ a.counts);
      some = λ i I. (born b (get_or gs i zero_g) fit a.box (first_good b gs a.good i I)).some;
    } in
    let z : (begin b room gs).num ≡ 0 = ap (λ (u : State). u.mark) (sym a.is) ∙ m in
    let st = begin_stands b room gs ready.box ready.low ready.high ready.few ready.some z in
    record { ready = ready; done = z; stands = st; is = a.is ∙ (λ i. marked ((z ∙ sym st.free) i) (begin b room gs).st) }

-- by its history the events pending are those of the state that it leaves, whose cells are the box's
start_tells : (b : Domain) (room : ℕ) (gs : List Particle) → Tells (start_done b room gs) (begin b room gs).st
unfolding start_done begin
start_tells b room gs =
    let s = clear b room (length gs) in
    done_tells (start_acts b gs s) s [] (record { queues = λ c C. unfold dated clear dated_places in sym (empty_live (cells b) room zero_p c) })

pub begin_box : (b : Domain) (room : ℕ) (gs : List Particle) → (begin b room gs).st.box ≡ b
unfolding clear begin
begin_box b room gs = row_box (start_acts b gs (clear b room (length gs))) (clear b room (length gs))

pub begin_cells : (b : Domain) (room : ℕ) (gs : List Particle) → (c : ℕ) → c < cells (begin b room gs).st.box → c < 0 + cells b
begin_cells b room gs c C =
    let D : c < cells b = rw (← begin_box b room gs) C in
    omega arith

-- its parts: grains go in, then every cell is gone through
abbrev pub placed : Domain → ℕ → List Particle → State
placed b room gs = let s = clear b room (length gs) in (doing (in_turn (goes gs) (length gs) 0 s) s).st

abbrev pub placing : Domain → ℕ → List Particle → History
placing b room gs = let s = clear b room (length gs) in row_done (in_turn (goes gs) (length gs) 0 s) s []

pub record Opened (b : Domain) (room : ℕ) (gs : List Particle) : Type 0 where
  pub whole : (doing (in_turn initiates (cells b) 0 (placed b room gs)) (placed b room gs)).num ≡ 0
  pub told : start_done b room gs ≡ row_done (in_turn initiates (cells b) 0 (placed b room gs)) (placed b room gs) (placing b room gs)
  pub left : (begin b room gs).st ≡ (doing (in_turn initiates (cells b) 0 (placed b room gs)) (placed b room gs)).st

opened : (b : Domain) (room : ℕ) (gs : List Particle) → (begin b room gs).num ≡ 0 → Opened b room gs
unfolding start_done begin
opened b room gs z =
    let s = clear b room (length gs) in
    let t = then_whole (in_turn (goes gs) (length gs) 0 s) (in_turn initiates (cells b) 0) s [] z in
    record { whole = t.second; told = t.told; left = t.left }

module _ (I : History → State → Type 0) (keeps : (rate : Float) (s : State) (h : History) → rated rate ≡ true → Stands s → I h s → Whole (step rate s).how → I (step_done rate s h) (step rate s).state) where
  -- ---- steps
  steps_along : (rate : Float) → rated rate ≡ true → (s : State) (h : History) → Stands s → I h s → (n : ℕ) → ((m : ℕ) → m < n → Whole (step_at rate s m).how) → I (steps_done rate n s h) (steps rate n s)
  unfolding steps steps_done
  steps_along rate R s h st i zero w = i
  steps_along rate R s h st i (suc n) w =
      keeps rate (steps rate n s) (steps_done rate n s h) R (steps_stand rate R s st n (λ m M. w m (omega arith))) (steps_along rate R s h st i n (λ m M. w m (omega arith))) (w n (omega arith))

  -- ---- a run behind its checks
  run_along : (rate : Float) (b : ℕ) (s : State) (h : History) → Well s → (s.mark ≡ 0 → I h s) → (run_all rate b s).state.mark ≡ 0 → I (steps_done rate (run_all rate b s).count s h) (run_all rate b s).state
  run_along rate b s h w i = run_case (λ f. (f b).state.mark ≡ 0 → I (steps_done rate (f b).count s h) (f b).state) rate s none' (λ m. none') none' none' (λ m R t. ran R ((says_stands s (sound_fitted s w.sound)).means t))
    where
      none' : s.mark ≡ 0 → I (steps_done rate 0 s h) s
      none' = unfold steps_done in i

      ran : rated rate ≡ true → Stands s → (run_from rate b 0 s).state.mark ≡ 0 → I (steps_done rate (run_from rate b 0 s).count s h) (run_from rate b 0 s).state
      ran R st m = by (run_from rate b 0 s).how refl
        where
          n : ℕ
          n = (run_from rate b 0 s).count

          u : State
          u = (run_from rate b 0 s).state

          there : u ≡ steps rate n s → I (steps_done rate n s h) u
          there e = subst (I (steps_done rate n s h)) (sym e) (steps_along rate R s h st (i st.free) n (λ k K. (counts rate s b).whole k (omega arith) K))

          ended : (x : How) → (run_from rate b 0 s).how ≡ x → Ended rate s b x n u
          ended x e = subst (λ (y : How). Ended rate s b y n u) e (counts rate s b).ended

          by : (x : How) → (run_from rate b 0 s).how ≡ x → I (steps_done rate n s h) u
          by How.synchronised e = there (ended How.synchronised e).3
          by spent e = there (ended spent e).1
          by (refused r) e =
              let w' = ended (refused r) e in
              let q = halted_mark rate (steps rate n s) r (ap (λ (z : Moved). z.how) w'.1) in
              let z : u.mark ≡ r = ap (λ (x : Moved). x.state.mark) (sym w'.1) ∙ q.0 in
              absurd (let p = q.1 in omega (arith, z, m, p))

  -- ---- any runs
  calls_along : (ks : List Call) (s : State) (h : History) → Well s → (s.mark ≡ 0 → I h s) → (after ks s).mark ≡ 0 → I (calls_done ks s h) (after ks s)
  unfolding after calls_done
  calls_along [] s h w i m = i m
  calls_along (k ∷ ks) s h w i m =
      let r = run_all k.rate k.budget s in
      calls_along ks r.state (steps_done k.rate r.count s h) (run_all_well k.rate k.budget s w) (run_along k.rate k.budget s h w i) m

  -- ---- every unhalted state that is reached, given what its start gives
  all_along : (s : State) (r : Reached s) → ((begin r.box r.room r.grains).num ≡ 0 → Stands (begin r.box r.room r.grains).st → I (start_done r.box r.room r.grains) (begin r.box r.room r.grains).st) → s.mark ≡ 0 → I (history s r) s
  all_along s r starts m =
      let w = reached_well r.begun (record { box = r.box; fits = r.fits; room = r.room; grains = r.grains; begun = r.begun; accepted = r.accepted; calls = []; there = unfold after in refl }) in
      let i : r.begun.mark ≡ 0 → I (start_done r.box r.room r.grains) r.begun = λ z.
      let b = begun r.box r.room r.grains r.begun r.fits r.accepted z in
      subst (I (start_done r.box r.room r.grains)) (sym b.is) (starts b.done b.stands) in
      subst (I (history s r)) r.there (calls_along r.calls r.begun (start_done r.box r.room r.grains) w i (ap (λ (u : State). u.mark) r.there ∙ m))

-- by the history of a reached state the events pending are those of the state
pub reached_tells : (s : State) (r : Reached s) → s.mark ≡ 0 → Tells (history s r) s
reached_tells s r = all_along Tells (λ rate u h R st t w. (step_parts rate u h R st t w).tells) s r (λ z st. start_tells r.box r.room r.grains)

-- WHAT A START GIVES AND EVERY WHOLE STEP KEEPS, each in its parts, HOLDS IN EVERY UNHALTED STATE THAT IS REACHED
pub reached_along : (I : History → State → Type 0) → ((rate : Float) (s : State) (h : History) → Stands s → Tells h s → Parts rate s h → I h s → I (step_done rate s h) (step rate s).state)
    → (s : State) (r : Reached s) → (Stands (begin r.box r.room r.grains).st → Opened r.box r.room r.grains → I (start_done r.box r.room r.grains) (begin r.box r.room r.grains).st) → s.mark ≡ 0 → I (history s r) s
reached_along I keeps s r starts m =
    (all_along (λ h u. Tells h u × I h u) (λ rate u h R st i w. let p = step_parts rate u h R st i.0 w in (p.tells, keeps rate u h st i.0 p i.1)) s r
    (λ z st. (start_tells r.box r.room r.grains, starts st (opened r.box r.room r.grains z))) m).1
