-- HALTS AND REFUSALS: a halt leaves exactly the acts before the refused one done, with its number as the mark; each later run gives that number again and
-- changes nothing; the other refusals change nothing. Assumes nothing.
use Prim.Native.Nat.{ℕ, zero, suc, ◌≤◌, ◌<◌}
use mathlib.Core.Path.{◌≡◌, refl, sym, ap, subst, ◌∙◌}
use mathlib.Core.Logic.{◌⊎◌, inl, inr}
use mathlib.Core.List.{List, [], ◌∷◌}
use mathlib.Core.Bool.{Bool, true, false, ◌&&◌, cond}
use native.Mathlib.Omega.{arith}
use lib.Dec.{eqb, leb}
use lib.ListN.{length}
use lib.Ieee.{Float}
use native.Mathlib.Decide.{ℕ_discrete}
use borrow.Author.Tests.{le-leb, leb-true, eqb-true}
use Rattle.halting.specs.Out.{Out, out, next}
use Rattle.model.specs.declared.Domain.{Domain}
use Rattle.model.specs.declared.Particle.{Particle}
use Rattle.model.specs.declared.Event.{Event}
use Rattle.model.specs.State.{State, marked}
use Rattle.model.specs.Sizes.{box_ok, counts_ok, rated, first_bad}
use Rattle.model.specs.Acts.{taken}
use Rattle.model.specs.Execute.{halted, Moved, finish, head_event, event, step}
use Rattle.model.specs.Run.{How, spent, refused, run_from}
use Rattle.model.specs.Start.{clear, begin, started, started_at, start}
use Rattle.model.specs.Start as begun
use Rattle.model.specs.Check.{halt, refusal, run_all}
use Rattle.model.specs.Reached.{Call, after, Reached, steps}
use Rattle.model.proofs.Sound.{Stands}
use Rattle.halting.proofs.Bools.{clash}
use Rattle.model.proofs.Counts.{Ended, counts}
use Rattle.model.specs.Rows.{Act, perform, Acts, ended, act, doing, acts_of, start_acts}
use Rattle.model.proofs.Performs.{Does, act_same}
use Rattle.model.proofs.Runs.{run_stands}
use Rattle.model.proofs.Stands.{sound_fitted}
use Rattle.model.proofs.Refusals.{halted_again, run_case}
use Rattle.model.proofs.Reflect.{says_stands}
use Rattle.model.proofs.Whole.{rated_later, sound_sized}
use Rattle.model.proofs.Reached.{Well, halted_mark, run_all_well, reached_well}

-- ---- 1. what a halt leaves
-- from s, acts were done up to `at`; the next act refuses by r there, and changes nothing; v is that state with r as its mark
pub record Halt (r : ℕ) (s v : State) : Type 0 where
  pub acts : List Act
  pub at : State
  pub did : Does acts s at
  pub act : Act
  pub refuses : perform act at ≡ out r at
  pub left : v ≡ marked r at
  pub five : 5 ≤ r
  pub nine : r ≤ 9

-- these acts are the first of the row from s, each done; they lead to u, where `left` of the row is still to do
abbrev pub Begins : List Act → Acts → State → Acts → State → Type 0
Begins [] w s left u = (w ≡ left) × (s ≡ u)
Begins (a ∷ xs) ended s left u = ⊥
Begins (a ∷ xs) (act b f) s left u = (a ≡ b) × ((perform b s).num ≡ 0) × Begins xs (f (perform b s).st) (perform b s).st left u

-- the same of a row of acts in 01's order: those done are its first, and the refused one is its next
pub record HaltIn (w : Acts) (r : ℕ) (s v : State) : Type 0 where
  pub acts : List Act
  pub at : State
  pub refused_act : Act
  pub later : State → Acts
  pub did : Begins acts w s (act refused_act later) at
  pub refuses : perform refused_act at ≡ out r at
  pub left : v ≡ marked r at
  pub five : 5 ≤ r
  pub nine : r ≤ 9

begins_does : (xs : List Act) (w : Acts) (s : State) (l : Acts) (u : State) → Begins xs w s l u → Does xs s u
begins_does [] w s l u d = d.1
begins_does (a ∷ xs) ended s l u d = absurd d
begins_does (a ∷ xs) (act b f) s l u d = subst (λ (x : Act). ((perform x s).num ≡ 0) × Does xs (perform x s).st u) (sym d.0) (d.1, begins_does xs (f (perform b s).st) (perform b s).st l u d.2)

-- a halt in a row is a halt
in_row : (w : Acts) (r : ℕ) (s v : State) → HaltIn w r s v → Halt r s v
in_row w r s v h = record { acts = h.acts; at = h.at; did = begins_does h.acts w s (act h.refused_act h.later) h.at h.did; act = h.refused_act; refuses = h.refuses; left = h.left; five = h.five; nine = h.nine }

turn_halts : (a : Act) (f : State → Acts) (s : State) (r k : ℕ) → (perform a s).num ≡ k → ((u : State) → (doing (f u) u).num ≡ r → 0 < r → HaltIn (f u) r u (marked r (doing (f u) u).st))
    → let o = next k (perform a s).st (λ u. doing (f u) u) in o.num ≡ r → 0 < r → HaltIn (act a f) r s (marked r o.st)
turn_halts a f s r zero e rest q p =
    let h = rest (perform a s).st q p in
    record { acts = a ∷ h.acts; at = h.at; refused_act = h.refused_act; later = h.later; did = (refl, e, h.did); refuses = h.refuses; left = h.left; five = h.five; nine = h.nine }
turn_halts a f s r (suc k) e rest q p =
    let n : (perform a s).num ≡ r = e ∙ q in
    let w = act_same a s (λ z. omega (arith, z, n, p)) in
    let same : perform a s ≡ out r s = w.0 ∙ ap (λ (m : ℕ). out m s) n in
    record {
      acts = [];
      at = s;
      refused_act = a;
      later = f;
      did = (refl, refl);
      refuses = same;
      left = ap (λ (o : Out State). marked r o.st) same;
      five = let b = w.1 in omega (arith, b, n);
      nine = let b = w.2 in omega (arith, b, n);
    }

-- a row that is not done whole: its first acts are done, and the next is refused
pub row_halts : (w : Acts) (s : State) (r : ℕ) → (doing w s).num ≡ r → 0 < r → HaltIn w r s (marked r (doing w s).st)
unfolding doing
row_halts ended s r q p = absurd (omega (arith, q, p))
row_halts (act a f) s r q p = turn_halts a f s r (perform a s).num refl (λ u. row_halts (f u) u r) q p

finish_left : (r : ℕ) (u : State) (e : Event) → 0 < r → (finish r u e).state ≡ marked r u
finish_left zero u e p = absurd (omega arith)
finish_left (suc r) u e p = refl

-- a step that halts: the head was taken out, the heap updated and the clock set; of the event's acts those before the refused one were done, in 01's order
pub step_halts_in_order : (rate : Float) (s : State) (r : ℕ) → (step rate s).how ≡ halted r → HaltIn (acts_of rate (head_event s) (taken s)) r (taken s) (step rate s).state
step_halts_in_order rate s r e =
    let m = halted_mark rate s r e in
    let w = acts_of rate (head_event s) (taken s) in
    let d : doing w (taken s) ≡ event rate s = unfold event in refl in
    subst (HaltIn w r (taken s)) (ap (λ (o : Out State). marked r o.st) d ∙ sym (left m.2 m.1)) (row_halts w (taken s) r (ap (λ (o : Out State). o.num) d ∙ m.2) m.1)
  where
    left : (event rate s).num ≡ r → 0 < r → (step rate s).state ≡ marked r (event rate s).st
    left q p = unfold step in finish_left (event rate s).num (event rate s).st (head_event s) (omega (arith, q)) ∙ ap (λ (k : ℕ). marked k (event rate s).st) q

-- so some acts were done, up to one that was refused
pub step_halts : (rate : Float) (s : State) (r : ℕ) → (step rate s).how ≡ halted r → Halt r (taken s) (step rate s).state
step_halts rate s r e = in_row (acts_of rate (head_event s) (taken s)) r (taken s) (step rate s).state (step_halts_in_order rate s r e)

-- a run that halts: its counted steps were done whole, and the next one halted so
pub run_halts_in_order : (rate : Float) (b : ℕ) (s : State) (r : ℕ) → (run_from rate b 0 s).how ≡ refused r
    → let u = steps rate (run_from rate b 0 s).count s in HaltIn (acts_of rate (head_event u) (taken u)) r (taken u) (run_from rate b 0 s).state
run_halts_in_order rate b s r e =
    let c = (run_from rate b 0 s).count in
    let u = steps rate c s in
    let w : Ended rate s b (refused r) c (run_from rate b 0 s).state = subst (λ (h : How). Ended rate s b h c (run_from rate b 0 s).state) e (counts rate s b).ended in
    subst (HaltIn (acts_of rate (head_event u) (taken u)) r (taken u)) (ap (λ (m : Moved). m.state) w.1) (step_halts_in_order rate u r (ap (λ (m : Moved). m.how) w.1))

-- so its last, halting step did some acts, up to one that was refused
pub run_halts : (rate : Float) (b : ℕ) (s : State) (r : ℕ) → (run_from rate b 0 s).how ≡ refused r → Halt r (taken (steps rate (run_from rate b 0 s).count s)) (run_from rate b 0 s).state
run_halts rate b s r e =
    let u = steps rate (run_from rate b 0 s).count s in
    in_row (acts_of rate (head_event u) (taken u)) r (taken u) (run_from rate b 0 s).state (run_halts_in_order rate b s r e)

-- what an accepted start was given, and what it is
pub record Accepted (b : Domain) (room : ℕ) (gs : List Particle) (s : State) : Type 0 where
  pub box : box_ok b ≡ true
  pub counts : counts_ok room (length gs) ≡ true
  pub good : first_bad b gs ≡ length gs
  pub is : s ≡ marked (begin b room gs).num (begin b room gs).st

pub accepted : (b : Domain) (room : ℕ) (gs : List Particle) (s : State) → start b room gs ≡ started s → Accepted b room gs s
unfolding start
accepted b room gs s = by (box_ok b) refl (counts_ok room (length gs)) refl (eqb (first_bad b gs) (length gs)) refl
  where
    by : (x : Bool) → box_ok b ≡ x → (y : Bool) → counts_ok room (length gs) ≡ y → (z : Bool) → eqb (first_bad b gs) (length gs) ≡ z
        → cond x (cond y (cond z (started_at (begin b room gs)) (begun.refused 4 (first_bad b gs))) (begun.refused 2 0)) (begun.refused 1 0) ≡ started s → Accepted b room gs s
    by true p true q true r e = record { box = p; counts = q; good = eqb-true _ _ r; is = cc }
    by true p true q false r e = absurd (let z : ◌≡◌ {A = ℕ} 0 1 = cc in omega arith)
    by true p false q z r e = absurd (let z : ◌≡◌ {A = ℕ} 0 1 = cc in omega arith)
    by false p y q z r e = absurd (let z : ◌≡◌ {A = ℕ} 0 1 = cc in omega arith)

-- a start that halts: every place was cleared, and of the start's acts those before the refused one were done, in 01's order
pub start_halts_in_order : (b : Domain) (room : ℕ) (gs : List Particle) (s : State) → start b room gs ≡ started s → (s.mark ≡ 0 → ⊥)
    → HaltIn (start_acts b gs (clear b room (length gs))) s.mark (clear b room (length gs)) s
start_halts_in_order b room gs s e n =
    let o = begin b room gs in
    let c = clear b room (length gs) in
    let w = start_acts b gs c in
    let q : s ≡ marked o.num o.st = (accepted b room gs s e).is in
    let d : doing w c ≡ o = unfold begin in refl in
    let m : s.mark ≡ o.num = ap (λ (u : State). u.mark) q in
    subst (HaltIn w s.mark c) ((λ i. marked (m i) (d i).st) ∙ sym q) (row_halts w c s.mark (ap (λ (x : Out State). x.num) d ∙ sym m) (positive s.mark n))
  where
    positive : (k : ℕ) → (k ≡ 0 → ⊥) → 0 < k
    positive zero z = absurd (z refl)
    positive (suc k) z = omega arith

-- so some acts were done, up to one that was refused
pub start_halts : (b : Domain) (room : ℕ) (gs : List Particle) (s : State) → start b room gs ≡ started s → (s.mark ≡ 0 → ⊥) → Halt s.mark (clear b room (length gs)) s
start_halts b room gs s e n = in_row (start_acts b gs (clear b room (length gs))) s.mark (clear b room (length gs)) s (start_halts_in_order b room gs s e n)

-- ---- 2. a number that is no halt's leaves all as it was
pub refused_is : {a b : ℕ} → refused a ≡ refused b → a ≡ b
refused_is e = cc

pub halt_range : (m : ℕ) → halt m ≡ true → (5 ≤ m) × (m ≤ 9)
halt_range m h = by (leb 5 m) refl (leb m 9) refl h
  where
    by : (x : Bool) → leb 5 m ≡ x → (y : Bool) → leb m 9 ≡ y → (x && y) ≡ true → (5 ≤ m) × (m ≤ 9)
    by true e true f g = (leb-true 5 m e, leb-true m 9 f)
    by true e false f g = clash g
    by false e y f g = clash g

-- whatever the run is handed
pub refused_nothing : (rate : Float) (b : ℕ) (s : State) (r : ℕ) → (run_all rate b s).how ≡ refused r → (5 ≤ r → r ≤ 9 → ⊥) → run_all rate b s ≡ refusal r s
refused_nothing rate b s r =
    run_case (λ f. (f b).how ≡ refused r → (5 ≤ r → r ≤ 9 → ⊥) → f b ≡ refusal r s) rate s same
    (λ h q n. let w = halt_range s.mark h in let z = refused_is q in absurd (n (let a = w.0 in omega (arith, a, z)) (let a = w.1 in omega (arith, a, z)))) same same
    (λ h R t q n. let w = run_halts rate b s r q in absurd (n w.five w.nine))
  where
    same : {k : ℕ} → refused k ≡ refused r → (5 ≤ r → r ≤ 9 → ⊥) → refusal k s ≡ refusal r s
    same q n = ap (λ (k : ℕ). refusal k s) (refused_is q)

-- ---- 3. every reached state has the mark 0 or a halt's, and a halted one gives its number to every later run
-- whose mark is 0, or from 5 to 9
abbrev Marked : State → Type 0
Marked s = (s.mark ≡ 0) ⊎ (halt s.mark ≡ true)

pub in_range_lem : (m : ℕ) → 5 ≤ m → m ≤ 9 → halt m ≡ true
in_range_lem m h k = rw (le-leb 5 m h, le-leb m 9 k)

run_marked : (rate : Float) → rated rate ≡ true → (b : ℕ) (s : State) → Stands s → Marked (run_from rate b 0 s).state
run_marked rate R b s st = by (run_from rate b 0 s).how refl
  where
    by : (h : How) → (run_from rate b 0 s).how ≡ h → Marked (run_from rate b 0 s).state
    by How.synchronised e = inl (rw e at (run_stands rate (rated_later rate R) b 0 s st)).free
    by spent e = inl (rw e at (run_stands rate (rated_later rate R) b 0 s st)).free
    by (refused r) e =
        let w = run_halts rate b s r e in
        let m : (run_from rate b 0 s).state.mark ≡ r = ap (λ (u : State). u.mark) w.left in
        inr (rw m (in_range_lem r w.five w.nine))

run_all_marked : (rate : Float) (b : ℕ) (s : State) → Well s → Marked s → Marked (run_all rate b s).state
run_all_marked rate b s w m = run_case (λ f. Marked (f b).state) rate s m (λ h. m) m m (λ h R t. run_marked rate R b s ((says_stands s (sound_fitted s w.sound)).means t))

after_marked : (ks : List Call) (s : State) → Well s → Marked s → Marked (after ks s)
unfolding after
after_marked [] s w m = m
after_marked (k ∷ ks) s w m = after_marked ks (run_all k.rate k.budget s).state (run_all_well k.rate k.budget s w) (run_all_marked k.rate k.budget s w m)

start_marked : (b : Domain) (room : ℕ) (gs : List Particle) (s : State) → start b room gs ≡ started s → Marked s
start_marked b room gs s e = elim (ℕ_discrete s.mark 0) [
  | yes z ↦ inl z
  | no n ↦ let w = start_halts b room gs s e n in inr (in_range_lem s.mark w.five w.nine)
]

pub reached_marked : (s : State) → Reached s → Marked s
reached_marked s r =
    subst Marked r.there
    (after_marked r.calls r.begun (reached_well r.begun (record { box = r.box; fits = r.fits; room = r.room; grains = r.grains; begun = r.begun; accepted = r.accepted; calls = []; there = unfold after in refl }))
    (start_marked r.box r.room r.grains r.begun r.accepted))

pub reached_halted : (s : State) → Reached s → (s.mark ≡ 0 → ⊥) → (rate : Float) (b : ℕ) → run_all rate b s ≡ refusal s.mark s
reached_halted s r n rate b = halted_again rate b s (sound_sized s (reached_well s r).sound) (elim (reached_marked s r) [ inl z ↦ absurd (n z) | inr h ↦ h ])
