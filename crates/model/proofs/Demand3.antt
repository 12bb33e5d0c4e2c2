-- DEMAND 3, sentence by sentence: a run of j + k events is a run of j and, if that was spent, a run of k; and what holds after each unhalted step.
-- Over every state that an accepted start and any runs after it reach. Assumes nothing.
use Prim.Native.Nat.{ℕ, suc, ◌+◌, ◌≤◌, ◌<◌}
use mathlib.Core.Path.{◌≡◌, refl, sym, ap, subst, ◌∙◌}
use mathlib.Core.List.{List, [], ◌∷◌}
use mathlib.Core.Bool.{Bool, true, false, ◌||◌, cond}
use native.Mathlib.Omega.{arith}
use lib.Dec.{T, eqb}
use lib.ListN.{length}
use lib.Ieee.{Float, le}
use borrow.Author.Tests.{eq-eqb, eqb-true}
use Rattle.std.specs.Prelude.{Some}
use Rattle.order.proofs.Order.{le_trans}
use Rattle.model.specs.declared.Place.{Place}
use Rattle.model.specs.declared.Event.{Event}
use Rattle.model.specs.declared.Event.TheVariants.{InterParticleCollision, MoveToNeighbour, MoveOutOfCell, WallReflection, Synchronisation}
use Rattle.model.specs.Sizes.{rated}
use Rattle.model.specs.Grid.{cells}
use Rattle.scheduler.specs.Head.{Head, no_later}
use Rattle.model.specs.Events.{event_of, head_time, names}
use Rattle.model.specs.State.{State, home, listed, queue, has}
use Rattle.model.specs.Acts.{first, head}
use Rattle.model.specs.Run.{How, synchronised, spent, refused}
use Rattle.halting.specs.Every.{All}
use Rattle.model.specs.Standing.{Rising, Once, EachCell, EachGrain, EachEvent, Standing}
use Rattle.model.proofs.Sound.{Named, Held, Stands}
use Rattle.model.specs.Check.{run_all}
use Rattle.model.specs.Reached.{most, Reached, StepOf, steps}
use Rattle.halting.proofs.Bools.{clash}
use Rattle.halting.proofs.All.{all_to}
use Rattle.model.proofs.Keeps.{head_is, root_first}
use Rattle.model.proofs.Plans.{cells_some}
use Rattle.model.proofs.Steps.{Whole, first_some, step_clock}
use Rattle.model.proofs.Counts.{counts, step_at}
use Rattle.model.proofs.Stands.{sound_fitted, standing}
use Rattle.model.proofs.Whole.{follow_by, rated_later, runs, whole}
use Rattle.model.proofs.Reached.{reached_well, counted_runs, steps_stand}

-- ---- 1. "a run of j+k events at one accepted sync rate (the sum within the budget's range) answers and leaves the same, event counts added, as ..."
pub record Splits (rate : Float) (j k : ℕ) (s : State) : Type 0 where
  -- "... a run of j followed, if that one spent its budget, by a run of k"
  pub followed : (run_all rate j s).how ≡ spent
      → let u = (run_all rate j s).state in run_all rate (j + k) s ≡ record { how = (run_all rate k u).how; clock = (run_all rate k u).clock; count = (run_all rate j s).count + (run_all rate k u).count; state = (run_all rate k u).state }
  -- "if it synchronised, halted or gave an earlier halt's number, the longer run equals it"
  pub synchronises : (run_all rate j s).how ≡ synchronised → run_all rate (j + k) s ≡ run_all rate j s
  pub halts : (r : ℕ) → (run_all rate j s).how ≡ refused r → run_all rate (j + k) s ≡ run_all rate j s

pub splits : (s : State) → Reached s → (rate : Float) → rated rate ≡ true → (j k : ℕ) → j + k ≤ most → Splits rate j k s
splits s r rate R j k B =
    let w = whole rate j k s (sound_fitted s (reached_well s r).sound) in
    record { followed = λ e. w ∙ by e; synchronises = λ e. w ∙ by e; halts = λ n e. w ∙ by e }
  where
    by : {h : How} → (run_all rate j s).how ≡ h → follow_by (run_all rate j s).how (run_all rate j s) (run_all rate k) ≡ follow_by h (run_all rate j s) (run_all rate k)
    by e = ap (λ (h : How). follow_by h (run_all rate j s) (run_all rate k)) e

-- ---- 2. "After each unhalted step of all these runs ..."
-- how often x stands in a list
unfoldable pub times : ℕ → List ℕ → ℕ
times x [] = 0
times x (y ∷ ys) = cond (eqb x y) 1 0 + times x ys

pub record AfterStep (u v : State) : Type 0 where
  -- "... the clock has not gone back"
  pub clock : T (le u.clock v.clock)
  -- "no pending event is earlier than the heap's root": than the first event of the root's cell
  pub root : EachEvent v (λ c e. T (le (head v).time e.time))
  -- "every grain is listed by at least one cell"
  pub listed_by : EachGrain v (λ g. (c : ℕ) × (c < cells v.box) × (has g (listed v c) ≡ true))
  -- "cells and grains list each other exactly once": neither twice, and the one if the other
  pub each_other : EachGrain v (λ g. EachCell v (λ c. times c (home v g) ≡ times g (listed v c)))
  pub once : EachGrain v (λ g. EachCell v (λ c. times c (home v g) ≤ 1))
  pub in_box : EachGrain v (λ g. (c : ℕ) → has c (home v g) ≡ true → c < cells v.box) × EachCell v (λ c. (g : ℕ) → has g (listed v c) ≡ true → g < length v.grains)
  -- "and a pending event names only grains its cell lists"
  pub named : EachEvent v (λ c e. (g : ℕ) → names (event_of e.kind e) g ≡ true → has g (listed v c) ≡ true)
  -- and the rest of 01's standing facts
  pub facts : Standing v

-- ---- of any state that stands
not_in : (x : ℕ) (l : List ℕ) → has x l ≡ false → times x l ≡ 0
unfolding times has
not_in x [] h = refl
not_in x (y ∷ ys) h = by (eqb x y) (has x ys) h (not_in x ys)
  where
    by : (b t : Bool) → (b || t) ≡ false → (t ≡ false → times x ys ≡ 0) → cond b 1 0 + times x ys ≡ 0
    by true t z k = clash (sym z)
    by false t z k = let h = k z in omega (arith, h)

one_time : (x : ℕ) (l : List ℕ) → Once l → times x l ≡ cond (has x l) 1 0
unfolding times has
one_time x [] o = refl
one_time x (y ∷ ys) o = by (eqb x y) refl (one_time x ys o.1)
  where
    by : (b : Bool) → eqb x y ≡ b → times x ys ≡ cond (has x ys) 1 0 → cond b 1 0 + times x ys ≡ cond (b || has x ys) 1 0
    by true e ih = let z : times x ys ≡ 0 = not_in x ys (rw (eqb-true x y e) o.0) in omega (arith, z)
    by false e ih = omega (arith, ih)

has_first : (n : ℕ) (l : List ℕ) → 1 ≤ length l → ((x : ℕ) → has x l ≡ true → x < n) → (c : ℕ) × (c < n) × (has c l ≡ true)
unfolding has
has_first n [] h f = absurd (omega arith)
has_first n (c ∷ cs) h f = (c, f c (rw (eq-eqb c c refl)), rw (eq-eqb c c refl))

at_least : (t : Float) (l : List Place) → Rising t l → All (λ e. T (le t e.time)) l
at_least t [] r = tt
at_least t (x ∷ xs) r = (r.0, all_to (λ e. T (le x.time e.time)) (λ e. T (le t e.time)) xs (λ e h. le_trans t x.time e.time r.0 h) (at_least x.time xs r.1))

module _ (v : State) (st : Stands v) where
  head_first : (c : ℕ) → c < cells v.box → T (no_later (Some (head v).time) (head_time (queue v c)))
  head_first c C = subst (λ (t : Head). T (no_later t (head_time (queue v c)))) (head_is (queue v (first v)) (first_some v st)) (root_first v st.sound (cells_some v.box) c C)

  rooted : EachEvent v (λ c e. T (le (head v).time e.time))
  rooted c C = from (queue v c) (head_first c C) (st.sound.queues c C).rising
    where
      from : (l : List Place) → T (no_later (Some (head v).time) (head_time l)) → Rising v.clock l → All (λ e. T (le (head v).time e.time)) l
      from [] h r = tt
      from (x ∷ xs) h r = at_least (head v).time (x ∷ xs) (h, r.1)

  only_listed : (c g : ℕ) (e : Event) → Named (cells v.box) c (listed v c) e → names e g ≡ true → has g (listed v c) ≡ true
  only_listed c g (InterParticleCollision p q x y w z k) n h = by (eqb p g) refl (eqb q g) refl h
    where
      by : (a : Bool) → eqb p g ≡ a → (b : Bool) → eqb q g ≡ b → (a || b) ≡ true → has g (listed v c) ≡ true
      by true e b f i = rw (← eqb-true p g e) n.0
      by false e true f i = rw (← eqb-true q g f) n.1
      by false e false f i = clash i
  only_listed c g (MoveToNeighbour p x k) n h = rw (← eqb-true p g h) n.0
  only_listed c g (MoveOutOfCell p x k) n h = rw (← eqb-true p g h) n.0
  only_listed c g (WallReflection p x y w) n h = rw (← eqb-true p g h) n.0
  only_listed c g Synchronisation n h = clash h

  pub after_step : (u : State) → T (le u.clock v.clock) → AfterStep u v
  after_step u t = record {
    clock = t;
    root = rooted;
    listed_by = λ g G.
        let q = has_first (cells v.box) (home v g) (st.housed g G) (st.sound.lists.homes.each g G).below in
        (q.0, q.1, sym (st.sound.lists.mutual' g q.0 G q.1) ∙ q.2);
    each_other = λ g G c C. times-home g c G ∙ ap (λ b. cond b 1 0) (st.sound.lists.mutual' g c G C) ∙ sym (one_time g (listed v c) (st.sound.lists.members.each c C).once);
    once = λ g G c C. rw (times-home g c G) (small (has c (home v g)));
    in_box = (λ g G. (st.sound.lists.homes.each g G).below, λ c C. (st.sound.lists.members.each c C).below);
    named = λ c C. all_to (Held (cells v.box) c (listed v c)) (λ e. (g : ℕ) → names (event_of e.kind e) g ≡ true → has g (listed v c) ≡ true) (queue v c)
        (λ e h g. only_listed c g (event_of e.kind e) h.named) (st.sound.queues c C).held;
    facts = standing v st;
  }
    where
      times-home : (g c : ℕ) → g < length v.grains → times c (home v g) ≡ cond (has c (home v g)) 1 0
      times-home g c G = one_time c (home v g) (st.sound.lists.homes.each g G).once

      small : (b : Bool) → cond b 1 0 ≤ 1
      small true = omega arith
      small false = omega arith

-- ---- of each step
pub after_each_step : (u v : State) → StepOf u v → AfterStep u v
after_each_step u v p =
    let k = p.call in
    let w = counted_runs k.rate k.budget p.from p.n (reached_well p.from p.reached).sound p.counted in
    let same = runs k.rate k.budget p.from w.0 w.1 in
    let c = counts k.rate p.from k.budget in
    let N : p.n < (run_all k.rate k.budget p.from).count = p.counted in
    let each : (m : ℕ) → m < suc p.n → Whole (step_at k.rate p.from m).how = λ m h. c.whole m (omega arith) (rw (← same) (omega arith)) in
    let su : Stands (steps k.rate p.n p.from) = steps_stand k.rate w.0 p.from w.1 p.n (λ m h. each m (omega arith)) in
    let sv : Stands (steps k.rate (suc p.n) p.from) = steps_stand k.rate w.0 p.from w.1 (suc p.n) each in
    subst (λ (x : State). AfterStep x v) p.before
    (subst (λ (x : State). AfterStep (steps k.rate p.n p.from) x) p.after'
    (after_step (steps k.rate (suc p.n) p.from) sv (steps k.rate p.n p.from) (unfold steps in step_clock k.rate (rated_later k.rate w.0) (steps k.rate p.n p.from) su)))
