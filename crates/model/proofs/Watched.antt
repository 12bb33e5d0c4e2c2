-- NO MISSING EVENT: in every unhalted state each rule that concerns a cell was tried there since the last change of velocity and the entry of every grain that it is about,
-- and what it found is still pending there (an entry: or was done). Assumes nothing.
use Prim.Native.Nat.{ℕ, zero, suc, ◌≤◌, ◌<◌}
use mathlib.Core.Path.{◌≡◌, refl, sym, ap, subst, ◌∙◌}
use mathlib.Core.Logic.{◌⊎◌}
use mathlib.Core.List.{List, [], ◌∷◌}
use mathlib.Core.Bool.{Bool, true, false, not, ◌&&◌, or-true, and-false}
use native.Mathlib.Omega.{arith}
use lib.Dec.{eqb}
use lib.ListN.{length}
use lib.Ieee.{Float}
use borrow.Author.Tests.{eqb-true, eq-eqb}
use Rattle.myvec.specs.declared.MyVec.{MyVec}
use Rattle.halting.specs.Out.{Out}
use Rattle.halting.proofs.Bools.{clash, differ, and_l, and_r, or_case}
use Rattle.model.specs.declared.Domain.{Domain}
use Rattle.model.specs.declared.Particle.{Particle}
use Rattle.model.specs.declared.Event.{Event}
use Rattle.model.specs.declared.Event.TheVariants.{InterParticleCollision, MoveToNeighbour, MoveOutOfCell, WallReflection, Synchronisation}
use Rattle.model.specs.declared.Place.{Place}
use Rattle.model.specs.Events.{event_of, names, head_place}
use Rattle.model.specs.State.{State, Row, live_at, grain, home, listed, queue, has, requeued}
use Rattle.model.specs.Stepping.{renewed, landed}
use Rattle.model.specs.declared.Bound.{Bound}
use Rattle.model.specs.declared.Bound.TheVariants.{ToNeighbour, OutOfCell, Wall}
use Rattle.model.specs.Rows.{Rule, pair, bound, sync, about, moving, cancelling, entering, leaving, Acts, doing, only, ◌⨟◌, of_each, in_turn, stepping, colliding, bounding, scheduling, reschedules, forgets, acts_of, pairing, first_sync, initiates}
use Rattle.model.specs.History.{did, took, History, row_done, Dated, dated_places, dated, step_done, start_done, history}
use Rattle.model.specs.Missing.{same_rule, Entry, Concerns, NoneMissing}
use Rattle.model.proofs.Cases.{enter_case, leave_case}
use Rattle.model.proofs.Lists.{has_entered, has_left}
use Rattle.model.proofs.Performs.{is_one, again_is, execute_is}
use Rattle.model.proofs.Schedule.{again_keeps, collision_goes, wall_goes}
use Rattle.model.specs.Doing.{again, execution}
use Rattle.model.specs.Execute.{head_event, step}
use Rattle.model.specs.Grid.{cells}
use Rattle.model.specs.Acts.{store, cancelled, enter, leave, gone, first, head, taken}
use Rattle.model.specs.Acts as Acts
use Rattle.model.proofs.Sound.{Sound, Named, Stands}
use Rattle.model.specs.Start.{begin}
use Rattle.model.specs.Reached.{Reached}
use Rattle.model.proofs.Frame.{Keeps, keeps_on, store_keeps, cancelled_keeps, same_clock, in_cell}
use Rattle.model.proofs.Renews.{Renewed, reflects, wall_renewed, collides, collision-renewed}
use Rattle.model.proofs.Along.{Parts, begin_cells, placed, placing, Opened, reached_along}
use Rattle.model.proofs.Steps.{head_ok}
use Rattle.model.proofs.Told.{Tells, Then, then_whole, then_as, one_whole, Every, every_before, every_each, every_turn}
use Rattle.model.proofs.Tries.{kind_of, Kept, Spares, row_spares, Not, took_keeps}
use Rattle.model.proofs.Scheduled.{Mild, mild_bound, mild_step, mild_schedule, mild_again, mild_pairs, mild_sync, mild_init, every_to, mild_spares, row_mild, SameLists, lists_on, row_lists, each_makes, turn_makes, Any, bounds_made, same_concerns, collisions_made, schedule_made, again_made}

-- ---- an event, from the state with its head taken out
-- what an event leaves alone of a rule in a cell
abbrev pub Leaves : Event → ℕ → Rule → Type 0
Leaves (InterParticleCollision p q x y v w k) c r = (about r p ≡ false) × (about r q ≡ false)
Leaves (MoveToNeighbour p x k) c r = Unit {0}
Leaves (MoveOutOfCell p x k) c r = (eqb k c && about r p) ≡ false
Leaves (WallReflection p x v w) c r = (about r p ≡ false) × Unit {0}
Leaves Synchronisation c r = Unit {0}

-- a grain that a concerned rule is about is listed
listed_in : (s : State) (c : ℕ) (r : Rule) (g : ℕ) → Concerns s c r → about r g ≡ true → has g (listed s c) ≡ true
listed_in s c (pair p q) g m e = or_case (eqb p g) (eqb q g) (has g (listed s c) ≡ true) e (λ x. rw (← eqb-true p g x) m.0) (λ x. rw (← eqb-true q g x) m.1)
listed_in s c (bound b p d) g m e = rw (← eqb-true p g e) m.0
listed_in s c sync g m e = clash e

spares_forget : (c : ℕ) (r : Rule) (p : ℕ) (s : State) → about r p ≡ false → Every (Spares c r) (forgets p s)
spares_forget c r p s e = every_each (Spares c r) (λ k. only (cancelling p k)) (home s p) s (λ k u. (rw e (and-false (eqb k c)), λ v. tt))

spares_mild : (c : ℕ) (r : Rule) (w : Acts) → Every Mild w → Every (Spares c r) w
spares_mild c r = every_to Mild (Spares c r) (mild_spares c r)

-- in each of n cells, of every rule that concerns it and that is left alone
abbrev pub Prior : Event → ℕ → State → History → Type 0
Prior e n s h = (c : ℕ) → c < n → (r : Rule) → Concerns s c r → Leaves e c r → Kept h c r

abbrev pub AllKept : ℕ → State → History → Type 0
AllKept n s h = (c : ℕ) → c < n → (r : Rule) → Concerns s c r → Kept h c r

-- scheduled anew in all its cells, of which c is one
again_kept : (p c : ℕ) (s : State) (h : History) (r : Rule) → Sound s → p < length s.grains → c < cells s.box → (doing (reschedules p s) s).num ≡ 0 → Concerns s c r → about r p ≡ true → Kept (row_done (reschedules p s) s h) c r
again_kept p c s h r sound P C z m e = again_made p s h z c (sound.lists.mutual' p c P C ∙ listed_in s c r p m e) r m e

module _ (n p : ℕ) (x : Particle) (s : State) (h : History) (sound : Sound s) (t : Tells h s) (N : n ≡ cells s.box) (P : p < length s.grains) (X : x.time ≡ s.clock) where
  wall_kept : ((c : ℕ) → c < n → (r : Rule) → Concerns s c r → about r p ≡ false → Kept h c r) → (doing (reflects p x s) s).num ≡ 0 → AllKept n s (row_done (reflects p x s) s h)
  wall_kept prior z c C r m = by (about r p) refl
    where
      by : (b : Bool) → about r p ≡ b → Kept (row_done (reflects p x s) s h) c r
      by false e =
          row_spares c r (reflects p x s) s h
          (every_before (Spares c r) _ _ s (e, λ u. tt) (λ u. every_before (Spares c r) _ _ u (spares_forget c r p u e) (λ v. spares_mild c r (reschedules p v) (mild_again p v)))) (prior c C r m e)
      by true e =
          let f = wall_renewed p x s h sound t P X z in
          let C2 : c < cells f.at.box = rw (f.keeps.frame.near.box, ← N) C in
          let P2 : p < length f.at.grains = rw f.keeps.frame.near.few P in
          rw f.told (again_kept p c f.at f.so r f.keeps.sound P2 C2 f.whole (same_concerns f.at s c r (sym f.keeps.frame.members) m) e)

  module _ (q : ℕ) (y : Particle) (Q : q < length s.grains) (Y : y.time ≡ s.clock) where
    collision-kept : ((c : ℕ) → c < n → (r : Rule) → Concerns s c r → about r p ≡ false → about r q ≡ false → Kept h c r) → (doing (collides p x q y s) s).num ≡ 0 → AllKept n s (row_done (collides p x q y s) s h)
    collision-kept prior z c C r m = by (about r p) refl (about r q) refl
      where
        f : Renewed (λ g. (g ≡ p) ⊎ (g ≡ q)) (reschedules p ⨟ reschedules q) s h (row_done (collides p x q y s) s h)
        f = collision-renewed p x s h sound t P X q y Q Y z

        in' : c < cells f.at.box
        in' = rw (f.keeps.frame.near.box, ← N) C

        of' : Concerns f.at c r
        of' = same_concerns f.at s c r (sym f.keeps.frame.members) m

        parts : Then (reschedules q) (again p f.at) (doing ((reschedules p ⨟ reschedules q) f.at) f.at) (row_done (reschedules p f.at) f.at f.so) (row_done ((reschedules p ⨟ reschedules q) f.at) f.at f.so)
        parts = then_as (reschedules p f.at) (reschedules q) f.at f.so (again p f.at) ((again_is p).same f.at) f.whole

        first' : about r p ≡ true → Kept (row_done (collides p x q y s) s h) c r
        first' e =
            let P4 : p < length f.at.grains = rw f.keeps.frame.near.few P in
            let z1 : (doing (reschedules p f.at) f.at).num ≡ 0 = ap (λ (o : Out State). o.num) ((again_is p).same f.at) ∙ parts.first in
            let u = (again p f.at).st in
            rw (f.told, parts.told) (row_mild c r (reschedules q u) u (row_done (reschedules p f.at) f.at f.so) (mild_again q u) (again_kept p c f.at f.so r f.keeps.sound P4 in' z1 of' e))

        second' : about r q ≡ true → Kept (row_done (collides p x q y s) s h) c r
        second' e =
            let P4 : p < length f.at.grains = rw f.keeps.frame.near.few P in
            let u = (again p f.at).st in
            let k = again_keeps p f.at f.keeps.sound P4 in
            let Q5 : q < length u.grains = rw (k.frame.near.few, f.keeps.frame.near.few) Q in
            rw (f.told, parts.told) (again_kept q c u (row_done (reschedules p f.at) f.at f.so) r k.sound Q5 (rw k.frame.near.box in') parts.second (same_concerns u f.at c r (sym k.frame.members) of') e)

        by : (b : Bool) → about r p ≡ b → (d : Bool) → about r q ≡ d → Kept (row_done (collides p x q y s) s h) c r
        by false e false g =
            row_spares c r (collides p x q y s) s h
            (every_before (Spares c r) _ _ s (e, λ u. tt) (λ u. every_before (Spares c r) _ _ u (g, λ v. tt) (λ u. every_before (Spares c r) _ _ u (spares_forget c r p u e)
            (λ u. every_before (Spares c r) _ _ u (spares_forget c r q u g) (λ u. every_before (Spares c r) _ _ u (spares_mild c r (reschedules p u) (mild_again p u)) (λ v. spares_mild c r (reschedules q v) (mild_again q v)))))))
            (prior c C r m e g)
        by false e true g = second' g
        by true e d g = first' e

-- ---- entering and leaving a cell
pub concerns_by : (s u : State) (c : ℕ) (r : Rule) → ((g : ℕ) → about r g ≡ true → has g (listed u c) ≡ true → has g (listed s c) ≡ true) → Concerns u c r → Concerns s c r
concerns_by s u c (pair p q) f m = (f p (rw (eq-eqb p p refl)) m.0, f q (rw (eq-eqb q q refl) (or-true (eqb p q))) m.1, m.2)
concerns_by s u c (bound b p d) f m = (f p (eq-eqb p p refl) m.0, m.1)
concerns_by s u c sync f m = m

pub enter_done : (g c : ℕ) (s : State) → (enter g c s).num ≡ 0 → (enter g c s).st ≡ Acts.entered g c s
enter_done g c s = enter_case (λ o. o.num ≡ 0 → o.st ≡ Acts.entered g c s) s g c (λ a z. absurd (omega (arith, z))) (λ z. absurd (omega (arith, z))) (λ a b d z. refl)

pub leave_done : (g c : ℕ) (s : State) → (leave g c s).num ≡ 0 → (leave g c s).st ≡ gone g c s
leave_done g c s = leave_case (λ o. o.num ≡ 0 → o.st ≡ gone g c s) s g c (λ z. absurd (omega (arith, z))) (λ a z. refl)

module _ (n p : ℕ) (x : MyVec) (k : ℕ) (s : State) (h : History) (sound : Sound s) (N : n ≡ cells s.box) (P : p < length s.grains) (K : k < cells s.box) where
  moved : Keeps s (store p (landed x s.clock (grain s p)) s).st
  moved = store_keeps s p (landed x s.clock (grain s p)) sound P (same_clock s sound)

  neighbour_kept : AllKept n s h → let row = (only (moving p x s.clock) ⨟ only (entering p k) ⨟ scheduling p k) s in (doing row s).num ≡ 0 → AllKept n (doing row s).st (row_done row s h)
  neighbour_kept prior z c C r m =
      let a = one_whole (moving p x s.clock) (only (entering p k) ⨟ scheduling p k) s h z in
      let s1 = (store p (landed x s.clock (grain s p)) s).st in
      let b = one_whole (entering p k) (scheduling p k) s1 (did (moving p x s.clock) ∷ h) a.second in
      let s2 = (enter p k s1).st in
      let v : (doing ((only (moving p x s.clock) ⨟ only (entering p k) ⨟ scheduling p k) s) s).st ≡ (doing (scheduling p k s2) s2).st = a.left ∙ b.left in
      let m2 : Concerns s2 c r = same_concerns s2 (doing (scheduling p k s2) s2).st c r (row_lists (scheduling p k s2) s2 (mild_schedule p k s2)).0 (subst (λ (u : State). Concerns u c r) v m) in
      by (eqb k c && about r p) refl m2 (a.told ∙ b.told) b.second (enter_done p k s1 b.first)
    where
      row : Acts
      row = (only (moving p x s.clock) ⨟ only (entering p k) ⨟ scheduling p k) s

      s₁ : State
      s₁ = (store p (landed x s.clock (grain s p)) s).st

      s₂ : State
      s₂ = (enter p k (store p (landed x s.clock (grain s p)) s).st).st

      back : (eqb k c && about r p) ≡ false → s₂ ≡ Acts.entered p k s₁ → Concerns s₂ c r → Concerns s c r
      back e q m2 = concerns_by s s₂ c r (λ g w t.
          let u : has g (listed (Acts.entered p k s₁) c) ≡ true = subst (λ (y : State). has g (listed y c) ≡ true) q t in
          let K1 : k < cells s₁.box = rw moved.frame.near.box K in
          let o = sym (has_entered (cells s₁.box) (length s₁.grains) 32 s₁.members moved.sound.lists.members k p K1 c g) ∙ u in
          or_case (has g (listed s₁ c)) (eqb c k && eqb g p) (has g (listed s c) ≡ true) o (λ y. ap (λ (l : List (Row ℕ)). has g (live_at l c)) (sym moved.frame.members) ∙ y)
          (λ y.
          let ck = eqb-true c k (and_l (eqb c k) (eqb g p) y) in
          let gp = eqb-true g p (and_r (eqb c k) (eqb g p) y) in
          differ (rw gp at w) (rw (ck, eq-eqb k k refl) at e))) m2

      by : (b : Bool) → (eqb k c && about r p) ≡ b → Concerns s₂ c r → row_done row s h ≡ row_done (scheduling p k s₂) s₂ (did (entering p k) ∷ did (moving p x s.clock) ∷ h)
          → (doing (scheduling p k s₂) s₂).num ≡ 0 → s₂ ≡ Acts.entered p k s₁ → Kept (row_done row s h) c r
      by true e m2 t y q =
          let kc = eqb-true k c (and_l (eqb k c) (about r p) e) in
          rw t (subst (λ (j : ℕ). Kept (row_done (scheduling p k s₂) s₂ (did (entering p k) ∷ did (moving p x s.clock) ∷ h)) j r) kc
          (schedule_made p k s₂ (did (entering p k) ∷ did (moving p x s.clock) ∷ h) y r (subst (λ (j : ℕ). Concerns s₂ j r) (sym kc) m2) (and_r (eqb k c) (about r p) e)))
      by false e m2 t y q =
          row_spares c r row s h (every_before (Spares c r) _ _ s (tt, λ u. tt) (λ u. every_before (Spares c r) _ _ u (e, λ v. tt) (λ v. spares_mild c r (scheduling p k v) (mild_schedule p k v)))) (prior c C r (back e q m2))

  out_kept : ((c : ℕ) → c < n → (r : Rule) → Concerns s c r → (eqb k c && about r p) ≡ false → Kept h c r) → let row = (only (moving p x s.clock) ⨟ only (cancelling p k) ⨟ only (leaving p k)) s in (doing row s).num ≡ 0 → AllKept n (doing row s).st (row_done row s h)
  out_kept prior z c C r m =
      let a = one_whole (moving p x s.clock) (only (cancelling p k) ⨟ only (leaving p k)) s h z in
      let s1 = (store p (landed x s.clock (grain s p)) s).st in
      let b = one_whole (cancelling p k) (only (leaving p k)) s1 (did (moving p x s.clock) ∷ h) a.second in
      let s2 = cancelled p k s1 in
      let l = (is_one (leaving p k)).same s2 in
      let v : (doing ((only (moving p x s.clock) ⨟ only (cancelling p k) ⨟ only (leaving p k)) s) s).st ≡ gone p k s2 = a.left ∙ b.left ∙ ap (λ (o : Out State). o.st) l ∙ leave_done p k s2 (ap (λ (o : Out State). o.num) (sym l) ∙ b.second) in
      by (eqb k c && about r p) refl (subst (λ (u : State). Concerns u c r) v m)
    where
      row : Acts
      row = (only (moving p x s.clock) ⨟ only (cancelling p k) ⨟ only (leaving p k)) s

      s₁ : State
      s₁ = (store p (landed x s.clock (grain s p)) s).st

      s₂ : State
      s₂ = cancelled p k (store p (landed x s.clock (grain s p)) s).st

      k₂ : Keeps s s₂
      k₂ = keeps_on s s₁ s₂ moved (cancelled_keeps s₁ p k moved.sound (rw moved.frame.near.box K))

      was : (g : ℕ) → has g (listed (gone p k s₂) c) ≡ true → (has g (listed s₂ c) && not (eqb c k && eqb g p)) ≡ true
      was g t = sym (has_left (cells s₂.box) (length s₂.grains) 32 s₂.members k₂.sound.lists.members k p (rw k₂.frame.near.box K) c g) ∙ t

      by : (b : Bool) → (eqb k c && about r p) ≡ b → Concerns (gone p k s₂) c r → Kept (row_done row s h) c r
      by true e m2 =
          let kc = eqb-true k c (and_l (eqb k c) (about r p) e) in
          let t = and_r (has p (listed s₂ c)) (not (eqb c k && eqb p p)) (was p (listed_in (gone p k s₂) c r p m2 (and_r (eqb k c) (about r p) e))) in
          clash (rw (← kc, eq-eqb k k refl, eq-eqb p p refl) at t)
      by false e m2 =
          row_spares c r row s h (every_before (Spares c r) _ _ s (tt, λ u. tt) (λ u. every_before (Spares c r) _ _ u (e, λ v. tt) (λ v. (tt, λ w. tt))))
          (prior c C r (concerns_by s (gone p k s₂) c r (λ g w t. ap (λ (l : List (Row ℕ)). has g (live_at l c)) (sym k₂.frame.members) ∙ and_l (has g (listed s₂ c)) (not (eqb c k && eqb g p)) (was g t)) m2) e)

-- ---- any event
module _ (n : ℕ) (rate : Float) (c₀ : ℕ) (s : State) (h : History) (sound : Sound s) (t : Tells h s) (N : n ≡ cells s.box) (C : c₀ < cells s.box) where
  abbrev Final : Event → Type 0
  Final e = AllKept n (doing (acts_of rate e s) s).st (row_done (acts_of rate e s) s h)

  -- where the lists stay
  as_lists : (e : Event) → (execution rate e s).st.members ≡ s.members → AllKept n s (row_done (acts_of rate e s) s h) → Final e
  as_lists e q k c D r m = k c D r (same_concerns s (doing (acts_of rate e s) s).st c r (ap (λ (o : Out State). o.st.members) (execute_is rate e s) ∙ q) m)

  execute_kept : (e : Event) → Named (cells s.box) c₀ (listed s c₀) e → (doing (acts_of rate e s) s).num ≡ 0 → Prior e n s h → Final e
  execute_kept (InterParticleCollision p q x y v w k) m z prior =
      let P = (in_cell p c₀ s sound C m.0).grain in
      let Q = (in_cell q c₀ s sound C m.1).grain in
      as_lists (InterParticleCollision p q x y v w k) (collision_goes p q (renewed x v s.clock k (grain s p)) (renewed y w s.clock k (grain s q)) s sound P Q refl refl).frame.members
      (collision-kept n p (renewed x v s.clock k (grain s p)) s h sound t N P refl q (renewed y w s.clock k (grain s q)) Q refl (λ c D r o e f. prior c D r o (e, f)) z)
  execute_kept (MoveToNeighbour p x k) m z prior = neighbour_kept n p x k s h sound N (in_cell p c₀ s sound C m.0).grain m.1 (λ c D r o. prior c D r o tt) z
  execute_kept (MoveOutOfCell p x k) m z prior = out_kept n p x k s h sound N (in_cell p c₀ s sound C m.0).grain (rw m.1 C) prior z
  execute_kept (WallReflection p x v w) m z prior =
      let P = (in_cell p c₀ s sound C m.0).grain in
      as_lists (WallReflection p x v w) (wall_goes p (renewed x v s.clock w (grain s p)) s sound P refl).frame.members
      (wall_kept n p (renewed x v s.clock w (grain s p)) s h sound t N P refl (λ c D r o e. prior c D r o (e, tt)) z)
  execute_kept Synchronisation m z prior =
      let mild : Every Mild (acts_of rate Synchronisation s) = every_before Mild _ _ s (every_turn Mild stepping (length s.grains) 0 s mild_step) (λ u. ((refl, λ g. refl), λ v. tt)) in
      λ c D r o. row_mild c r (acts_of rate Synchronisation s) s h mild (prior c D r (same_concerns s (doing (acts_of rate Synchronisation s) s).st c r (row_lists (acts_of rate Synchronisation s) s mild).0 o) tt)

-- ---- the head is taken out
abbrev event_kind : Event → ℕ
event_kind (InterParticleCollision p q x y v w k) = 1
event_kind (MoveToNeighbour p x k) = 2
event_kind (MoveOutOfCell p x k) = 3
event_kind (WallReflection p x v w) = 4
event_kind Synchronisation = 5

kind_is : (k : ℕ) (x : Place) → 1 ≤ k → k ≤ 5 → event_kind (event_of k x) ≡ k
kind_is zero x a b = absurd (omega arith)
kind_is (suc zero) x a b = refl
kind_is (suc (suc zero)) x a b = refl
kind_is (suc (suc (suc zero))) x a b = refl
kind_is (suc (suc (suc (suc zero)))) x a b = refl
kind_is (suc (suc (suc (suc (suc k))))) x a b = omega arith

entry_kind : (r : Rule) → 2 ≡ kind_of r → Entry r
entry_kind (pair p q) e = absurd (omega (arith, e))
entry_kind (bound ToNeighbour p d) e = tt
entry_kind (bound OutOfCell p d) e = absurd (omega (arith, e))
entry_kind (bound Wall p d) e = absurd (omega (arith, e))
entry_kind sync e = absurd (omega (arith, e))

no_sync : (s : State) (c : ℕ) (r : Rule) → Concerns s c r → 5 ≡ kind_of r → ⊥
no_sync s c (pair p q) m e = omega (arith, e)
no_sync s c (bound ToNeighbour p d) m e = omega (arith, e)
no_sync s c (bound OutOfCell p d) m e = omega (arith, e)
no_sync s c (bound Wall p d) m e = omega (arith, e)
no_sync s c sync m e = m

-- what a rule that the event leaves alone found is not the event; of an entry it may be
not_found : (s : State) (n c : ℕ) (l : List ℕ) (r : Rule) (k : ℕ) (e : Event) → event_kind e ≡ k → Named n c l e → Concerns s c r → Leaves e c r → k ≡ kind_of r → ((g : ℕ) → names e g ≡ about r g) → Entry r
not_found s n c l r k (InterParticleCollision p q x y v w a) q' m o f b t = differ (sym (t p) ∙ (rw (eq-eqb p p refl))) f.0
not_found s n c l r k (MoveToNeighbour p x j) q' m o f b t = entry_kind r (q' ∙ b)
not_found s n c l r k (MoveOutOfCell p x j) q' m o f b t = differ (sym (t p) ∙ eq-eqb p p refl) (rw (m.1, eq-eqb c c refl) at f)
not_found s n c l r k (WallReflection p x v w) q' m o f b t = differ (sym (t p) ∙ eq-eqb p p refl) f.0
not_found s n c l r k Synchronisation q' m o f b t = absurd (no_sync s c r o (q' ∙ b))

head_told : (d : Dated) (l : List Dated) (q : List Place) → dated_places (d ∷ l) ≡ q → d.event ≡ head_place q
unfolding dated_places
head_told d l q e = ap head_place e

-- ---- a step
module _ (s : State) (h : History) (st : Stands s) (t : Tells h s) (kept : AllKept (cells s.box) s h) where
  taken_prior : Prior (head_event s) (cells s.box) (taken s) (took (first s) ∷ h)
  unfolding taken requeued
  taken_prior c C r m l = took_keeps c (first s) r h not' (kept c C r (same_concerns s (taken s) c r refl m))
    where
      not' : first s ≡ c → (d : Dated) (k : List Dated) → dated h c ≡ d ∷ k → Not r d.event
      not' e d k q =
          let w : d.event ≡ head s = head_told d k (queue s c) (ap dated_places (sym q) ∙ t.queues c (omega (arith, st.sound.long))) ∙ ap (λ (j : ℕ). head_place (queue s j)) (sym e) in
          let o = head_ok s st in
          subst (Not r) (sym w) (not_found s (cells s.box) c (listed s c) r (head s).kind (head_event s) (kind_is (head s).kind (head s) o.kind.0 o.kind.1) (subst (λ (j : ℕ). Named (cells s.box) j (listed s j) (head_event s)) e o.named) (same_concerns s (taken s) c r refl m) l)

step_kept : (rate : Float) (s : State) (h : History) → Stands s → Tells h s → Parts rate s h → AllKept (cells s.box) s h → AllKept (cells (step rate s).state.box) (step rate s).state (step_done rate s h)
unfolding step_done
step_kept rate s h st t p k c C r m =
    execute_kept (cells s.box) rate (first s) (taken s) (took (first s) ∷ h) p.sound₀ p.tells₀ p.cells₀ p.cell (head_event s) p.named p.whole (taken_prior s h st t k) c (rw (← p.box) C) r (subst (λ (u : State). Concerns u c r) p.left m)

-- ---- a start: grains go in, then every cell is gone through
pairs_made : (c : ℕ) (l : List ℕ) (s : State) (h : History) → (doing (pairing c l s) s).num ≡ 0 → (p q : ℕ) → has p l ≡ true → has q l ≡ true → eqb p q ≡ false → Kept (row_done (pairing c l s) s h) c (pair p q)
unfolding pairing has
pairs_made c [] s h z p q a b d = clash a
pairs_made c (x ∷ xs) s h z p q a b d =
    let t = then_whole (of_each (colliding c x) xs s) (pairing c xs) s h z in
    let u = (doing (of_each (colliding c x) xs s) s).st in
    let h1 = row_done (of_each (colliding c x) xs s) s h in
    let made : (y : ℕ) → has y xs ≡ true → (r : Rule) → same_rule r (pair x y) ≡ true → Kept (row_done (pairing c xs u) u h1) c r = λ y m r e. row_mild c r (pairing c xs u) u h1 (mild_pairs c xs u) (collisions_made c x xs s h t.first y m r e) in
    rw t.told (
    or_case (eqb p x) (has p xs) (Kept (row_done (pairing c xs u) u h1) c (pair p q)) a
    (λ e. or_case (eqb q x) (has q xs) (Kept (row_done (pairing c xs u) u h1) c (pair p q)) b
    (λ f. differ (eq-eqb p q (eqb-true p x e ∙ sym (eqb-true q x f))) d)
    (λ f. made q f (pair p q) (rw (e, eq-eqb q q refl))))
    (λ e. or_case (eqb q x) (has q xs) (Kept (row_done (pairing c xs u) u h1) c (pair p q)) b
    (λ f. made p e (pair p q) (rw (f, eq-eqb p p refl) (or-true (eqb p x && eqb q p))))
    (λ f. pairs_made c xs u h1 t.second p q e f d)))

abbrev pub Cell : State → ℕ → History → Type 0
Cell s c h = (r : Rule) → Concerns s c r → Kept h c r

init_made : (c : ℕ) (s : State) (h : History) → (doing (initiates c s) s).num ≡ 0 → Cell s c (row_done (initiates c s) s h)
init_made c s h z =
    let t = then_whole (first_sync c s) ((λ u. pairing c (listed u c) u) ⨟ (λ w. of_each (bounding c) (listed w c) w)) s h z in
    let u = (doing (first_sync c s) s).st in
    let h1 = row_done (first_sync c s) s h in
    let v = then_whole (pairing c (listed u c) u) (λ w. of_each (bounding c) (listed w c) w) u h1 t.second in
    let w = (doing (pairing c (listed u c) u) u).st in
    let h2 = row_done (pairing c (listed u c) u) u h1 in
    let su = row_lists (first_sync c s) s (mild_sync c s) in
    let sw = lists_on s u w su (row_lists (pairing c (listed u c) u) u (mild_pairs c (listed u c) u)) in
    rw (t.told, v.told) (by u w h2 su sw
    (λ p q a b d. row_mild c (pair p q) (of_each (bounding c) (listed w c) w) w h2 (every_each Mild (bounding c) (listed w c) w (mild_bound c)) (pairs_made c (listed u c) u h1 v.first p q a b d))
    (λ p m b d D.
    each_makes (bounding c) Any (λ i l. (b : Bound) (d : ℕ) → d < 2 → Kept l c (bound b i d)) (mild_bound c) (λ w v m i. tt) (λ i w v l m k b d D. row_mild c (bound b i d) w v l m (k b d D))
    (λ i v l o y. bounds_made c i v l y) (listed w c) w h2 tt v.second p m b d D))
  where
    by : (u w : State) (k : History) → SameLists s u → SameLists s w
        → ((p q : ℕ) → has p (listed u c) ≡ true → has q (listed u c) ≡ true → eqb p q ≡ false → Kept (row_done (of_each (bounding c) (listed w c) w) w k) c (pair p q))
        → ((p : ℕ) → has p (listed w c) ≡ true → (b : Bound) (d : ℕ) → d < 2 → Kept (row_done (of_each (bounding c) (listed w c) w) w k) c (bound b p d))
        → Cell s c (row_done (of_each (bounding c) (listed w c) w) w k)
    by u w k su sw f g (pair p q) m = let o : Concerns u c (pair p q) = same_concerns u s c (pair p q) (sym su.0) m in f p q o.0 o.1 o.2
    by u w k su sw f g (bound b p d) m = let o : Concerns w c (bound b p d) = same_concerns w s c (bound b p d) (sym sw.0) m in g p o.0 b d o.1
    by u w k su sw f g sync m = absurd m

start_kept : (b : Domain) (room : ℕ) (gs : List Particle) → Opened b room gs → AllKept (cells (begin b room gs).st.box) (begin b room gs).st (start_done b room gs)
start_kept b room gs o c C r m =
    let u = placed b room gs in
    let same = row_lists (in_turn initiates (cells b) 0 u) u (every_turn Mild initiates (cells b) 0 u mild_init) in
    rw o.told
    (turn_makes initiates (SameLists u) (λ c l. Cell u c l) mild_init (λ w v m i. lists_on u v (doing w v).st i (row_lists w v m)) (λ c w v l m k r o. row_mild c r w v l m (k r o))
    (λ c v l i y r o. init_made c v l y r (same_concerns v u c r (sym i.0) o))
    (cells b) 0 u (placing b room gs) (refl, refl) o.whole c (omega arith) (begin_cells b room gs c C) r
    (same_concerns u (doing (in_turn initiates (cells b) 0 u) u).st c r same.0 (subst (λ (x : State). Concerns x c r) o.left m)))

-- NO MISSING EVENT
pub none_missing_lem : (s : State) (r : Reached s) → s.mark ≡ 0 → NoneMissing (history s r) s
none_missing_lem s r m c C o k = (reached_along (λ h u. AllKept (cells u.box) u h) step_kept s r (λ st. start_kept r.box r.room r.grains) m c C o k).watched
