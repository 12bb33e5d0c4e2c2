-- T-13, NO EVENT FROM AN OLD VELOCITY: in every unhalted state each pending event was put in after the last change of velocity of every grain that it names.
-- Assumes nothing.
use Prim.Native.Nat.{ℕ, suc, ◌≤◌, ◌<◌}
use mathlib.Core.Path.{◌≡◌, refl, sym, ap, subst, ◌∙◌}
use mathlib.Core.Logic.{◌⊎◌, inl, inr}
use mathlib.Core.List.{List, [], ◌∷◌}
use mathlib.Core.Bool.{Bool, true, false, cond}
use native.Mathlib.Omega.{arith}
use lib.Dec.{eqb}
use lib.ListN.{length}
use lib.Ieee.{Float}
use borrow.Author.Tests.{eqb-true}
use Rattle.halting.specs.Every.{All}
use Rattle.halting.proofs.Bools.{differ}
use Rattle.halting.proofs.All.{all_to}
use Rattle.model.specs.declared.Domain.{Domain}
use Rattle.model.specs.declared.Particle.{Particle}
use Rattle.model.specs.declared.Place.{Place}
use Rattle.model.specs.declared.Event.{Event}
use Rattle.model.specs.declared.Event.TheVariants.{InterParticleCollision, MoveToNeighbour, MoveOutOfCell, WallReflection, Synchronisation}
use Rattle.model.specs.Grid.{cells}
use Rattle.model.specs.Events.{names, event_of}
use Rattle.model.specs.Stepping.{renewed}
use Rattle.model.specs.State.{State, grain, queue, listed}
use Rattle.model.specs.Acts.{first, taken}
use Rattle.model.specs.Execute.{head_event, step}
use Rattle.model.specs.Start.{clear, begin}
use Rattle.model.specs.Reached.{Reached}
use Rattle.model.specs.Rows.{Act, perform, Acts, doing, ◌⨟◌, in_turn, reschedules, acts_of, goes, initiates}
use Rattle.model.specs.History.{Deed, did, took, History, row_done, latest, turns, turned, Dated, named_by, dated_places, change, dated, step_done, start_done, history, Later, NoneOld}
use Rattle.model.proofs.Sound.{Sound, Named, Stands}
use Rattle.model.proofs.Frame.{in_cell}
use Rattle.model.proofs.Forgets.{Free}
use Rattle.model.proofs.Reached.{reached_well}
use Rattle.model.proofs.Along.{Parts, placed, placing, Opened, reached_tells, reached_along}
use Rattle.model.proofs.Renews.{Renewed, reflects, wall_renewed, collides, collision-renewed}
use Rattle.model.proofs.Velocities.{Calm, calm_again, calm_wall, calm_both, calm_collision, calm_init, acts_calm}
use Rattle.model.proofs.Told.{latest_below, all_change, Tells, Every, every_before, every_each, every_turn, done_keeps}

-- of n cells: every pending event that names g was put in after g's last change of velocity
abbrev pub Fresh : ℕ → ℕ → History → Type 0
Fresh n g h = (c : ℕ) → c < n → All (λ d. named_by d g ≡ true → turned h g < d.by) (dated h c)

-- ---- rows that turn no grain g keep what is fresh of it
module _ (n g : ℕ) where
  fresh_on : (d : Deed) (h : History) → turns g d ≡ false → Fresh n g h → Fresh n g (d ∷ h)
  unfolding latest dated
  fresh_on d h e f c C =
      let below = latest_below (turns g) h in
      subst (λ (b : Bool). All (λ x. named_by x g ≡ true → cond b (suc (length h)) (turned h g) < x.by) (change d (suc (length h)) c (dated h c))) (sym e)
      (all_change (λ x. named_by x g ≡ true → turned h g < x.by) d (suc (length h)) c (dated h c) (λ p m. omega (arith, below)) (f c C))

  row_fresh : (w : Acts) (s : State) (h : History) → Every (Calm g) w → Fresh n g h → Fresh n g (row_done w s h)
  row_fresh = done_keeps (Calm g) (Fresh n g) (λ a s h c z f. fresh_on (did a) h c f)

-- ---- where no pending event names g
unnamed_all : (g : ℕ) (l : List Dated) → All (λ e. names (event_of e.kind e) g ≡ false) (dated_places l) → All (λ d. named_by d g ≡ false) l
unfolding dated_places
unnamed_all g [] a = tt
unnamed_all g (x ∷ xs) a = (a.0, unnamed_all g xs a.1)

pub free_dated : (g c : ℕ) (h : History) (s : State) → Tells h s → c < length s.queues → Free g c s → All (λ d. named_by d g ≡ false) (dated h c)
free_dated g c h s t C f = unnamed_all g (dated h c) (subst (λ (l : List Place). All (λ e. names (event_of e.kind e) g ≡ false) l) (sym (t.queues c C)) f)

nowhere_fresh : (n g : ℕ) (h : History) (s : State) → Tells h s → n ≤ length s.queues → ((c : ℕ) → c < n → Free g c s) → Fresh n g h
nowhere_fresh n g h s t N f c C =
    all_to (λ d. named_by d g ≡ false) (λ d. named_by d g ≡ true → turned h g < d.by) (dated h c) (λ d e m. differ m e) (free_dated g c h s t (omega arith) (f c C))

-- ---- a reflection and a collision
module _ (n g p : ℕ) (x : Particle) (s : State) (h : History) (sound : Sound s) (t : Tells h s) (N : n ≡ cells s.box) (P : p < length s.grains) (X : x.time ≡ s.clock) where
  -- from where nothing names g, acts that do not turn it
  renewed_fresh : (Q : ℕ → Type 0) (rest : State → Acts) (l : History) → ((u : State) → Every (Calm g) (rest u)) → Q g → Renewed Q rest s h l → Fresh n g l
  renewed_fresh Q rest l calm q f =
      let C : n ≡ cells f.at.box = N ∙ ap cells (sym f.keeps.frame.near.box) in
      rw f.told (row_fresh n g (rest f.at) f.at f.so (calm f.at) (nowhere_fresh n g f.so f.at f.tells (let e = f.keeps.sound.long in omega (arith, e, C)) (λ c K. f.free g q c (rw (← C) K))))

  wall_fresh : (doing (reflects p x s) s).num ≡ 0 → Fresh n g h → Fresh n g (row_done (reflects p x s) s h)
  wall_fresh z f = by (eqb p g) refl
    where
      row : State → Acts
      row = reflects p x

      by : (b : Bool) → eqb p g ≡ b → Fresh n g (row_done (row s) s h)
      by true e = renewed_fresh (λ i. i ≡ p) (reschedules p) (row_done (row s) s h) (calm_again g p) (sym (eqb-true p g e)) (wall_renewed p x s h sound t P X z)
      by false e = row_fresh n g (row s) s h (calm_wall g p x s e) f

  module _ (q : ℕ) (y : Particle) (Q : q < length s.grains) (Y : y.time ≡ s.clock) where
    collision-fresh : (doing (collides p x q y s) s).num ≡ 0 → Fresh n g h → Fresh n g (row_done (collides p x q y s) s h)
    collision-fresh z f = by (eqb p g) refl (eqb q g) refl
      where
        row : State → Acts
        row = collides p x q y

        named : (g ≡ p) ⊎ (g ≡ q) → Fresh n g (row_done (row s) s h)
        named m = renewed_fresh (λ i. (i ≡ p) ⊎ (i ≡ q)) (reschedules p ⨟ reschedules q) (row_done (row s) s h) (calm_both g p q) m (collision-renewed p x s h sound t P X q y Q Y z)

        by : (b : Bool) → eqb p g ≡ b → (d : Bool) → eqb q g ≡ d → Fresh n g (row_done (row s) s h)
        by true e d e' = named (inl (sym (eqb-true p g e)))
        by false e true e' = named (inr (sym (eqb-true q g e')))
        by false e false e' = row_fresh n g (row s) s h (calm_collision g p x q y s e e') f

-- ---- any event
module _ (n g : ℕ) (rate : Float) (c : ℕ) (s : State) (h : History) (sound : Sound s) (t : Tells h s) (N : n ≡ cells s.box) (C : c < cells s.box) where
  execute_fresh : (e : Event) → Named (cells s.box) c (listed s c) e → (doing (acts_of rate e s) s).num ≡ 0 → Fresh n g h → Fresh n g (row_done (acts_of rate e s) s h)
  execute_fresh (InterParticleCollision p q x y v w k) m z f =
      collision-fresh n g p (renewed x v s.clock k (grain s p)) s h sound t N (in_cell p c s sound C m.0).grain refl q (renewed y w s.clock k (grain s q)) (in_cell q c s sound C m.1).grain refl z f
  execute_fresh (MoveToNeighbour p x k) m z f = row_fresh n g _ s h (acts_calm g rate (MoveToNeighbour p x k) s refl) f
  execute_fresh (MoveOutOfCell p x k) m z f = row_fresh n g _ s h (acts_calm g rate (MoveOutOfCell p x k) s refl) f
  execute_fresh (WallReflection p x v w) m z f = wall_fresh n g p (renewed x v s.clock w (grain s p)) s h sound t N (in_cell p c s sound C m.0).grain refl z f
  execute_fresh Synchronisation m z f = row_fresh n g _ s h (acts_calm g rate Synchronisation s refl) f

-- ---- a step
abbrev AllFresh : History → State → Type 0
AllFresh h s = (g : ℕ) → Fresh (cells s.box) g h

step_fresh : (rate : Float) (s : State) (h : History) → Stands s → Tells h s → Parts rate s h → AllFresh h s → AllFresh (step_done rate s h) (step rate s).state
unfolding step_done
step_fresh rate s h st t p f g =
    subst (λ (n : ℕ). Fresh n g (step_done rate s h)) (sym (ap cells p.box))
    (execute_fresh (cells s.box) g rate (first s) (taken s) (took (first s) ∷ h) p.sound₀ p.tells₀ p.cells₀ p.cell (head_event s) p.named p.whole (fresh_on (cells s.box) g (took (first s)) h refl (f g)))

-- ---- a start: until all grains are in nothing is put in, and from then on no grain is turned
abbrev Quiet : Act → Type 0
Quiet a = (n c : ℕ) → change (did a) n c [] ≡ []

abbrev pub Empty : History → Type 0
Empty h = (c : ℕ) → dated h c ≡ []

empty_on : (a : Act) (s : State) (h : History) → Quiet a → (perform a s).num ≡ 0 → Empty h → Empty (did a ∷ h)
unfolding dated
empty_on a s h q z e c = ap (change (did a) (suc (length h)) c) (e c) ∙ q (suc (length h)) c

pub goes_empty : (b : Domain) (room : ℕ) (gs : List Particle) → Empty (placing b room gs)
goes_empty b room gs =
    let s = clear b room (length gs) in
    done_keeps Quiet Empty empty_on (in_turn (goes gs) (length gs) 0 s) s [] (every_turn Quiet (goes gs) (length gs) 0 s (λ i v. every_before Quiet _ _ v ((λ n c. refl), λ v. tt) (λ v. every_each Quiet _ _ v (λ c v. ((λ n c. refl), λ v. tt))))) (unfold dated in λ c. refl)

start_fresh : (b : Domain) (room : ℕ) (gs : List Particle) → Opened b room gs → AllFresh (start_done b room gs) (begin b room gs).st
start_fresh b room gs o g =
    let u = placed b room gs in
    rw o.told (row_fresh (cells (begin b room gs).st.box) g (in_turn initiates (cells b) 0 u) u (placing b room gs) (every_turn (Calm g) initiates (cells b) 0 u (calm_init g)) (λ c C. rw (goes_empty b room gs c) tt))

-- NO EVENT FROM AN OLD VELOCITY
pub none_old : (s : State) (r : Reached s) → s.mark ≡ 0 → NoneOld (history s r) s
none_old s r m c C = each_of (dated (history s r) c) (λ g. reached_along AllFresh step_fresh s r (λ st. start_fresh r.box r.room r.grains) m g c C)
  where
    each_of : (l : List Dated) → ((g : ℕ) → All (λ d. named_by d g ≡ true → turned (history s r) g < d.by) l) → All (Later (history s r)) l
    each_of [] f = tt
    each_of (x ∷ xs) f = ((λ g. (f g).0), each_of xs (λ g. (f g).1))

-- and the pending events of the history, without their numbers, are those of the state
pub all_told : (s : State) (r : Reached s) → s.mark ≡ 0 → (c : ℕ) → c < cells s.box → dated_places (dated (history s r) c) ≡ queue s c
all_told s r m c C = (reached_tells s r m).queues c (let l = (reached_well s r).sound.long in omega (arith, l))
