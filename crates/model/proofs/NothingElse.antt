-- NOTHING ELSE IS PENDING: in every unhalted state each pending event of a cell is what the last try of a rule that the cell owes found, a pair's by the grain that asked;
-- the one synchronisation of cell 0 among them. Assumes nothing.
use Prim.Native.Nat.{ℕ, ◌+◌, ◌<◌}
use mathlib.Core.Path.{◌≡◌, refl, sym, ap, subst, ◌∙◌}
use mathlib.Core.Logic.{◌⊎◌, inl, inr}
use mathlib.Core.List.{List, [], ◌∷◌}
use mathlib.Core.Bool.{Bool, true, false, ◌&&◌, ◌||◌, cond}
use native.Mathlib.Omega.{arith}
use lib.Dec.{eqb}
use lib.ListN.{length}
use lib.Ieee.{Float, binary64, add}
use borrow.Author.Tests.{eqb-true, eq-eqb}
use Rattle.myvec.specs.declared.MyVec.{MyVec}
use Rattle.halting.specs.Out.{Out}
use Rattle.halting.specs.Every.{All}
use Rattle.halting.proofs.Bools.{differ}
use Rattle.halting.proofs.All.{all_to, all_always}
use Rattle.model.specs.declared.Domain.{Domain}
use Rattle.model.specs.declared.Particle.{Particle}
use Rattle.model.specs.declared.Event.{Event}
use Rattle.model.specs.declared.Event.TheVariants.{InterParticleCollision, MoveToNeighbour, MoveOutOfCell, WallReflection, Synchronisation}
use Rattle.model.specs.Grid.{cells}
use Rattle.model.specs.Stepping.{renewed, landed}
use Rattle.model.specs.Events.{names, event_of}
use Rattle.model.specs.State.{State, Row, live_at, grain, listed, queue, has, requeued}
use Rattle.model.specs.Acts.{store, cancelled, enter, gone, first, taken}
use Rattle.model.specs.Acts as Acts
use Rattle.model.specs.Execute.{head_event, step}
use Rattle.model.specs.Start.{begin}
use Rattle.model.specs.Standing.{Once, syncs, one_if}
use Rattle.model.proofs.Sound.{Sound, Held, Named, Stands}
use Rattle.model.specs.Reached.{Reached}
use Rattle.model.specs.Rows.{about, Rule, pair, bound, sync, Act, moving, turning, trying, cancelling, entering, leaving, doing, only, ◌⨟◌, in_turn, stepping, scheduling, reschedules, syncing, acts_of, initiates}
use Rattle.model.specs.History.{did, took, History, row_done, Dated, named_by, dated_places, keep_dated, dated, step_done, start_done, history}
use Rattle.model.specs.Missing.{Owes, Owed, NothingElse}
use Rattle.model.specs.Doing.{execution}
use Rattle.model.proofs.Along.{Parts, begin_box, placed, placing, Opened, reached_along}
use Rattle.model.proofs.Cases.{enter_case}
use Rattle.model.proofs.Forgets.{unnamed}
use Rattle.model.proofs.Frame.{Keeps, keeps_on, store_keeps, cancelled_keeps, same_clock, in_cell, in_home, enter_goes, enter_in}
use Rattle.model.proofs.Lists.{has_entered, has_left}
use Rattle.model.proofs.NoneOld.{free_dated, goes_empty}
use Rattle.model.proofs.Performs.{is_one, execute_is}
use Rattle.model.proofs.Plans.{cells_some}
use Rattle.model.proofs.Renews.{Settles, settled_keeps, reflects, wall_renewed, collides, collision-renewed}
use Rattle.model.proofs.Schedule.{collision_goes, wall_goes}
use Rattle.model.proofs.Scheduled.{SameLists, row_lists, mild_schedule, mild_init, mild_step, Mild}
use Rattle.model.proofs.Steps.{taken_syncs}
use Rattle.model.proofs.Told.{Tells, one_whole, one_told, every_before, every_turn}
use Rattle.model.proofs.Watched.{concerns_by, enter_done, leave_done}
use Rattle.model.proofs.Asked.{Mine, AllMine, Clean, mine_quiet, mine_enter, mine_lists, clean_by, clean_free}
use Rattle.model.proofs.Orderly.{Orderly, Either, Just, Asking, Again, asking_by, asking_within, asking_owes, orderly_mine, orderly_before, orderly-turn, schedule_orderly, again_orderly, init_orderly, steps_turn}

-- ---- what cells owe by other lists
owes_more : (s u : State) (c : ℕ) (r : Rule) → ((g : ℕ) → about r g ≡ true → has g (listed s c) ≡ true → has g (listed u c) ≡ true) → Owes s c r → Owes u c r
owes_more s u c (pair p q) f o = concerns_by u s c (pair p q) f o
owes_more s u c (bound b p d) f o = concerns_by u s c (bound b p d) f o
owes_more s u c sync f o = o

module _ (n : ℕ) (s : State) (h : History) (mine : AllMine n s h) where
  same_mine : (u : State) → u.members ≡ s.members → AllMine n u h
  same_mine u e =
      mine_lists n s h mine u (λ c d. Unit {0}) (λ c C. all_always (λ d. Unit {0}) (λ d. tt) (dated h c))
      (λ c C d t m. owes_more s u c m.owed.rule (λ g w k. ap (λ (l : List (Row ℕ)). has g (live_at l c)) e ∙ k) m.owed.owes)

  settle_mine : (a : Act) → Settles a → AllMine n s (did a ∷ h)
  settle_mine (moving g x t) e = absurd e
  settle_mine (turning g x) e = mine_quiet n s h mine (did (turning g x)) (λ c r. refl) (λ i c. refl)
  settle_mine (trying c r x) e = absurd e
  settle_mine (cancelling g c) e = mine_quiet n s h mine (did (cancelling g c)) (λ k r. refl) (λ i k. refl)
  settle_mine (entering g c) e = absurd e
  settle_mine (leaving g c) e = absurd e

-- ---- a grain is scheduled in all its cells, where nothing names it
module _ (n : ℕ) (s : State) (sound : Sound s) (N : n ≡ cells s.box) where
  again_row : (p : ℕ) → p < length s.grains → (u : State) → SameLists s u → Orderly s (Again s p) (reschedules p u)
  again_row p P u l = again_orderly s p u (sound.lists.homes.each p P).once (λ c h. (sound.lists.members.each c (in_home p c s sound P h).cell).once) l

  again_asks : (p : ℕ) → p < length s.grains → (h : History) → AllMine n s h → ((c : ℕ) → c < n → All (λ d. named_by d p ≡ false) (dated h c)) → (c : ℕ) (r : Rule) → Again s p c r → Owes s c r × Clean h c r
  again_asks p P h m f c r (x, i, k) =
      let w = in_home p x s sound P i in
      let C : c < n = rw (k.0, N) w.cell in
      (asking_owes s p x c r w.there k, clean_free n s h m c C r p (asking_within (listed s x) p x c r k) (f c C))

-- ---- a reflection and a collision
module _ (n p : ℕ) (x : Particle) (s : State) (h : History) (sound : Sound s) (t : Tells h s) (N : n ≡ cells s.box) (P : p < length s.grains) (X : x.time ≡ s.clock) (mine : AllMine n s h) where
  wall_mine : (doing (reflects p x s) s).num ≡ 0 → AllMine n s (row_done (reflects p x s) s h)
  wall_mine z =
      let f = wall_renewed p x s h sound t P X z in
      let u = f.at in
      let M : n ≡ cells u.box = N ∙ ap cells (sym f.keeps.frame.near.box) in
      let Q : p < length u.grains = rw f.keeps.frame.near.few P in
      let m : AllMine n u f.so = same_mine n s f.so (settled_keeps (AllMine n s) (λ a l e i. settle_mine n s l i a e) h f.so f.settled mine) u f.keeps.frame.members in
      let free : (c : ℕ) → c < n → All (λ d. named_by d p ≡ false) (dated f.so c) = λ c C. free_dated p c f.so u f.tells (let k = f.keeps.sound.long in omega (arith, k, M)) (f.free p refl c (rw (← M) C)) in
      same_mine n u (row_done (reflects p x s) s h)
      (rw f.told (orderly_mine n u (reschedules p u) (Again u p) u f.so (refl, refl) (again_row n u f.keeps.sound M p Q u (refl, refl)) (again_asks n u f.keeps.sound M p Q f.so m free) m))
      s (sym f.keeps.frame.members)

  module _ (q : ℕ) (y : Particle) (Q : q < length s.grains) (Y : y.time ≡ s.clock) (D : eqb p q ≡ false) where
    collision-mine : (doing (collides p x q y s) s).num ≡ 0 → AllMine n s (row_done (collides p x q y s) s h)
    collision-mine z =
        let f = collision-renewed p x s h sound t P X q y Q Y z in
        let u = f.at in
        let M : n ≡ cells u.box = N ∙ ap cells (sym f.keeps.frame.near.box) in
        let P4 : p < length u.grains = rw f.keeps.frame.near.few P in
        let Q4 : q < length u.grains = rw f.keeps.frame.near.few Q in
        let m : AllMine n u f.so = same_mine n s f.so (settled_keeps (AllMine n s) (λ a l e i. settle_mine n s l i a e) h f.so f.settled mine) u f.keeps.frame.members in
        let free : (g : ℕ) → (g ≡ p) ⊎ (g ≡ q) → (c : ℕ) → c < n → All (λ d. named_by d g ≡ false) (dated f.so c) = λ g w c C. free_dated g c f.so u f.tells (let k = f.keeps.sound.long in omega (arith, k, M)) (f.free g w c (rw (← M) C)) in
        same_mine n u (row_done (collides p x q y s) s h)
        (rw f.told (orderly_mine n u ((reschedules p ⨟ reschedules q) u) (Either (Again u p) (Again u q)) u f.so (refl, refl)
        (orderly_before u (reschedules p u) (reschedules q) (Again u p) (Again u q) u (refl, refl) (again_row n u f.keeps.sound M p P4 u (refl, refl)) (again_row n u f.keeps.sound M q Q4)
        (λ c r a b. differ (eq-eqb p q (sym (asking_by (listed u a.0) p a.0 c r a.2) ∙ asking_by (listed u b.0) q b.0 c r b.2)) D))
        (λ c r e. elim e [
          | inl a ↦ again_asks n u f.keeps.sound M p P4 f.so m (free p (inl refl)) c r a
          | inr b ↦ again_asks n u f.keeps.sound M q Q4 f.so m (free q (inr refl)) c r b
        ]) m))
        s (sym f.keeps.frame.members)

-- ---- entering and leaving a cell
enter_new : (g c : ℕ) (s : State) → (enter g c s).num ≡ 0 → has g (listed s c) ≡ false
enter_new g c s = enter_case (λ o. o.num ≡ 0 → has g (listed s c) ≡ false) s g c (λ a z. absurd (omega (arith, z))) (λ z. absurd (omega (arith, z))) (λ a b d z. a)

keep_unnamed : (g : ℕ) (l : List Dated) → All (λ d. named_by d g ≡ false) (keep_dated g l)
unfolding keep_dated
keep_unnamed g [] = tt
keep_unnamed g (x ∷ xs) = by (named_by x g) refl (keep_unnamed g xs)
  where
    by : (b : Bool) → named_by x g ≡ b → All (λ d. named_by d g ≡ false) (keep_dated g xs) → All (λ d. named_by d g ≡ false) (cond b (keep_dated g xs) (x ∷ keep_dated g xs))
    by true e i = i
    by false e i = (e, i)

module _ (n p : ℕ) (x : MyVec) (k : ℕ) (s : State) (h : History) (sound : Sound s) (N : n ≡ cells s.box) (P : p < length s.grains) (K : k < cells s.box) (mine : AllMine n s h) where
  abbrev s₁ : State
  s₁ = (store p (landed x s.clock (grain s p)) s).st

  abbrev h₁ : History
  h₁ = did (moving p x s.clock) ∷ h

  moved : Keeps s s₁
  moved = store_keeps s p (landed x s.clock (grain s p)) sound P (same_clock s sound)

  moved_mine : AllMine n s h₁
  moved_mine = mine_quiet n s h mine (did (moving p x s.clock)) (λ c r. refl) (λ g c. refl)

  neighbour_mine : Tells h s → let row = (only (moving p x s.clock) ⨟ only (entering p k) ⨟ scheduling p k) s in (doing row s).num ≡ 0 → AllMine n (doing row s).st (row_done row s h)
  unfolding dated
  neighbour_mine t z =
      let a = one_whole (moving p x s.clock) (only (entering p k) ⨟ scheduling p k) s h z in
      let b = one_whole (entering p k) (scheduling p k) s₁ h₁ a.second in
      let s2 = (enter p k s₁).st in
      let h2 = did (entering p k) ∷ h₁ in
      let P1 : p < length s₁.grains = rw moved.frame.near.few P in
      let K1 : k < cells s₁.box = rw moved.frame.near.box K in
      let w = enter_goes s₁ p k moved.sound P1 K1 in
      let i = enter_in s₁ p k moved.sound P1 K1 b.first in
      let new : has p (listed s k) ≡ false = ap (λ (l : List (Row ℕ)). has p (live_at l k)) (sym moved.frame.members) ∙ enter_new p k s₁ b.first in
      let free : All (λ d. named_by d p ≡ false) (dated h k) = free_dated p k h s t (let l = sound.long in omega (arith, l)) (all_to (Held (cells s.box) k (listed s k)) (λ e. names (event_of e.kind e) p ≡ false) (queue s k)
      (λ e d. unnamed (listed s k) p new (cells s.box) k (event_of e.kind e) d.named) (sound.queues k K).held) in
      let m1 : AllMine n s h2 = mine_enter n s h₁ moved_mine p k (λ C. free) in
      let m2 : AllMine n s2 h2 = mine_lists n s h2 m1 s2 (λ c d. Unit {0}) (λ c C. all_always (λ d. Unit {0}) (λ d. tt) (dated h2 c))
      (λ c C d u m. owes_more s s2 c m.owed.rule (λ g v e. more (enter_done p k s₁ b.first) K1 g c (ap (λ (l : List (Row ℕ)). has g (live_at l c)) moved.frame.members ∙ e)) m.owed.owes) in
      let C2 : k < cells s2.box = i.cell in
      let left : (doing ((only (moving p x s.clock) ⨟ only (entering p k) ⨟ scheduling p k) s) s).st ≡ (doing (scheduling p k s2) s2).st = a.left ∙ b.left in
      let o : AllMine n s2 (row_done (scheduling p k s2) s2 h2) = orderly_mine n s2 (scheduling p k s2) (Asking (listed s2 k) p k) s2 h2 (refl, refl) (schedule_orderly s2 p k s2 (w.sound.lists.members.each k C2).once (refl, refl))
      (λ c r q. (asking_owes s2 p k c r i.there q, clean_free n s2 h2 m2 c (rw (q.0, N) K) r p (asking_within (listed s2 k) p k c r q) (subst (λ (j : ℕ). All (λ d. named_by d p ≡ false) (dated h j)) (sym q.0) free))) m2 in
      rw (a.told, b.told) (same_mine n s2 (row_done (scheduling p k s2) s2 h2) o _ (ap (λ (u : State). u.members) left ∙ (row_lists (scheduling p k s2) s2 (mild_schedule p k s2)).0))
    where
      more : (enter p k s₁).st ≡ Acts.entered p k s₁ → k < cells s₁.box → (g c : ℕ) → has g (listed s₁ c) ≡ true → has g (listed (enter p k s₁).st c) ≡ true
      more q K1 g c e =
          subst (λ (y : State). has g (listed y c) ≡ true) (sym q)
          (has_entered (cells s₁.box) (length s₁.grains) 32 s₁.members moved.sound.lists.members k p K1 c g ∙ ap (λ (b : Bool). b || (eqb c k && eqb g p)) e)

  out_mine : let row = (only (moving p x s.clock) ⨟ only (cancelling p k) ⨟ only (leaving p k)) s in (doing row s).num ≡ 0 → AllMine n (doing row s).st (row_done row s h)
  unfolding dated
  out_mine z =
      let a = one_whole (moving p x s.clock) (only (cancelling p k) ⨟ only (leaving p k)) s h z in
      let b = one_whole (cancelling p k) (only (leaving p k)) s₁ h₁ a.second in
      let s2 = cancelled p k s₁ in
      let h2 = did (cancelling p k) ∷ h₁ in
      let k2 : Keeps s s2 = keeps_on s s₁ s2 moved (cancelled_keeps s₁ p k moved.sound (rw moved.frame.near.box K)) in
      let l = (is_one (leaving p k)).same s2 in
      let zl = ap (λ (o : Out State). o.num) (sym l) ∙ b.second in
      let v : (doing ((only (moving p x s.clock) ⨟ only (cancelling p k) ⨟ only (leaving p k)) s) s).st ≡ gone p k s2 = a.left ∙ b.left ∙ ap (λ (o : Out State). o.st) l ∙ leave_done p k s2 zl in
      let m2 : AllMine n s h2 = mine_quiet n s h₁ moved_mine (did (cancelling p k)) (λ c r. refl) (λ g c. refl) in
      let m3 : AllMine n (gone p k s2) h2 = mine_lists n s h2 m2 (gone p k s2) (λ c d. eqb k c ≡ true → named_by d p ≡ false) (λ c C. off c (eqb k c) refl (dated h₁ c))
      (λ c C d f m. owes_more s (gone p k s2) c m.owed.rule (λ g u e. less s2 k2 g c (here g c d m f u (eqb c k) refl (eqb g p) refl) (ap (λ (y : List (Row ℕ)). has g (live_at y c)) k2.frame.members ∙ e)) m.owed.owes) in
      rw (a.told, b.told, one_told (leaving p k) s2 h2 zl, v) (mine_quiet n (gone p k s2) h2 m3 (did (leaving p k)) (λ c r. refl) (λ g c. refl))
    where
      off : (c : ℕ) (b : Bool) → eqb k c ≡ b → (l : List Dated) → All (λ d. eqb k c ≡ true → named_by d p ≡ false) (cond b (keep_dated p l) l)
      off c true e l = all_to (λ d. named_by d p ≡ false) (λ d. eqb k c ≡ true → named_by d p ≡ false) (keep_dated p l) (λ d f q. f) (keep_unnamed p l)
      off c false e l = all_always (λ d. eqb k c ≡ true → named_by d p ≡ false) (λ d q. differ q e) l

      here : (g c : ℕ) (d : Dated) (m : Mine (did (cancelling p k) ∷ h₁) s c d) → (eqb k c ≡ true → named_by d p ≡ false) → about m.owed.rule g ≡ true → (a : Bool) → eqb c k ≡ a → (b : Bool) → eqb g p ≡ b → (a && b) ≡ false
      here g c d m f u false e b q = refl
      here g c d m f u true e false q = refl
      here g c d m f u true e true q =
          differ (ap (λ (y : Dated). named_by y p) m.owed.is ∙ m.fits.1 p ∙ ap (about m.owed.rule) (sym (eqb-true g p q)) ∙ u) (f (eq-eqb k c (sym (eqb-true c k e))))

      less : (s2 : State) → Keeps s s2 → (g c : ℕ) → (eqb c k && eqb g p) ≡ false → has g (listed s2 c) ≡ true → has g (listed (gone p k s2) c) ≡ true
      less s2 k2 g c e q = has_left (cells s2.box) (length s2.grains) 32 s2.members k2.sound.lists.members k p (rw k2.frame.near.box K) c g ∙ (rw (q, e))

-- ---- a synchronisation
no_syncs : (l : List Dated) → syncs (dated_places l) ≡ 0 → All (λ d. d.event.kind ≡ 5 → ((g : ℕ) → named_by d g ≡ false) → ⊥) l
unfolding syncs dated_places
no_syncs [] z = tt
no_syncs (d ∷ l) z =
    ((λ k f. let o : one_if (event_of d.event.kind d.event) ≡ 1 = ap (λ (i : ℕ). one_if (event_of i d.event)) k in omega (arith, z, o)), no_syncs l (omega (arith, z)))

-- ---- any event
module _ (n : ℕ) (rate : Float) (c₀ : ℕ) (s : State) (h : History) (sound : Sound s) (t : Tells h s) (N : n ≡ cells s.box) (C : c₀ < cells s.box) (mine : AllMine n s h) where
  -- where the lists stay
  as_lists : (e : Event) → (execution rate e s).st.members ≡ s.members → AllMine n s (row_done (acts_of rate e s) s h) → AllMine n (doing (acts_of rate e s) s).st (row_done (acts_of rate e s) s h)
  as_lists e q m = same_mine n s (row_done (acts_of rate e s) s h) m (doing (acts_of rate e s) s).st (ap (λ (o : Out State). o.st.members) (execute_is rate e s) ∙ q)

  sync_mine : syncs (queue s 0) ≡ 0 → AllMine n (doing (acts_of rate Synchronisation s) s).st (row_done (acts_of rate Synchronisation s) s h)
  sync_mine z =
      let w = cells_some s.box in
      let q : syncs (dated_places (dated h 0)) ≡ 0 = ap syncs (t.queues 0 (let l = sound.long in omega (arith, l, w))) ∙ z in
      let clean : Clean h 0 sync = clean_by n s h mine 0 (omega (arith, w, N)) sync (no_syncs (dated h 0) q) in
      let row = acts_of rate Synchronisation s in
      let o : Orderly s (Either (λ k r. ⊥) (Just 0 sync)) row = orderly_before s (in_turn stepping (length s.grains) 0 s) (only (syncing (add binary64 s.clock rate))) (λ k r. ⊥) (Just 0 sync) s (refl, refl) (steps_turn s (length s.grains) 0 s (refl, refl))
      (λ u l. ((refl, λ g. refl), (refl, refl), λ v m. tt)) (λ k r a b. a) in
      same_mine n s (row_done row s h)
      (orderly_mine n s row (Either (λ k r. ⊥) (Just 0 sync)) s h (refl, refl) o (λ c r e. elim e [ inl a ↦ absurd a | inr b ↦ (rw b.1 b.0, subst (Clean h c) (sym b.1) (subst (λ (i : ℕ). Clean h i sync) (sym b.0) clean)) ]) mine)
      (doing row s).st (row_lists row s (every_before Mild _ _ s (every_turn Mild stepping (length s.grains) 0 s mild_step) (λ u. ((refl, λ g. refl), λ v. tt)))).0

  execute_mine : (e : Event) → Named (cells s.box) c₀ (listed s c₀) e → one_if e + syncs (queue s 0) ≡ 1 → (doing (acts_of rate e s) s).num ≡ 0 → AllMine n (doing (acts_of rate e s) s).st (row_done (acts_of rate e s) s h)
  execute_mine (InterParticleCollision p q x y v w k) m i z =
      let P = (in_cell p c₀ s sound C m.0).grain in
      let Q = (in_cell q c₀ s sound C m.1).grain in
      as_lists (InterParticleCollision p q x y v w k) (collision_goes p q (renewed x v s.clock k (grain s p)) (renewed y w s.clock k (grain s q)) s sound P Q refl refl).frame.members
      (collision-mine n p (renewed x v s.clock k (grain s p)) s h sound t N P refl mine q (renewed y w s.clock k (grain s q)) Q refl m.2 z)
  execute_mine (MoveToNeighbour p x k) m i z = neighbour_mine n p x k s h sound N (in_cell p c₀ s sound C m.0).grain m.1 mine t z
  execute_mine (MoveOutOfCell p x k) m i z = out_mine n p x k s h sound N (in_cell p c₀ s sound C m.0).grain (rw m.1 C) mine z
  execute_mine (WallReflection p x v w) m i z =
      let P = (in_cell p c₀ s sound C m.0).grain in
      as_lists (WallReflection p x v w) (wall_goes p (renewed x v s.clock w (grain s p)) s sound P refl).frame.members
      (wall_mine n p (renewed x v s.clock w (grain s p)) s h sound t N P refl mine z)
  execute_mine Synchronisation m i z = sync_mine (omega (arith, i))

-- ---- a step
step_mine : (rate : Float) (s : State) (h : History) → Stands s → Tells h s → Parts rate s h → AllMine (cells s.box) s h → AllMine (cells (step rate s).state.box) (step rate s).state (step_done rate s h)
unfolding step_done
step_mine rate s h st t p m c C =
    let h0 = took (first s) ∷ h in
    let m0 : AllMine (cells s.box) (taken s) h0 = same_mine (cells s.box) s h0 (mine_quiet (cells s.box) s h m (took (first s)) (λ c r. refl) (λ g c. refl)) (taken s) (unfold taken requeued in refl) in
    subst (λ (u : State). All (Mine (step_done rate s h) u c) (dated (step_done rate s h) c)) (sym p.left)
    (execute_mine (cells s.box) rate (first s) (taken s) h0 p.sound₀ p.tells₀ p.cells₀ p.cell m0 (head_event s) p.named (taken_syncs s st) p.whole c (rw (← p.box) C))

-- ---- a start: nothing is pending before every cell is gone through
start_mine : (b : Domain) (room : ℕ) (gs : List Particle) → Stands (begin b room gs).st → Opened b room gs → AllMine (cells (begin b room gs).st.box) (begin b room gs).st (start_done b room gs)
start_mine b room gs st o =
    let u = placed b room gs in
    let n = cells (begin b room gs).st.box in
    let same : (begin b room gs).st.members ≡ u.members = ap (λ (x : State). x.members) o.left ∙ (row_lists (in_turn initiates (cells b) 0 u) u (every_turn Mild initiates (cells b) 0 u mild_init)).0 in
    rw o.told (same_mine n u (row_done (in_turn initiates (cells b) 0 u) u (placing b room gs))
    (orderly_mine n u (in_turn initiates (cells b) 0 u) _ u (placing b room gs) (refl, refl)
    (orderly-turn u initiates (λ c k r. (k ≡ c) × Owes u c r) (λ x y c r p q. sym p.0 ∙ q.0) (cells b) 0 u
    (λ c v C l. init_orderly u c v (subst (λ (x : List (Row ℕ)). Once (live_at x c)) same (st.sound.lists.members.each c (cell_in c C)).once) l) (refl, refl))
    (λ c r q. (rw q.3.0 q.3.1, rw (goes_empty b room gs c) tt))
    (λ c C. rw (goes_empty b room gs c) tt))
    (begin b room gs).st same)
  where
    cell_in : (c : ℕ) → c < 0 + cells b → c < cells (begin b room gs).st.box
    cell_in c C = let D : c < cells b = omega (arith, C) in rw (begin_box b room gs) D

-- NOTHING ELSE IS PENDING
pub nothing_else : (s : State) (r : Reached s) → s.mark ≡ 0 → NothingElse (history s r) s
nothing_else s r m c C =
    all_to (Mine (history s r) s c) (λ d. Owed (history s r) s c d) (dated (history s r) c) (λ d k. k.owed)
    (reached_along (λ h u. AllMine (cells u.box) u h) step_mine s r (start_mine r.box r.room r.grains) m c C)
