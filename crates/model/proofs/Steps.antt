-- A step keeps the standing facts if it does not halt, and `Sound` if it does; the clock does not go back. Assumes nothing.
use Prim.Native.Nat.{ℕ, zero, suc, ◌+◌, ◌≤◌, ◌<◌}
use mathlib.Core.Path.{◌≡◌, refl, sym, ap, subst, ◌∙◌}
use mathlib.Core.List.{List, [], ◌∷◌}
use mathlib.Core.Bool.{Bool, false, not}
use native.Mathlib.Omega.{arith}
use native.Mathlib.Decide.{ℕ_discrete}
use lib.Dec.{T}
use lib.ListN.{length, set, drop}
use lib.Ieee.{Float, binary64, add, le, lt, of_bits}
use lib.Ieee.Fits.{add-fits}
use Rattle.model.specs.declared.Place.{Place}
use Rattle.model.specs.declared.Event.{Event}
use Rattle.model.specs.declared.Event.TheVariants.{InterParticleCollision, MoveToNeighbour, MoveOutOfCell, WallReflection, Synchronisation}
use Rattle.halting.specs.Out.{Out, out, next, each}
use Rattle.halting.proofs.Laws.{each_sound}
use Rattle.order.specs.Numbers.{fzero}
use Rattle.scheduler.specs.Head.{no_later}
use Rattle.order.proofs.Clock.{clock_on}
use Rattle.model.specs.Grid.{cells}
use Rattle.model.specs.Events.{event_of, head_time, head_place, insert_by, zero_p}
use Rattle.model.specs.State.{State, Row, row, grain, home, listed, queue, live_at, requeued}
use Rattle.model.specs.Acts.{insert, inserted, first, head, taken, queue_row}
use Rattle.model.specs.Doing.{step_grain, do_sync, sync_at, execution}
use Rattle.model.specs.Execute.{Stepped, done, synchronised, halted, finish, head_event, event, step}
use Rattle.model.specs.Stepping.{renewed}
use Rattle.model.specs.Standing.{syncs, one_if}
use Rattle.model.proofs.Sound.{Sound, Stands, Named, Held}
use Rattle.model.proofs.Lists.{live_same, live_other}
use Rattle.model.proofs.Cases.{insert_case}
use Rattle.model.proofs.Keeps.{Apt, insert_sound, first_in, root_first, taken_sound, taken_clock, head_held}
use Rattle.model.proofs.Plans.{cells_some}
use Rattle.model.proofs.Frame.{Keeps, Goes, keeps_refl, keeps_on, keeps_goes, syncs_insert, In, in_cell}
use Rattle.model.proofs.Schedule.{step_keeps, collision_goes, neighbour_goes, out_goes, wall_goes}
use Rattle.model.proofs.Performs.{execute_is}

-- the step was done whole
abbrev pub Whole : Stepped → Type 0
Whole done = Unit {0}
Whole synchronised = Unit {0}
Whole (halted r) = ⊥

-- ---- the synchronisation
-- what an execution leaves, k synchronisations more if it was done
pub record Ends (k : ℕ) (s : State) (o : Out State) : Type 0 where
  pub sound : Sound o.st
  pub clock : o.st.clock ≡ s.clock
  pub box : o.st.box ≡ s.box
  pub mark : o.st.mark ≡ s.mark
  pub few : length o.st.grains ≡ length s.grains
  pub housed : (g : ℕ) → 1 ≤ length (home s g) → 1 ≤ length (home o.st g)
  pub calm : o.num ≡ 0 → syncs (queue o.st 0) ≡ k + syncs (queue s 0)

pub goes_ends : (s : State) (o : Out State) → Goes s o.st → Ends 0 s o
goes_ends s o g = record { sound = g.sound; clock = g.near.clock; box = g.near.box; mark = g.near.mark; few = g.near.few; housed = g.near.housed; calm = λ z. g.near.calm ∙ omega arith }

-- an insertion in cell 0
pub insert_ends : (s : State) (x : Place) → Sound s → Apt (cells s.box) 0 (listed s 0) s.clock x → Ends (one_if (event_of x.kind x)) s (insert 0 x s)
insert_ends s x sound a =
    insert_case (λ o. Sound o.st → Ends k s o) s 0 x stops (λ r. stops) (λ f r h. done' h) (insert_sound s 0 x sound (cells_some s.box) a)
  where
    k : ℕ
    k = one_if (event_of x.kind x)

    stops : {r : ℕ} → Sound s → Ends (one_if (event_of x.kind x)) s (out (suc r) s)
    stops h = record { sound = h; clock = refl; box = refl; mark = refl; few = refl; housed = λ g k. k; calm = λ z. absurd (omega (arith, z)) }

    done' : Sound (inserted 0 x s) → Ends (one_if (event_of x.kind x)) s (out 0 (inserted 0 x s))
    done' h = unfold requeued in record {
      sound = h;
      clock = refl;
      box = refl;
      mark = refl;
      few = refl;
      housed = λ g k. k;
      calm = λ z. ap syncs (live_same s.queues 0 (row (insert_by x (queue s 0)) (drop 1 (queue_row s 0).spare)) (let w = cells_some s.box in omega (arith, sound.long))) ∙ syncs_insert x (queue s 0);
    }

module _ (rate : Float) (later : lt rate fzero ≡ false) where
  sync_apt : (s : State) (t : Float) → Sound s → t ≡ s.clock → Apt (cells s.box) 0 (listed s 0) s.clock (sync_at (add binary64 t rate))
  unfolding of_bits
  sync_apt s t sound e = record {
    kind = (omega arith, omega arith);
    fit = add-fits binary64 t rate;
    named = (refl, tt);
    ahead = λ k. rw (← e) (clock_on binary64 t rate (rw e sound.fit) (rw e sound.clock) (subst (λ (b : Bool). T (not b)) (sym later) tt) k);
  }

  -- a second part that ends, after a first part that keeps
  ends_after : (k : ℕ) (s u : State) (o : Out State) → Keeps s u → Ends k u o → Ends k s o
  ends_after k s u o a b = record {
    sound = b.sound;
    clock = b.clock ∙ a.frame.near.clock;
    box = b.box ∙ a.frame.near.box;
    mark = b.mark ∙ a.frame.near.mark;
    few = b.few ∙ a.frame.near.few;
    housed = λ g h. b.housed g (a.frame.near.housed g h);
    calm = λ z. b.calm z ∙ rw a.frame.near.calm;
  }

  next_ends : (k : ℕ) (s : State) (r : ℕ) (u : State) (f : State → Out State) → Keeps s u → ((w : State) → Keeps s w → Ends k s (f w)) → Ends k s (next r u f)
  next_ends k s zero u f a b = b u a
  next_ends k s (suc r) u f a b = record {
    sound = a.sound;
    clock = a.frame.near.clock;
    box = a.frame.near.box;
    mark = a.frame.near.mark;
    few = a.frame.near.few;
    housed = a.frame.near.housed;
    calm = λ z. absurd (omega (arith, z));
  }

  pub sync_ends : (s : State) → Sound s → Ends 1 s (do_sync rate s)
  unfolding do_sync
  sync_ends s sound =
      next_ends 1 s (each step_grain (length s.grains) 0 s).num _ _
      (each_sound step_grain (Keeps s) (length s.grains) (λ g u h k. keeps_on s u _ k (step_keeps u g k.sound (rw k.frame.near.few h))) (length s.grains) 0 s (omega arith) (keeps_refl s sound))
      (λ u k. ends_after 1 s u _ k (insert_ends u (sync_at (add binary64 s.clock rate)) k.sound (sync_apt u s.clock k.sound (sym k.frame.near.clock))))

  -- ---- any event of a cell
  pub execute_ends : (e : Event) (c : ℕ) (s : State) → Sound s → c < cells s.box → Named (cells s.box) c (listed s c) e → Ends (one_if e) s (execution rate e s)
  execute_ends (InterParticleCollision p q x y v w k) c s sound C n =
      goes_ends s _ (keeps_goes s _ (collision_goes p q (renewed x v s.clock k (grain s p)) (renewed y w s.clock k (grain s q)) s sound (in_cell p c s sound C n.0).grain (in_cell q c s sound C n.1).grain refl refl))
  execute_ends (MoveToNeighbour p x k) c s sound C n = goes_ends s _ (neighbour_goes p x k s sound (in_cell p c s sound C n.0).grain n.1)
  execute_ends (MoveOutOfCell p x k) c s sound C n = goes_ends s _ (out_goes p x k s sound (subst (λ (j : ℕ). In p j s) (sym n.1) (in_cell p c s sound C n.0)))
  execute_ends (WallReflection p x v w) c s sound C n = goes_ends s _ (keeps_goes s _ (wall_goes p (renewed x v s.clock w (grain s p)) s sound (in_cell p c s sound C n.0).grain refl))
  execute_ends Synchronisation c s sound C n = sync_ends s sound

-- ---- there is a first event
-- a list whose head is no later than that of one with a synchronisation holds an event
some_of : (l m : List Place) → syncs m ≡ 1 → T (no_later (head_time l) (head_time m)) → 0 < length l
unfolding syncs
some_of [] [] z h = absurd (omega (arith, z))
some_of [] (y ∷ ys) z h = absurd h
some_of (x ∷ xs) m z h = omega arith

pub first_some : (s : State) → Stands s → 0 < length (queue s (first s))
first_some s st =
    let N = cells_some s.box in
    some_of (queue s (first s)) (queue s 0) st.sync (root_first s st.sound N 0 N)

-- the head's synchronisations and those left in cell 0 are those that were there
syncs_tail : (l : List Place) → 0 < length l → one_if (event_of (head_place l).kind (head_place l)) + syncs (drop 1 l) ≡ syncs l
unfolding syncs
syncs_tail [] h = absurd (omega arith)
syncs_tail (x ∷ xs) h = refl

only_there : (n c : ℕ) (l : List ℕ) (e : Event) → Named n c l e → (c ≡ 0 → ⊥) → one_if e ≡ 0
only_there n c l (InterParticleCollision p q x y v w k) m d = refl
only_there n c l (MoveToNeighbour p x k) m d = refl
only_there n c l (MoveOutOfCell p x k) m d = refl
only_there n c l (WallReflection p x v w) m d = refl
only_there n c l Synchronisation m d = absurd (d m.0)

module _ (s : State) (st : Stands s) where
  abbrev c₀ : ℕ
  c₀ = first s

  live : 0 < length (queue s c₀)
  live = first_some s st

  c_in : c₀ < cells s.box
  c_in = first_in s st.sound (cells_some s.box)

  pub head_ok : Held (cells s.box) c₀ (listed s c₀) (head s)
  head_ok = let q = st.sound.queues c₀ c_in in (head_held s.clock (cells s.box) c₀ (listed s c₀) (queue s c₀) live q.rising q.held).0

  pub taken_syncs : one_if (head_event s) + syncs (queue (taken s) 0) ≡ 1
  unfolding taken requeued
  taken_syncs = elim (ℕ_discrete 0 c₀) [
    | yes e ↦
        let w : queue (taken s) 0 ≡ drop 1 (queue s c₀) = ap (λ (k : ℕ). live_at (set s.queues c₀ r) k) e ∙ live_same s.queues c₀ r (let k = c_in in omega (arith, st.sound.long)) in
        ap (λ (l : List Place). one_if (head_event s) + syncs l) w ∙ syncs_tail (queue s c₀) live ∙ ap (λ (k : ℕ). syncs (queue s k)) (sym e) ∙ st.sync
    | no d ↦
        let z : one_if (head_event s) ≡ 0 = only_there (cells s.box) c₀ (listed s c₀) (head_event s) head_ok.named (λ x. d (sym x)) in
        let w : syncs (queue (taken s) 0) ≡ 1 = ap syncs (live_other s.queues c₀ 0 r d) ∙ st.sync in
        omega (arith, z, w)
  ]
    where
      r : Row Place
      r = row (drop 1 (queue s c₀)) (zero_p ∷ (queue_row s c₀).spare)

-- ---- a step
module _ (rate : Float) (later : lt rate fzero ≡ false) (s : State) (st : Stands s) where
  pub event_ends : Ends (one_if (head_event s)) (taken s) (event rate s)
  unfolding event
  event_ends =
      subst (Ends (one_if (head_event s)) (taken s)) (sym (execute_is rate (head_event s) (taken s))) (
      execute_ends rate later (head_event s) (first s) (taken s) (taken_sound s st.sound (cells_some s.box) (first_some s st)) (unfold taken requeued in c_in s st) (unfold taken requeued in (head_ok s st).named))

  -- 1. sound, halted or not
  finish_sound : (r : ℕ) (u : State) (e : Event) → Sound u → Sound (finish r u e).state
  finish_sound zero u e h = h
  finish_sound (suc r) u e h = record { box = h.box; room = h.room; few = h.few; clock = h.clock; fit = h.fit; grains = h.grains; lists = h.lists; long = h.long; queues = h.queues; heap = h.heap }

  pub step_sound : Sound (step rate s).state
  unfolding step
  step_sound = finish_sound (event rate s).num (event rate s).st (head_event s) event_ends.sound

  -- 2. the clock does not go back
  finish_clock : (r : ℕ) (u : State) (e : Event) → (finish r u e).state.clock ≡ u.clock
  finish_clock zero u e = refl
  finish_clock (suc r) u e = refl

  pub step_clock : T (le s.clock (step rate s).state.clock)
  unfolding step
  step_clock =
      subst (λ (t : Float). T (le s.clock t)) (sym (finish_clock (event rate s).num (event rate s).st (head_event s) ∙ event_ends.clock))
      (taken_clock s st.sound (cells_some s.box) (first_some s st))

  -- 3. not halted, all stands
  taken_mark : (taken s).mark ≡ s.mark
  unfolding taken requeued
  taken_mark = refl

  taken_few : length (taken s).grains ≡ length s.grains
  unfolding taken requeued
  taken_few = refl

  taken_home : (g : ℕ) → home (taken s) g ≡ home s g
  unfolding taken requeued
  taken_home g = refl

  whole_stands : (event rate s).num ≡ 0 → Stands (event rate s).st
  whole_stands z =
      let e = event_ends in
      record {
        sound = e.sound;
        free = e.mark ∙ taken_mark ∙ st.free;
        housed = λ g G. e.housed g (rw (taken_home g) (st.housed g (rw (e.few ∙ taken_few) at G)));
        sync = e.calm z ∙ taken_syncs s st;
      }

  finish_stands : (r : ℕ) (u : State) (e : Event) → (r ≡ 0 → Stands u) → Whole (finish r u e).how → Stands (finish r u e).state
  finish_stands zero u e h w = h refl
  finish_stands (suc r) u e h w = absurd w

  pub step_stands : Whole (step rate s).how → Stands (step rate s).state
  unfolding step
  step_stands = finish_stands (event rate s).num (event rate s).st (head_event s) whole_stands
