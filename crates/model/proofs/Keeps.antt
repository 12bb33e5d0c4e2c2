-- Each act keeps `Sound`, done or refused, under what its callers meet. Assumes nothing.
use Prim.Native.Nat.{ℕ, ◌≤◌, ◌<◌}
use mathlib.Core.Path.{◌≡◌, refl, sym, ap, subst, ◌∙◌}
use mathlib.Core.List.{List, [], ◌∷◌}
use mathlib.Core.Bool.{true, false, not, ◌&&◌, or-true}
use native.Mathlib.Omega.{arith}
use native.Mathlib.Decide.{dec_le, ℕ_discrete}
use lib.Dec.{T, eqb}
use lib.ListN.{length, get_or, set, drop, length-set, get_or-eq_default}
use lib.Ieee.{Float, binary64, le, is_nan, fits}
use lib.Ieee.Scale.{finite}
use lib.Ieee.Bits.{is_false}
use borrow.Author.Tests.{eq-eqb, ne_eqb}
use Rattle.std.specs.Prelude.{Some}
use Rattle.model.specs.declared.Particle.{Particle}
use Rattle.model.specs.declared.Place.{Place}
use Rattle.model.specs.declared.Event.{Event}
use Rattle.model.specs.declared.Event.TheVariants.{InterParticleCollision, MoveToNeighbour, MoveOutOfCell, WallReflection, Synchronisation}
use Rattle.scheduler.specs.Head.{Head, earlier, no_later, is_nan_head}
use Rattle.order.proofs.Order.{le_trans, le_refl}
use Rattle.order.proofs.Clock.{finite_no_nan}
use Rattle.scheduler.specs.Heap.{time_at, updated}
use Rattle.scheduler.specs.Standing.{Real}
use Rattle.scheduler.proofs.Heads.{no_later_of_not}
use Rattle.scheduler.proofs.Laws.{time_in_lem}
use Rattle.scheduler.proofs.Inverse.{updated_inverse, updated_cells}
use Rattle.scheduler.proofs.Order.{updated_ordered, root_least}
use Rattle.model.specs.Grid.{cells}
use Rattle.model.specs.Events.{names, event_of, head_time, head_place, zero_p}
use Rattle.model.specs.State.{Row, row, none, State, zero_g, grain, home, listed, queue, heads, has, requeued, with_clock, with_grains}
use Rattle.model.specs.Acts.{fine_grain, store, insert, cancelled, enter, entered, leave, gone, first, head, taken, queue_row}
use Rattle.halting.specs.Every.{All}
use Rattle.model.specs.Standing.{Rising}
use Rattle.model.proofs.Sound.{Named, Held, Queue, Heap, Grain, Sound}
use Rattle.halting.proofs.Bools.{clash}
use Rattle.model.proofs.Lists.{set_every, live_same, live_other, has_entered, has_left, lists_enter, lists_leave}
use Rattle.model.proofs.Cases.{store_case, insert_case, enter_case, leave_case}
use Rattle.halting.proofs.All.{all_to, all_both}
use Rattle.model.proofs.Queue.{T_of, fine_finite, fine_real, queue_insert, queue_cancel}

-- ---- head times
module _ (n c : ℕ) (m : List ℕ) where
  head_real : (l : List Place) → All (Held n c m) l → is_nan_head (head_time l) ≡ false
  head_real [] a = refl
  head_real (x ∷ xs) a = is_false _ (fine_real x a.0.fine)

module _ (s : State) (sound : Sound s) where
  abbrev N : ℕ
  N = cells s.box

  pub heads_real : Real (heads s.queues)
  unfolding Real heads
  heads_real c = elim (dec_le N c) [
    | yes h ↦ ap (λ (r : Row Place). is_nan_head (head_time r.live)) (get_or-eq_default s.queues none (omega (arith, sound.long)))
    | no h ↦ head_real N c (listed s c) (queue s c) (sound.queues c (omega arith)).held
  ]

  -- ---- a new queue in one cell, the heap updated, and perhaps a later clock
  module _ (c : ℕ) (r : Row Place) (t : Float) (C : c < N) (q : Queue t s.room N c (listed s c) r) where
    abbrev qs' : List (Row Place)
    qs' = set s.queues c r

    here : heads qs' c ≡ head_time r.live
    unfolding heads
    here = ap head_time (live_same s.queues c r (omega (arith, sound.long)))

    there : (k : ℕ) → (k ≡ c → ⊥) → heads qs' k ≡ heads s.queues k
    unfolding heads
    there k d = ap head_time (live_other s.queues c k r d)

    real : (k : ℕ) → is_nan_head (heads s.queues k) ≡ false
    real = unfold Real in heads_real

    real' : Real (heads qs')
    unfolding Real
    real' k = elim (ℕ_discrete k c) [ yes e ↦ rw (e, here) (head_real N c (listed s c) r.live q.held) | no d ↦ rw (there k d) (real k) ]

    heap' : Heap N qs' (updated (heads qs') s.sched c (heads s.queues c) (head_time r.live))
    heap' = record {
      cells = updated_cells (heads qs') s.sched c (heads s.queues c) (head_time r.live) ∙ sound.heap.cells;
      inverse = updated_inverse (heads qs') s.sched c (heads s.queues c) (head_time r.live) sound.heap.inverse;
      ordered = updated_ordered (heads s.queues) (heads qs') s.sched c (heads s.queues c) (head_time r.live) heads_real real' sound.heap.inverse sound.heap.ordered
          (omega (arith, sound.heap.cells)) refl here there;
    }

    pub resound : T (finite t) → T (fits binary64 t) → T (le s.clock t)
        → ((j : ℕ) → j < N → (j ≡ c → ⊥) → Queue t s.room N j (listed s j) (get_or s.queues j none)) → Sound (with_clock t (requeued c r s))
    unfolding requeued
    resound f g h others = record {
      box = sound.box;
      room = sound.room;
      few = sound.few;
      clock = f;
      fit = g;
      grains = λ i I. record { fine = (sound.grains i I).fine; past = le_trans (grain s i).time s.clock t (sound.grains i I).past h };
      lists = sound.lists;
      long = length-set s.queues c r ∙ sound.long;
      queues = set_every (λ j w. Queue t s.room N j (listed s j) w) none s.queues N c r sound.long others q;
      heap = heap';
    }

  -- the clock stands
  pub requeued_sound : (c : ℕ) (r : Row Place) → c < N → Queue s.clock s.room N c (listed s c) r → Sound (requeued c r s)
  unfolding requeued
  requeued_sound c r C q = resound c r s.clock C q sound.clock sound.fit (le_refl s.clock (finite_no_nan s.clock sound.clock)) (λ j J d. sound.queues j J)

-- ---- storing a grain's numbers
pub store_sound : (s : State) (g : ℕ) (p : Particle) → Sound s → g < length s.grains → T (le p.time s.clock) → Sound (store g p s).st
store_sound s g p sound G h = store_case (λ o. Sound o.st) s g p sound done'
  where
    same : length (set s.grains g p) ≡ length s.grains
    same = length-set s.grains g p

    done' : fine_grain p ≡ true → Sound (with_grains (set s.grains g p) s)
    done' f = record {
      box = sound.box;
      room = sound.room;
      few = rw same sound.few;
      clock = sound.clock;
      fit = sound.fit;
      grains = λ i I. set_every (λ j q. Grain s.clock q) zero_g s.grains (length s.grains) g p refl (λ j J d. sound.grains j J) (record { fine = f; past = h }) i (rw same at I);
      lists = rw same sound.lists;
      long = sound.long;
      queues = sound.queues;
      heap = sound.heap;
    }

-- ---- an insertion: what the event must be
pub record Apt (n c : ℕ) (l : List ℕ) (t : Float) (e : Place) : Type 0 where
  pub kind : (1 ≤ e.kind) × (e.kind ≤ 5)
  pub fit : T (fits binary64 e.time)
  pub named : Named n c l (event_of e.kind e)
  pub ahead : T (not (is_nan e.time)) → T (le t e.time)

pub insert_sound : (s : State) (c : ℕ) (e : Place) → Sound s → c < cells s.box → Apt (cells s.box) c (listed s c) s.clock e → Sound (insert c e s).st
insert_sound s c e sound C a =
    insert_case (λ o. Sound o.st) s c e sound (λ r. sound)
    (λ f r. requeued_sound s sound c _ C (queue_insert s.clock s.room (cells s.box) c (listed s c) (queue_row s c) (sound.queues c C) e
    (record { kind = a.kind; fine = f; fit = a.fit; named = a.named }) (a.ahead (fine_real e f)) r))

-- ---- a cancelling
pub cancelled_sound : (s : State) (g c : ℕ) → Sound s → c < cells s.box → Sound (cancelled g c s)
unfolding cancelled
cancelled_sound s g c sound C = requeued_sound s sound c _ C (queue_cancel s.clock s.room (cells s.box) c (listed s c) (queue_row s c) (sound.queues c C) g)

-- ---- an event stays named where its grains stay listed
pub named_mono : (n c : ℕ) (l m : List ℕ) (e : Event) → ((x : ℕ) → names e x ≡ true → has x l ≡ true → has x m ≡ true) → Named n c l e → Named n c m e
named_mono n c l m (InterParticleCollision p q x y v w k) f h = (f p (rw (eq-eqb p p refl)) h.0, f q (rw (eq-eqb q q refl) (or-true (eqb p q))) h.1, h.2)
named_mono n c l m (MoveToNeighbour p x k) f h = (f p (eq-eqb p p refl) h.0, h.1)
named_mono n c l m (MoveOutOfCell p x k) f h = (f p (eq-eqb p p refl) h.0, h.1)
named_mono n c l m (WallReflection p x v w) f h = (f p (eq-eqb p p refl) h.0, tt)
named_mono n c l m Synchronisation f h = h

pub queue_mono : (t : Float) (room n c : ℕ) (l m : List ℕ) (r : Row Place) → ((x : ℕ) → has x l ≡ true → has x m ≡ true) → Queue t room n c l r → Queue t room n c m r
queue_mono t room n c l m r f q = record {
  full = q.full;
  rising = q.rising;
  held = all_to (Held n c l) (Held n c m) r.live (λ e h. record { kind = h.kind; fine = h.fine; fit = h.fit; named = named_mono n c l m (event_of e.kind e) (λ x i. f x) h.named }) q.held;
}

-- ---- entering
pub enter_sound : (s : State) (g c : ℕ) → Sound s → g < length s.grains → c < cells s.box → Sound (enter g c s).st
enter_sound s g c sound G C = enter_case (λ o. Sound o.st) s g c (λ a. sound) sound done'
  where
    stays : (j x : ℕ) → has x (listed s j) ≡ true → has x (listed (entered g c s) j) ≡ true
    stays j x e = has_entered (cells s.box) (length s.grains) 32 s.members sound.lists.members c g C j x ∙ rw e

    done' : has g (listed s c) ≡ false → length (listed s c) < 32 → length (home s g) < 8 → Sound (entered g c s)
    done' a b d = record {
      box = sound.box;
      room = sound.room;
      few = sound.few;
      clock = sound.clock;
      fit = sound.fit;
      grains = sound.grains;
      lists = lists_enter (length s.grains) (cells s.box) s.homes s.members sound.lists g c G C a b d;
      long = sound.long;
      queues = λ j J. queue_mono s.clock s.room (cells s.box) j (listed s j) (listed (entered g c s) j) (get_or s.queues j none) (stays j) (sound.queues j J);
      heap = sound.heap;
    }

-- ---- leaving: the cell's events do not name the grain
not_named : (x g : ℕ) (e : Event) → names e g ≡ false → names e x ≡ true → eqb x g ≡ false
not_named x g e f h = elim (ℕ_discrete x g) [
  | yes q ↦ clash (sym f ∙ ap (λ (y : ℕ). names e y) (sym q) ∙ h)
  | no d ↦ ne_eqb x g d
]

pub leave_sound : (s : State) (g c : ℕ) → Sound s → g < length s.grains → c < cells s.box → has g (listed s c) ≡ true
    → All (λ e. names (event_of e.kind e) g ≡ false) (queue s c) → Sound (leave g c s).st
leave_sound s g c sound G C there free = leave_case (λ o. Sound o.st) s g c sound (λ a. done')
  where
    n : ℕ
    n = cells s.box

    now : (j x : ℕ) → has x (listed (gone g c s) j) ≡ (has x (listed s j) && not (eqb j c && eqb x g))
    now j x = has_left (cells s.box) (length s.grains) 32 s.members sound.lists.members c g C j x

    still : (j x : ℕ) → (eqb j c && eqb x g) ≡ false → has x (listed s j) ≡ true → has x (listed (gone g c s) j) ≡ true
    still j x e h = now j x ∙ rw (e, h)

    elsewhere : (j x : ℕ) → (j ≡ c → ⊥) → has x (listed s j) ≡ true → has x (listed (gone g c s) j) ≡ true
    elsewhere j x d = still j x (rw (ne_eqb j c d))

    kept : All (Held (cells s.box) c (listed (gone g c s) c)) (queue s c)
    kept = all_to (λ e. Held (cells s.box) c (listed s c) e × (names (event_of e.kind e) g ≡ false)) (Held (cells s.box) c (listed (gone g c s) c)) (queue s c)
        (λ e h. record {
          kind = h.0.kind;
          fine = h.0.fine;
          fit = h.0.fit;
          named = named_mono (cells s.box) c (listed s c) (listed (gone g c s) c) (event_of e.kind e) (λ x i. still c x (rw (not_named x g (event_of e.kind e) h.1 i, eq-eqb c c refl))) h.0.named;
        })
        (all_both (Held (cells s.box) c (listed s c)) (λ e. names (event_of e.kind e) g ≡ false) (queue s c) (sound.queues c C).held free)

    done' : Sound (gone g c s)
    done' = record {
      box = sound.box;
      room = sound.room;
      few = sound.few;
      clock = sound.clock;
      fit = sound.fit;
      grains = sound.grains;
      lists = lists_leave (length s.grains) (cells s.box) s.homes s.members sound.lists g c G C there;
      long = sound.long;
      queues = λ j J. elim (ℕ_discrete j c) [
        | yes e ↦ rw e (record { full = (sound.queues c C).full; rising = (sound.queues c C).rising; held = kept })
        | no d ↦ queue_mono s.clock s.room (cells s.box) j (listed s j) (listed (gone g c s) j) (get_or s.queues j none) (λ x. elsewhere j x d) (sound.queues j J)
      ];
      heap = sound.heap;
    }

-- ---- taking the first event of all
rising_to : (t u : Float) (l : List Place) → T (no_later (Some u) (head_time l)) → Rising t l → Rising u l
rising_to t u [] h r = tt
rising_to t u (x ∷ xs) h r = (h, r.1)

tail_queue : (t : Float) (room n c : ℕ) (m : List ℕ) (l sp : List Place) → 0 < length l → Queue t room n c m (row l sp) → Queue (head_place l).time room n c m (row (drop 1 l) (zero_p ∷ sp))
tail_queue t room n c m [] sp h q = absurd (omega arith)
tail_queue t room n c m (x ∷ xs) sp h q = record { full = omega (arith, q.full); rising = q.rising.1; held = q.held.1 }

pub head_held : (t : Float) (n c : ℕ) (m : List ℕ) (l : List Place) → 0 < length l → Rising t l → All (Held n c m) l → Held n c m (head_place l) × T (le t (head_place l).time)
head_held t n c m [] h r a = absurd (omega arith)
head_held t n c m (x ∷ xs) h r a = (a.0, r.0)

pub head_is : (l : List Place) → 0 < length l → head_time l ≡ Some (head_place l).time
head_is [] h = absurd (omega arith)
head_is (x ∷ xs) h = refl

module _ (s : State) (sound : Sound s) (some : 0 < cells s.box) where
  pub first_in : first s < cells s.box
  first_in = subst (λ (k : ℕ). first s < k) sound.heap.cells (sound.heap.inverse.heap_in 0 (omega (arith, sound.heap.cells)))

  -- NO PENDING EVENT IS EARLIER THAN THE ROOT'S
  pub root_first : (j : ℕ) → j < cells s.box → T (no_later (head_time (queue s (first s))) (head_time (queue s j)))
  unfolding heads Real
  root_first j J = T_of (no_later (head_time (queue s (first s))) (head_time (queue s j))) (no_later_of_not (head_time (queue s (first s))) (head_time (queue s j)) (heads_real s sound (first s)) (heads_real s sound j) late)
    where
      at : ℕ
      at = get_or s.sched.lookups j 0

      J' : j < s.sched.cells
      J' = omega (arith, sound.heap.cells)

      I : get_or s.sched.lookups j 0 < s.sched.cells
      I = sound.heap.inverse.lookups_in j J'

      t0 : time_at (heads s.queues) s.sched 0 ≡ heads s.queues (first s)
      t0 = time_in_lem (heads s.queues) s.sched 0 (omega (arith, sound.heap.cells))

      tj : time_at (heads s.queues) s.sched (get_or s.sched.lookups j 0) ≡ heads s.queues j
      tj = time_in_lem (heads s.queues) s.sched (get_or s.sched.lookups j 0) I ∙ ap (heads s.queues) (sound.heap.inverse.back j J')

      late : earlier (heads s.queues j) (heads s.queues (first s)) ≡ false
      late = rw (t0, tj) at (root_least (heads s.queues) s.sched (heads_real s sound) sound.heap.ordered (get_or s.sched.lookups j 0) I)

  pub taken_sound : 0 < length (queue s (first s)) → Sound (taken s)
  unfolding taken
  taken_sound live =
      let c = first s in
      let q = sound.queues c first_in in
      let h = head_held s.clock (cells s.box) c (listed s c) (queue s c) live q.rising q.held in
      resound s sound c (row (drop 1 (queue s c)) (zero_p ∷ (queue_row s c).spare)) (head s).time first_in
      (tail_queue s.clock s.room (cells s.box) c (listed s c) (queue s c) (queue_row s c).spare live q)
      (fine_finite (head s) h.0.fine) h.0.fit h.1
      (λ j J d. record {
        full = (sound.queues j J).full;
        rising = rising_to s.clock (head s).time (queue s j) (subst (λ (x : Head). T (no_later x (head_time (queue s j)))) (head_is (queue s c) live) (root_first j J)) (sound.queues j J).rising;
        held = (sound.queues j J).held;
      })

  -- the clock does not go back
  pub taken_clock : 0 < length (queue s (first s)) → T (le s.clock (taken s).clock)
  unfolding taken
  taken_clock live =
      let q = sound.queues (first s) first_in in
      (head_held s.clock (cells s.box) (first s) (listed s (first s)) (queue s (first s)) live q.rising q.held).1
