-- 01's standing facts and the form that the proofs work with (`Stands`) are the same, on states whose times are 64-bit floats. Assumes nothing.
use Prim.Native.Nat.{ℕ, ◌≤◌, ◌<◌}
use mathlib.Core.Path.{◌≡◌, refl, sym, subst}
use mathlib.Core.List.{List, [], ◌∷◌}
use mathlib.Core.Bool.{true}
use native.Mathlib.Omega.{arith}
use native.Mathlib.Decide.{dec_le, ℕ_discrete}
use lib.Dec.{T}
use lib.ListN.{get_or-eq_default}
use lib.Ieee.{binary64, lt, fits}
use Rattle.order.specs.Numbers.{f64_max}
use Rattle.model.specs.declared.Place.{Place}
use Rattle.model.specs.declared.Event.{Event}
use Rattle.model.specs.declared.Event.TheVariants.{InterParticleCollision, MoveToNeighbour, MoveOutOfCell, WallReflection, Synchronisation}
use Rattle.model.specs.Grid.{cells}
use Rattle.model.specs.Events.{event_of, fine_place}
use Rattle.model.specs.State.{Row, none, State, listed, queue}
use Rattle.halting.specs.Every.{All}
use Rattle.model.specs.Standing.{syncs, one_if, InRange, OfCell, Standing}
use Rattle.model.proofs.Sound.{Named, Held, Sound, Stands}
use Rattle.model.specs.Check.{Fitted}
use Rattle.halting.proofs.All.{all_to}
use Rattle.model.proofs.Queue.{fine_top}

-- ---- one event
to_named : (n c : ℕ) (l : List ℕ) (e : Event) → InRange n e → OfCell c l e → (0 < c → one_if e ≡ 0) → Named n c l e
to_named n c l (InterParticleCollision p q x y v w k) r o z = o
to_named n c l (MoveToNeighbour p x k) r o z = (o, r)
to_named n c l (MoveOutOfCell p x k) r o z = o
to_named n c l (WallReflection p x v w) r o z = (o, tt)
to_named n c l Synchronisation r o z = (elim (ℕ_discrete c 0) [ yes e ↦ e | no d ↦ absurd (let a : 1 ≡ 0 = z (omega arith) in omega (arith, a)) ], tt)

from_named : (n c : ℕ) (l : List ℕ) (e : Event) → Named n c l e → InRange n e × OfCell c l e × (0 < c → one_if e ≡ 0)
from_named n c l (InterParticleCollision p q x y v w k) m = (tt, m, λ h. refl)
from_named n c l (MoveToNeighbour p x k) m = (m.1, m.0, λ h. refl)
from_named n c l (MoveOutOfCell p x k) m = (tt, m, λ h. refl)
from_named n c l (WallReflection p x v w) m = (tt, m.0, λ h. refl)
from_named n c l Synchronisation m = (tt, tt, λ h. absurd (omega (arith, m.0)))

-- ---- a list of them
none_sync : (l : List Place) → syncs l ≡ 0 → All (λ e. one_if (event_of e.kind e) ≡ 0) l
unfolding syncs
none_sync [] z = tt
none_sync (x ∷ xs) z = (omega (arith, z), none_sync xs (omega (arith, z)))

sync_none : (l : List Place) → All (λ e. one_if (event_of e.kind e) ≡ 0) l → syncs l ≡ 0
unfolding syncs
sync_none [] a = refl
sync_none (x ∷ xs) a = let h = a.0 in let t = sync_none xs a.1 in omega (arith, h, t)

all_only : (P : Place → Type 0) (Q : Type 0) (l : List Place) → (Q → All P l) → All (λ e. Q → P e) l
all_only P Q [] f = tt
all_only P Q (x ∷ xs) f = (λ q. (f q).0, all_only P Q xs (λ q. (f q).1))

held : (n c : ℕ) (l : List ℕ) (es : List Place) → All (λ e. (1 ≤ e.kind) × (e.kind ≤ 5)) es → All (λ e. fine_place e ≡ true) es → All (λ e. T (fits binary64 e.time)) es
    → All (λ e. InRange n (event_of e.kind e)) es → All (λ e. OfCell c l (event_of e.kind e)) es → All (λ e. 0 < c → one_if (event_of e.kind e) ≡ 0) es → All (Held n c l) es
held n c l [] k f t r o z = tt
held n c l (e ∷ es) k f t r o z =
    (record { kind = k.0; fine = f.0; fit = t.0; named = to_named n c l (event_of e.kind e) r.0 o.0 z.0 }, held n c l es k.1 f.1 t.1 r.1 o.1 z.1)

-- ---- all of them
pub stands : (s : State) → Fitted s → Standing s → Stands s
stands s f h = record {
  sound = record {
    box = h.box_lengths;
    room = h.room_count;
    few = h.grain_count;
    clock = h.clock_finite;
    fit = f.clock;
    grains = λ g G. record { fine = h.grains_finite g G; past = h.grain_times g G };
    lists = record {
      homes = record { long = h.homes_each; each = λ g G. record { full = h.home_counts g G; below = h.cell_indices g G; once = h.once_each.0 g G } };
      members = record { long = h.cell_data.1; each = λ c C. record { full = h.member_counts c C; below = h.grain_indices c C; once = h.once_each.1 c C } };
      mutual' = λ g c G C. h.each_other g G c C;
    };
    long = h.cell_data.2;
    queues = λ c C. record {
      full = h.event_counts c C;
      rising = h.time_order c C;
      held = held (cells s.box) c (listed s c) (queue s c) (h.kinds c C) (h.events_finite c C) (f.times c) (h.event_indices c C) (h.events_named c C)
          (all_only (λ e. one_if (event_of e.kind e) ≡ 0) (0 < c) (queue s c) (λ p. none_sync (queue s c) (h.nowhere_else c C p)));
    };
    heap = record { cells = h.cell_data.0; inverse = h.inverse; ordered = h.heap_order };
  };
  free = h.mark;
  housed = h.some_cell;
  sync = h.one_synchronisation;
}

module _ (s : State) (h : Stands s) where
  -- what each event of a cell is
  each : (P : ℕ → Place → Type 0) → ((c : ℕ) (e : Place) → c < cells s.box → Held (cells s.box) c (listed s c) e → P c e) → (c : ℕ) → c < cells s.box → All (P c) (queue s c)
  each P f c C = all_to (Held (cells s.box) c (listed s c)) (P c) (queue s c) (λ e. f c e C) (h.sound.queues c C).held

  is : (c : ℕ) (e : Place) → Held (cells s.box) c (listed s c) e → InRange (cells s.box) (event_of e.kind e) × OfCell c (listed s c) (event_of e.kind e) × (0 < c → one_if (event_of e.kind e) ≡ 0)
  is c e q = from_named (cells s.box) c (listed s c) (event_of e.kind e) q.named

  pub standing : Standing s
  standing = record {
    box_lengths = h.sound.box;
    grain_count = h.sound.few;
    room_count = h.sound.room;
    homes_each = h.sound.lists.homes.long;
    home_counts = λ g G. (h.sound.lists.homes.each g G).full;
    member_counts = λ c C. (h.sound.lists.members.each c C).full;
    event_counts = λ c C. (h.sound.queues c C).full;
    cell_indices = λ g G. (h.sound.lists.homes.each g G).below;
    grain_indices = λ c C. (h.sound.lists.members.each c C).below;
    kinds = each (λ c e. (1 ≤ e.kind) × (e.kind ≤ 5)) (λ c e C q. q.kind);
    event_indices = each (λ c e. InRange (cells s.box) (event_of e.kind e)) (λ c e C q. (is c e q).0);
    mark = h.free;
    clock_finite = h.sound.clock;
    grains_finite = λ g G. (h.sound.grains g G).fine;
    events_finite = each (λ c e. fine_place e ≡ true) (λ c e C q. q.fine);
    cell_data = (h.sound.heap.cells, h.sound.lists.members.long, h.sound.long);
    time_order = λ c C. (h.sound.queues c C).rising;
    times_below = each (λ c e. T (lt e.time f64_max)) (λ c e C q. fine_top e q.fine);
    grain_times = λ g G. (h.sound.grains g G).past;
    inverse = h.sound.heap.inverse;
    heap_order = h.sound.heap.ordered;
    one_synchronisation = h.sync;
    nowhere_else = λ c C p. sync_none (queue s c) (all_to (Held (cells s.box) c (listed s c)) (λ e. one_if (event_of e.kind e) ≡ 0) (queue s c) (λ e q. (is c e q).2 p) (h.sound.queues c C).held);
    each_other = λ g G c C. h.sound.lists.mutual' g c G C;
    once_each = (λ g G. (h.sound.lists.homes.each g G).once, λ c C. (h.sound.lists.members.each c C).once);
    some_cell = h.housed;
    events_named = each (λ c e. OfCell c (listed s c) (event_of e.kind e)) (λ c e C q. (is c e q).1);
  }

-- a sound state's times are 64-bit floats
pub sound_fitted : (s : State) → Sound s → Fitted s
sound_fitted s h = record {
  clock = h.fit;
  times = λ c. elim (dec_le (cells s.box) c) [
    | yes o ↦ subst (λ (r : Row Place). All (λ e. T (fits binary64 e.time)) r.live) (sym (get_or-eq_default s.queues none (omega (arith, h.long)))) tt
    | no i ↦ all_to (Held (cells s.box) c (listed s c)) (λ e. T (fits binary64 e.time)) (queue s c) (λ e x. x.fit) (h.queues c (omega arith)).held
  ];
}
