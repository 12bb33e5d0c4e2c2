-- 01, "Standing facts, tested by each unhalted run": all of them, in its words and order. Assumes nothing: these are definitions.
use Rattle.std.specs.Prelude.{ℕ, ◌+◌, ◌≤◌, ◌<◌, ◌≡◌, List, [], ◌∷◌, true, false, T, eqb, length, get_or, Float}
use Rattle.std.specs.Float.Ieee.{le, lt}
use Rattle.std.specs.Float.Ieee.Scale.{finite}
use Rattle.halting.specs.Every.{All}
use Rattle.order.specs.Numbers.{f64_max}
use Rattle.scheduler.specs.Standing.{Inverse, Ordered}
use Rattle.model.specs.declared.Place.{Place}
use Rattle.model.specs.declared.Event.{Event}
use Rattle.model.specs.declared.Event.TheVariants.{InterParticleCollision, MoveToNeighbour, MoveOutOfCell, WallReflection, Synchronisation}
use Rattle.layout.specs.Widths.{home_room, member_room}
use Rattle.model.specs.Sizes.{box_ok, most_grains, least_room, most_room}
use Rattle.model.specs.Grid.{cells}
use Rattle.model.specs.Events.{event_of, fine_place}
use Rattle.model.specs.State.{Row, none, State, grain, home, listed, queue, heads, has}
use Rattle.model.specs.Acts.{fine_grain}

-- ---- lists
-- no number twice
abbrev pub Once : List ℕ → Type 0
Once [] = Unit {0}
Once (x ∷ xs) = (has x xs ≡ false) × Once xs

-- in time order, the first at least t
abbrev pub Rising : Float → List Place → Type 0
Rising t [] = Unit {0}
Rising t (x ∷ xs) = T (le t x.time) × Rising x.time xs

-- synchronisations in a list
abbrev pub one_if : Event → ℕ
one_if (InterParticleCollision p q x y v w k) = 0
one_if (MoveToNeighbour p x k) = 0
one_if (MoveOutOfCell p x k) = 0
one_if (WallReflection p x v w) = 0
one_if Synchronisation = 1

unfoldable pub syncs : List Place → ℕ
syncs [] = 0
syncs (x ∷ xs) = one_if (event_of x.kind x) + syncs xs

-- ---- one event of cell c, which lists the grains l
-- the cell that a neighbour event enters is one of n
abbrev pub InRange : ℕ → Event → Type 0
InRange n (InterParticleCollision p q x y v w k) = Unit {0}
InRange n (MoveToNeighbour p x k) = k < n
InRange n (MoveOutOfCell p x k) = Unit {0}
InRange n (WallReflection p x v w) = Unit {0}
InRange n Synchronisation = Unit {0}

-- it names only grains that its cell lists, two different ones in a collision, and a leaving event belongs to the cell that holds it
abbrev pub OfCell : ℕ → List ℕ → Event → Type 0
OfCell c l (InterParticleCollision p q x y v w k) = (has p l ≡ true) × (has q l ≡ true) × (eqb p q ≡ false)
OfCell c l (MoveToNeighbour p x k) = has p l ≡ true
OfCell c l (MoveOutOfCell p x k) = (has p l ≡ true) × (k ≡ c)
OfCell c l (WallReflection p x v w) = has p l ≡ true
OfCell c l Synchronisation = Unit {0}

-- ---- of all cells, of all grains, of all events
abbrev pub EachCell : State → (ℕ → Type 0) → Type 0
EachCell s P = (c : ℕ) → c < cells s.box → P c

abbrev pub EachGrain : State → (ℕ → Type 0) → Type 0
EachGrain s P = (g : ℕ) → g < length s.grains → P g

abbrev pub EachEvent : State → (ℕ → Place → Type 0) → Type 0
EachEvent s P = EachCell s (λ c. All (P c) (queue s c))

-- as many places as it has, in use or beyond
abbrev pub Places : {A : Type 0} → ℕ → Row A → Type 0
Places k r = length r.live + length r.spare ≡ k

pub record Standing (s : State) : Type 0 where
  -- "box lengths, list counts and indices in range": 9 to 48; grains at most 256, room 16 to 256, no list with more than its places;
  pub box_lengths : box_ok s.box ≡ true
  pub grain_count : length s.grains ≤ most_grains
  pub room_count : (least_room ≤ s.room) × (s.room ≤ most_room)
  pub homes_each : length s.homes ≡ length s.grains
  pub home_counts : EachGrain s (λ g. Places home_room (get_or s.homes g none))
  pub member_counts : EachCell s (λ c. Places member_room (get_or s.members c none))
  pub event_counts : EachCell s (λ c. Places s.room (get_or s.queues c none))
  -- a listed cell is one of the box, a listed grain one of the grains, a kind one of the five; the mark is 0, for a run that is not halted
  pub cell_indices : EachGrain s (λ g. (c : ℕ) → has c (home s g) ≡ true → c < cells s.box)
  pub grain_indices : EachCell s (λ c. (g : ℕ) → has g (listed s c) ≡ true → g < length s.grains)
  pub kinds : EachEvent s (λ c e. (1 ≤ e.kind) × (e.kind ≤ 5))
  pub event_indices : EachEvent s (λ c e. InRange (cells s.box) (event_of e.kind e))
  pub mark : s.mark ≡ 0
  -- "stored numbers finite"
  pub clock_finite : T (finite s.clock)
  pub grains_finite : EachGrain s (λ g. fine_grain (grain s g) ≡ true)
  pub events_finite : EachEvent s (λ c e. fine_place e ≡ true)
  -- "cell data as the box gives it": bounds, neighbours and positions are computed from the box; as many cells as it gives have lists and places in the heap
  pub cell_data : (s.sched.cells ≡ cells s.box) × (length s.members ≡ cells s.box) × (length s.queues ≡ cells s.box)
  -- "each event list in time order, every time at least the clock and below f64::MAX"
  pub time_order : EachCell s (λ c. Rising s.clock (queue s c))
  pub times_below : EachEvent s (λ c e. T (lt e.time f64_max))
  -- "each grain's time at most the clock"
  pub grain_times : EachGrain s (λ g. T (le (grain s g).time s.clock))
  -- "heap and lookups inverse"
  pub inverse : Inverse s.sched
  -- "no child's head earlier than its parent's"
  pub heap_order : Ordered (heads s.queues) s.sched
  -- "one synchronisation event, in cell 0"
  pub one_synchronisation : syncs (queue s 0) ≡ 1
  pub nowhere_else : EachCell s (λ c. 0 < c → syncs (queue s c) ≡ 0)
  -- "cells and grains list each other, once each"
  pub each_other : EachGrain s (λ g. EachCell s (λ c. has c (home s g) ≡ has g (listed s c)))
  pub once_each : EachGrain s (λ g. Once (home s g)) × EachCell s (λ c. Once (listed s c))
  -- "each grain in some cell"
  pub some_cell : EachGrain s (λ g. 1 ≤ length (home s g))
  -- "an event names only grains its cell lists, two different ones in a collision, and a leaving event belongs to the cell that holds it"
  pub events_named : EachEvent s (λ c e. OfCell c (listed s c) (event_of e.kind e))
