-- The standing facts as the proofs work with them: each over as few components of the state as it speaks of, so that an act rebuilds only what it touches.
-- `Sound` is what every act keeps, done or refused; `Stands` what holds between events besides, and is `Standing` (Stands). Assumes nothing: these are definitions.
use Prim.Native.Nat.{ℕ, ◌+◌, ◌≤◌, ◌<◌}
use mathlib.Core.Path.{◌≡◌}
use mathlib.Core.List.{List}
use mathlib.Core.Bool.{true, false}
use lib.Dec.{T, eqb}
use lib.ListN.{length, get_or}
use lib.Ieee.{Float, binary64, le, fits}
use lib.Ieee.Scale.{finite}
use Rattle.scheduler.specs.declared.Scheduler.{Scheduler}
use Rattle.scheduler.specs.Standing.{Inverse, Ordered}
use Rattle.model.specs.declared.Particle.{Particle}
use Rattle.model.specs.declared.Place.{Place}
use Rattle.model.specs.declared.Event.{Event}
use Rattle.model.specs.declared.Event.TheVariants.{InterParticleCollision, MoveToNeighbour, MoveOutOfCell, WallReflection, Synchronisation}
use Rattle.layout.specs.Widths.{home_room, member_room}
use Rattle.model.specs.Sizes.{box_ok}
use Rattle.model.specs.Grid.{cells}
use Rattle.model.specs.Events.{event_of, fine_place}
use Rattle.model.specs.State.{Row, none, State, grain, home, listed, queue, heads, live_at, has}
use Rattle.model.specs.Acts.{fine_grain}
use Rattle.halting.specs.Every.{All}
use Rattle.model.specs.Standing.{Rising, Once, syncs}

-- of n cells, in cell c, which lists the grains l: an event names only grains that its cell lists, two different ones in a collision,
-- a cell in range, its own cell in a leaving; a synchronisation is in cell 0
abbrev pub Named : ℕ → ℕ → List ℕ → Event → Type 0
Named n c l (InterParticleCollision p q x y v w k) = (has p l ≡ true) × (has q l ≡ true) × (eqb p q ≡ false)
Named n c l (MoveToNeighbour p x k) = (has p l ≡ true) × (k < n)
Named n c l (MoveOutOfCell p x k) = (has p l ≡ true) × (k ≡ c)
Named n c l (WallReflection p x v w) = (has p l ≡ true) × Unit {0}
Named n c l Synchronisation = (c ≡ 0) × Unit {0}

pub record Held (n c : ℕ) (l : List ℕ) (e : Place) : Type 0 where
  pub kind : (1 ≤ e.kind) × (e.kind ≤ 5)
  pub fine : fine_place e ≡ true
  pub fit : T (fits binary64 e.time)
  pub named : Named n c l (event_of e.kind e)

pub record Queue (t : Float) (room n c : ℕ) (l : List ℕ) (r : Row Place) : Type 0 where
  pub full : length r.live + length r.spare ≡ room
  pub rising : Rising t r.live
  pub held : All (Held n c l) r.live

-- ---- lists of numbers: once each, below n, in k places
pub record Numbers (n k : ℕ) (r : Row ℕ) : Type 0 where
  pub full : length r.live + length r.spare ≡ k
  pub below : (x : ℕ) → has x r.live ≡ true → x < n
  pub once : Once r.live

-- m rows of them
pub record Side (m n k : ℕ) (rs : List (Row ℕ)) : Type 0 where
  pub long : length rs ≡ m
  pub each : (i : ℕ) → i < m → Numbers n k (get_or rs i none)

-- cells and grains list each other
pub record Lists (g n : ℕ) (hs ms : List (Row ℕ)) : Type 0 where
  pub homes : Side g n home_room hs
  pub members : Side n g member_room ms
  pub mutual' : (i c : ℕ) → i < g → c < n → has c (live_at hs i) ≡ has i (live_at ms c)

pub record Heap (n : ℕ) (qs : List (Row Place)) (h : Scheduler) : Type 0 where
  pub cells : h.cells ≡ n
  pub inverse : Inverse h
  pub ordered : Ordered (heads qs) h

pub record Grain (t : Float) (p : Particle) : Type 0 where
  pub fine : fine_grain p ≡ true
  pub past : T (le p.time t)

pub record Sound (s : State) : Type 0 where
  pub box : box_ok s.box ≡ true
  pub room : (16 ≤ s.room) × (s.room ≤ 256)
  pub few : length s.grains ≤ 256
  pub clock : T (finite s.clock)
  pub fit : T (fits binary64 s.clock)
  pub grains : (g : ℕ) → g < length s.grains → Grain s.clock (grain s g)
  pub lists : Lists (length s.grains) (cells s.box) s.homes s.members
  pub long : length s.queues ≡ cells s.box
  pub queues : (c : ℕ) → c < cells s.box → Queue s.clock s.room (cells s.box) c (listed s c) (get_or s.queues c none)
  pub heap : Heap (cells s.box) s.queues s.sched

pub record Stands (s : State) : Type 0 where
  pub sound : Sound s
  pub free : s.mark ≡ 0
  pub housed : (g : ℕ) → g < length s.grains → 1 ≤ length (home s g)
  pub sync : syncs (queue s 0) ≡ 1
