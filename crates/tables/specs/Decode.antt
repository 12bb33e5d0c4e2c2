-- The five lent tables read as a state, whatever they hold. Headers: lists has the mark, the counts of grains, cells and event places, and two flags;
-- grains has the box's lengths and the clock. Assumes nothing: these are definitions.
use Rattle.std.specs.Prelude.{ℕ, zero, suc, ◌+◌, List, [], ◌∷◌, Bool, ◌&&◌, eqb, leb, get_or, take, drop, Float}
use Rattle.std.specs.Float.{nan}
use Rattle.layout.specs.Widths.{lists_head_wide, grains_head_wide, grain_wide, count_at, places_at, row_wide, home_from, place_nums_wide, place_reals_wide, queue_wide, events_wide, heap_wide, home_room, member_room}
use Rattle.myvec.specs.Vec.{vec}
use Rattle.scheduler.specs.declared.Scheduler.{Scheduler}
use Rattle.model.specs.declared.Domain.{Domain}
use Rattle.model.specs.declared.Particle.{Particle}
use Rattle.model.specs.declared.Place.{Place}
use Rattle.model.specs.Grid.{box_of}
use Rattle.model.specs.Stepping.{grain_of}
use Rattle.model.specs.State.{Row, row, State}
use Rattle.tables.specs.declared.Sizes.{Sizes}

pub record Tables : Type 0 where
  pub lists : List ℕ
  pub grains : List Float
  pub queue : List ℕ
  pub events : List Float
  pub order : List ℕ

abbrev pub tables : List ℕ → List Float → List ℕ → List Float → List ℕ → Tables
tables l g q e o = record { lists = l; grains = g; queue = q; events = e; order = o }

-- ---- headers
abbrev pub mark : List ℕ → ℕ
mark l = get_or l 0 0

abbrev pub sizes_of : List ℕ → Sizes
sizes_of l = record { grains = get_or l 1 0; cells = get_or l 2 0; room = get_or l 3 0 }

abbrev pub is_set : ℕ → Bool
is_set n = eqb n 1

abbrev pub box_in : List ℕ → List Float → Domain
box_in l g = box_of (vec (get_or g 0 nan) (get_or g 1 nan)) (is_set (get_or l 4 0)) (is_set (get_or l 5 0))

abbrev pub clock_in : List Float → Float
clock_in g = get_or g 2 nan

-- a flag is 0 or 1
abbrev pub flags_fine : List ℕ → Bool
flags_fine l = leb (get_or l 4 0) 1 && leb (get_or l 5 0) 1

-- ---- n records, one after another, each w places wide; and each in two tables, w places in one and v in the other
unfoldable pub cut : {A B : Type 0} → (List B → A) → ℕ → ℕ → List B → List A
cut read w zero l = []
cut read w (suc n) l = read l ∷ cut read w n (drop w l)

unfoldable pub cut_both : {A B C : Type 0} → (List B → List C → A) → ℕ → ℕ → ℕ → List B → List C → List A
cut_both read w v zero l m = []
cut_both read w v (suc n) l m = read l m ∷ cut_both read w v n (drop w l) (drop v m)

-- the first n of some places are in use
abbrev pub row_of : {A : Type 0} → ℕ → List A → Row A
row_of n xs = row (take n xs) (drop n xs)

-- ---- grains
abbrev pub grain_at : List Float → Particle
grain_at g = grain_of (vec (get_or g 0 nan) (get_or g 1 nan)) (vec (get_or g 2 nan) (get_or g 3 nan)) (get_or g 4 nan) (get_or g 5 nan) (get_or g 6 nan)

abbrev pub grains_of : ℕ → List Float → List Particle
grains_of n g = cut grain_at grain_wide n g

-- ---- rows of numbers: a count, then v places
abbrev pub row_at : ℕ → List ℕ → Row ℕ
row_at v l = row_of (get_or l count_at 0) (take v (drop places_at l))

abbrev pub rows_of : ℕ → ℕ → List ℕ → List (Row ℕ)
rows_of v n l = cut (row_at v) (row_wide v) n l

-- ---- rows of events: a count, then `room` places' numbers; and their floats
abbrev pub place_at : List ℕ → List Float → Place
place_at q e = record {
  kind = get_or q 0 0;
  p = get_or q 1 0;
  q = get_or q 2 0;
  cell = get_or q 3 0;
  time = get_or e 0 nan;
  a = vec (get_or e 1 nan) (get_or e 2 nan);
  b = vec (get_or e 3 nan) (get_or e 4 nan);
  c = vec (get_or e 5 nan) (get_or e 6 nan);
  d = vec (get_or e 7 nan) (get_or e 8 nan);
  val = get_or e 9 nan;
}

abbrev pub places_of : ℕ → List ℕ → List Float → List Place
places_of n q e = cut_both place_at place_nums_wide place_reals_wide n q e

abbrev pub queue_at : ℕ → List ℕ → List Float → Row Place
queue_at room q e = row_of (get_or q count_at 0) (places_of room (drop places_at q) e)

abbrev pub queues_of : ℕ → ℕ → List ℕ → List Float → List (Row Place)
queues_of room n q e = cut_both (queue_at room) (queue_wide room) (events_wide room) n q e

-- ---- the heap and its lookups
abbrev pub scheduler_of : ℕ → List ℕ → Scheduler
scheduler_of n o = record { heap = take heap_wide o; lookups = take heap_wide (drop heap_wide o); cells = n }

-- ---- where each part begins
abbrev pub homes_part : List ℕ → List ℕ
homes_part l = drop lists_head_wide l

abbrev pub members_part : ℕ → List ℕ → List ℕ
members_part grains l = drop (lists_head_wide + home_from grains) l

abbrev pub grains_part : List Float → List Float
grains_part g = drop grains_head_wide g

-- ---- all
abbrev pub decoded_by : Sizes → Tables → State
decoded_by z t = record {
  box = box_in t.lists t.grains;
  clock = clock_in t.grains;
  mark = mark t.lists;
  room = z.room;
  grains = grains_of z.grains (grains_part t.grains);
  homes = rows_of home_room z.grains (homes_part t.lists);
  members = rows_of member_room z.cells (members_part z.grains t.lists);
  queues = queues_of z.room z.cells t.queue t.events;
  sched = scheduler_of z.cells t.order;
}

abbrev pub decoded : Tables → State
decoded t = decoded_by (sizes_of t.lists) t
