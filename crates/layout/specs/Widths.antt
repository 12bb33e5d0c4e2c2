-- How wide everything in the lent tables is, and where each part begins. docs/TABLES.md shows the same as a table. Assumes nothing: these are definitions.
use Rattle.std.specs.Prelude.{ℕ, ◌+◌, ◌*◌}

-- ---- headers: of lists the mark, the counts of grains, cells and event places, and two flags; of grains the box's lengths and the clock
abbrev pub lists_head_wide : ℕ
lists_head_wide = 6

abbrev pub grains_head_wide : ℕ
grains_head_wide = 3

-- ---- a grain: position, velocity, time, value, radius; and what it starts with, all but the time
abbrev pub grain_wide : ℕ
grain_wide = 7

abbrev pub input_wide : ℕ
input_wide = 6

-- ---- a row begins with its count, and its places follow
abbrev pub count_at : ℕ
count_at = 0

abbrev pub places_at : ℕ
places_at = 1

-- ---- rows of numbers. 01's sizes: a grain lists 8 cells, a cell 32 grains
abbrev pub home_room : ℕ
home_room = 8

abbrev pub member_room : ℕ
member_room = 32

abbrev pub row_wide : ℕ → ℕ
row_wide places = places + places_at

abbrev pub home_wide : ℕ
home_wide = row_wide home_room

abbrev pub members_wide : ℕ
members_wide = row_wide member_room

-- where a grain's row begins behind the header, and a cell's behind the rows of all grains
abbrev pub home_from : ℕ → ℕ
home_from grain = grain * home_wide

abbrev pub members_from : ℕ → ℕ → ℕ
members_from grains cell = grains * home_wide + cell * members_wide

-- ---- a place: kind, two grains, a cell; time, four pairs, a value. A cell's row of them: a count and its places' numbers in one table, their floats in another
abbrev pub place_nums_wide : ℕ
place_nums_wide = 4

abbrev pub place_reals_wide : ℕ
place_reals_wide = 10

abbrev pub queue_wide : ℕ → ℕ
queue_wide room = room * place_nums_wide + places_at

abbrev pub events_wide : ℕ → ℕ
events_wide room = room * place_reals_wide

-- where a cell's row begins
abbrev pub queue_from : ℕ → ℕ → ℕ
queue_from room cell = cell * queue_wide room

abbrev pub events_from : ℕ → ℕ → ℕ
events_from room cell = cell * events_wide room

-- ---- the heap, and the heap with its lookups: a byte each
abbrev pub heap_wide : ℕ
heap_wide = 256

abbrev pub order_wide : ℕ
order_wide = 2 * heap_wide
