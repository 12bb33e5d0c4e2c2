-- Where each row stands in its table, behind the header, and what stands there. Assumes nothing: these are definitions.
use Rattle.std.specs.Prelude.{ℕ, ◌+◌, ◌-◌, List}
use borrow.Rule.Slice.PartMut.{mid_of, put_mid}
use Rattle.layout.specs.Widths.{home_wide, members_wide, queue_wide, events_wide, home_from, members_from, queue_from, events_from}
use Rattle.tables.specs.declared.Sizes.{Sizes}
use Rattle.tables.specs.declared.parts.Part.{Part}

-- a part that begins somewhere and is so wide
abbrev pub part_of : ℕ → ℕ → Part
part_of from wide = record { from = from; to = from + wide }

-- a grain's row of cells, a cell's row of grains
abbrev pub home_part : ℕ → Part
home_part grain = part_of (home_from grain) home_wide

abbrev pub member_part : Sizes → ℕ → Part
member_part z cell = part_of (members_from z.grains cell) members_wide

-- a cell's row of events: its numbers, its floats
abbrev pub queue_part : Sizes → ℕ → Part
queue_part z cell = part_of (queue_from z.room cell) (queue_wide z.room)

abbrev pub events_part : Sizes → ℕ → Part
events_part z cell = part_of (events_from z.room cell) (events_wide z.room)

-- what a part of a table holds, and the table with something else there
abbrev pub lent : {A : Type 0} → Part → List A → List A
lent p l = mid_of p.from (p.to - p.from) l

abbrev pub back : {A : Type 0} → Part → List A → List A → List A
back p l xs = put_mid p.from (p.to - p.from) l xs
