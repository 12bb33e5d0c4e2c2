-- How long each lent table must be for some counts. Assumes nothing: these are definitions.
use Rattle.std.specs.Prelude.{ℕ, ◌+◌, ◌*◌, Bool, ◌&&◌, leb}
use Rattle.layout.specs.Widths.{lists_head_wide, grains_head_wide, grain_wide, home_wide, members_wide, queue_from, events_from, order_wide}
use Rattle.tables.specs.declared.Sizes.{Sizes}
use Rattle.tables.specs.declared.lengths.Lengths.{Lengths}

abbrev pub lists_need : Sizes → ℕ
lists_need z = lists_head_wide + z.grains * home_wide + z.cells * members_wide

abbrev pub grains_need : Sizes → ℕ
grains_need z = grains_head_wide + z.grains * grain_wide

abbrev pub queue_need : Sizes → ℕ
queue_need z = queue_from z.room z.cells

abbrev pub events_need : Sizes → ℕ
events_need z = events_from z.room z.cells

abbrev pub order_need : ℕ
order_need = order_wide

abbrev pub lengths_for : Sizes → Lengths
lengths_for z = record { lists = lists_need z; grains = grains_need z; queue = queue_need z; events = events_need z }

-- tables of these lengths are long enough
abbrev pub long : Sizes → ℕ → ℕ → ℕ → ℕ → ℕ → Bool
long z l g q e o = (leb (lists_need z) l && leb (grains_need z) g) && ((leb (queue_need z) q && leb (events_need z) e) && leb order_need o)
