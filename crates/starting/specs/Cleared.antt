-- The sizes of a start's tables, and 01: "accepted start clears every table place to zero"; and what a start writes before the first grain goes in. Assumes nothing: these are definitions.
use Rattle.std.specs.Prelude.{ℕ, length, replicate}
use Rattle.order.specs.Numbers.{fzero}
use Rattle.scheduler.specs.Heap.{start_heap}
use Rattle.model.specs.declared.Domain.{Domain}
use Rattle.model.specs.Grid.{cells}
use Rattle.tables.specs.declared.Sizes.{Sizes}
use Rattle.tables.specs.Layout.{order_bytes}
use Rattle.tables.specs.Decode.{Tables, tables}
use Rattle.tables.specs.Encode.{lists_head, grains_head, over}

abbrev pub sizes_for : Domain → ℕ → ℕ → Sizes
sizes_for b n room = record { grains = n; cells = cells b; room = room }

-- every place of every table, also beyond what the counts need
abbrev pub cleared : Tables → Tables
cleared t =
    tables (replicate (length t.lists) 0) (replicate (length t.grains) fzero) (replicate (length t.queue) 0) (replicate (length t.events) fzero) (replicate (length t.order) 0)

-- then the headers, with no mark and the clock at 0, and the cells in the heap
abbrev pub headed : Sizes → Domain → Tables → Tables
headed z b t =
    tables (over (lists_head 0 z b) (cleared t).lists) (over (grains_head b fzero) (cleared t).grains) (cleared t).queue (cleared t).events (over (order_bytes (start_heap z.cells)) (cleared t).order)
