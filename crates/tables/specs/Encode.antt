-- The five lent tables that hold a state: their headers, what the layout gives (tables, Layout), and beyond that what was there. Assumes nothing: these are definitions.
use Rattle.std.specs.Prelude.{ℕ, List, [], ◌∷◌, ◌++◌, Bool, true, false, length, drop, set, Float}
use Rattle.chunks.specs.Flat.{flat}
use Rattle.model.specs.declared.Domain.{Domain}
use Rattle.model.specs.State.{State}
use Rattle.tables.specs.declared.Sizes.{Sizes}
use Rattle.tables.specs.Layout.{grain_reals, row_nums, queue_nums, queue_reals, order_bytes}
use Rattle.tables.specs.Decode.{Tables, tables}

-- ---- headers
abbrev pub flagged : Bool → ℕ
flagged true = 1
flagged false = 0

abbrev pub sizes_in : State → Sizes
sizes_in s = record { grains = length s.grains; cells = s.sched.cells; room = s.room }

-- of lists: mark, counts of grains, cells and event places, flags
abbrev pub lists_head : ℕ → Sizes → Domain → List ℕ
lists_head m z b = m ∷ z.grains ∷ z.cells ∷ z.room ∷ flagged b.periodic0 ∷ flagged b.periodic1 ∷ []

-- of grains: the box's lengths, the clock
abbrev pub grains_head : Domain → Float → List Float
grains_head b t = b.lengths.x ∷ b.lengths.y ∷ t ∷ []

-- another mark, another clock
abbrev pub with_mark : ℕ → List ℕ → List ℕ
with_mark m l = set l 0 m

abbrev pub with_clock : Float → List Float → List Float
with_clock t g = set g 2 t

-- ---- some places in front, and beyond them what was there
abbrev pub over : {A : Type 0} → List A → List A → List A
over xs l = xs ++ drop (length xs) l

unfoldable pub encoded : State → Tables → Tables
encoded s t =
    tables
    (over (lists_head s.mark (sizes_in s) s.box ++ (flat row_nums s.homes ++ flat row_nums s.members)) t.lists)
    (over (grains_head s.box s.clock ++ flat grain_reals s.grains) t.grains)
    (over (flat queue_nums s.queues) t.queue)
    (over (flat queue_reals s.queues) t.events)
    (over (order_bytes s.sched) t.order)
