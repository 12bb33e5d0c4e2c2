-- 01: "A run checks 2, then the halt mark, then 3, then 10", over the lent tables; check 10 is the model's test of the state that they are read as. Assumes nothing: these are definitions.
use Rattle.std.specs.Prelude.{ℕ, zero, suc, List, Bool, true, ◌&&◌, leb, length, get_or, drop, Float}
use Rattle.layout.specs.Widths.{lists_head_wide, count_at, home_wide, members_wide, queue_wide, home_room, member_room}
use Rattle.model.specs.Sizes.{counts_ok, cells_ok, rated}
use Rattle.model.specs.Check.{run_checks}
use Rattle.model.specs.Check as model
use Rattle.tables.specs.declared.Sizes.{Sizes}
use Rattle.tables.specs.Lengths.{long}
use Rattle.tables.specs.Decode.{Tables, mark, sizes_of, flags_fine, homes_part, members_part, decoded}

-- ---- 2: a count is out of range, or a lent table is shorter than the counts need
abbrev pub ranged : Sizes → Bool
ranged z = counts_ok z.room z.grains && cells_ok z.cells

-- a list of numbers, and the lengths of the other tables
unfoldable pub sized_by : List ℕ → ℕ → ℕ → ℕ → ℕ → Bool
sized_by l g q e o = leb lists_head_wide (length l) && (ranged (sizes_of l) && long (sizes_of l) (length l) g q e o)

abbrev pub sized : Tables → Bool
sized t = sized_by t.lists (length t.grains) (length t.queue) (length t.events) (length t.order)

-- ---- 10: the standing facts. What a state cannot show: each list count is within its room, and a flag is 0 or 1
unfoldable pub counts_within : ℕ → ℕ → ℕ → List ℕ → Bool
counts_within v w zero l = true
counts_within v w (suc n) l = leb (get_or l count_at 0) v && counts_within v w n (drop w l)

abbrev pub legible_by : Sizes → List ℕ → List ℕ → Bool
legible_by z l q =
    flags_fine l &&
    (counts_within home_room home_wide z.grains (homes_part l) &&
    (counts_within member_room members_wide z.cells (members_part z.grains l) && counts_within z.room (queue_wide z.room) z.cells q))

abbrev pub legible : Tables → Bool
legible t = legible_by (sizes_of t.lists) t.lists t.queue

unfoldable pub standing : Tables → Bool
standing t = legible t && model.standing (decoded t)

-- ---- 2, the mark, 3, 10: the number that refuses the run, 0 for none
unfoldable pub checked : Float → Tables → ℕ
checked rate t = run_checks (sized t) (mark t.lists) (rated rate) (standing t) (λ r. r) 0
