-- What the counts need of each table, behind its header: the parts that the inner functions of a start and of a run are lent. Assumes nothing: these are definitions.
use Rattle.std.specs.Prelude.{ℕ, ◌-◌, List, take, drop, Float}
use Rattle.layout.specs.Widths.{lists_head_wide, grains_head_wide}
use Rattle.tables.specs.declared.Sizes.{Sizes}
use Rattle.tables.specs.Lengths.{lists_need, grains_need, queue_need, events_need, order_need}

abbrev pub lists_body : Sizes → List ℕ → List ℕ
lists_body z l = take (lists_need z - lists_head_wide) (drop lists_head_wide l)

abbrev pub grains_body : Sizes → List Float → List Float
grains_body z g = take (grains_need z - grains_head_wide) (drop grains_head_wide g)

abbrev pub queue_body : Sizes → List ℕ → List ℕ
queue_body z q = take (queue_need z) q

abbrev pub events_body : Sizes → List Float → List Float
events_body z e = take (events_need z) e

abbrev pub order_body : List ℕ → List ℕ
order_body o = take order_need o
