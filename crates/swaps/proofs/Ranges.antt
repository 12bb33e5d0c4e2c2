-- What it says that an argument is in range. Assumes nothing.
use mathlib.Core.Path.{◌≡◌}
use mathlib.Core.Bool.{true, ◌&&◌}
use Prim.Native.Nat.{ℕ, ◌≤◌, ◌<◌}
use borrow.Author.Tests.{eqb-true, leb-true, ltb-true}
use lib.Dec.{eqb, leb, ltb}
use Rattle.layout.specs.Widths.{order_wide}
use Rattle.halting.proofs.Bools.{and_l, and_r}
use Rattle.model.specs.Sizes.{most_room, most_cells}
use Rattle.swaps.specs.Asked.{in_range}

pub in_range_lem : (order cells room cell : ℕ) → in_range order cells room cell ≡ true → (order ≡ order_wide) × (cells ≤ 256) × (cell < 256) × (room ≤ 256)
in_range_lem order cells room cell e =
    let f = and_r (eqb order order_wide) (leb cells most_cells && (leb room most_room && ltb cell most_cells)) e in
    let g = and_r (leb cells most_cells) (leb room most_room && ltb cell most_cells) f in (
      eqb-true order order_wide (and_l (eqb order order_wide) _ e),
      leb-true cells most_cells (and_l (leb cells most_cells) _ f),
      ltb-true cell most_cells (and_r (leb room most_room) (ltb cell most_cells) g),
      leb-true room most_room (and_l (leb room most_room) (ltb cell most_cells) g),
    )
