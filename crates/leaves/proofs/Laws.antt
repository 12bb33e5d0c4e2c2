-- What the test of a box gives, and the cell that a case names. Assumes nothing.
use Prim.Native.Nat.{ℕ, ◌*◌, ◌≤◌, ◌<◌}
use mathlib.Core.Path.{◌≡◌, sym, ap, ◌∙◌}
use mathlib.Core.Bool.{Bool, true, false, not}
use native.Mathlib.Omega.{arith}
use borrow.Author.Tests.{not-false}
use Rattle.model.specs.declared.Domain.{Domain}
use Rattle.model.specs.Sizes.{box_ok}
use Rattle.model.specs.Grid.{cells}
use Rattle.model.proofs.Grid.{across_max}
use Rattle.cell.specs.declared.Grid.{Grid}
use Rattle.cell.specs.Cell.{grid_of, Laid}

-- it did not fail
pub in_range_lem : (b : Domain) (t : Bool) → t ≡ box_ok b → not t ≡ false → box_ok b ≡ true
in_range_lem b t e f = sym e ∙ not-false t f

pub narrow : (b : Domain) (t : Bool) (g : Grid) → t ≡ box_ok b → not t ≡ false → g ≡ grid_of b → (g.n0 ≤ 16) × (g.n1 ≤ 16)
narrow b t g e f h = rw h (across_max b (in_range_lem b t e f))

-- ---- the cell that a case names
pub in_box : (b : Domain) (t : Bool) (g : Grid) (n c : ℕ) → t ≡ box_ok b → not t ≡ false → g ≡ grid_of b → n ≡ g.n0 * g.n1 → c < n → Laid b g × (c < cells b)
in_box b t g n c e f h m k = (record { box = in_range_lem b t e f; grid = h }, let w = m ∙ ap (λ (x : Grid). x.n0 * x.n1) h in omega (arith, w, k))
