-- A range of floats, and what a grid gives of its box. Assumes nothing.
use Rattle.std.proofs.Common.{◌≡◌, ℕ, zero, suc, ◌+◌, ◌-◌, ◌%◌, ◌<◌, ◌≤◌, Bool, true, false, cond, ◌&&◌, ◌||◌, Some, None, Less, Equal, Greater, is_le, refl, ap, ◌∙◌, mod-lt, arith}
use lib.Ieee.{Float, lt, eq, le}
use Rattle.std.specs.declared.ops.RangeInclusive.{RangeInclusive}
use Rattle.std.specs.Range.{range_inclusive_start, range_inclusive_end, range_inclusive_exhausted, range_inclusive_contains}
use Rattle.std.specs.Ordering.{is_some_and, float_partial_cmp}
use Rattle.myvec.specs.declared.MyVec.{MyVec}
use Rattle.myvec.specs.Vec.{vec}
use Rattle.model.specs.declared.Domain.{Domain}
use Rattle.model.specs.Sizes.{box_ok, within}
use Rattle.model.specs.Grid.{across, cells, length_of, position}
use Rattle.model.specs.Periodic.{corrected, apart}
use Rattle.model.proofs.Grid.{across_max, cells_max}
use Rattle.model.proofs.Plans.{across_min, row_in}
use Rattle.cell.specs.declared.Grid.{Grid}
use Rattle.cell.specs.declared.CellAlong.{CellAlong}
use Rattle.cell.specs.declared.Cell.{Cell}
use Rattle.cell.specs.Cell.{grid_of, Laid, cell_along, cell_of, IsCell, along_in, across_in, index_in, beside_in, edge_of, position_of}

-- ---- a number in a range of floats
le_is : (x y : Float) → is_some_and is_le (float_partial_cmp x y) ≡ le x y
unfolding le
le_is x y = by (lt x y) (eq x y) (lt y x)
  where
    by : (a e b : Bool) → is_some_and is_le (cond a (Some Less) (cond e (Some Equal) (cond b (Some Greater) None))) ≡ (a || e)
    by true e b = refl
    by false true b = refl
    by false false true = refl
    by false false false = refl

pub within_is : (r : RangeInclusive Float) (lo hi x : Float) → range_inclusive_start r ≡ lo → range_inclusive_end r ≡ hi → range_inclusive_exhausted r ≡ false
    → range_inclusive_contains float_partial_cmp r x ≡ within lo hi x
within_is r lo hi x s e k = rw (s, e, k) (λ i. le_is lo x i && le_is x hi i)

-- ---- the grid of a box in range, and a cell's index in it
pub record Inside (g : Grid) (d c : ℕ) : Type 0 where
  pub some : 0 < g.n0
  pub few : g.n0 ≤ 16
  pub narrow : across_in g d ≤ 16
  pub under : index_in g d c < across_in g d
  pub small : c < 256

inside_box : (b : Domain) (d c : ℕ) → box_ok b ≡ true → c < cells b → Inside (grid_of b) d c
inside_box b d c h k =
    let m = across_max b h in
    let w = cells_max b h in
    record {
      some = let n = across_min 0 b in omega arith;
      few = m.0;
      narrow = narrow d;
      under = under d;
      small = omega arith;
    }
  where
    narrow : (d : ℕ) → across_in (grid_of b) d ≤ 16
    narrow zero = (across_max b h).0
    narrow (suc d) = (across_max b h).1

    under : (d : ℕ) → index_in (grid_of b) d c < across_in (grid_of b) d
    under zero = mod-lt c (let n = across_min 0 b in omega arith)
    under (suc d) = row_in b c k

pub inside : (b : Domain) (g : Grid) (d c : ℕ) → Laid b g → c < cells b → Inside g d c
inside b g d c l k = rw l.grid (inside_box b d c l.box k)

-- what the numbers of a grid give is what the definitions give of its box
abbrev pub along : Domain → Grid → ℕ → ℕ → ℕ → ℕ → CellAlong
along b g d c n i = record {
  low = edge_of (length_of d b) n i;
  high = edge_of (length_of d b) n (i + 1);
  position = position_of n i;
  below = beside_in g d c ((i + (n - 1)) % n);
  above = beside_in g d c ((i + 1) % n);
}

along_box : (b : Domain) (d c : ℕ) → along b (grid_of b) d c (across_in (grid_of b) d) (index_in (grid_of b) d c) ≡ cell_along d b c
unfolding cell_along position across
along_box b zero c = refl
along_box b (suc d) c = refl

abbrev pub AlongIs : Domain → Grid → ℕ → ℕ → Type 0
AlongIs b g d c = along b g d c (across_in g d) (index_in g d c) ≡ cell_along d b c

pub along_is : (b : Domain) (g : Grid) (d c : ℕ) → Laid b g → AlongIs b g d c
along_is b g d c l = rw l.grid (along_box b d c)

-- ---- a cell of a box
pub is_cell : (b : Domain) (k : Cell) (c : ℕ) → k ≡ cell_of b c → IsCell b k
unfolding cell_of
is_cell b k c e = rw e

pub index_cell : (b : Domain) (c : ℕ) {k : Cell} → k ≡ cell_of b c → k.index ≡ c
unfolding cell_of
index_cell b c e = ap (λ (k : Cell). k.index) e

pub along_cell : (b : Domain) (k : Cell) (d : ℕ) → IsCell b k → along_in k d ≡ cell_along d b k.index
along_cell b k d e = ap (λ (k : Cell). along_in k d) e ∙ by d k.index
  where
    by : (d c : ℕ) → along_in (cell_of b c) d ≡ cell_along d b c
    by zero c = unfold cell_of in refl
    by (suc d) c = unfold cell_of cell_along position across in refl

pub apart_cell : (b : Domain) (k : Cell) (v : MyVec) → IsCell b k
    → vec (corrected (length_of 0 b) k.x.position v.x) (corrected (length_of 1 b) k.y.position v.y) ≡ apart b k.index v
apart_cell b k v e = ap (λ (k : Cell). vec (corrected (length_of 0 b) k.x.position v.x) (corrected (length_of 1 b) k.y.position v.y)) e ∙ by k.index
  where
    by : (c : ℕ) → vec (corrected (length_of 0 b) (cell_of b c).x.position v.x) (corrected (length_of 1 b) (cell_of b c).y.position v.y) ≡ apart b c v
    by c = unfold cell_of cell_along apart in refl

-- ---- a number in one of two cells beside another is small
pub wrapped_small : (a n r : ℕ) → 0 < n → n ≤ 16 → r ≡ a % n → r ≤ 256
wrapped_small a n r h k e = let l : a % n < n = mod-lt a h in omega arith
