-- from_p_to_c gives cells of the box; an accepted box has at most 256 cells. Assumes nothing.
use Prim.Native.Nat.{ℕ, zero, suc, ◌+◌, ◌-◌, ◌*◌, ◌≤◌, ◌<◌}
use mathlib.Core.Path.{◌≡◌, refl}
use mathlib.Core.List.{List, [], ◌∷◌, ◌++◌, map}
use mathlib.Core.Bool.{true, or-true}
use native.Mathlib.Omega.{arith}
use native.Mathlib.Nat.{mul-le-mul, le_trans, lt_of_le_of_lt}
use lib.Dec.{T, eqb, le→leb, lit≤, lit<}
use lib.Ieee.{Float, binary64, add, sub, lt, le, in_float}
use borrow.Author.Tests.{eqb-true, eq-eqb}
use Rattle.model.specs.declared.Domain.{Domain}
use Rattle.model.specs.declared.Particle.{Particle}
use Rattle.model.specs.Grid.{cells_of, across, cells, cell_at, length_of}
use Rattle.order.specs.Numbers.{fzero}
use Rattle.model.specs.Constants.{shortest, longest}
use Rattle.order.proofs.Cut.{cut_capped}
use Rattle.model.specs.FromPToC.{up_from, first_cell, end_cell, kernel, reached, cells_at, cells_of_grain}
use Rattle.model.specs.State.{has}
use Rattle.model.specs.Sizes.{box_ok, length_ok}
use Rattle.halting.proofs.Bools.{clash, or_case, and_l, and_r}
use Rattle.model.proofs.Queue.{T_of}
use Rattle.model.proofs.Cases.{on_test}
use Rattle.model.proofs.Eighths.{facts}
use Rattle.model.proofs.Plans.{grid_in}

-- ---- 9 to 48 long: 3 to 16 cells
pub cells_range : (length : Float) → T (le shortest length) → T (le length longest) → (3 ≤ cells_of length) × (cells_of length ≤ 16)
cells_range length h k = let q = facts length h k in (q.three_up, q.sixteen_down)

within_range : (l : Float) → length_ok l ≡ true → (3 ≤ cells_of l) × (cells_of l ≤ 16)
within_range l h = cells_range l (T_of _ (and_l (le shortest l) (le l longest) h)) (T_of _ (and_r (le shortest l) (le l longest) h))

pub across_max : (b : Domain) → box_ok b ≡ true → (across 0 b ≤ 16) × (across 1 b ≤ 16)
unfolding across
across_max b h = (
  (within_range (length_of 0 b) (and_l (length_ok (length_of 0 b)) (length_ok (length_of 1 b)) h)).1,
  (within_range (length_of 1 b) (and_r (length_ok (length_of 0 b)) (length_ok (length_of 1 b)) h)).1,
)

pub cells_max : (b : Domain) → box_ok b ≡ true → cells b ≤ 256
cells_max b h = let m = across_max b h in let p : across 0 b * across 1 b ≤ 16 * 16 = mul-le-mul m.0 m.1 in p

-- ---- the numbers of a direction
abbrev pub Under : ℕ → List ℕ → Type 0
Under n l = (x : ℕ) → has x l ≡ true → x < n

pub up_in : (i k x : ℕ) → has x (up_from i k) ≡ true → (i ≤ x) × (x < i + k)
unfolding has up_from
up_in i zero x h = clash h
up_in i (suc k) x h = or_case (eqb x i) (has x (up_from (suc i) k)) ((i ≤ x) × (x < i + suc k)) h
    (λ e. let q = eqb-true x i e in (omega (arith, q), omega (arith, q))) (λ e. let w = up_in (suc i) k x e in (let a = w.0 in omega (arith, a), let a = w.1 in omega (arith, a)))

pub under_append : (n : ℕ) (l m : List ℕ) → Under n l → Under n m → Under n (l ++ m)
unfolding has
under_append n [] m a b x h = b x h
under_append n (y ∷ ys) m a b x h = or_case (eqb x y) (has x (ys ++ m)) (x < n) h (λ e. a x (rw e)) (λ e. under_append n ys m (λ z q. a z (rw q (or-true (eqb z y)))) b x e)

kernel_under : (l : Float) (n : ℕ) (lo hi : Float) → n ≤ 16 → Under n (kernel l n lo hi)
kernel_under l n lo hi N x h =
    let cap : end_cell l n hi ≤ n = cut_capped binary64 64 (add binary64 _ _) n (unfold in_float in le→leb n 9007199254740992 (le_trans N (lit≤ tt))) (lt_of_le_of_lt N (lit< tt)) in
    let w = up_in (first_cell l n lo) (end_cell l n hi - first_cell l n lo) x h in
    far (first_cell l n lo) (end_cell l n hi) w.0 w.1 cap
  where
    far : (a z : ℕ) → a ≤ x → x < a + (z - a) → z ≤ n → x < n
    far a z p q r = omega arith

reached_under : (l : Float) (n : ℕ) (rad x : Float) → n ≤ 16 → Under n (reached l n rad x)
unfolding reached
reached_under l n rad x N =
    on_test (Under n) (lt (sub binary64 x rad) fzero) _ _ (λ e. under_append n _ _ (kernel_under l n _ _ N) (kernel_under l n _ _ N))
    (λ e. on_test (Under n) (lt l (add binary64 x rad)) _ _ (λ e. under_append n _ _ (kernel_under l n _ _ N) (kernel_under l n _ _ N)) (λ e. kernel_under l n _ _ N))

-- ---- their products
map_under : (b : Domain) (j : ℕ) (is : List ℕ) → j < across 1 b → Under (across 0 b) is → Under (cells b) (map (λ (i : ℕ). cell_at b i j) is)
unfolding has
map_under b j [] J a x h = clash h
map_under b j (i ∷ is) J a x h =
    or_case (eqb x (cell_at b i j)) (has x (map (λ (i : ℕ). cell_at b i j) is)) (x < cells b) h
    (λ e. rw (eqb-true x (cell_at b i j) e) (grid_in i j (across 0 b) (across 1 b) (a i (rw (eq-eqb i i refl))) J)) (λ e. map_under b j is J (λ z q. a z (rw q (or-true (eqb z i)))) x e)

pub rows_under : (b : Domain) (is js : List ℕ) → Under (across 0 b) is → Under (across 1 b) js → Under (cells b) (cells_at b is js)
unfolding has cells_at
rows_under b is [] a c x h = clash h
rows_under b is (j ∷ js) a c x h = under_append (cells b) (map (λ (i : ℕ). cell_at b i j) is) (cells_at b is js) (map_under b j is (c j (rw (eq-eqb j j refl))) a) (rows_under b is js a (λ z q. c z (rw q (or-true (eqb z j))))) x h

pub cells_under : (b : Domain) (p : Particle) → box_ok b ≡ true → Under (cells b) (cells_of_grain b p)
unfolding cells_of_grain
cells_under b p h = let m = across_max b h in rows_under b _ _ (reached_under (length_of 0 b) (across 0 b) p.rad p.pos.x m.0) (reached_under (length_of 1 b) (across 1 b) p.rad p.pos.y m.1)
