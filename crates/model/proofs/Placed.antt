-- What from_p_to_c's lists of cell numbers are: some, few, in range and none twice; of one direction, and of the product of both. Assumes nothing.
use mathlib.Core.Path.{◌≡◌, refl, sym, ap, ◌∙◌}
use mathlib.Core.List.{List, [], ◌∷◌, ◌++◌, map}
use mathlib.Core.Bool.{Bool, true, false, ◌||◌, or-true}
use Prim.Native.Nat.{ℕ, zero, suc, ◌+◌, ◌-◌, ◌*◌, ◌/◌, ◌≤◌, ◌<◌}
use native.Mathlib.Nat.{add-mul-div_left, div-eq_of_lt, mul-le-mul, zero-add, zero-mul, suc-mul, add_comm}
use native.Mathlib.Omega.{arith}
use native.Mathlib.Decide.{ℕ_discrete}
use lib.Dec.{eqb}
use lib.ListN.{length, length-append, length-map}
use borrow.Author.Tests.{eqb-true, eq-eqb, ne_eqb}
use Rattle.model.specs.declared.Domain.{Domain}
use Rattle.model.specs.Grid.{across, cells, cell_at}
use Rattle.model.specs.FromPToC.{up_from, between, cells_at}
use Rattle.model.specs.State.{has}
use Rattle.model.specs.Standing.{Once}
use Rattle.halting.proofs.Bools.{clash, or_case}
use Rattle.model.proofs.Plans.{across_min}
use Rattle.model.proofs.Grid.{Under, up_in, under_append, rows_under}

-- at least one and at most k different numbers below n
pub record Placed (k n : ℕ) (xs : List ℕ) : Type 0 where
  pub some : 1 ≤ length xs
  pub few : length xs ≤ k
  pub below : Under n xs
  pub once : Once xs

-- ---- no number twice
pub absent : (x : ℕ) (l : List ℕ) → (has x l ≡ true → ⊥) → has x l ≡ false
absent x l h = by (has x l) refl
  where
    by : (b : Bool) → has x l ≡ b → has x l ≡ false
    by true e = absurd (h e)
    by false e = e

has_append : (x : ℕ) (l m : List ℕ) → has x l ≡ false → has x m ≡ false → has x (l ++ m) ≡ false
unfolding has
has_append x [] m a b = b
has_append x (y ∷ ys) m a b = by (eqb x y) (has x ys) a (λ c. has_append x ys m c b)
  where
    by : (e t : Bool) → (e || t) ≡ false → (t ≡ false → has x (ys ++ m) ≡ false) → (e || has x (ys ++ m)) ≡ false
    by true t z k = clash (sym z)
    by false t z k = k z

has_rest : (x : ℕ) (l m : List ℕ) → has x (l ++ m) ≡ true → has x l ≡ false → has x m ≡ true
has_rest x l m h a = by (has x m) refl
  where
    by : (b : Bool) → has x m ≡ b → has x m ≡ true
    by true e = e
    by false e = clash (sym (has_append x l m a e) ∙ h)

once_append : (l m : List ℕ) → Once l → Once m → ((x : ℕ) → has x l ≡ true → has x m ≡ false) → Once (l ++ m)
unfolding has
once_append [] m a b d = b
once_append (x ∷ xs) m a b d = (has_append x xs m a.0 (d x (rw (eq-eqb x x refl))), once_append xs m a.1 b (λ y h. d y (rw h (or-true (eqb y x)))))

-- ---- numbers from i on
once_up : (k i : ℕ) → Once (up_from i k)
unfolding up_from
once_up zero i = tt
once_up (suc k) i = (absent i (up_from (suc i) k) (λ h. let w = up_in (suc i) k i h in let a = w.0 in omega arith), once_up k (suc i))

length_up : (k i : ℕ) → length (up_from i k) ≡ k
unfolding up_from
length_up zero i = refl
length_up (suc k) i = ap suc (length_up k (suc i))

between_in : (a z x : ℕ) → has x (between a z) ≡ true → (a ≤ x) × (x < z)
between_in a z x h = let w = up_in a (z - a) x h in by w.0 w.1
  where
    by : a ≤ x → x < a + (z - a) → (a ≤ x) × (x < z)
    by p q = (p, omega arith)

-- one span: some cell, and at most two
pub alone : (n a z : ℕ) → a < z → z ≤ n → z ≤ suc (suc a) → Placed 2 n (between a z)
alone n a z some in' few = record {
  some = let e = length_up (z - a) a in omega (arith, e);
  few = let e = length_up (z - a) a in omega (arith, e);
  below = λ x h. let w = (between_in a z x h).1 in omega (arith, w);
  once = once_up (z - a) a;
}

-- two spans, the second past the first
pub joined : (n a z c y : ℕ) → a < z → z ≤ c → z ≤ n → y ≤ n → z - a + (y - c) ≤ 2 → Placed 2 n (between a z ++ between c y)
joined n a z c y some apart in' in'' few = record {
  some = rw (length-append (between a z) (between c y)) (let e = length_up (z - a) a in omega (arith, e));
  few = rw (length-append (between a z) (between c y)) (let e = length_up (z - a) a in let f = length_up (y - c) c in omega (arith, e, f));
  below = under_append n (between a z) (between c y) (λ x h. let w = (between_in a z x h).1 in omega (arith, w)) (λ x h. let w = (between_in c y x h).1 in omega (arith, w));
  once = once_append (between a z) (between c y) (once_up (z - a) a) (once_up (y - c) c)
      (λ x h. absent x (between c y) (λ g. let w = (between_in a z x h).1 in let v = (between_in c y x g).0 in omega (arith, w, v)));
}

-- ---- the product of both directions
module _ (b : Domain) where
  some_across : 0 < across 0 b
  some_across = let w = across_min 0 b in omega arith

  row_of : (i j : ℕ) → i < across 0 b → cell_at b i j / across 0 b ≡ j
  row_of i j h = add-mul-div_left i j {y = across 0 b} some_across ∙ ap (λ (q : ℕ). q + j) (div-eq_of_lt h) ∙ zero-add j

  map_row : (j : ℕ) (is : List ℕ) → Under (across 0 b) is → (x : ℕ) → has x (map (λ (i : ℕ). cell_at b i j) is) ≡ true → x / across 0 b ≡ j
  unfolding has
  map_row j [] u x h = clash h
  map_row j (i ∷ is) u x h =
      or_case (eqb x (cell_at b i j)) (has x (map (λ (i : ℕ). cell_at b i j) is)) (x / across 0 b ≡ j) h
      (λ e. rw (eqb-true x (cell_at b i j) e) (row_of i j (u i (rw (eq-eqb i i refl))))) (λ e. map_row j is (λ y g. u y (rw g (or-true (eqb y i)))) x e)

  rows_row : (is js : List ℕ) → Under (across 0 b) is → (x : ℕ) → has x (cells_at b is js) ≡ true → has (x / across 0 b) js ≡ true
  unfolding cells_at has
  rows_row is [] u x h = clash h
  rows_row is (j ∷ js) u x h = by (has x (map (λ (i : ℕ). cell_at b i j) is)) refl (rows_row is js u x)
    where
      by : (t : Bool) → has x (map (λ (i : ℕ). cell_at b i j) is) ≡ t → (has x (cells_at b is js) ≡ true → has (x / across 0 b) js ≡ true) → has (x / across 0 b) (j ∷ js) ≡ true
      by true e k = unfold has in rw (eq-eqb (x / across 0 b) j (map_row j is u x e))
      by false e k = unfold has in rw (k (has_rest x (map (λ (i : ℕ). cell_at b i j) is) (cells_at b is js) h e)) (or-true (eqb (x / across 0 b) j))

  has_map : (j i : ℕ) (is : List ℕ) → has (cell_at b i j) (map (λ (i : ℕ). cell_at b i j) is) ≡ has i is
  unfolding has
  has_map j i [] = refl
  has_map j i (k ∷ is) = rw (has_map j i is) (ap (λ t. t || has i is) same)
    where
      same : eqb (cell_at b i j) (cell_at b k j) ≡ eqb i k
      same = elim (ℕ_discrete i k) [
        | yes e ↦ eq-eqb (cell_at b i j) (cell_at b k j) (ap (λ (q : ℕ). cell_at b q j) e) ∙ sym (eq-eqb i k e)
        | no d ↦ ne_eqb (cell_at b i j) (cell_at b k j) (λ e. d (omega (arith, e))) ∙ sym (ne_eqb i k d)
      ]

  once_map : (j : ℕ) (is : List ℕ) → Once is → Once (map (λ (i : ℕ). cell_at b i j) is)
  once_map j [] o = tt
  once_map j (i ∷ is) o = (has_map j i is ∙ o.0, once_map j is o.1)

  once_rows : (is js : List ℕ) → Under (across 0 b) is → Once is → Once js → Once (cells_at b is js)
  unfolding cells_at
  once_rows is [] u o p = tt
  once_rows is (j ∷ js) u o p =
      once_append (map (λ (i : ℕ). cell_at b i j) is) (cells_at b is js) (once_map j is o) (once_rows is js u o p.1)
      (λ x h. absent x (cells_at b is js) (λ g. clash (sym p.0 ∙ ap (λ (k : ℕ). has k js) (sym (map_row j is u x h)) ∙ rows_row is js u x g)))

  length_rows : (is js : List ℕ) → length (cells_at b is js) ≡ length js * length is
  unfolding cells_at
  length_rows is [] = sym (zero-mul (length is))
  length_rows is (j ∷ js) = length-append (map (λ (i : ℕ). cell_at b i j) is) (cells_at b is js) ∙ rw (length-map is (λ (i : ℕ). cell_at b i j), length_rows is js) (sym (suc-mul (length js) (length is) ∙ add_comm _ _))

  pub product : (is js : List ℕ) → Placed 2 (across 0 b) is → Placed 2 (across 1 b) js → Placed 4 (cells b) (cells_at b is js)
  product is js p q = record {
    some = rw (length_rows is js) (let h : 1 * 1 ≤ length js * length is = mul-le-mul q.some p.some in h);
    few = rw (length_rows is js) (let h : length js * length is ≤ 2 * 2 = mul-le-mul q.few p.few in h);
    below = rows_under b is js p.below q.below;
    once = once_rows is js p.below p.once q.once;
  }
