-- The rows of numbers that the reader keeps: one more grain's, while there is room. Assumes nothing.
use mathlib.Core.Path.{◌≡◌, refl, sym, ap, ◌∙◌}
use mathlib.Core.List.{List, [], ◌∷◌, ◌++◌, append_assoc}
use Prim.Native.Nat.{ℕ, zero, suc, ◌+◌, ◌-◌, ◌*◌, ◌≤◌, ◌<◌}
use native.Mathlib.Nat.{le_of_suc-le-suc}
use native.Mathlib.Omega.{arith}
use lib.ListN.{length, take, drop, replicate, length-drop, replicate-append-replicate}
use lib.Seq.{take-append-add, drop-append-add}
use borrow.Rule.Slice.PartMut.{mid_of}
use Rattle.chunks.proofs.Laws.{take_tab}
use Rattle.text.specs.Put.{laid}
use Rattle.listing_text.specs.Columns.{columns}
use Rattle.listing_text.specs.Grammar.{Grain, columns_of}
use Rattle.listing_text.specs.Rows.{first_grain, no_grain, grain_rows, row_grain, grains_from}

-- ---- one more grain
laid_past : (a : List ℕ) (at : ℕ) (t l : List ℕ) → laid (length a + at) t (a ++ l) ≡ a ++ laid at t l
laid_past a at t l =
    let e : length a + at + length t ≡ length a + (at + length t) = omega arith in
    ap (λ (n : ℕ). take (length a + at) (a ++ l) ++ (t ++ drop n (a ++ l))) e ∙ rw (take-append-add a l at, drop-append-add a l (at + length t), append_assoc)

past_row : (h : Grain) (l : List ℕ) (n : ℕ) (t : List ℕ) → laid (suc n * columns) t (columns_of h ++ l) ≡ columns_of h ++ laid (n * columns) t l
past_row h l n t =
    let e : suc n * columns ≡ columns + n * columns = omega arith in
    ap (λ (i : ℕ). laid i t (columns_of h ++ l)) e ∙ laid_past (columns_of h) (n * columns) t l

pub rows_more : (k : ℕ) (done : List Grain) (g : Grain) → length done < k → laid (length done * columns) (columns_of g) (grain_rows k done) ≡ grain_rows k (done ++ (g ∷ []))
rows_more zero done g h = absurd (omega arith)
rows_more (suc k) [] g h = refl
rows_more (suc k) (d ∷ done) g h = past_row d (grain_rows k done) (length done) (columns_of g) ∙ ap (λ (l : List ℕ). columns_of d ++ l) (rows_more k done g (le_of_suc-le-suc h))

pub rows_full : (k : ℕ) (done : List Grain) (g : Grain) → k ≤ length done → grain_rows k done ≡ grain_rows k (done ++ (g ∷ []))
rows_full zero done g h = refl
rows_full (suc k) [] g h = absurd (omega arith)
rows_full (suc k) (d ∷ done) g h = ap (λ (l : List ℕ). columns_of d ++ l) (rows_full k done g (le_of_suc-le-suc h))

-- the numbers of all grains, one after the other
abbrev pub flat : List Grain → List ℕ
flat [] = []
flat (g ∷ gs) = columns_of g ++ flat gs

rows_none : (k : ℕ) → grain_rows k [] ≡ replicate (k * columns) 0
rows_none zero = refl
rows_none (suc k) =
    let e : suc k * columns ≡ columns + k * columns = omega arith in
    ap (λ (l : List ℕ). columns_of no_grain ++ l) (rows_none k) ∙ replicate-append-replicate columns (k * columns) 0 ∙ ap (λ (n : ℕ). replicate n 0) (sym e)

-- grains past the rows are left out
pub rows_first : (k : ℕ) (gs : List Grain) → grain_rows k gs ≡ grain_rows k (take k gs)
rows_first zero gs = refl
rows_first (suc k) [] = refl
rows_first (suc k) (g ∷ gs) = ap (λ (l : List ℕ). columns_of g ++ l) (rows_first k gs)

-- where there is room for all of them, the rows are the grains' numbers, and zeros beyond
pub rows_flat : (k : ℕ) (gs : List Grain) → length gs ≤ k → grain_rows k gs ≡ flat gs ++ replicate ((k - length gs) * columns) 0
rows_flat zero [] h = refl
rows_flat zero (g ∷ gs) h = absurd (omega arith)
rows_flat (suc k) [] h = let e : suc k - 0 ≡ suc k = omega arith in rows_none (suc k) ∙ ap (λ (n : ℕ). replicate (n * columns) 0) (sym e)
rows_flat (suc k) (g ∷ gs) h =
    let e : suc k - suc (length gs) ≡ k - length gs = omega arith in
    ap (λ (l : List ℕ). columns_of g ++ l) (rows_flat k gs (le_of_suc-le-suc h)) ∙ ap (λ (n : ℕ). columns_of g ++ (flat gs ++ replicate (n * columns) 0)) (sym e)

-- ---- the rows read again as grains
grain_at_lem : (h : Grain) (l : List ℕ) (i : ℕ) → row_grain (columns_of h ++ l) (suc i) ≡ row_grain l i
grain_at_lem h l i =
    let e : suc i * columns ≡ columns + i * columns = omega arith in
    ap first_grain (ap (λ (k : ℕ). drop k (columns_of h ++ l)) e ∙ drop-append-add (columns_of h) l (i * columns))

grains_past : (k i : ℕ) (h : Grain) (l : List ℕ) → grains_from (columns_of h ++ l) (suc i) k ≡ grains_from l i k
grains_past zero i h l = refl
grains_past (suc k) i h l = λ t. grain_at_lem h l i t ∷ grains_past k (suc i) h l t

-- where there is room for all of them, the rows are the grains again
pub rows_back : (k : ℕ) (gs : List Grain) → length gs ≤ k → grains_from (grain_rows k gs) 0 (length gs) ≡ gs
rows_back k [] h = refl
rows_back zero (g ∷ gs) h = absurd (omega arith)
rows_back (suc k) (g ∷ gs) h = ap (λ (l : List Grain). g ∷ l) (grains_past (length gs) 0 g (grain_rows k gs) ∙ rows_back k gs (le_of_suc-le-suc h))

-- ---- a row's numbers
pub row_numbers : (l : List ℕ) (i k : ℕ) → k ≡ columns → i * columns + columns ≤ length l → mid_of (i * columns) k l ≡ columns_of (row_grain l i)
row_numbers l i k e h =
    ap (λ (k : ℕ). mid_of (i * columns) k l) e ∙ take_tab (drop (i * columns) l) 0 columns 0 (omega (arith, length-drop (i * columns) l))
