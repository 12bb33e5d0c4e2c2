-- Rows of numbers put over a table one after the other. Assumes nothing.
use Prim.Native.Nat.{ℕ, zero, suc, ◌+◌, ◌-◌, ◌*◌, ◌<◌, ◌≤◌}
use mathlib.Core.Path.{◌≡◌, refl, sym, ap, ◌∙◌}
use mathlib.Core.List.{List, [], ◌∷◌, ◌++◌, map, append_assoc}
use native.Mathlib.Nat.{not-suc-le-zero, le_of_suc-le-suc}
use native.Mathlib.Numerals.{add-one}
use native.Mathlib.Omega.{arith}
use lib.Dec.{lit<}
use lib.ListN.{length, get_or, drop, replicate, length-drop}
use lib.Seq.{drop-drop, sets, sets-eq}
use lib.Ieee.{Float, nan}
use borrow.Rule.Slice.PartMut.{mid_of, put_mid}
use Rattle.chunks.specs.Flat.{flat}
use Rattle.chunks.proofs.Laws.{mid_tail, put_tail, tail_is, take_tab}
use Rattle.order.specs.Numbers.{fzero}
use Rattle.myvec.specs.Vec.{vec}
use Rattle.model.specs.declared.Particle.{Particle}
use Rattle.model.specs.Stepping.{grain_of}
use Rattle.layout.specs.Widths.{grains_head_wide, grain_wide}
use Rattle.tables.specs.Layout.{grain_reals}
use Rattle.tables.specs.Decode.{cut, grain_at, grains_of, grains_part}
use Rattle.checks.proofs.Cut.{cut_long, drop_next}
use Rattle.listing_text.specs.Columns.{columns, most_kept, kept}
use Rattle.listing_text.specs.Grammar.{Grain, columns_of}
use Rattle.tables.specs.Inputs.{input_at, inputs_of}
use Rattle.listing_text.specs.Rows.{first_grain, grain_rows, grains_from}
use Rattle.listing_text.proofs.Rows.{rows_flat, rows_back}
use Rattle.listing_text.proofs.Rows as text
use Rattle.answers.specs.Answer.{float, grain_from, shown_grain}

-- ---- the first grain of a table, and its numbers over the first places
pub first_grain_lem : (g : List Float) → grain_wide ≤ length g → mid_of 0 (grain_wide - 0) g ≡ grain_reals (grain_at g)
first_grain_lem g h = take_tab g nan grain_wide 0 h

pub shown_over : (l : List ℕ) (p q : Particle) → p ≡ q → columns ≤ length l → sets l 0 (columns_of (shown_grain p)) ≡ columns_of (shown_grain q) ++ drop columns l
shown_over l p q e h = sets-eq (columns_of (shown_grain p)) l 0 h ∙ ap (λ (x : Particle). columns_of (shown_grain x) ++ drop columns l) e

-- ---- the rows of grains over a table's first places
abbrev rows_in : List Particle → List ℕ
rows_in ps = flat columns_of (map shown_grain ps)

rows_long : (ps : List Particle) → length (rows_in ps) ≡ length ps * columns
rows_long [] = refl
rows_long (p ∷ ps) = let h = rows_long ps in omega (arith, h)

rows_more : (ps : List Particle) (p : Particle) → rows_in (ps ++ p ∷ []) ≡ rows_in ps ++ columns_of (shown_grain p)
rows_more [] p = refl
rows_more (q ∷ ps) p = ap (λ (l : List ℕ). columns_of (shown_grain q) ++ l) (rows_more ps p)

grains_more : (i : ℕ) (g : List Float) → grains_of (suc i) g ≡ grains_of i g ++ grain_at (drop (i * grain_wide) g) ∷ []
unfolding cut
grains_more zero g = refl
grains_more (suc i) g = ap (λ (ps : List Particle). grain_at g ∷ ps) (grains_more i (drop grain_wide g) ∙ ap (λ (m : List Float). grains_of i (drop grain_wide g) ++ grain_at m ∷ []) (drop_next i grain_wide g))

-- row i, behind those before it
pub show_more : (i : ℕ) (g : List Float) (s t u ys : List ℕ) → t ≡ rows_in (grains_of i g) ++ drop (i * columns) s
    → u ≡ put_mid (i * columns) (length t - i * columns) t ys
    → ys ≡ columns_of (shown_grain (grain_at (mid_of (i * grain_wide) (length g - i * grain_wide) g))) ++ drop columns (mid_of (i * columns) (length t - i * columns) t)
    → u ≡ rows_in (grains_of (i + 1) g) ++ drop ((i + 1) * columns) s
show_more i g s t u ys e p q =
    let a = rows_in (grains_of i g) in
    let z = drop (i * columns) s in
    let long : length a ≡ i * columns = rows_long (grains_of i g) ∙ ap (λ (k : ℕ). k * columns) (cut_long grain_at grain_wide i g) in
    let m : mid_of (i * columns) (length t - i * columns) t ≡ z = mid_tail a z (i * columns) e long in
    let d : drop columns z ≡ drop ((i + 1) * columns) s = drop-drop columns (i * columns) s ∙ ap (λ (k : ℕ). drop k s) (let w : i * columns + columns ≡ (i + 1) * columns = omega arith in w) in
    let f : mid_of (i * grain_wide) (length g - i * grain_wide) g ≡ drop (i * grain_wide) g = tail_is (i * grain_wide) g in
    let row = columns_of (shown_grain (grain_at (drop (i * grain_wide) g))) in
    let y : ys ≡ row ++ drop ((i + 1) * columns) s = q ∙ (λ j. columns_of (shown_grain (grain_at (f j))) ++ drop columns (m j)) ∙ ap (λ (l : List ℕ). row ++ l) d in
    p ∙ put_tail a z (i * columns) ys e long ∙ ap (λ (l : List ℕ). a ++ l) y ∙ sym (append_assoc a row (drop ((i + 1) * columns) s))
    ∙ ap (λ (l : List ℕ). l ++ drop ((i + 1) * columns) s) (sym (rows_more (grains_of i g) (grain_at (drop (i * grain_wide) g))) ∙ ap rows_in (sym (grains_more i g) ∙ ap (λ (k : ℕ). grains_of k g) (sym (add-one i))))

-- ---- rows read as a start's grains, and the rows of shown grains read again
drop_map : {A B : Type 0} (f : A → B) (k : ℕ) (l : List A) → drop k (map f l) ≡ map f (drop k l)
drop_map f zero l = refl
drop_map f (suc k) [] = refl
drop_map f (suc k) (x ∷ l) = drop_map f k l

get_map : {A B : Type 0} (f : A → B) (l : List A) (j : ℕ) (d : A) (z : B) → j < length l → get_or (map f l) j z ≡ f (get_or l j d)
get_map f [] j d z h = absurd (not-suc-le-zero h)
get_map f (x ∷ l) zero d z h = refl
get_map f (x ∷ l) (suc j) d z h = get_map f l j d z (le_of_suc-le-suc h)

input_is : (m : List ℕ) → columns ≤ length m → input_at (map float m) ≡ grain_from (first_grain m)
input_is m h =
    let at : (j : ℕ) → j < columns → get_or (map float m) j nan ≡ float (get_or m j 0) = λ (j : ℕ) (w : j < columns). get_map float m j 0 nan (omega (arith, h, w)) in
    λ t. grain_of (vec (at 0 (lit< tt) t) (at 1 (lit< tt) t)) (vec (at 2 (lit< tt) t) (at 3 (lit< tt) t)) fzero (at 4 (lit< tt) t) (at 5 (lit< tt) t)

inputs_from : (k i : ℕ) (l : List ℕ) → (i + k) * columns ≤ length l → inputs_of k (map float (drop (i * columns) l)) ≡ map grain_from (grains_from l i k)
unfolding cut
inputs_from zero i l h = refl
inputs_from (suc k) i l h =
    let m = drop (i * columns) l in
    let w : i * columns + columns ≡ suc i * columns = omega arith in
    let e : drop columns (map float m) ≡ map float (drop (suc i * columns) l) = drop_map float columns m ∙ ap (map float) (drop-drop columns (i * columns) l ∙ ap (λ (k : ℕ). drop k l) w) in
    λ t. input_is m (omega (arith, h, length-drop (i * columns) l)) t ∷ (ap (inputs_of k) e ∙ inputs_from k (suc i) l (omega (arith, h))) t

pub inputs_are : (n : ℕ) (l : List ℕ) → n * columns ≤ length l → inputs_of n (map float l) ≡ map grain_from (grains_from l 0 n)
inputs_are n l h = inputs_from n 0 l (omega (arith, h))

flat_same : (gs : List Grain) → flat columns_of gs ≡ text.flat gs
flat_same [] = refl
flat_same (g ∷ gs) = ap (λ (l : List ℕ). columns_of g ++ l) (flat_same gs)

drop_zeros : (k n : ℕ) → drop k (replicate {A = ℕ} n 0) ≡ replicate (n - k) 0
drop_zeros zero n = ap (λ (m : ℕ). replicate {A = ℕ} m 0) (let e : n ≡ n - 0 = omega arith in e)
drop_zeros (suc k) zero = ap (λ (m : ℕ). replicate {A = ℕ} m 0) (let e : 0 ≡ 0 - suc k = omega arith in e)
drop_zeros (suc k) (suc n) = drop_zeros k n ∙ ap (λ (m : ℕ). replicate {A = ℕ} m 0) (let e : n - k ≡ suc n - suc k = omega arith in e)

pub shown_back : (gs : List Grain) (n : ℕ) → length gs ≡ n → n ≤ most_kept → grains_from (flat columns_of gs ++ drop (n * columns) (replicate {A = ℕ} kept 0)) 0 n ≡ gs
shown_back gs n e h =
    let f : length gs ≤ most_kept = omega (arith, e, h) in
    let z : drop (n * columns) (replicate {A = ℕ} kept 0) ≡ replicate ((most_kept - length gs) * columns) 0 = drop_zeros (n * columns) kept ∙ ap (λ (m : ℕ). replicate {A = ℕ} m 0) (let w : kept - n * columns ≡ (most_kept - length gs) * columns = omega (arith, e, h) in w) in
    ap (λ (l : List ℕ). grains_from l 0 n) ((λ i. flat_same gs i ++ z i) ∙ sym (rows_flat most_kept gs f)) ∙ ap (grains_from (grain_rows most_kept gs) 0) (sym e) ∙ rows_back most_kept gs f

-- behind the header
pub show_behind : (n : ℕ) (g : List Float) (s v : List ℕ) → v ≡ rows_in (grains_of n (mid_of grains_head_wide (length g - grains_head_wide) g)) ++ drop (n * columns) s → v ≡ rows_in (grains_of n (grains_part g)) ++ drop (n * columns) s
show_behind n g s v e = e ∙ ap (λ (x : List Float). rows_in (grains_of n x) ++ drop (n * columns) s) (tail_is grains_head_wide g)
