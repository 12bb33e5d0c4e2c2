-- A row of numbers in a table, and the tests of one. Assumes nothing.
use mathlib.Core.Path.{◌≡◌, sym, ap, ◌∙◌}
use Prim.Native.Nat.{ℕ, ◌+◌, ◌-◌, ◌*◌, ◌≤◌, ◌<◌}
use native.Mathlib.Numerals.{add-one}
use native.Mathlib.Omega.{arith}
use mathlib.Core.List.{List, [], ◌∷◌, ◌++◌}
use mathlib.Core.Bool.{Bool, false, ◌&&◌}
use lib.Dec.{ltb}
use lib.ListN.{length, get_or, take, drop, length-drop, take-append-drop, length-append, get_or-eq_default}
use lib.Seq.{get_or-take, take_all, take-take, length-take-le}
use borrow.Author.Tests.{eq-eqb}
use borrow.Rule.Slice.PartMut.{mid_of}
use Rattle.std.specs.List.{list_all, enumerate_from}
use Rattle.model.specs.State.{Row, has, live_at, none}
use Rattle.model.specs.Check.{all, walk, once, numbers}
use Rattle.tables.specs.Layout.{row_nums}
use Rattle.tables.specs.Decode.{row_at, rows_of}
use Rattle.checks.specs.Inside.{Rowed}
use Rattle.checks.proofs.Cut.{cut_at, cut_long, counted_at, rowed_in}
use Rattle.checks.proofs.Chunks.{parts, part_long, drop_taken}
use Rattle.checks.proofs.Lists.{all_beside, walk_beside}

pub live_long : (v : ℕ) (l : List ℕ) → get_or l 0 0 ≤ v → v + 1 ≤ length l → length (row_at v l).live ≡ get_or l 0 0
live_long v l h k = ap length (take-take (get_or l 0 0) v (drop 1 l) h) ∙ length-take-le (get_or l 0 0) (drop 1 l) (let e = length-drop 1 l in omega arith)

pub row_full : (v : ℕ) (l : List ℕ) → v + 1 ≤ length l → length (row_at v l).live + length (row_at v l).spare ≡ v
row_full v l k =
    sym (length-append (take (get_or l 0 0) (take v (drop 1 l))) (drop (get_or l 0 0) (take v (drop 1 l))))
    ∙ ap length (take-append-drop (get_or l 0 0) (take v (drop 1 l))) ∙ length-take-le v (drop 1 l) (let e = length-drop 1 l in omega arith)

-- with its count before them, its places are those of the table
pub row_read : (v : ℕ) (l : List ℕ) → get_or l 0 0 ≤ v → v + 1 ≤ length l → row_nums (row_at v l) ≡ take (v + 1) l
row_read v [] h k = absurd (omega arith)
row_read v (x ∷ l) h k =
    ap (λ (n : ℕ). n ∷ ((row_at v (x ∷ l)).live ++ (row_at v (x ∷ l)).spare)) (live_long v (x ∷ l) h k)
    ∙ ap (λ (y : List ℕ). x ∷ y) (take-append-drop x (take v l)) ∙ ap (λ (n : ℕ). take n (x ∷ l)) (sym (add-one v))

-- a part that is just a row, by its own length; and its numbers in use
abbrev pub used_of : List ℕ → List ℕ
used_of l = take (get_or l 0 0) (drop 1 l)

pub row_is : (l : List ℕ) → get_or l 0 0 < length l → l ≡ row_nums (row_at (length l - 1) l)
row_is l h = sym (row_read (length l - 1) l (omega arith) (omega arith) ∙ take_all (length l - 1 + 1) l (omega arith))

pub used_is : (l : List ℕ) → (row_at (length l - 1) l).live ≡ used_of l
used_is l = ap (take (get_or l 0 0)) (take_all (length l - 1) (drop 1 l) (omega (arith, length-drop 1 l)))

used_first : (v : ℕ) (l : List ℕ) → used_of (take (v + 1) l) ≡ (row_at v l).live
used_first v l =
    ap (λ (k : ℕ). take k (drop 1 (take (v + 1) l))) (get_or-take (v + 1) l 0 0 (omega arith))
    ∙ ap (take (get_or l 0 0)) (drop_taken 1 (v + 1) v l (omega arith))

-- ---- all rows, as the parts of a table
module _ (v n : ℕ) (l : List ℕ) where
  -- each part has its count within it
  pub part_whole : Rowed v (v + 1) n l → (k : ℕ) (p : List ℕ) → k < length (parts (v + 1) n l) → p ≡ get_or (parts (v + 1) n l) k p → get_or p 0 0 < length p
  part_whole R k p h is =
      let j : k < n = (let e = cut_long (take (v + 1)) (v + 1) n l in omega arith) in
      let f = ap (λ (x : List ℕ). get_or x 0 0) (is ∙ cut_at (take (v + 1)) (v + 1) n l k p j) ∙ get_or-take (v + 1) (drop (k * (v + 1)) l) 0 0 (omega arith) in
      omega (arith, ap length is ∙ part_long (v + 1) n l k p R.whole j, f, counted_at v (v + 1) n l k R.counts j)

  same_long : length (parts (v + 1) n l) ≡ length (rows_of v n l)
  same_long = cut_long (take (v + 1)) (v + 1) n l ∙ sym (cut_long (row_at v) (v + 1) n l)

  used_at : (c : ℕ) → c < n → used_of (get_or (parts (v + 1) n l) c []) ≡ live_at (rows_of v n l) c
  used_at c h =
      ap used_of (cut_at (take (v + 1)) (v + 1) n l c [] h) ∙ used_first v (drop (c * (v + 1)) l)
      ∙ sym (ap (λ (r : Row ℕ). r.live) (cut_at (row_at v) (v + 1) n l c none h))

  -- what is said of the numbers in use of each
  pub all_used : (test : List ℕ → Bool) (p : Row ℕ → Bool) → ((c : ℕ) → c < n → test (live_at (rows_of v n l) c) ≡ p (get_or (rows_of v n l) c none))
      → list_all (λ x. test (used_of x)) (parts (v + 1) n l) ≡ all p (rows_of v n l)
  all_used test p h =
      all_beside p (λ x. test (used_of x)) none [] (parts (v + 1) n l) (rows_of v n l) same_long
      (λ k m. let j : k < n = (let e = cut_long (row_at v) (v + 1) n l in omega arith) in ap test (used_at k j) ∙ h k j)

  pub walk_used : (test : ℕ → List ℕ → Bool) (p : ℕ → Row ℕ → Bool) → ((i c : ℕ) → c < n → test i (live_at (rows_of v n l) c) ≡ p i (get_or (rows_of v n l) c none))
      → list_all (λ x. test x.0 (used_of x.1)) (enumerate_from 0 (parts (v + 1) n l)) ≡ walk p 0 (rows_of v n l)
  walk_used test p h =
      walk_beside p (λ x. test x.0 (used_of x.1)) none [] 0 (parts (v + 1) n l) (rows_of v n l) same_long
      (λ k i e m. let j : k < n = (let f = cut_long (row_at v) (v + 1) n l in omega arith) in ap (test i) (used_at k j) ∙ h i k j)

-- ---- row c of n
module _ (v n : ℕ) (l : List ℕ) (c : ℕ) where
  -- the part of the table that holds it
  pub row_part : Rowed v (v + 1) n l → c < n → mid_of (c * (v + 1)) (c * (v + 1) + (v + 1) - c * (v + 1)) l ≡ row_nums (get_or (rows_of v n l) c none)
  row_part R h =
      let a = c * (v + 1) in
      let k : a + (v + 1) - a ≡ v + 1 = omega arith in
      ap (λ (j : ℕ). mid_of a j l) k
      ∙ sym (row_read v (drop a l) (counted_at v (v + 1) n l c R.counts h) (let e = length-drop a l in let q = rowed_in R c h in omega arith))
      ∙ ap row_nums (sym (cut_at (row_at v) (v + 1) n l c none h))

  -- it has all its places
  pub row_whole : Rowed v (v + 1) n l → c < n → length (live_at (rows_of v n l) c) + length (get_or (rows_of v n l) c none).spare ≡ v
  row_whole R h =
      ap (λ (r : Row ℕ). length r.live + length r.spare) (cut_at (row_at v) (v + 1) n l c none h)
      ∙ row_full v (drop (c * (v + 1)) l) (let e = length-drop (c * (v + 1)) l in let q = rowed_in R c h in omega arith)

  pub lists_out : (x : ℕ) → n ≤ c → false ≡ has x (live_at (rows_of v n l) c)
  unfolding has
  lists_out x h = sym (ap (λ (r : Row ℕ). has x r.live) (get_or-eq_default (rows_of v n l) none (let e = cut_long (row_at v) (v + 1) n l in omega arith)))

  -- the test of its numbers is that of those in use
  pub numbers_by : Rowed v (v + 1) n l → c < n → (m : ℕ) {live : List ℕ} {b : Bool} → live ≡ live_at (rows_of v n l) c → b ≡ (all (λ x. ltb x m) live && once live)
      → b ≡ numbers m v (get_or (rows_of v n l) c none)
  numbers_by R h m e f = rw (eq-eqb _ v (row_whole R h), f, e)
