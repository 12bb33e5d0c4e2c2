-- The whole parts of a slice, one after another, as a walk over `chunks_exact` yields them. Assumes nothing.
use mathlib.Core.Path.{◌≡◌, refl, sym, ap, ◌∙◌}
use Prim.Native.Nat.{ℕ, zero, suc, ◌+◌, ◌*◌, ◌≤◌, ◌<◌}
use native.Mathlib.Nat.{suc-mul, zero-mul, mul-le-mul_right}
use native.Mathlib.Numerals.{add-one}
use native.Mathlib.Omega.{arith}
use mathlib.Core.Bool.{Bool, ◌&&◌}
use mathlib.Core.List.{List, [], ◌∷◌, map}
use lib.Dec.{leb}
use lib.ListN.{length, get_or, take, drop, length-append, length-drop}
use lib.Seq.{get_or-take, take_all, take-take}
use lib.Seq.{take_at, drop_at, length-take-le}
use Rattle.std.specs.Iterator.{AlwaysYields}
use Rattle.std.specs.Slice.Iter.{chunks_exact_rest, chunks_exact_size, chunks_exact_steps}
use Rattle.std.proofs.lemmas.Iterator.{YieldsList}
use Rattle.std.specs.List.{list_all, zip}
use Rattle.std.proofs.lemmas.Slice.Zip.{length-zip, get_or-zip}
use Rattle.std.proofs.lemmas.List.Folds.{list_all-map}
use lib.Ieee.{Float, nan}
use Rattle.chunks.proofs.Laws.{take_tab}
use Rattle.layout.specs.Widths.{grain_wide, place_nums_wide, place_reals_wide, queue_wide, events_wide}
use Rattle.model.specs.declared.Place.{Place}
use Rattle.tables.specs.Layout.{grain_reals}
use Rattle.tables.specs.Holds.{Run}
use Rattle.tables.specs.Decode.{cut, cut_both, grain_at, place_at, places_of, row_at, rows_of, queue_at, queues_of}
use Rattle.checks.specs.Check.{counts_within}
use Rattle.checks.proofs.Cut.{cut_at, cut_long}

-- n parts of w elements
abbrev pub parts : {B : Type 0} → ℕ → ℕ → List B → List (List B)
parts w n l = cut (take w) w n l

module _ {B : Type 0} (w : ℕ) (some : 0 < w) where
  walk_parts : (n : ℕ) (l : List B) (s : _) → chunks_exact_rest s ≡ l → chunks_exact_size s ≡ w → length l ≡ n * w → AlwaysYields (chunks_exact_steps {A = B}) (λ y. y.now) s (parts w n l)
  unfolding cut
  walk_parts zero l s e z h = λ x j k. let p = k.1.1 in absurd (omega (arith, zero-mul w, ap length (sym e ∙ k.1.0), length-append x.now (chunks_exact_rest j)))
  walk_parts (suc n) l s e z h = (
    λ j k. let p = k.1.0 in absurd (omega (arith, suc-mul n w, ap length e)),
    λ x j k.
        let f = sym e ∙ k.1.0 in
        let long = k.1.1 ∙ z in
        let d : drop w l ≡ chunks_exact_rest j = ap (drop w) f ∙ drop_at x.now (chunks_exact_rest j) w long in (
          sym (ap (take w) f ∙ take_at x.now (chunks_exact_rest j) w long),
          walk_parts n (drop w l) j (sym d) (k.0 ∙ z) (omega (arith, suc-mul n w, length-drop w l)),
        ),
  )

  -- what the walk yields, of a slice of just so many parts
  pub parts_walked : (n : ℕ) (l : List B) {s : _} → chunks_exact_rest s ≡ l → chunks_exact_size s ≡ w → length l ≡ n * w → YieldsList (chunks_exact_steps {A = B}) (λ y. y.now) s (parts w n l)
  parts_walked n l {s} e z h = record { runs = walk_parts n l s e z h }

-- each is w long
pub part_long : {B : Type 0} (w n : ℕ) (l : List B) (k : ℕ) (d : List B) → length l ≡ n * w → k < n → length (get_or (parts w n l) k d) ≡ w
part_long w n l k d e h =
    ap length (cut_at (take w) w n l k d h)
    ∙ length-take-le w (drop (k * w) l) (let s = suc-mul k w in let m = mul-le-mul_right w h in let f = length-drop (k * w) l in omega arith)

-- ---- what is read of each part
module _ {A B : Type 0} (read : List B → A) (w : ℕ) (first : (l : List B) → read (take w l) ≡ read l) where
  pub read_parts : (n : ℕ) (l : List B) → map read (parts w n l) ≡ cut read w n l
  unfolding cut
  read_parts zero l = refl
  read_parts (suc n) l = ap (λ (x : A). x ∷ map read (parts w n (drop w l))) (first l) ∙ ap (λ (xs : List A). read l ∷ xs) (read_parts n (drop w l))

  pub all_parts : (test : A → Bool) (n : ℕ) (l : List B) → list_all (λ p. test (read p)) (parts w n l) ≡ list_all test (cut read w n l)
  all_parts test n l = sym (list_all-map test read (parts w n l)) ∙ ap (list_all test) (read_parts n l)

-- ---- the counts of rows, each the first number of its part
pub counts_read : (v w : ℕ) → 0 < w → (n : ℕ) (l : List ℕ) → list_all (λ p. leb (get_or p 0 0) v) (parts w n l) ≡ counts_within v w n l
unfolding cut counts_within
counts_read v w some zero l = refl
counts_read v w some (suc n) l =
    ap (λ (k : ℕ). leb k v && list_all (λ p. leb (get_or p 0 0) v) (parts w n (drop w l))) (get_or-take w l 0 0 some)
    ∙ ap (λ (b : Bool). leb (get_or l 0 0) v && b) (counts_read v w some n (drop w l))

-- ---- two slices side by side
pub pair_long : {B C : Type 0} (w v n : ℕ) (l : List B) (m : List C) (k : ℕ) (d : List B × List C) → length l ≡ n * w → length m ≡ n * v → k < length (zip (parts w n l) (parts v n m)) → d ≡ get_or (zip (parts w n l) (parts v n m)) k d
    → (length d.0 ≡ w) × (length d.1 ≡ v)
pair_long w v n l m k d e f h is =
    let a = cut_long (take w) w n l in
    let b = cut_long (take v) v n m in
    let z = length-zip (parts w n l) (parts v n m) in
    let g = is ∙ get_or-zip (parts w n l) (parts v n m) k d (omega arith) (omega arith) in
    (ap (λ (p : List _ × List _). length p.0) g ∙ part_long w n l k d.0 e (omega arith), ap (λ (p : List _ × List _). length p.1) g ∙ part_long v n m k d.1 f (omega arith))

-- the parts of which are read together
module _ {A B C : Type 0} (read : List B → List C → A) (w v : ℕ) (first : (l : List B) (m : List C) → read (take w l) (take v m) ≡ read l m) where
  pub read_pairs : (n : ℕ) (l : List B) (m : List C) → map (λ (p : List B × List C). read p.0 p.1) (zip (parts w n l) (parts v n m)) ≡ cut_both read w v n l m
  unfolding cut cut_both
  read_pairs zero l m = refl
  read_pairs (suc n) l m =
      ap (λ (x : A). x ∷ map (λ (p : List B × List C). read p.0 p.1) (zip (parts w n (drop w l)) (parts v n (drop v m)))) (first l m)
      ∙ ap (λ (xs : List A). read l m ∷ xs) (read_pairs n (drop w l) (drop v m))

  pub all_pairs : (test : A → Bool) (n : ℕ) (l : List B) (m : List C) → list_all (λ p. test (read p.0 p.1)) (zip (parts w n l) (parts v n m)) ≡ list_all test (cut_both read w v n l m)
  all_pairs test n l m = sym (list_all-map test (λ (p : List B × List C). read p.0 p.1) (zip (parts w n l) (parts v n m))) ∙ ap (list_all test) (read_pairs n l m)

-- ---- a part holds what is read of it: a grain, or a place
pub grain_part : (l : List Float) → grain_at (take grain_wide l) ≡ grain_at l
grain_part l = rw (
  get_or-take 7 l 0 nan (omega arith),
  get_or-take 7 l 1 nan (omega arith),
  get_or-take 7 l 2 nan (omega arith),
  get_or-take 7 l 3 nan (omega arith),
  get_or-take 7 l 4 nan (omega arith),
  get_or-take 7 l 5 nan (omega arith),
  get_or-take 7 l 6 nan (omega arith),
)

pub grain_read : (l : List Float) → length l ≡ grain_wide → l ≡ grain_reals (grain_at l)
grain_read l h = sym (take_all grain_wide l (omega arith)) ∙ take_tab l nan grain_wide 0 (omega arith)

-- of parts that are longer too
place_parts : (m n : ℕ) (q : List ℕ) (e : List Float) → place_nums_wide ≤ m → place_reals_wide ≤ n → place_at (take m q) (take n e) ≡ place_at q e
place_parts m n q e h k = rw (
  get_or-take m q 0 0 (omega arith),
  get_or-take m q 1 0 (omega arith),
  get_or-take m q 2 0 (omega arith),
  get_or-take m q 3 0 (omega arith),
  get_or-take n e 0 nan (omega arith),
  get_or-take n e 1 nan (omega arith),
  get_or-take n e 2 nan (omega arith),
  get_or-take n e 3 nan (omega arith),
  get_or-take n e 4 nan (omega arith),
  get_or-take n e 5 nan (omega arith),
  get_or-take n e 6 nan (omega arith),
  get_or-take n e 7 nan (omega arith),
  get_or-take n e 8 nan (omega arith),
  get_or-take n e 9 nan (omega arith),
)

pub place_part : (q : List ℕ) (e : List Float) → place_at (take place_nums_wide q) (take place_reals_wide e) ≡ place_at q e
place_part q e = place_parts place_nums_wide place_reals_wide q e (omega arith) (omega arith)

pub drop_taken : {B : Type 0} (w m k : ℕ) (l : List B) → m ≡ w + k → drop w (take m l) ≡ take k (drop w l)
drop_taken zero m k l e = let f : m ≡ k = omega arith in ap (λ (n : ℕ). take n l) f
drop_taken (suc w) m k [] e = ap (λ (n : ℕ). drop (suc w) (take n [])) e ∙ ap (drop (suc w)) (take_all (suc w + k) [] (omega arith)) ∙ sym (take_all k [] (omega arith))
drop_taken (suc w) m k (x ∷ l) e = let f : m ≡ suc (w + k) = omega arith in ap (λ (n : ℕ). drop (suc w) (take n (x ∷ l))) f ∙ drop_taken w (w + k) k l refl

-- k places are in the parts that are so long
pub places_part : (k : ℕ) (q : List ℕ) (e : List Float) → places_of k (take (k * place_nums_wide) q) (take (k * place_reals_wide) e) ≡ places_of k q e
unfolding cut_both
places_part zero q e = refl
places_part (suc k) q e =
    ap (λ (x : Place). x ∷ places_of k (drop 4 (take (suc k * 4) q)) (drop 10 (take (suc k * 10) e))) (place_parts (suc k * 4) (suc k * 10) q e (omega (arith, suc-mul k 4)) (omega (arith, suc-mul k 10)))
    ∙ ap (λ (l : List ℕ). place_at q e ∷ places_of k l (drop 10 (take (suc k * 10) e))) (drop_taken 4 (suc k * 4) (k * 4) q (omega (arith, suc-mul k 4)))
    ∙ ap (λ (m : List Float). place_at q e ∷ places_of k (take (k * 4) (drop 4 q)) m) (drop_taken 10 (suc k * 10) (k * 10) e (omega (arith, suc-mul k 10)))
    ∙ ap (λ (ps : List Place). place_at q e ∷ ps) (places_part k (drop 4 q) (drop 10 e))

pub place_read : (q : List ℕ) (e : List Float) → length q ≡ place_nums_wide → length e ≡ place_reals_wide → Run q e (place_at q e ∷ [])
place_read q e h k = record {
  nums_is = sym (take_all place_nums_wide q (omega arith)) ∙ take_tab q 0 place_nums_wide 0 (omega arith);
  reals_is = sym (take_all place_reals_wide e (omega arith)) ∙ take_tab e nan place_reals_wide 0 (omega arith);
}

-- rows are counted alike in the part that is as long as they are
pub counts_taken : (v w : ℕ) → 0 < w → (n : ℕ) (l : List ℕ) → counts_within v w n (take (n * w) l) ≡ counts_within v w n l
unfolding counts_within
counts_taken v w some zero l = refl
counts_taken v w some (suc n) l =
    ap (λ (k : ℕ). leb k v && counts_within v w n (drop w (take (suc n * w) l))) (get_or-take (suc n * w) l 0 0 (omega (arith, suc-mul n w)))
    ∙ ap (λ (m : List ℕ). leb (get_or l 0 0) v && counts_within v w n m) (drop_taken w (suc n * w) (n * w) l (omega (arith, suc-mul n w)))
    ∙ ap (λ (b : Bool). leb (get_or l 0 0) v && b) (counts_taken v w some n (drop w l))

-- ---- what is read in the parts that are as long as they are is what is read in longer ones
pub parts_taken : {B : Type 0} (w n : ℕ) (l : List B) → parts w n (take (n * w) l) ≡ parts w n l
unfolding cut
parts_taken w zero l = refl
parts_taken {B} w (suc n) l =
    ap (λ (x : List B). x ∷ parts w n (drop w (take (suc n * w) l))) (take-take w (suc n * w) l (omega (arith, suc-mul n w)))
    ∙ ap (λ (m : List B). take w l ∷ parts w n m) (drop_taken w (suc n * w) (n * w) l (omega (arith, suc-mul n w)))
    ∙ ap (λ (xs : List (List B)). take w l ∷ xs) (parts_taken w n (drop w l))

row_part : (v : ℕ) (l : List ℕ) → row_at v (take (v + 1) l) ≡ row_at v l
row_part v [] = ap (row_at v) (take_all (v + 1) [] (omega arith))
row_part v (x ∷ l) = rw (add-one v, take-take v v l (omega arith))

pub rows_taken : (v n : ℕ) (l : List ℕ) → rows_of v n (take (n * (v + 1)) l) ≡ rows_of v n l
rows_taken v n l =
    sym (read_parts (row_at v) (v + 1) (row_part v) n (take (n * (v + 1)) l)) ∙ ap (map (row_at v)) (parts_taken (v + 1) n l) ∙ read_parts (row_at v) (v + 1) (row_part v) n l

queue_part : (room : ℕ) (q : List ℕ) (e : List Float) → queue_at room (take (queue_wide room) q) (take (events_wide room) e) ≡ queue_at room q e
queue_part room q e = rw (get_or-take (queue_wide room) q 0 0 (omega arith), drop_taken 1 (queue_wide room) (room * place_nums_wide) q (omega arith), places_part room (drop 1 q) e)

pub queues_taken : (room n : ℕ) (q : List ℕ) (e : List Float) → queues_of room n (take (n * queue_wide room) q) (take (n * events_wide room) e) ≡ queues_of room n q e
queues_taken room n q e =
    sym (read_pairs (queue_at room) (queue_wide room) (events_wide room) (queue_part room) n (take (n * queue_wide room) q) (take (n * events_wide room) e))
    ∙ ap (λ (xs : List (List ℕ)). map (λ (p : List ℕ × List Float). queue_at room p.0 p.1) (zip xs (parts (events_wide room) n (take (n * events_wide room) e)))) (parts_taken (queue_wide room) n q)
    ∙ ap (λ (xs : List (List Float)). map (λ (p : List ℕ × List Float). queue_at room p.0 p.1) (zip (parts (queue_wide room) n q) xs)) (parts_taken (events_wide room) n e)
    ∙ read_pairs (queue_at room) (queue_wide room) (events_wide room) (queue_part room) n q e
