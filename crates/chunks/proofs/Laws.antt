-- A flat list as a row of chunks: laws of `flat`, of a part that is lent and comes back, of the first of a list, and of some places one by one. Assumes nothing.
use mathlib.Core.Path.{◌≡◌, refl, sym, ap, ◌∙◌, subst}
use Prim.Native.Nat.{ℕ, zero, suc, ◌+◌, ◌-◌, ◌*◌, ◌≤◌, ◌<◌}
use native.Mathlib.Nat.{le_of_suc-le-suc, not-suc-le-zero, zero-mul, suc-mul, mul-le-mul_right, zero-add}
use native.Mathlib.Decide.{dec_lt}
use native.Mathlib.Omega.{arith}
use mathlib.Core.List.{List, [], ◌∷◌, ◌++◌, append_assoc, append-nil}
use lib.ListN.{length, get_or, set, take, drop, length-append, length-drop, drop_of_length-le}
use lib.Seq.{take_at, take_all, drop_at, drop-cons, length-take-le, sets, sets-eq}
use borrow.Rule.Slice.PartMut.{mid_of, put_mid}
use Rattle.halting.specs.Every.{All}
use Rattle.halting.proofs.All.{all_at, all_take, all_always}
use Rattle.chunks.specs.Flat.{flat}

module _ {B : Type 0} where
  -- ---- a part [w .. w + k) of a list that is cut as a, m, z
  pub mid_at : (a m z : List B) {l : List B} (w k : ℕ) → l ≡ a ++ (m ++ z) → length a ≡ w → length m ≡ k → mid_of w k l ≡ m
  mid_at a m z w k e p q = ap (λ (l : List B). mid_of w k l) e ∙ ap (λ (l : List B). take k l) (drop_at a (m ++ z) w p) ∙ take_at m z k q

  pub put_at : (a m z : List B) {l : List B} (w k : ℕ) (ys : List B) → l ≡ a ++ (m ++ z) → length a ≡ w → length m ≡ k → put_mid w k l ys ≡ a ++ (ys ++ z)
  put_at a m z w k ys e p q =
      ap (λ (l : List B). put_mid w k l ys) e
      ∙ ap (λ (r : List B). r ++ (ys ++ drop k (drop w (a ++ (m ++ z))))) (take_at a (m ++ z) w p)
      ∙ ap (λ (r : List B). a ++ (ys ++ drop k r)) (drop_at a (m ++ z) w p)
      ∙ ap (λ (r : List B). a ++ (ys ++ r)) (drop_at m z k q)

  -- ---- the part [w ..), that is, to the end
  len_tail : (a m : List B) {l : List B} (w : ℕ) → l ≡ a ++ m → length a ≡ w → length m ≡ length l - w
  len_tail a m w e p = let n = ap length e ∙ length-append a m in omega arith

  pub mid_tail : (a m : List B) {l : List B} (w : ℕ) → l ≡ a ++ m → length a ≡ w → mid_of w (length l - w) l ≡ m
  mid_tail a m {l} w e p = mid_at a m [] w (length l - w) (e ∙ ap (λ (r : List B). a ++ r) (sym (append-nil m))) p (len_tail a m w e p)

  pub put_tail : (a m : List B) {l : List B} (w : ℕ) (ys : List B) → l ≡ a ++ m → length a ≡ w → put_mid w (length l - w) l ys ≡ a ++ ys
  put_tail a m {l} w ys e p =
      put_at a m [] w (length l - w) ys (e ∙ ap (λ (r : List B). a ++ r) (sym (append-nil m))) p (len_tail a m w e p) ∙ ap (λ (r : List B). a ++ r) (append-nil ys)

  pub tail_is : (w : ℕ) (l : List B) → mid_of w (length l - w) l ≡ drop w l
  tail_is w l = take_all (length l - w) (drop w l) (let e = length-drop w l in omega arith)

  pub tail_long : (w : ℕ) (l : List B) → length (mid_of w (length l - w) l) ≡ length l - w
  tail_long w l = ap length (tail_is w l) ∙ length-drop w l

  -- ---- the first k of a list: none, or the first one and those of the rest
  pub take_none : (k : ℕ) (l : List B) → k ≡ 0 → take k l ≡ []
  take_none k l e = rw e

  pub take_step : (k : ℕ) (l : List B) (d : B) → (k ≡ 0 → ⊥) → k ≤ length l → take k l ≡ get_or l 0 d ∷ take (k - 1) (mid_of 1 (length l - 1) l)
  take_step zero l d z h = absurd (z refl)
  take_step (suc k) [] d z h = absurd (not-suc-le-zero h)
  take_step (suc k) (x ∷ l) d z h =
      let e : k ≡ suc k - 1 = omega arith in
      ap (λ (m : List B). x ∷ take k m) (sym (tail_is 1 (x ∷ l))) ∙ ap (λ (j : ℕ). x ∷ take j (mid_of 1 (length (x ∷ l) - 1) (x ∷ l))) e

-- a number above zero is not zero, as a loop's test says it and as the laws ask it
pub some : {n : ℕ} → 0 < n → n ≡ 0 → ⊥
some h e = let k = h in not-suc-le-zero (subst (λ (m : ℕ). 0 < m) e k)

-- ---- a row of chunks, each as wide as `w` says: chunk c is the part [c * w .. c * w + w), and a chunk put back is a `set`

module _ {A B : Type 0} (enc : A → List B) (w : ℕ) where
  abbrev pub Wide : A → Type 0
  Wide x = length (enc x) ≡ w

  pub length_flat : (xs : List A) → All Wide xs → length (flat enc xs) ≡ length xs * w
  length_flat [] v = sym (zero-mul w)
  length_flat (x ∷ xs) v =
      length-append (enc x) (flat enc xs) ∙ ap (λ (k : ℕ). k + length (flat enc xs)) v.0 ∙ ap (λ (k : ℕ). w + k) (length_flat xs v.1)
      ∙ let s = suc-mul (length xs) w in omega arith

  -- the row, cut around chunk c
  pub flat_cut : (xs : List A) (c : ℕ) (d : A) → c < length xs → flat enc xs ≡ flat enc (take c xs) ++ (enc (get_or xs c d) ++ flat enc (drop (suc c) xs))
  flat_cut [] c d h = absurd (not-suc-le-zero h)
  flat_cut (x ∷ xs) zero d h = refl
  flat_cut (x ∷ xs) (suc c) d h =
      ap (λ (l : List B). enc x ++ l) (flat_cut xs c d (le_of_suc-le-suc h))
      ∙ sym (append_assoc (enc x) (flat enc (take c xs)) (enc (get_or xs c d) ++ flat enc (drop (suc c) xs)))

  pub flat_set : (xs : List A) (c : ℕ) (y : A) → c < length xs → flat enc (set xs c y) ≡ flat enc (take c xs) ++ (enc y ++ flat enc (drop (suc c) xs))
  flat_set [] c y h = absurd (not-suc-le-zero h)
  flat_set (x ∷ xs) zero y h = refl
  flat_set (x ∷ xs) (suc c) y h =
      ap (λ (l : List B). enc x ++ l) (flat_set xs c y (le_of_suc-le-suc h))
      ∙ sym (append_assoc (enc x) (flat enc (take c xs)) (enc y ++ flat enc (drop (suc c) xs)))

  pub length_front : (xs : List A) (c : ℕ) → All Wide xs → c < length xs → length (flat enc (take c xs)) ≡ c * w
  length_front xs c v h = length_flat (take c xs) (all_take Wide xs c v) ∙ ap (λ (k : ℕ). k * w) (length-take-le c xs (let k = h in omega arith))

  -- l holds the chunks xs. Its part [a .. a + k), where a is c * w and k is w, is chunk c
  pub chunk_mid : (xs : List A) (c : ℕ) (d : A) {l : List B} (a k : ℕ) → All Wide xs → c < length xs → l ≡ flat enc xs → a ≡ c * w → k ≡ w → mid_of a k l ≡ enc (get_or xs c d)
  chunk_mid xs c d a k v h e p q =
      mid_at (flat enc (take c xs)) (enc (get_or xs c d)) (flat enc (drop (suc c) xs)) a k (e ∙ flat_cut xs c d h)
      (length_front xs c v h ∙ sym p) (all_at Wide xs c d v h ∙ sym q)

  -- with another chunk put there, l holds the chunks `set xs c y`
  pub chunk_put : (xs : List A) (c : ℕ) (d y : A) {l ys : List B} (a k : ℕ) → All Wide xs → c < length xs → l ≡ flat enc xs → a ≡ c * w → k ≡ w → ys ≡ enc y
      → put_mid a k l ys ≡ flat enc (set xs c y)
  chunk_put xs c d y {ys = ys} a k v h e p q f =
      put_at (flat enc (take c xs)) (enc (get_or xs c d)) (flat enc (drop (suc c) xs)) a k ys (e ∙ flat_cut xs c d h)
      (length_front xs c v h ∙ sym p) (all_at Wide xs c d v h ∙ sym q)
      ∙ ap (λ (r : List B). flat enc (take c xs) ++ (r ++ flat enc (drop (suc c) xs))) f
      ∙ sym (flat_set xs c y h)

-- chunk c of n is within them
pub chunk_in : (c n w : ℕ) → c < n → c * w + w ≤ n * w
chunk_in c n w h = let s = suc-mul c w in let m = mul-le-mul_right w h in omega arith

-- ---- where every chunk is w wide, whatever it holds (a record with a fixed number of fields), and the code cuts `&t[a..b]` with a = i * w and b = a + w

module _ {A B : Type 0} (enc : A → List B) (w : ℕ) (wide : (x : A) → length (enc x) ≡ w) (some : 0 < w) where
  all_wide : (xs : List A) → All (λ (x : A). length (enc x) ≡ w) xs
  all_wide = all_always (λ (x : A). length (enc x) ≡ w) wide

  pub row_long : (xs : List A) {l : List B} → l ≡ flat enc xs → length l ≡ length xs * w
  row_long xs e = ap length e ∙ length_flat enc w xs (all_wide xs)

  -- an index whose chunk is within the table is one of a chunk
  pub row_in : (xs : List A) (i : ℕ) {l : List B} → l ≡ flat enc xs → i * w + w ≤ length l → i < length xs
  row_in xs i {l} e h = go (dec_lt i (length xs))
    where
      go : Dec (i < length xs) → i < length xs
      go (yes p) = p
      go (no q) =
          let r : length xs ≤ i = omega arith in
          let m : length xs * w ≤ i * w = mul-le-mul_right w r in
          let k : length l ≡ length xs * w = row_long xs e in absurd (omega arith)

  pub row_get : (xs : List A) (i : ℕ) (d : A) {l : List B} → l ≡ flat enc xs → i * w + w ≤ length l → mid_of (i * w) (i * w + w - i * w) l ≡ enc (get_or xs i d)
  row_get xs i d e h = chunk_mid enc w xs i d (i * w) (i * w + w - i * w) (all_wide xs) (row_in xs i e h) e refl (omega arith)

  pub row_put : (xs : List A) (i : ℕ) (d y : A) {l ys : List B} → l ≡ flat enc xs → i * w + w ≤ length l → ys ≡ enc y → put_mid (i * w) (i * w + w - i * w) l ys ≡ flat enc (set xs i y)
  row_put xs i d y e h f = chunk_put enc w xs i d y (i * w) (i * w + w - i * w) (all_wide xs) (row_in xs i e h) e refl (omega arith) f

-- a part that is stored to from its first element to its last holds what was stored
pub sets_all : {A : Type 0} (vs l : List A) → length l ≡ length vs → sets l 0 vs ≡ vs
sets_all {A} vs l e =
    sets-eq vs l 0 (let z = zero-add (length vs) in omega arith)
    ∙ ap (λ (r : List A). vs ++ r) (drop_of_length-le l {i = 0 + length vs} (let z = zero-add (length vs) in omega arith)) ∙ append-nil vs

-- ---- some places of a list, one by one
abbrev pub tab : {A : Type 0} → List A → A → ℕ → ℕ → List A
tab l d zero i = []
tab l d (suc n) i = get_or l i d ∷ tab l d n (suc i)

pub take_tab : {A : Type 0} (l : List A) (d : A) (n i : ℕ) → i + n ≤ length l → take n (drop i l) ≡ tab l d n i
take_tab l d zero i h = refl
take_tab {A} l d (suc n) i h = ap (take (suc n)) (drop-cons l i d (omega arith)) ∙ ap (λ (x : List A). get_or l i d ∷ x) (take_tab l d n (suc i) (omega arith))
