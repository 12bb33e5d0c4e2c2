-- What a test of each number of a range, or of each element of a list, answers. Assumes nothing.
use mathlib.Core.Path.{◌≡◌, refl, sym, ap, ◌∙◌}
use Prim.Native.Nat.{ℕ, zero, suc, ◌+◌, ◌<◌}
use native.Mathlib.Omega.{arith}
use mathlib.Core.List.{List, [], ◌∷◌}
use mathlib.Core.Bool.{Bool, true, false, not, ◌&&◌, cond}
use lib.Dec.{ltb}
use lib.ListN.{length, get_or, drop}
use Rattle.std.specs.List.{list_all, range_with_len, enumerate_from}
use Rattle.halting.specs.Every.{every}
use Rattle.model.specs.State.{has}
use Rattle.model.specs.Check.{all, walk, once}

-- ---- of each number of a range, by the element of a list at that place
walk_from : {A : Type 0} (p : ℕ → A → Bool) (f : ℕ → Bool) (d : A) (i : ℕ) (xs : List A) → ((k j : ℕ) → j ≡ i + k → k < length xs → f j ≡ p j (get_or xs k d)) → list_all f (range_with_len i (length xs)) ≡ walk p i xs
unfolding walk
walk_from p f d i [] h = refl
walk_from p f d i (x ∷ xs) h =
    ap (λ (b : Bool). b && list_all f (range_with_len (i + 1) (length xs))) (h 0 i (omega arith) (omega arith))
    ∙ ap (λ (b : Bool). p i x && b) (walk_from p f d (i + 1) xs (λ k j e l. h (suc k) j (omega arith) (omega arith)))

walk_plain : {A : Type 0} (p : A → Bool) (i : ℕ) (xs : List A) → walk (λ j. p) i xs ≡ all p xs
unfolding walk
walk_plain p i [] = refl
walk_plain p i (x ∷ xs) = ap (λ (b : Bool). p x && b) (walk_plain p (i + 1) xs)

pub walk_places : {A : Type 0} (p : ℕ → A → Bool) (d : A) (xs : List A) {n : ℕ} → length xs ≡ n → list_all (λ i. p i (get_or xs i d)) (range_with_len 0 n) ≡ walk p 0 xs
walk_places p d xs {n} e =
    ap (λ (m : ℕ). list_all (λ i. p i (get_or xs i d)) (range_with_len 0 m)) (sym e)
    ∙ walk_from p (λ i. p i (get_or xs i d)) d 0 xs (λ k j f l. let g : j ≡ k = omega arith in ap (λ (m : ℕ). p j (get_or xs m d)) g)

pub all_places : {A : Type 0} (p : A → Bool) (d : A) (xs : List A) {n : ℕ} → length xs ≡ n → list_all (λ i. p (get_or xs i d)) (range_with_len 0 n) ≡ all p xs
all_places p d xs e = walk_places (λ i. p) d xs e ∙ walk_plain p 0 xs

-- ---- of each element of a list, by the element of another at that place: with its number, and without
pub walk_beside : {A B : Type 0} (p : ℕ → A → Bool) (f : ℕ × B → Bool) (d : A) (e : B) (i : ℕ) (ys : List B) (xs : List A) → length ys ≡ length xs → ((k j : ℕ) → j ≡ i + k → k < length xs → f (j, get_or ys k e) ≡ p j (get_or xs k d)) → list_all f (enumerate_from i ys) ≡ walk p i xs
unfolding walk
walk_beside p f d e i [] [] l h = refl
walk_beside p f d e i [] (x ∷ xs) l h = absurd (omega arith)
walk_beside p f d e i (y ∷ ys) [] l h = absurd (omega arith)
walk_beside p f d e i (y ∷ ys) (x ∷ xs) l h =
    ap (λ (b : Bool). b && list_all f (enumerate_from (i + 1) ys)) (h 0 i (omega arith) (omega arith))
    ∙ ap (λ (b : Bool). p i x && b) (walk_beside p f d e (i + 1) ys xs (omega arith) (λ k j g m. h (suc k) j (omega arith) (omega arith)))

pub all_beside : {A B : Type 0} (p : A → Bool) (f : B → Bool) (d : A) (e : B) (ys : List B) (xs : List A) → length ys ≡ length xs → ((k : ℕ) → k < length xs → f (get_or ys k e) ≡ p (get_or xs k d)) → list_all f ys ≡ all p xs
all_beside p f d e [] [] l h = refl
all_beside p f d e [] (x ∷ xs) l h = absurd (omega arith)
all_beside p f d e (y ∷ ys) [] l h = absurd (omega arith)
all_beside p f d e (y ∷ ys) (x ∷ xs) l h =
    ap (λ (b : Bool). b && list_all f ys) (h 0 (omega arith))
    ∙ ap (λ (b : Bool). p x && b) (all_beside p f d e ys xs (omega arith) (λ k m. h (suc k) (omega arith)))

-- ---- of each number
pub every_range : (p : ℕ → Bool) (n c : ℕ) → list_all p (range_with_len c n) ≡ every p n c
unfolding every
every_range p zero c = refl
every_range p (suc n) c = ap (λ (b : Bool). p c && b) (every_range p n (c + 1) ∙ ap (every p n) (omega arith)) ∙ both (p c)
  where
    both : (b : Bool) → (b && every p n (suc c)) ≡ cond b (every p n (suc c)) false
    both true = refl
    both false = refl

-- ---- of each element with its number: that it is below n, and none of those behind it is the same
pub below_enumerated : (n : ℕ) (f : ℕ × ℕ → Bool) (i : ℕ) (xs : List ℕ) → ((k j : ℕ) → j ≡ i + k → k < length xs → f (j, get_or xs k 0) ≡ (ltb (get_or xs k 0) n && not (has (get_or xs k 0) (drop (suc k) xs)))) → list_all f (enumerate_from i xs) ≡ (all (λ x. ltb x n) xs && once xs)
below_enumerated n f i [] h = refl
below_enumerated n f i (x ∷ xs) h =
    ap (λ (b : Bool). b && list_all f (enumerate_from (i + 1) xs)) (h 0 i (omega arith) (omega arith))
    ∙ ap (λ (b : Bool). (ltb x n && not (has x xs)) && b) (below_enumerated n f (i + 1) xs (λ k j e l. h (suc k) j (omega arith) (omega arith)))
    ∙ parted (ltb x n) (not (has x xs)) (all (λ y. ltb y n) xs) (once xs)
  where
    parted : (a b c d : Bool) → ((a && b) && (c && d)) ≡ ((a && c) && (b && d))
    parted false b c d = refl
    parted true true c d = refl
    parted true false true d = refl
    parted true false false d = refl
