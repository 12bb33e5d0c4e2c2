-- A test of every number that reads a list is a test of each of the list. Assumes nothing.
use mathlib.Core.Path.{◌≡◌, refl, sym, ap, ◌∙◌}
use Prim.Native.Nat.{ℕ, zero, suc, ◌+◌, ◌-◌, ◌≤◌, ◌<◌}
use native.Mathlib.Nat.{sub_self, sub-zero}
use native.Mathlib.Numerals.{add-one}
use native.Mathlib.Omega.{arith}
use mathlib.Core.List.{List, [], ◌∷◌}
use mathlib.Core.Bool.{Bool, false, ◌&&◌, cond}
use lib.ListN.{length, get_or}
use Rattle.halting.specs.Every.{every}
use Rattle.halting.proofs.Bools.{and_cond}
use Rattle.model.specs.Check.{all, walk}

pub every_same : (p q : ℕ → Bool) (m c : ℕ) → ((i : ℕ) → c ≤ i → i < c + m → p i ≡ q i) → every p m c ≡ every q m c
unfolding every
every_same p q zero c h = refl
every_same p q (suc m) c h =
    ap (λ (b : Bool). cond b (every p m (suc c)) false) (h c (omega arith) (omega arith))
    ∙ ap (λ (b : Bool). cond (q c) b false) (every_same p q m (suc c) (λ i a b. h i (omega arith) (omega arith)))

module _ {A : Type 0} (p : ℕ → A → Bool) (d : A) where
  from : (xs : List A) (c : ℕ) → every (λ i. p i (get_or xs (i - c) d)) (length xs) c ≡ walk p c xs
  unfolding every walk
  from [] c = refl
  from (x ∷ xs) c =
      sym (and_cond (p c (get_or (x ∷ xs) (c - c) d)) _)
      ∙ ap (λ (k : ℕ). p c (get_or (x ∷ xs) k d) && every (λ i. p i (get_or (x ∷ xs) (i - c) d)) (length xs) (suc c)) (sub_self c)
      ∙ ap (λ (b : Bool). p c x && b) (every_same (λ i. p i (get_or (x ∷ xs) (i - c) d)) (λ i. p i (get_or xs (i - suc c) d)) (length xs) (suc c) (λ i a h. later i a) ∙ from xs (suc c))
      ∙ ap (λ (k : ℕ). p c x && walk p k xs) (sym (add-one c))
    where
      later : (i : ℕ) → suc c ≤ i → p i (get_or (x ∷ xs) (i - c) d) ≡ p i (get_or xs (i - suc c) d)
      later i a = let e : i - c ≡ suc (i - suc c) = omega arith in ap (λ (k : ℕ). p i (get_or (x ∷ xs) k d)) e

  pub every_walk : (xs : List A) {m : ℕ} → length xs ≡ m → every (λ i. p i (get_or xs i d)) m 0 ≡ walk p 0 xs
  every_walk xs e =
      ap (λ (k : ℕ). every (λ i. p i (get_or xs i d)) k 0) (sym e)
      ∙ every_same (λ i. p i (get_or xs i d)) (λ i. p i (get_or xs (i - 0) d)) (length xs) 0 (λ i a h. ap (λ (k : ℕ). p i (get_or xs k d)) (sym (sub-zero i))) ∙ from xs 0

all_walk : {A : Type 0} (p : A → Bool) (xs : List A) (c : ℕ) → walk (λ i x. p x) c xs ≡ all p xs
unfolding walk
all_walk p [] c = refl
all_walk p (x ∷ xs) c = ap (λ (b : Bool). p x && b) (all_walk p xs (c + 1))

pub every_all : {A : Type 0} (p : A → Bool) (d : A) (xs : List A) {m : ℕ} → length xs ≡ m → every (λ i. p (get_or xs i d)) m 0 ≡ all p xs
every_all p d xs e = every_walk (λ i x. p x) d xs e ∙ all_walk p xs 0
