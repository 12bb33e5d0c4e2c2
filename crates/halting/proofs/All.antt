-- Laws of a fact of every element of a list. Assumes nothing.
use Prim.Native.Nat.{ℕ, zero, suc, ◌<◌}
use mathlib.Core.List.{List, [], ◌∷◌, ◌++◌}
use native.Mathlib.Nat.{le_of_suc-le-suc, not-suc-le-zero}
use native.Mathlib.Omega.{arith}
use lib.ListN.{length, get_or, set, take}
use Rattle.halting.specs.Every.{All}

module _ {A : Type 0} (P : A → Type 0) where
  -- ---- by index
  pub all_at : (xs : List A) (c : ℕ) (d : A) → All P xs → c < length xs → P (get_or xs c d)
  all_at [] c d v h = absurd (not-suc-le-zero h)
  all_at (x ∷ xs) zero d v h = v.0
  all_at (x ∷ xs) (suc c) d v h = all_at xs c d v.1 (le_of_suc-le-suc h)

  pub all_of : (d : A) (xs : List A) → ((c : ℕ) → c < length xs → P (get_or xs c d)) → All P xs
  all_of d [] f = tt
  all_of d (x ∷ xs) f = (f 0 (omega arith), all_of d xs (λ c h. f (suc c) (omega (arith, h))))

  pub all_set : (xs : List A) (c : ℕ) (y : A) → All P xs → P y → All P (set xs c y)
  all_set [] c y v p = tt
  all_set (x ∷ xs) zero y v p = (p, v.1)
  all_set (x ∷ xs) (suc c) y v p = (v.0, all_set xs c y v.1 p)

  -- ---- of a part
  pub all_take : (xs : List A) (c : ℕ) → All P xs → All P (take c xs)
  all_take xs zero v = tt
  all_take [] (suc c) v = tt
  all_take (x ∷ xs) (suc c) v = (v.0, all_take xs c v.1)

  pub all_after : (bs xs : List A) → All P (bs ++ xs) → All P xs
  all_after [] xs a = a
  all_after (b ∷ bs) xs a = all_after bs xs a.1

  -- with one more in it
  pub all_mid : (e : A) (bs xs : List A) → P e → All P (bs ++ xs) → All P (bs ++ e ∷ xs)
  all_mid e [] xs p a = (p, a)
  all_mid e (b ∷ bs) xs p a = (a.0, all_mid e bs xs p a.1)

-- ---- from other facts
module _ {A : Type 0} (P Q : A → Type 0) where
  pub all_to : (l : List A) → ((x : A) → P x → Q x) → All P l → All Q l
  all_to [] f a = tt
  all_to (x ∷ xs) f a = (f x a.0, all_to xs f a.1)

  pub all_both : (l : List A) → All P l → All Q l → All (λ x. P x × Q x) l
  all_both [] a b = tt
  all_both (x ∷ xs) a b = ((a.0, b.0), all_both xs a.1 b.1)

-- a fact of everything
pub all_always : {A : Type 0} (P : A → Type 0) → ((x : A) → P x) → (l : List A) → All P l
all_always P f [] = tt
all_always P f (x ∷ xs) = (f x, all_always P f xs)
