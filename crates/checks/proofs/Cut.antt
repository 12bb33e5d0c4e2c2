-- Laws of records one after another, and of rows with counts: the first, the rest, and the one with a number. Assumes nothing.
use mathlib.Core.Path.{◌≡◌, refl, sym, ap, ◌∙◌, subst}
use Prim.Native.Nat.{ℕ, zero, suc, ◌+◌, ◌-◌, ◌*◌, ◌≤◌, ◌<◌}
use native.Mathlib.Nat.{suc-mul, zero-mul, not-suc-le-zero, le_of_suc-le-suc, mul-le-mul_right}
use native.Mathlib.Omega.{arith}
use mathlib.Core.List.{List, [], ◌∷◌}
use mathlib.Core.Bool.{true}
use lib.Dec.{leb}
use lib.ListN.{length, get_or, take, drop}
use lib.Seq.{drop-drop}
use borrow.Author.Tests.{leb-true}
use borrow.Rule.Slice.PartMut.{mid_of}
use Rattle.halting.proofs.Bools.{and_l, and_r}
use Rattle.chunks.proofs.Laws.{tail_is}
use Rattle.tables.specs.Decode.{cut, cut_both}
use Rattle.checks.specs.Check.{counts_within}
use Rattle.checks.specs.Inside.{Rowed}

-- of n records the first, and the others
pub less_rows : (n w L : ℕ) → (n ≡ 0 → ⊥) → n * w ≤ L → (w ≤ L) × ((n - 1) * w ≤ L - w)
less_rows zero w L z h = absurd (z refl)
less_rows (suc n) w L z h = let e = suc-mul n w in let p : suc n - 1 ≡ n = omega arith in (omega arith, subst (λ (k : ℕ). k * w ≤ L - w) (sym p) (omega arith))

one_off : (n : ℕ) → n ≡ suc n - 1
one_off n = omega arith

-- the record after c others
pub drop_next : {B : Type 0} (c w : ℕ) (l : List B) → drop (c * w) (drop w l) ≡ drop (suc c * w) l
drop_next c w l = let e : w + c * w ≡ suc c * w = (let s = suc-mul c w in omega arith) in drop-drop (c * w) w l ∙ ap (λ (k : ℕ). drop k l) e

-- ---- records
module _ {A B : Type 0} (read : List B → A) (w : ℕ) where
  pub cut_none : (n : ℕ) (l : List B) → n ≡ 0 → cut read w n l ≡ []
  unfolding cut
  cut_none n l e = rw e

  pub cut_step : (n : ℕ) (l : List B) → (n ≡ 0 → ⊥) → cut read w n l ≡ read l ∷ cut read w (n - 1) (mid_of w (length l - w) l)
  unfolding cut
  cut_step zero l z = absurd (z refl)
  cut_step (suc n) l z = ap (λ (m : List B). read l ∷ cut read w n m) (sym (tail_is w l)) ∙ ap (λ (j : ℕ). read l ∷ cut read w j (mid_of w (length l - w) l)) (one_off n)

  pub cut_long : (n : ℕ) (l : List B) → length (cut read w n l) ≡ n
  unfolding cut
  cut_long zero l = refl
  cut_long (suc n) l = ap suc (cut_long n (drop w l))

  pub cut_at : (n : ℕ) (l : List B) (c : ℕ) (d : A) → c < n → get_or (cut read w n l) c d ≡ read (drop (c * w) l)
  unfolding cut
  cut_at zero l c d h = absurd (not-suc-le-zero h)
  cut_at (suc n) l zero d h = ap (λ (k : ℕ). read (drop k l)) (sym (zero-mul w))
  cut_at (suc n) l (suc c) d h =
      cut_at n (drop w l) c d (le_of_suc-le-suc h)
      ∙ ap read (drop_next c w l)

module _ {A B C : Type 0} (read : List B → List C → A) (w v : ℕ) where
  pub both_long : (n : ℕ) (l : List B) (m : List C) → length (cut_both read w v n l m) ≡ n
  unfolding cut_both
  both_long zero l m = refl
  both_long (suc n) l m = ap suc (both_long n (drop w l) (drop v m))

  pub both_at : (n : ℕ) (l : List B) (m : List C) (c : ℕ) (d : A) → c < n → get_or (cut_both read w v n l m) c d ≡ read (drop (c * w) l) (drop (c * v) m)
  unfolding cut_both
  both_at zero l m c d h = absurd (not-suc-le-zero h)
  both_at (suc n) l m zero d h = ap (λ (k : ℕ). read (drop k l) m) (sym (zero-mul w)) ∙ ap (λ (k : ℕ). read (drop (0 * w) l) (drop k m)) (sym (zero-mul v))
  both_at (suc n) l m (suc c) d h =
      both_at n (drop w l) (drop v m) c d (le_of_suc-le-suc h)
      ∙ ap (λ (x : List B). read x (drop (c * v) (drop v m))) (drop_next c w l)
      ∙ ap (λ (x : List C). read (drop (suc c * w) l) x) (drop_next c v m)

  -- the first of them
  pub both_take : (k n : ℕ) (l : List B) (m : List C) → k ≤ n → take k (cut_both read w v n l m) ≡ cut_both read w v k l m
  unfolding cut_both
  both_take zero n l m h = refl
  both_take (suc k) zero l m h = absurd (not-suc-le-zero h)
  both_take (suc k) (suc n) l m h = ap (λ (xs : List A). read l m ∷ xs) (both_take k n (drop w l) (drop v m) (le_of_suc-le-suc h))

-- ---- rows with counts
pub counted_at : (v w n : ℕ) (l : List ℕ) (c : ℕ) → counts_within v w n l ≡ true → c < n → get_or (drop (c * w) l) 0 0 ≤ v
unfolding counts_within
counted_at v w zero l c e h = absurd (not-suc-le-zero h)
counted_at v w (suc n) l zero e h =
    subst (λ (k : ℕ). get_or (drop k l) 0 0 ≤ v) (sym (zero-mul w)) (leb-true (get_or l 0 0) v (and_l (leb (get_or l 0 0) v) (counts_within v w n (drop w l)) e))
counted_at v w (suc n) l (suc c) e h =
    subst (λ (x : List ℕ). get_or x 0 0 ≤ v) (drop_next c w l)
    (counted_at v w n (drop w l) c (and_r (leb (get_or l 0 0) v) (counts_within v w n (drop w l)) e) (le_of_suc-le-suc h))

module _ {v w n : ℕ} {l : List ℕ} (R : Rowed v w n l) where
  pub rowed_in : (c : ℕ) → c < n → c * w + w ≤ length l
  rowed_in c h = let s = suc-mul c w in let m = mul-le-mul_right w h in let k = R.whole in omega arith
