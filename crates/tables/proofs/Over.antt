-- Places in front of a table (`over`): the part behind them, what it is to put a part back there, and writing them one by one. Assumes nothing.
use Prim.Native.Nat.{ℕ, ◌+◌, ◌-◌, ◌≤◌}
use mathlib.Core.Path.{◌≡◌, sym, ap, ◌∙◌}
use mathlib.Core.List.{List, ◌++◌, append_assoc}
use native.Mathlib.Nat.{zero-add}
use native.Mathlib.Omega.{arith}
use lib.ListN.{length, take, drop, replicate, length-append, length-replicate, replicate-append-replicate}
use lib.Seq.{take_at, drop_at, drop-drop, sets, sets-eq}
use borrow.Rule.Slice.PartMut.{mid_of, put_mid}
use Rattle.chunks.proofs.Laws.{mid_at}
use Rattle.tables.specs.Encode.{over}

module _ {A : Type 0} where
  pub over_part : (xs l : List A) (w k : ℕ) → length xs ≡ w → mid_of w k (over xs l) ≡ mid_of w k l
  over_part xs l w k e = ap (λ (m : List A). take k m) (drop_at xs (drop (length xs) l) w e ∙ ap (λ (n : ℕ). drop n l) e)

  pub over_put : (xs ys l : List A) (w k : ℕ) → length xs ≡ w → length ys ≡ k → put_mid w k (over xs l) ys ≡ over (xs ++ ys) l
  over_put xs ys l w k e f =
      ap (λ (m : List A). m ++ (ys ++ drop k (drop w (over xs l)))) (take_at xs (drop (length xs) l) w e)
      ∙ ap (λ (m : List A). xs ++ (ys ++ drop k m)) (drop_at xs (drop (length xs) l) w e ∙ ap (λ (n : ℕ). drop n l) e)
      ∙ ap (λ (m : List A). xs ++ (ys ++ m)) (drop-drop k w l ∙ ap (λ (n : ℕ). drop n l) long)
      ∙ sym (append_assoc xs ys (drop (length (xs ++ ys)) l))
    where
      long : w + k ≡ length (xs ++ ys)
      long = let n = length-append xs ys in omega arith

  -- the places in front themselves, and others in their stead
  pub over_front : (xs l : List A) (k : ℕ) → length xs ≡ k → mid_of 0 k (over xs l) ≡ xs
  over_front xs l k e = take_at xs (drop (length xs) l) k e

  pub over_again : (xs ys l : List A) (k : ℕ) → length xs ≡ k → length ys ≡ k → put_mid 0 k (over xs l) ys ≡ over ys l
  over_again xs ys l k e f = ap (λ (m : List A). ys ++ m) (drop_at xs (drop (length xs) l) k e ∙ ap (λ (n : ℕ). drop n l) (e ∙ sym f))

  -- written one by one from the first place
  pub over_sets : (vs l : List A) → length vs ≤ length l → sets l 0 vs ≡ over vs l
  over_sets vs l h = sets-eq vs l 0 (let z = zero-add (length vs) in omega arith) ∙ ap (λ (n : ℕ). vs ++ drop n l) (zero-add (length vs))

  -- a part of a table whose places are all v
  pub same_part : (v : A) (m w k : ℕ) → w + k ≤ m → mid_of w k (replicate m v) ≡ replicate k v
  same_part v m w k h =
      mid_at (replicate w v) (replicate k v) (replicate (m - (w + k)) v) w k
      (sym (ap (λ (l : List A). replicate w v ++ l) (replicate-append-replicate k (m - (w + k)) v) ∙ replicate-append-replicate w (k + (m - (w + k))) v ∙ ap (λ (n : ℕ). replicate n v) sum))
      (length-replicate w v) (length-replicate k v)
    where
      sum : w + (k + (m - (w + k))) ≡ m
      sum = omega arith
