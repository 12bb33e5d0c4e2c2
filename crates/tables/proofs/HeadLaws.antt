-- The headers: what stands there is the head of its own counts, box, mark and clock, and another mark or clock is another head. Assumes nothing.
use Prim.Native.Nat.{ℕ, zero, suc, ◌≤◌}
use mathlib.Core.Path.{◌≡◌, refl, sym}
use mathlib.Core.Bool.{true}
use mathlib.Core.List.{List, [], ◌∷◌, ◌++◌}
use native.Mathlib.Omega.{arith}
use lib.Dec.{leb}
use lib.ListN.{length, drop}
use lib.Ieee.{Float}
use borrow.Author.Tests.{leb-true}
use borrow.Rule.Slice.PartMut.{put_mid}
use Rattle.halting.proofs.Bools.{and_l, and_r}
use Rattle.layout.specs.Widths.{lists_head_wide, grains_head_wide}
use Rattle.tables.specs.Decode.{is_set, sizes_of, box_in, flags_fine}
use Rattle.tables.specs.Encode.{flagged, lists_head, grains_head, over, with_mark, with_clock}

flag_is : (n : ℕ) → n ≤ 1 → n ≡ flagged (is_set n)
flag_is zero h = refl
flag_is (suc zero) h = refl
flag_is (suc (suc n)) h = absurd (omega arith)

-- a part put back behind the header, and another mark
pub lists_back : (l body : List ℕ) (t : List Float) (m k : ℕ) → lists_head_wide ≤ length l → flags_fine l ≡ true → length body ≡ k
    → with_mark m (put_mid lists_head_wide k l body) ≡ over (lists_head m (sizes_of l) (box_in l t) ++ body) l
lists_back (a ∷ g ∷ c ∷ r ∷ p ∷ q ∷ l) body t m k h f e = λ i. m ∷ g ∷ c ∷ r ∷ flag_is p (leb-true p 1 (and_l (leb p 1) (leb q 1) f)) i ∷ flag_is q (leb-true q 1 (and_r (leb p 1) (leb q 1) f)) i ∷ (body ++ drop (sym e i) l)
lists_back (a ∷ g ∷ c ∷ r ∷ p ∷ []) body t m k h f e = absurd (omega arith)
lists_back (a ∷ g ∷ c ∷ r ∷ []) body t m k h f e = absurd (omega arith)
lists_back (a ∷ g ∷ c ∷ []) body t m k h f e = absurd (omega arith)
lists_back (a ∷ g ∷ []) body t m k h f e = absurd (omega arith)
lists_back (a ∷ []) body t m k h f e = absurd (omega arith)
lists_back [] body t m k h f e = absurd (omega arith)

-- and another clock
pub grains_back : (l : List ℕ) (t body : List Float) (x : Float) (k : ℕ) → grains_head_wide ≤ length t → length body ≡ k
    → with_clock x (put_mid grains_head_wide k t body) ≡ over (grains_head (box_in l t) x ++ body) t
grains_back l (a ∷ b ∷ u ∷ t) body x k h e = λ i. a ∷ b ∷ x ∷ (body ++ drop (sym e i) t)
grains_back l (a ∷ b ∷ []) body x k h e = absurd (omega arith)
grains_back l (a ∷ []) body x k h e = absurd (omega arith)
grains_back l [] body x k h e = absurd (omega arith)
