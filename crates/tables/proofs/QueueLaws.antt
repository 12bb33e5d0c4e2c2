-- Rows of events: what the leaves on runs of places make of a row. Assumes nothing.
use mathlib.Core.Path.{◌≡◌, refl, ap, ◌∙◌}
use Prim.Native.Nat.{ℕ, suc, ◌+◌, ◌-◌, ◌*◌, ◌≤◌, ◌<◌}
use native.Mathlib.Nat.{not-suc-le-zero}
use native.Mathlib.Omega.{arith}
use mathlib.Core.List.{List, [], ◌∷◌, ◌++◌, append-nil}
use lib.ListN.{length, set, replicate, length-drop}
use lib.Ieee.{Float}
use borrow.Rule.Slice.PartMut.{mid_of, put_mid, same_len_mid}
use Rattle.chunks.specs.Flat.{flat}
use Rattle.chunks.proofs.Laws.{mid_tail, put_tail}
use Rattle.layout.specs.Widths.{place_nums_wide, place_reals_wide}
use Rattle.model.specs.declared.Place.{Place}
use Rattle.model.specs.Events.{insert_by, keep_by, gone_by, zero_p, head_place}
use Rattle.model.specs.State.{Row, row}
use Rattle.model.proofs.Queue.{length_insert}
use Rattle.tables.specs.Layout.{places, place_nums}
use Rattle.tables.specs.Holds.{Run}
use Rattle.tables.specs.Rows.{count_in}
use Rattle.tables.specs.Queues.{placed, without, headless, RowIn}
use Rattle.tables.proofs.Runs.{nums_long, reals_long}
use Rattle.tables.proofs.RowLaws.{live_most}

-- ---- runs of places in the order of a row
module _ {nums ns : List ℕ} {reals rs : List Float} where
  placed_run : (e : Place) (live spare : List Place) → length live < length (live ++ spare)
      → ((rest : List Place) (x : Place) → Run nums reals (live ++ x ∷ rest) → Run ns rs (insert_by e live ++ rest))
      → Run nums reals (live ++ spare) → Run ns rs (places (placed e (row live spare)))
  placed_run e live [] l done u = let k = ap length (append-nil live) in absurd (omega arith)
  placed_run e live (x ∷ rest) l done u = done rest x u

  headless_run : (live spare : List Place) → 0 < length live
      → ((rest : List Place) (x : Place) → length live ≡ suc (length rest) → Run nums reals (x ∷ rest ++ spare) → Run ns rs (rest ++ zero_p ∷ spare))
      → Run nums reals (live ++ spare) → Run ns rs (places (headless (row live spare)))
  headless_run [] spare l pulled u = absurd (not-suc-le-zero l)
  headless_run (x ∷ rest) spare l pulled u = pulled rest x refl u

head_run : {nums : List ℕ} {reals : List Float} (live spare : List Place) {y : Place} → 0 < length live → ((x : Place) (ps : List Place) → Run nums reals (x ∷ ps) → y ≡ x)
    → Run nums reals (live ++ spare) → y ≡ head_place live
head_run [] spare l got u = absurd (not-suc-le-zero l)
head_run (x ∷ rest) spare l got u = got x (rest ++ spare) u

-- ---- a row: the places' numbers behind the count, as they are lent, and put back under another count
abbrev pub behind : List ℕ → List ℕ
behind l = mid_of 1 (length l - 1) l

abbrev pub under : ℕ → List ℕ → List ℕ → List ℕ
under n l ns = set (put_mid 1 (length l - 1) l ns) 0 n

module _ {nums : List ℕ} {reals : List Float} (r : Row Place) (R : RowIn nums reals r) where
  count_is : count_in nums ≡ length r.live
  count_is = ap count_in R.nums_is

  run_of : Run (behind nums) reals (places r)
  run_of = record { nums_is = mid_tail (length r.live ∷ []) (flat place_nums (places r)) 1 R.nums_is refl; reals_is = R.reals_is }

  behind_long : length (behind nums) ≡ length (places r) * place_nums_wide
  behind_long = ap length run_of.nums_is ∙ nums_long (places r)

  floats_long : length reals ≡ length (places r) * place_reals_wide
  floats_long = ap length R.reals_is ∙ reals_long (places r)

  filed : {ns : List ℕ} {rs : List Float} (n : ℕ) (r' : Row Place) → n ≡ length r'.live → Run ns rs (places r') → RowIn (under n nums ns) rs r'
  filed {ns} n r' e u = record {
    nums_is =
        ap (λ (l : List ℕ). set l 0 n) (put_tail (length r.live ∷ []) (flat place_nums (places r)) 1 ns R.nums_is refl) ∙ ap (λ (l : List ℕ). n ∷ l) u.nums_is
        ∙ ap (λ (m : ℕ). m ∷ flat place_nums (places r')) e;
    reals_is = u.reals_is;
  }

  -- what reading and writing the count asks
  pub count_there : 0 < length nums
  count_there = let k = ap length R.nums_is in omega arith

  pub count_back : (ns : List ℕ) → length ns ≡ length (behind nums) → 0 < length (put_mid 1 (length nums - 1) nums ns)
  count_back ns e = let k = count_there in let m = same_len_mid 1 (length nums - 1) nums ns e in omega arith

  -- what a leaf on n places and one more asks, and one on all in use
  pub more_asks : (n : ℕ) → n < length (places r) → length (places r) ≤ 256 → (n < 256) × (place_nums_wide * (n + 1) ≤ length (behind nums)) × (place_reals_wide * (n + 1) ≤ length reals)
  more_asks n l m = let a = behind_long in let b = floats_long in (omega arith, omega arith, omega arith)

  pub all_asks : length (places r) ≤ 256 → (count_in nums ≤ 256) × (place_nums_wide * count_in nums ≤ length (behind nums)) × (place_reals_wide * count_in nums ≤ length reals)
  all_asks m = let a = behind_long in let b = floats_long in let n = count_is in let l = live_most r in (omega arith, omega arith, omega arith)

  pub room_left : length r.live < length (places r) → count_in nums < length (places r)
  room_left l = let n = count_is in omega arith

  pub some_held : 0 < length r.live → (0 < count_in nums) × (count_in nums - 1 < length (places r))
  some_held l = let n = count_is in let m = live_most r in (omega arith, omega arith)

  -- an event more, those that name a grain gone, the first gone
  pub row_placed : (e : Place) {ns : List ℕ} {rs : List Float} → place_reals_wide * (count_in nums + 1) ≤ length reals
      → ((live rest : List Place) (x : Place) → count_in nums ≡ length live → Run (behind nums) reals (live ++ x ∷ rest) → Run ns rs (insert_by e live ++ rest))
      → RowIn (under (count_in nums + 1) nums ns) rs (placed e r)
  row_placed e h done =
      filed (count_in nums + 1) (placed e r) (let n = count_is in let m = length_insert e r.live in omega arith)
      (placed_run e r.live r.spare (let n = count_is in let b = floats_long in omega arith) (λ sp x u. done r.live sp x count_is u) run_of)

  pub row_without : (g : ℕ) {ns : List ℕ} {rs : List Float} {m : ℕ}
      → ((live rest : List Place) → count_in nums ≡ length live → Run (behind nums) reals (live ++ rest)
      → (m ≡ length (keep_by g live)) × Run ns rs (keep_by g live ++ (replicate (gone_by g live) zero_p ++ rest)))
      → RowIn (under m nums ns) rs (without g r)
  row_without g {m = m} done = let d = done r.live r.spare count_is run_of in filed m (without g r) d.0 d.1

  pub row_headless : {ns : List ℕ} {rs : List Float} {x : Place} → 0 < count_in nums → ((y : Place) (ps : List Place) → Run (behind nums) reals (y ∷ ps) → x ≡ y)
      → ((live rest : List Place) (y : Place) → count_in nums - 1 ≡ length live → Run (behind nums) reals (y ∷ live ++ rest) → Run ns rs (live ++ zero_p ∷ rest))
      → (x ≡ head_place r.live) × RowIn (under (count_in nums - 1) nums ns) rs (headless r)
  row_headless l got pulled =
      let n = count_is in
      let some : 0 < length r.live = omega arith in (
        head_run r.live r.spare some got run_of,
        filed (count_in nums - 1) (headless r) (let d = length-drop 1 r.live in omega arith)
            (headless_run r.live r.spare some (λ live y e u. pulled live r.spare y (omega arith) u) run_of),
      )
