-- The scheduler in its table of 512 bytes: a copy from the front, its two halves, and what holds it. Assumes nothing.
use mathlib.Core.Path.{◌≡◌, refl, sym, ap, ◌∙◌}
use Prim.Native.Nat.{ℕ, ◌+◌}
use native.Mathlib.Omega.{arith}
use mathlib.Core.List.{List, [], ◌++◌, append-nil}
use lib.ListN.{length, get_or, take, drop, length-append, length-drop, take-append-drop}
use lib.Seq.{take-length, length-take-le, take_at, drop_at, get_or-drop}
use borrow.Rule.Slice.PartMut.{put_mid}
use Rattle.chunks.proofs.Laws.{put_at}
use Rattle.scheduler.specs.declared.Scheduler.{Scheduler}
use Rattle.layout.specs.Widths.{heap_wide, order_wide}
use Rattle.tables.specs.declared.Sizes.{Sizes}
use Rattle.tables.specs.Layout.{order_bytes}
use Rattle.tables.specs.Decode.{scheduler_of}
use Rattle.tables.specs.Holds.{Heaped}

-- ---- a loop that copies a list from the front

-- ---- the halves of a table
module _ (t : List ℕ) (l : length t ≡ order_wide) where
  pub front_long : length (take heap_wide t) ≡ heap_wide
  front_long = length-take-le heap_wide t (omega arith)

  back_long : length (drop heap_wide t) ≡ heap_wide
  back_long = length-drop heap_wide t ∙ (omega arith)

  back_all : take heap_wide (drop heap_wide t) ≡ drop heap_wide t
  back_all = ap (λ (n : ℕ). take n (drop heap_wide t)) (sym back_long) ∙ take-length (drop heap_wide t)

  halves : t ≡ take heap_wide t ++ drop heap_wide t
  halves = sym (take-append-drop heap_wide t)

  -- both halves stored
  pub stored : (h k : List ℕ) → length h ≡ heap_wide → put_mid heap_wide heap_wide (put_mid 0 heap_wide t h) k ≡ h ++ k
  stored h k p =
      let one : put_mid 0 heap_wide t h ≡ h ++ drop heap_wide t = put_at [] (take heap_wide t) (drop heap_wide t) 0 heap_wide h halves refl front_long in
      put_at h (drop heap_wide t) [] heap_wide heap_wide k (one ∙ ap (λ (r : List ℕ). h ++ r) (sym (append-nil (drop heap_wide t)))) p back_long
      ∙ ap (λ (r : List ℕ). h ++ r) (append-nil k)

  pub stored_as : (s : Scheduler) (h k : List ℕ) → h ≡ s.heap → k ≡ s.lookups → length s.heap ≡ heap_wide → put_mid heap_wide heap_wide (put_mid 0 heap_wide t h) k ≡ order_bytes s
  stored_as s h k eh ek p =
      ap (λ (x : List ℕ). put_mid heap_wide heap_wide (put_mid 0 heap_wide t x) k) eh ∙ ap (λ (x : List ℕ). put_mid heap_wide heap_wide (put_mid 0 heap_wide t s.heap) x) ek ∙ stored s.heap s.lookups p

  -- a table that stays is the one that its scheduler gives
  pub kept : (n : ℕ) → t ≡ order_bytes (scheduler_of n t)
  kept n = halves ∙ ap (λ (r : List ℕ). take heap_wide t ++ r) (sym back_all)

  -- the lookup of a cell
  pub lookup_at : (c n : ℕ) → get_or t (heap_wide + c) 0 ≡ get_or (scheduler_of n t).lookups c 0
  lookup_at c n = sym (get_or-drop heap_wide t c 0) ∙ ap (λ (r : List ℕ). get_or r c 0) (sym back_all)

-- ---- what holds a scheduler
pub heaped_long : {z : Sizes} {t : List ℕ} {h : Scheduler} → Heaped z t h → length t ≡ order_wide
heaped_long {h = h} k = ap length k.is ∙ length-append h.heap h.lookups ∙ (let a = k.heap_long in let b = k.lookups_long in omega arith)

pub heaped_is : {z : Sizes} {t : List ℕ} {h : Scheduler} → Heaped z t h → scheduler_of z.cells t ≡ h
heaped_is {z} {t} {h} k =
    let a : take heap_wide t ≡ h.heap = ap (λ (l : List ℕ). take heap_wide l) k.is ∙ take_at h.heap h.lookups heap_wide k.heap_long in
    let b : drop heap_wide t ≡ h.lookups = ap (λ (l : List ℕ). drop heap_wide l) k.is ∙ drop_at h.heap h.lookups heap_wide k.heap_long in
    let d : take heap_wide (drop heap_wide t) ≡ h.lookups = back_all t (heaped_long k) ∙ b in
    let c : z.cells ≡ h.cells = sym k.cells_is in
    λ i. record { heap = a i; lookups = d i; cells = c i }
