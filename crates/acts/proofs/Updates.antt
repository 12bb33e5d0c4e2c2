-- The heap in its table: an update that moves nothing, and what holds the scheduler afterwards. Assumes nothing.
use mathlib.Core.Path.{◌≡◌, refl, sym, ap, ◌∙◌}
use Prim.Native.Nat.{ℕ, ◌+◌, ◌≤◌}
use native.Mathlib.Omega.{arith}
use mathlib.Core.Bool.{Bool, true, false}
use mathlib.Core.List.{List}
use lib.ListN.{length, get_or, take}
use Rattle.std.proofs.lemmas.List.{take-take}
use Rattle.scheduler.specs.declared.Scheduler.{Scheduler}
use Rattle.scheduler.specs.Head.{Head, earlier}
use Rattle.scheduler.specs.Heap.{updated, update_swaps}
use Rattle.scheduler.proofs.Laws.{child_taken, parent_taken, downshifted_stays, upshifted_stays}
use Rattle.scheduler.proofs.Swaps.{down_swaps_stays, up_swaps_stays}
use Rattle.scheduler.proofs.Inverse.{updated_cells, updated_long}
use Rattle.layout.specs.Widths.{heap_wide, order_wide}
use Rattle.tables.specs.declared.Sizes.{Sizes}
use Rattle.tables.specs.Layout.{order_bytes}
use Rattle.tables.specs.Decode.{scheduler_of}
use Rattle.tables.specs.Holds.{Heaped}
use Rattle.tables.proofs.HeapLaws.{front_long, kept, lookup_at}
use Rattle.acts.specs.Queues.{shifted_to}

-- ---- an update that moves nothing: it makes no swap
update_stays : (h : ℕ → Head) (s : Scheduler) (cell : ℕ) (before after : Head)
    → shifted_to h s.heap s.cells (get_or s.lookups cell 0) (earlier before after) ≡ get_or s.lookups cell 0
    → (updated h s cell before after ≡ s) × (update_swaps h s cell before after ≡ 0)
unfolding updated update_swaps
update_stays h s cell before after = go (earlier before after) refl
  where
    at : ℕ
    at = get_or s.lookups cell 0

    go : (b : Bool) → earlier before after ≡ b → shifted_to h s.heap s.cells at b ≡ at → (updated h s cell before after ≡ s) × (update_swaps h s cell before after ≡ 0)
    go true e w = rw e (downshifted_stays h s at w, down_swaps_stays h s at w)
    go false e w = rw e (upshifted_stays h s at w, up_swaps_stays h s at w)

-- where a cell goes first is read of the cells in use alone
shifted_taken : (t : List ℕ) (l : length t ≡ order_wide) (h : ℕ → Head) (n at : ℕ) (b : Bool) → n ≤ heap_wide
    → shifted_to h (take n t) (length (take n t)) at b ≡ shifted_to h (take heap_wide t) n at b
shifted_taken t l h n at b r = ap (λ (x : List ℕ). shifted_to h x (length x) at b) (sym (take-take n heap_wide t r)) ∙ by b
  where
    long : n ≤ length (take heap_wide t)
    long = omega (arith, front_long t l)

    by : (b : Bool) → shifted_to h (take n (take heap_wide t)) (length (take n (take heap_wide t))) at b ≡ shifted_to h (take heap_wide t) n at b
    by true = child_taken h (take heap_wide t) n long at
    by false = parent_taken h (take heap_wide t) n long at

pub update_same : (t : List ℕ) (l : length t ≡ order_wide) (h : ℕ → Head) (n cell : ℕ) (before after : Head) (to : ℕ) → n ≤ heap_wide → after ≡ h cell
    → to ≡ shifted_to h (take n t) (length (take n t)) (get_or t (heap_wide + cell) 0) (earlier before after) → to ≡ get_or t (heap_wide + cell) 0
    → (t ≡ order_bytes (updated h (scheduler_of n t) cell before (h cell))) × (0 ≡ update_swaps h (scheduler_of n t) cell before (h cell))
update_same t l h n cell before after to r ea es e =
    let s : Scheduler = scheduler_of n t in
    let at : ℕ = get_or s.lookups cell 0 in
    let w : shifted_to h (take heap_wide t) n at (earlier before (h cell)) ≡ at =
    ap (λ (x : Head). shifted_to h (take heap_wide t) n at (earlier before x)) (sym ea)
    ∙ ap (λ (k : ℕ). shifted_to h (take heap_wide t) n k (earlier before after)) (sym (lookup_at t l cell n))
    ∙ sym (shifted_taken t l h n _ (earlier before after) r) ∙ sym es ∙ e ∙ lookup_at t l cell n in
    let u = update_stays h s cell before (h cell) w in
    (kept t l n ∙ ap order_bytes (sym u.0), sym u.1)

-- ---- what holds the scheduler after an update
pub heaped_new : {z : Sizes} {t t' : List ℕ} {h : Scheduler} (f : ℕ → Head) (cell : ℕ) (before after : Head) → Heaped z t h
    → t' ≡ order_bytes (updated f h cell before after) → Heaped z t' (updated f h cell before after)
heaped_new {h = h} f cell before after k e = record {
  is = e;
  heap_long = (updated_long f h cell before after).0 ∙ k.heap_long;
  lookups_long = (updated_long f h cell before after).1 ∙ k.lookups_long;
  cells_is = updated_cells f h cell before after ∙ k.cells_is;
}
