-- The heap's tests at one index. Assumes nothing.
use mathlib.Core.Path.{◌≡◌, sym, ap, ◌∙◌}
use Prim.Native.Nat.{ℕ, ◌<◌}
use native.Mathlib.Omega.{arith}
use mathlib.Core.List.{List, []}
use mathlib.Core.Bool.{not}
use lib.ListN.{get_or}
use borrow.Author.Tests.{ne_eqb}
use Rattle.scheduler.specs.Head.{Head, earlier}
use Rattle.scheduler.specs.Heap.{time_in, parent}
use Rattle.scheduler.proofs.Laws as laws
use Rattle.model.specs.Check.{in_order}

module _ (h : ℕ → Head) (heap : List ℕ) (n i : ℕ) where
  pub time_in_lem : i < n → time_in h heap n i ≡ h (get_or heap i 0)
  time_in_lem = laws.time_in_lem h (record { heap = heap; lookups = []; cells = n }) i

module _ (h : ℕ → Head) (heap : List ℕ) (n i : ℕ) where
  times : {t u : Head} → i < n → t ≡ h (get_or heap i 0) → u ≡ h (get_or heap (parent i) 0) → earlier (time_in h heap n i) (time_in h heap n (parent i)) ≡ earlier t u
  times {t} {u} l a b =
      ap (λ (x : Head). earlier x (time_in h heap n (parent i))) (time_in_lem h heap n i l ∙ sym a) ∙ ap (λ (x : Head). earlier t x) (time_in_lem h heap n (parent i) (omega arith) ∙ sym b)

  -- but for the first, which has no parent
  pub order_by : {t u : Head} → i < n → (i ≡ 0 → ⊥) → t ≡ h (get_or heap i 0) → u ≡ h (get_or heap (parent i) 0) → not (earlier t u) ≡ in_order h heap n i
  order_by l z a b = rw (ne_eqb i 0 z, times l a b)
