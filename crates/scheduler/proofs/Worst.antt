-- 02, T-06: what one update costs at worst. From any heap, lookups and heads, for any number of cells, it makes no more swaps than the whole part of
-- log2(cells); and in a heap that is in order it makes none. Assumes nothing.
use mathlib.Core.Path.{◌≡◌, refl, sym, ap, subst, ◌∙◌}
use mathlib.Core.Bool.{Bool, true, false, cond}
use Prim.Native.Nat.{ℕ, zero, suc, ◌+◌, ◌-◌, ◌*◌, ◌^◌, ◌≤◌, ◌<◌}
use native.Mathlib.Nat.{le_trans, le_of_eq, mul-le-mul_right, mul_assoc, mul_comm, one-mul, one-le-pow, pow-suc}
use native.Mathlib.Omega.{arith}
use native.Mathlib.Decide.{dec_le, ℕ_discrete}
use lib.ListN.{get_or}
use lib.Pow.{pow_mono}
use Rattle.halting.proofs.Bools.{differ}
use Rattle.scheduler.specs.declared.Scheduler.{Scheduler}
use Rattle.scheduler.specs.Head.{Head, earlier}
use Rattle.scheduler.specs.Heap.{time_at, swap_at, swaps_of, child_of, downshift_swaps, parent, parent_of, upshift_swaps, update_swaps}
use Rattle.scheduler.specs.Standing.{Ordered}
use Rattle.scheduler.specs.Log2.{Log2}
use Rattle.scheduler.proofs.Laws.{time_out, child_elim, child_in_lem, child_out, parent_elim, parent_out}
use Rattle.scheduler.proofs.Swaps.{swaps_stays, swaps_goes}

-- ---- the logarithm: there is one of every number but 0, and no more than one
under : (n : ℕ) → n < 2 ^ n
under zero = omega arith
under (suc n) = omega (arith, under n, pow-suc 2 n)

pub log2_there : (n : ℕ) → 0 < n → (k : ℕ) × Log2 n k
log2_there n i = go n (under n)
  where
    go : (j : ℕ) → n < 2 ^ j → (k : ℕ) × Log2 n k
    go zero l = absurd (omega arith)
    go (suc j) l = elim (dec_le (2 ^ j) n) [ yes m ↦ (j, record { no_more = m; no_less = l }) | no m ↦ go j (omega arith) ]

pub log2_some : (n k : ℕ) → Log2 n k → 0 < n
log2_some n k l = omega (arith, one-le-pow k 2 (omega arith), l.no_more)

-- c is no more than it where 2 ^ c is no more than n
within : (n k c : ℕ) → Log2 n k → 2 ^ c ≤ n → c ≤ k
within n k c l m = elim (dec_le c k) [
  | yes o ↦ o
  | no o ↦ let p : 2 ^ suc k ≤ 2 ^ c = pow_mono (omega arith) in absurd (omega (arith, l.no_less))
]

pub log2_one : (n j k : ℕ) → Log2 n j → Log2 n k → j ≡ k
log2_one n j k a b = omega (arith, within n k j b a.no_more, within n j k a b.no_more)

-- ---- a downshift: each step at least doubles the index and one
doubled : (x y m n : ℕ) → x * 2 ≤ y → y * 2 ^ m ≤ n → x * 2 ^ suc m ≤ n
doubled x y m n a b =
    let e : x * 2 ^ suc m ≡ x * 2 * 2 ^ m = rw pow-suc (rw (mul_comm (2 ^ m) 2) (sym (mul_assoc x 2 (2 ^ m)))) in
    le_trans (le_of_eq e) (le_trans (mul-le-mul_right (2 ^ m) a) b)

module _ (h : ℕ → Head) where
  below : (s : Scheduler) (p : ℕ) → (child_of h s p ≡ p → ⊥) → (p + 1) * 2 ≤ child_of h s p + 1
  below s p = child_elim h s p (λ q. (q ≡ p → ⊥) → (p + 1) * 2 ≤ q + 1) (λ a b n. omega arith) (λ a b c n. omega arith) (λ a b n. absurd (n refl))

  down_worst : (k : ℕ) (s : Scheduler) (p : ℕ) → p < s.cells → (p + 1) * 2 ^ swaps_of (child_of h) k s p ≤ s.cells
  unfolding swaps_of swap_at
  down_worst zero s p i = omega arith
  down_worst (suc k) s p i = elim (ℕ_discrete (child_of h s p) p) [
    | yes e ↦ rw (swaps_stays (child_of h) (suc k) s p e) (omega arith)
    | no n ↦
        let q = child_of h s p in
        rw (swaps_goes (child_of h) k s p n)
        (doubled (p + 1) (q + 1) (swaps_of (child_of h) k (swap_at s p q) q) s.cells (below s p n) (down_worst k (swap_at s p q) q (child_in_lem h s p n)))
  ]

  -- ---- an upshift: each step at least halves it
  above : (s : Scheduler) (c : ℕ) → (parent_of h s c ≡ c → ⊥) → (parent_of h s c + 1) * 2 ≤ c + 1
  above s c = parent_elim h s c (λ q. (q ≡ c → ⊥) → (q + 1) * 2 ≤ c + 1) (λ i e n. omega arith) (λ e n. absurd (n refl))

  pub up_worst : (k : ℕ) (s : Scheduler) (c : ℕ) → 2 ^ swaps_of (parent_of h) k s c ≤ c + 1
  unfolding swaps_of
  up_worst zero s c = omega arith
  up_worst (suc k) s c = elim (ℕ_discrete (parent_of h s c) c) [
    | yes e ↦ rw (swaps_stays (parent_of h) (suc k) s c e) (omega arith)
    | no n ↦
        let q = parent_of h s c in
        rw (swaps_goes (parent_of h) k s c n, pow-suc) (le_trans (mul-le-mul_right 2 (up_worst k (swap_at s c q) q)) (above s c n))
  ]

  -- ---- an update
  update_worst : (s : Scheduler) (cell : ℕ) (before after : Head) → 0 < s.cells → 2 ^ update_swaps h s cell before after ≤ s.cells
  unfolding update_swaps downshift_swaps upshift_swaps
  update_worst s cell before after i = by (earlier before after) (dec_le s.cells at)
    where
      at : ℕ
      at = get_or s.lookups cell 0

      by : (b : Bool) → Dec (s.cells ≤ at) → 2 ^ cond b (downshift_swaps h s at) (upshift_swaps h s at) ≤ s.cells
      by true (yes o) = rw (swaps_stays (child_of h) (s.cells - at) s at (child_out h s at o)) i
      by true (no n) =
          let c = 2 ^ swaps_of (child_of h) (s.cells - at) s at in
          le_trans (le_trans (le_of_eq (sym (one-mul c))) (mul-le-mul_right c (omega arith))) (down_worst (s.cells - at) s at (omega arith))
      by false (yes o) = rw (swaps_stays (parent_of h) at s at (parent_out h s.heap s.cells at o)) i
      by false (no n) = omega (arith, up_worst at s at)

  -- The theorem: from any heap, lookups and heads, no more swaps than the whole part of log2(cells).
  pub swaps_within : (s : Scheduler) (cell : ℕ) (before after : Head) (k : ℕ) → Log2 s.cells k → update_swaps h s cell before after ≤ k
  swaps_within s cell before after k l =
      within s.cells k (update_swaps h s cell before after) l (update_worst s cell before after (log2_some s.cells k l))

-- ---- of 9 cells it is 3, and of 256 it is 8
pub log2_9 : Log2 9 3
log2_9 = record { no_more = omega arith; no_less = omega arith }

pub log2_256 : Log2 256 8
log2_256 = record { no_more = omega arith; no_less = omega arith }

-- ---- in a heap that is in order no cell changes places
module _ (h : ℕ → Head) (s : Scheduler) (ordered : Ordered h s) where
  -- no index's head is earlier than its parent's
  in_order : (c : ℕ) → 0 < c → earlier (time_at h s c) (time_at h s (parent c)) ≡ false
  unfolding Ordered
  in_order c p = elim (dec_le s.cells c) [ yes o ↦ ap (λ (x : Head). earlier x (time_at h s (parent c))) (time_out h s c o) | no n ↦ ordered c p (omega arith) ]

  child_none : (p : ℕ) → child_of h s p ≡ p
  child_none p = child_elim h s p (λ q. q ≡ p) (λ a b. early (2 * p + 1) a (omega arith) (omega arith)) (λ a b c. early (2 * p + 2) b (omega arith) (omega arith)) (λ a b. refl)
    where
      early : (i : ℕ) → earlier (time_at h s i) (time_at h s p) ≡ true → 0 < i → parent i ≡ p → i ≡ p
      early i a o e = differ a (ap (λ (x : ℕ). earlier (time_at h s i) (time_at h s x)) (sym e) ∙ in_order i o)

  parent_none : (c : ℕ) → parent_of h s c ≡ c
  parent_none c = parent_elim h s c (λ q. q ≡ c) (λ i a. elim (ℕ_discrete c 0) [ yes z ↦ omega arith | no z ↦ differ a (in_order c (omega arith)) ]) (λ e. refl)

  -- The theorem: with the heads in order as they are now, no swap, whatever cell is updated.
  pub ordered_none : (cell : ℕ) (before after : Head) → update_swaps h s cell before after ≡ 0
  unfolding update_swaps downshift_swaps upshift_swaps
  ordered_none cell before after = by (earlier before after)
    where
      at : ℕ
      at = get_or s.lookups cell 0

      by : (b : Bool) → cond b (downshift_swaps h s at) (upshift_swaps h s at) ≡ 0
      by true = swaps_stays (child_of h) (s.cells - at) s at (child_none at)
      by false = swaps_stays (parent_of h) at s at (parent_none at)

-- The theorem: in a valid heap no swap where the head did not change, which leaves it in order.
pub unchanged_none : (h₀ h : ℕ → Head) (s : Scheduler) (cell : ℕ) → Ordered h₀ s → ((c : ℕ) → (c ≡ cell → ⊥) → h c ≡ h₀ c) → h cell ≡ h₀ cell
    → update_swaps h s cell (h₀ cell) (h cell) ≡ 0
unchanged_none h₀ h s cell ordered others same = ordered_none h s (subst (λ f. Ordered f s) (λ i c. sym (each c) i) ordered) cell (h₀ cell) (h cell)
  where
    each : (c : ℕ) → h c ≡ h₀ c
    each c = elim (ℕ_discrete c cell) [ yes e ↦ rw e same | no n ↦ others c n ]
