-- The swaps of a shift and of an update: laws that the functions' proofs cite, and that they are its steps. Assumes nothing.
use mathlib.Core.Path.{◌≡◌, refl, sym, ap, ◌∙◌}
use mathlib.Core.Bool.{Bool, true, false, cond}
use Prim.Native.Nat.{ℕ, zero, suc, ◌-◌, ◌≤◌, ◌<◌}
use native.Mathlib.Omega.{arith}
use native.Mathlib.Decide.{ℕ_discrete}
use lib.ListN.{get_or}
use borrow.Author.Tests.{eq-eqb, ne_eqb}
use Rattle.scheduler.specs.declared.Scheduler.{Scheduler}
use Rattle.scheduler.specs.Head.{Head, earlier}
use Rattle.scheduler.specs.Heap.{swap_at, swaps_of, child_of, down, downshifted, downshift_swaps, parent_of, up, upshifted, upshift_swaps, updated, update_swaps}
use Rattle.scheduler.proofs.Laws.{child_in_lem, child_after, further, down_stays, down_goes, parent_before, up_stays, up_goes}

-- so many swaps, each to another index that the rule names, lead from s at i to t, and there it names none
abbrev pub Leads : (Scheduler → ℕ → ℕ) → ℕ → Scheduler → ℕ → Scheduler → Type 0
Leads next zero s i t = (next s i ≡ i) × (t ≡ s)
Leads next (suc n) s i t = (next s i ≡ i → ⊥) × Leads next n (swap_at s i (next s i)) (next s i) t

-- ---- a shift that goes from an index to the `next`
module _ (next : Scheduler → ℕ → ℕ) where
  pub swaps_stays : (k : ℕ) (s : Scheduler) (i : ℕ) → next s i ≡ i → swaps_of next k s i ≡ 0
  unfolding swaps_of
  swaps_stays zero s i e = refl
  swaps_stays (suc k) s i e = simp (eq-eqb (next s i) i e)

  pub swaps_goes : (k : ℕ) (s : Scheduler) (i : ℕ) → (next s i ≡ i → ⊥) → swaps_of next (suc k) s i ≡ suc (swaps_of next k (swap_at s i (next s i)) (next s i))
  unfolding swaps_of
  swaps_goes k s i n = simp (ne_eqb (next s i) i n)

  -- no more than the steps that it may take
  pub swaps_few : (k : ℕ) (s : Scheduler) (i : ℕ) → swaps_of next k s i ≤ k
  unfolding swaps_of
  swaps_few zero s i = omega arith
  swaps_few (suc k) s i = elim (ℕ_discrete (next s i) i) [
    | yes e ↦ omega (arith, swaps_stays (suc k) s i e)
    | no n ↦ omega (arith, swaps_goes k s i n, swaps_few k (swap_at s i (next s i)) (next s i))
  ]

  -- where every step makes `left` less, that many steps are enough, and so are more
  module _ (left : Scheduler → ℕ → ℕ) (falls : (s : Scheduler) (i : ℕ) → (next s i ≡ i → ⊥) → left (swap_at s i (next s i)) (next s i) < left s i) where
    ended : (s : Scheduler) (i : ℕ) → left s i ≡ 0 → next s i ≡ i
    ended s i z = elim (ℕ_discrete (next s i) i) [ yes e ↦ e | no n ↦ absurd (omega (arith, falls s i n)) ]

    enough : (k j : ℕ) (s : Scheduler) (i : ℕ) → left s i ≤ k → left s i ≤ j → swaps_of next k s i ≡ swaps_of next j s i
    enough zero j s i a b = let e = ended s i (omega arith) in swaps_stays zero s i e ∙ sym (swaps_stays j s i e)
    enough (suc k) zero s i a b = let e = ended s i (omega arith) in swaps_stays (suc k) s i e ∙ sym (swaps_stays zero s i e)
    enough (suc k) (suc j) s i a b = elim (ℕ_discrete (next s i) i) [
      | yes e ↦ swaps_stays (suc k) s i e ∙ sym (swaps_stays (suc j) s i e)
      | no n ↦
          let f = falls s i n in
          swaps_goes k s i n ∙ ap suc (enough k j (swap_at s i (next s i)) (next s i) (omega arith) (omega arith)) ∙ sym (swaps_goes j s i n)
    ]

    pub swaps-on : (s : Scheduler) (i : ℕ) → (next s i ≡ i → ⊥)
        → swaps_of next (left s i) s i ≡ suc (swaps_of next (left (swap_at s i (next s i)) (next s i)) (swap_at s i (next s i)) (next s i))
    swaps-on s i n =
        let f = falls s i n in
        let q = next s i in
        let s' = swap_at s i q in
        let e : left s i ≡ suc (left s i - 1) = omega arith in
        ap (λ (k : ℕ). swaps_of next k s i) e ∙ swaps_goes (left s i - 1) s i n ∙ ap suc (enough (left s i - 1) (left s' q) s' q (omega arith) (omega arith))

    -- a shift that stays and goes by the same steps ends where so many swaps lead
    module _ (shift : ℕ → Scheduler → ℕ → Scheduler) (stays : (k : ℕ) (s : Scheduler) (i : ℕ) → next s i ≡ i → shift k s i ≡ s)
        (goes : (k : ℕ) (s : Scheduler) (i : ℕ) → (next s i ≡ i → ⊥) → shift (suc k) s i ≡ shift k (swap_at s i (next s i)) (next s i)) where
      pub leads : (k : ℕ) (s : Scheduler) (i : ℕ) → left s i ≤ k → Leads next (swaps_of next k s i) s i (shift k s i)
      leads zero s i l = let e = ended s i (omega arith) in rw (swaps_stays zero s i e, stays zero s i e) (e, refl)
      leads (suc k) s i l = elim (ℕ_discrete (next s i) i) [
        | yes e ↦ rw (swaps_stays (suc k) s i e, stays (suc k) s i e) (e, refl)
        | no n ↦
            let f = falls s i n in
            rw (swaps_goes k s i n, goes k s i n) (n, leads k (swap_at s i (next s i)) (next s i) (omega arith))
      ]

-- ---- the downshift
module _ (h : ℕ → Head) where
  down_falls : (s : Scheduler) (p : ℕ) → (child_of h s p ≡ p → ⊥) → (swap_at s p (child_of h s p)).cells - child_of h s p < s.cells - p
  down_falls s p n = omega (arith, further h s p (s.cells - p - 1) (omega arith) n, child_in_lem h s p n, child_after h s p)

  pub down_swaps_stays : (s : Scheduler) (p : ℕ) → child_of h s p ≡ p → downshift_swaps h s p ≡ 0
  unfolding downshift_swaps
  down_swaps_stays s p e = swaps_stays (child_of h) (s.cells - p) s p e

  pub down_swaps_goes : (s : Scheduler) (p : ℕ) → (child_of h s p ≡ p → ⊥) → downshift_swaps h s p ≡ suc (downshift_swaps h (swap_at s p (child_of h s p)) (child_of h s p))
  unfolding downshift_swaps
  down_swaps_goes s p n = swaps-on (child_of h) (λ s p. s.cells - p) down_falls s p n

  pub down_swaps_few : (s : Scheduler) (p : ℕ) → downshift_swaps h s p ≤ s.cells - p
  unfolding downshift_swaps
  down_swaps_few s p = swaps_few (child_of h) (s.cells - p) s p

  -- ---- the upshift
  up_falls : (s : Scheduler) (c : ℕ) → (parent_of h s c ≡ c → ⊥) → parent_of h s c < c
  up_falls s c n = (parent_before h s c n).1

  pub up_swaps_stays : (s : Scheduler) (c : ℕ) → parent_of h s c ≡ c → upshift_swaps h s c ≡ 0
  unfolding upshift_swaps
  up_swaps_stays s c e = swaps_stays (parent_of h) c s c e

  pub up_swaps_goes : (s : Scheduler) (c : ℕ) → (parent_of h s c ≡ c → ⊥) → upshift_swaps h s c ≡ suc (upshift_swaps h (swap_at s c (parent_of h s c)) (parent_of h s c))
  unfolding upshift_swaps
  up_swaps_goes s c n = swaps-on (parent_of h) (λ s c. c) up_falls s c n

  pub up_swaps_few : (s : Scheduler) (c : ℕ) → upshift_swaps h s c ≤ c
  unfolding upshift_swaps
  up_swaps_few s c = swaps_few (parent_of h) c s c

  -- ---- the update
  -- The theorem: the count is of the shift's own steps. An update's swaps lead to what it makes of the scheduler.
  pub swaps_lead : (s : Scheduler) (cell : ℕ) (before after : Head)
      → Leads (cond (earlier before after) (child_of h) (parent_of h)) (update_swaps h s cell before after) s (get_or s.lookups cell 0) (updated h s cell before after)
  unfolding update_swaps updated downshift_swaps upshift_swaps downshifted upshifted
  swaps_lead s cell before after = by (earlier before after)
    where
      at : ℕ
      at = get_or s.lookups cell 0

      by : (b : Bool) → Leads (cond b (child_of h) (parent_of h)) (cond b (downshift_swaps h s at) (upshift_swaps h s at)) s at (cond b (downshifted h s at) (upshifted h s at))
      by true = leads (child_of h) (λ s p. s.cells - p) down_falls (down h) (down_stays h) (down_goes h) (s.cells - at) s at (omega arith)
      by false = leads (parent_of h) (λ s c. c) up_falls (up h) (up_stays h) (up_goes h) at s at (omega arith)
