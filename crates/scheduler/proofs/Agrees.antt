-- The heap does what it did when an empty list, and an index past the end, read as `f64_max`. That was 01's rule: it stands beside the theorem here, and beside those of the model that
-- rest on it, and nowhere else. The two rules agree wherever every head time is below `f64_max`, as refusal 5 keeps each of them. Assumes nothing.
use mathlib.Core.Path.{◌≡◌, refl, sym, ap, ◌∙◌}
use mathlib.Core.Bool.{Bool, true, false, cond, ◌&&◌}
use Prim.Native.Nat.{ℕ, zero, suc, ◌+◌, ◌-◌, ◌*◌}
use lib.ListN.{get_or}
use lib.Dec.{ltb, eqb}
use lib.Ieee.{Float, of_bits, lt, le}
use lib.Ieee.Bits.{is_true}
use Rattle.std.specs.Prelude.{Some, None}
use Rattle.order.specs.Numbers.{f64_max}
use Rattle.order.proofs.Order.{lt_not_le, lt→le}
use Rattle.order.proofs.Compare.{yes, fails, lt_asym, lt_irrefl}
use Rattle.scheduler.specs.declared.Scheduler.{Scheduler}
use Rattle.scheduler.specs.Head.{Head, earlier, no_later}
use Rattle.scheduler.specs.Heap.{time_at, time_in, swap_at, child_in, child_of, down, downshifted, parent, parent_in, parent_of, up, upshifted, updated}

-- ---- 01's rule, over head times of which `f64_max` stands for an empty list
unfoldable pub old_time : (ℕ → Float) → Scheduler → ℕ → Float
old_time h s i = cond (ltb i s.cells) (h (get_or s.heap i 0)) f64_max

abbrev pub old_chosen : Float → Float → Float → ℕ → ℕ → ℕ → ℕ
old_chosen tp tl tr p l r = cond (lt tl tp && le tl tr) l (cond (lt tr tp && lt tr tl) r p)

abbrev pub old_child : (ℕ → Float) → Scheduler → ℕ → ℕ
old_child h s p = old_chosen (old_time h s p) (old_time h s (2 * p + 1)) (old_time h s (2 * p + 2)) p (2 * p + 1) (2 * p + 2)

unfoldable pub old_down : (ℕ → Float) → ℕ → Scheduler → ℕ → Scheduler
old_down h zero s p = s
old_down h (suc k) s p = cond (eqb (old_child h s p) p) s (old_down h k (swap_at s p (old_child h s p)) (old_child h s p))

abbrev pub old_parent : (ℕ → Float) → Scheduler → ℕ → ℕ
old_parent h s c = cond (ltb c s.cells && lt (old_time h s c) (old_time h s (parent c))) (parent c) c

unfoldable pub old_up : (ℕ → Float) → ℕ → Scheduler → ℕ → Scheduler
old_up h zero s c = s
old_up h (suc k) s c = cond (eqb (old_parent h s c) c) s (old_up h k (swap_at s c (old_parent h s c)) (old_parent h s c))

unfoldable pub old_updated : (ℕ → Float) → Scheduler → ℕ → Float → Float → Scheduler
old_updated h s cell before after =
    let at = get_or s.lookups cell 0 in
    cond (lt before after) (old_down h (s.cells - at) s at) (old_up h at s at)

-- ---- a head as that rule read it, and a head whose time is below `f64_max`
abbrev pub was : Head → Float
was None = f64_max
was (Some t) = t

abbrev pub Below : Head → Type 0
Below None = Unit {0}
Below (Some t) = lt t f64_max ≡ true

most : le f64_max f64_max ≡ true
unfolding le of_bits
most = refl

pub same_earlier : (a b : Head) → Below a → Below b → earlier a b ≡ lt (was a) (was b)
same_earlier None None p q = sym (lt_irrefl f64_max)
same_earlier None (Some u) p q = sym (lt_asym u f64_max q)
same_earlier (Some t) None p q = sym p
same_earlier (Some t) (Some u) p q = refl

pub same_no_later : (a b : Head) → Below a → Below b → no_later a b ≡ le (was a) (was b)
same_no_later None None p q = sym most
same_no_later (Some t) None p q = sym (is_true (le t f64_max) (lt→le t f64_max (yes (lt t f64_max) p)))
same_no_later None (Some u) p q = sym (fails (le f64_max u) (lt_not_le u f64_max (yes (lt u f64_max) q)))
same_no_later (Some t) (Some u) p q = refl

module _ (h : ℕ → Head) (below : (k : ℕ) → Below (h k)) where
  abbrev old : ℕ → Float
  old k = was (h k)

  below_time : (s : Scheduler) (i : ℕ) → Below (time_at h s i)
  unfolding time_in
  below_time s i = by (ltb i s.cells)
    where
      by : (b : Bool) → Below (cond b (h (get_or s.heap i 0)) None)
      by true = below (get_or s.heap i 0)
      by false = tt

  same_time_lem : (s : Scheduler) (i : ℕ) → was (time_at h s i) ≡ old_time old s i
  unfolding time_in old_time
  same_time_lem s i = by (ltb i s.cells)
    where
      by : (b : Bool) → was (cond b (h (get_or s.heap i 0)) None) ≡ cond b (old (get_or s.heap i 0)) f64_max
      by true = refl
      by false = refl

  -- no child's head is earlier than its parent's, by either rule
  pub earlier_as_before : (s : Scheduler) (i j : ℕ) → earlier (time_at h s i) (time_at h s j) ≡ lt (old_time old s i) (old_time old s j)
  earlier_as_before s i j = same_earlier (time_at h s i) (time_at h s j) (below_time s i) (below_time s j) ∙ (rw (same_time_lem s i, same_time_lem s j))

  no_later_as_before : (s : Scheduler) (i j : ℕ) → no_later (time_at h s i) (time_at h s j) ≡ le (old_time old s i) (old_time old s j)
  no_later_as_before s i j = same_no_later (time_at h s i) (time_at h s j) (below_time s i) (below_time s j) ∙ (rw (same_time_lem s i, same_time_lem s j))

  same_child : (s : Scheduler) (p : ℕ) → child_of h s p ≡ old_child old s p
  unfolding child_in
  same_child s p =
      let l = 2 * p + 1 in
      let r = 2 * p + 2 in
      rw (earlier_as_before s l p, no_later_as_before s l r, earlier_as_before s r p, earlier_as_before s r l)

  same_parent : (s : Scheduler) (c : ℕ) → parent_of h s c ≡ old_parent old s c
  unfolding parent_in
  same_parent s c = rw (earlier_as_before s c (parent c))

  same_down : (k : ℕ) (s : Scheduler) (p : ℕ) → down h k s p ≡ old_down old k s p
  unfolding down old_down
  same_down zero s p = refl
  same_down (suc k) s p = rw (same_child s p) (ap (λ (x : Scheduler). cond (eqb (old_child old s p) p) s x) (same_down k (swap_at s p (old_child old s p)) (old_child old s p)))

  same_up : (k : ℕ) (s : Scheduler) (c : ℕ) → up h k s c ≡ old_up old k s c
  unfolding up old_up
  same_up zero s c = refl
  same_up (suc k) s c = rw (same_parent s c) (ap (λ (x : Scheduler). cond (eqb (old_parent old s c) c) s x) (same_up k (swap_at s c (old_parent old s c)) (old_parent old s c)))

  -- The theorem: the update is what it was, for any heap and lookups.
  pub updated_as_before : (s : Scheduler) (cell : ℕ) (before after : Head) → Below before → Below after
      → updated h s cell before after ≡ old_updated old s cell (was before) (was after)
  unfolding updated downshifted upshifted old_updated
  updated_as_before s cell before after p q =
      let at = get_or s.lookups cell 0 in
      rw (same_earlier before after p q, same_down (s.cells - at) s at, same_up at s at)
