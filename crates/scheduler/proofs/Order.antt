-- An update puts the heap in order again, if only the head of the updated cell changed. Assumes nothing.
use mathlib.Core.Path.{◌≡◌, refl, sym, ap, ◌∙◌}
use mathlib.Core.Bool.{Bool, true, false, ◌&&◌, and-true}
use Prim.Native.Nat.{ℕ, zero, suc, ◌+◌, ◌-◌, ◌*◌, ◌≤◌, ◌<◌}
use native.Mathlib.Omega.{arith}
use native.Mathlib.Decide.{dec_le, ℕ_discrete}
use lib.ListN.{length, get_or}
use Rattle.scheduler.specs.declared.Scheduler.{Scheduler}
use Rattle.scheduler.specs.Head.{Head, earlier, no_later, is_nan_head}
use Rattle.scheduler.specs.Heap.{time_at, swap_at, child_of, down, downshifted, parent, parent_of, up, upshifted, updated}
use Rattle.scheduler.specs.Standing.{Inverse, Ordered, Real}
use Rattle.scheduler.proofs.Laws.{time_in_lem, time_out, child_in_lem, child_after, child_elim, down_stays, down_goes, up_stays, up_goes, parent_elim}
use Rattle.scheduler.proofs.Heads.{none_later, earlier_asym, earlier_irrefl, no_later_not_earlier, earlier_of_not}
use Rattle.scheduler.proofs.Inverse.{swap_fst, swap_snd, swap_other, swap_inverse}

-- ---- times at the indices of a tree, before and after two of them changed places
pub record Swapped (t t' : ℕ → Head) (a b : ℕ) : Type 0 where
  pub fst : t' a ≡ t b
  pub snd : t' b ≡ t a
  pub other : (i : ℕ) → (i ≡ a → ⊥) → (i ≡ b → ⊥) → t' i ≡ t i

-- in order but for c and its parent, and c's children are no earlier than its parent
pub record UpOk (n : ℕ) (t : ℕ → Head) (c : ℕ) : Type 0 where
  pub rest : (k : ℕ) → 0 < k → k < n → (k ≡ c → ⊥) → earlier (t k) (t (parent k)) ≡ false
  pub over : (k : ℕ) → 0 < k → k < n → parent k ≡ c → 0 < c → earlier (t k) (t (parent c)) ≡ false

-- in order but for p and its children, and those are no earlier than p's parent
pub record DownOk (n : ℕ) (t : ℕ → Head) (p : ℕ) : Type 0 where
  pub rest : (k : ℕ) → 0 < k → k < n → (parent k ≡ p → ⊥) → earlier (t k) (t (parent k)) ≡ false
  pub over : (k : ℕ) → 0 < k → k < n → parent k ≡ p → 0 < p → earlier (t k) (t (parent p)) ≡ false

module _ (n : ℕ) (t t' : ℕ → Head) (real : (i : ℕ) → is_nan_head (t i) ≡ false) where
  -- one step up
  up_step : (c : ℕ) → 0 < c → UpOk n t c → earlier (t c) (t (parent c)) ≡ true → Swapped t t' c (parent c) → UpOk n t' (parent c)
  up_step c pos ok e sw = record {
    rest = λ k K I d. elim (ℕ_discrete k c) [
      | yes x ↦ rw (x, sw.fst, sw.snd) (earlier_asym (t c) (t (parent c)) e)
      | no x ↦ elim (ℕ_discrete (parent k) c) [
        | yes y ↦ rw (y, sw.fst, sw.other k x d) (ok.over k K I y pos)
        | no y ↦ elim (ℕ_discrete (parent k) (parent c)) [
          | yes z ↦ rw (sw.other k x d, z, sw.snd) (none_later (t c) (t (parent c)) (t k) (real (parent c)) (earlier_asym (t c) (t (parent c)) e) (rw z at (ok.rest k K I x)))
          | no z ↦ rw (sw.other k x d, sw.other (parent k) y z) (ok.rest k K I x)
        ]
      ]
    ];
    over = λ k K I y q.
        let g : parent (parent c) ≡ c → ⊥ = λ w. omega arith in
        let g' : parent (parent c) ≡ parent c → ⊥ = λ w. omega arith in
        let m : earlier (t (parent c)) (t (parent (parent c))) ≡ false = ok.rest (parent c) q (omega arith) (λ w. omega arith) in
        rw (sw.other (parent (parent c)) g g')
        (elim (ℕ_discrete k c) [
          | yes x ↦ rw (x, sw.fst) m
          | no x ↦ rw (sw.other k x (λ w. omega arith)) (none_later (t (parent (parent c))) (t (parent c)) (t k) (real (parent c)) m (rw y at (ok.rest k K I x)))
        ]);
  }

  -- one step down
  down_step : (p q : ℕ) → 0 < q → q < n → parent q ≡ p → DownOk n t p → earlier (t q) (t p) ≡ true
      → ((k : ℕ) → 0 < k → k < n → parent k ≡ p → earlier (t k) (t q) ≡ false) → Swapped t t' p q → DownOk n t' q
  down_step p q pos in' up' ok e least sw = record {
    rest = λ k K I d. elim (ℕ_discrete (parent k) p) [
      | yes y ↦ rw (y, sw.fst) (elim (ℕ_discrete k q) [
        | yes x ↦ rw (x, sw.snd) (earlier_asym (t q) (t p) e)
        | no x ↦ rw (sw.other k (λ w. omega arith) x) (least k K I y)
      ])
      | no y ↦ elim (ℕ_discrete k p) [
        | yes x ↦ rw (x, sw.fst, sw.other (parent p) (λ w. omega arith) (λ w. omega arith)) (ok.over q pos in' up' (omega arith))
        | no x ↦ rw (sw.other k x (λ w. omega arith), sw.other (parent k) y d) (ok.rest k K I y)
      ]
    ];
    over = λ k K I y z. rw (up', sw.fst, sw.other k (λ w. omega arith) (λ w. omega arith)) (rw y at (ok.rest k K I (λ w. omega arith)));
  }

-- ---- the times of a scheduler's indices
pub time_real : (h : ℕ → Head) (s : Scheduler) → Real h → (i : ℕ) → is_nan_head (time_at h s i) ≡ false
unfolding Real
time_real h s real i = elim (dec_le s.cells i) [
  | yes o ↦ rw (time_out h s i o) refl
  | no n ↦ rw (time_in_lem h s i (omega arith)) (real (get_or s.heap i 0))
]

pub time_swapped : (h : ℕ → Head) (s : Scheduler) (a b : ℕ) → Inverse s → a < s.cells → b < s.cells → (a ≡ b → ⊥)
    → Swapped (time_at h s) (time_at h (swap_at s a b)) a b
unfolding swap_at
time_swapped h s a b inv A B n =
    let HA : a < length s.heap = omega (arith, inv.heap_long, inv.room) in
    let HB : b < length s.heap = omega (arith, inv.heap_long, inv.room) in
    record {
      fst = time_in_lem h (swap_at s a b) a A ∙ ap h (swap_fst s.heap a b HA HB n) ∙ sym (time_in_lem h s b B);
      snd = time_in_lem h (swap_at s a b) b B ∙ ap h (swap_snd s.heap a b HA HB n) ∙ sym (time_in_lem h s a A);
      other = λ i p q. elim (dec_le s.cells i) [
        | yes o ↦ time_out h (swap_at s a b) i o ∙ sym (time_out h s i o)
        | no m ↦ time_in_lem h (swap_at s a b) i (omega arith) ∙ ap h (swap_other s.heap a b HA HB n i p q) ∙ sym (time_in_lem h s i (omega arith))
      ];
    }

-- ---- the upshift
module _ (h : ℕ → Head) (real : Real h) where
  up_ends : (s : Scheduler) (c : ℕ) → UpOk s.cells (time_at h s) c → parent_of h s c ≡ c → Ordered h s
  unfolding Ordered
  up_ends s c ok e k K I = elim (ℕ_discrete k c) [
    | yes x ↦ rw x (late e (omega arith) (omega arith))
    | no x ↦ ok.rest k K I x
  ]
    where
      late : parent_of h s c ≡ c → 0 < c → c < s.cells → earlier (time_at h s c) (time_at h s (parent c)) ≡ false
      late = parent_elim h s c (λ q. q ≡ c → 0 < c → c < s.cells → earlier (time_at h s c) (time_at h s (parent c)) ≡ false)
          (λ i f w p j. absurd (omega arith)) (λ f w p j. f j)

  pub up_orders : (k : ℕ) (s : Scheduler) (c : ℕ) → Inverse s → c ≤ k → UpOk s.cells (time_at h s) c → Ordered h (up h k s c)
  unfolding swap_at
  up_orders zero s c inv le' ok = unfold up Ordered in λ k K I. ok.rest k K I (λ w. omega arith)
  up_orders (suc k) s c inv le' ok = elim (ℕ_discrete (parent_of h s c) c) [
    | yes e ↦ rw (up_stays h (suc k) s c e) (up_ends s c ok e)
    | no n ↦
        let w = moves n in
        let q = parent c in
        let g : up h (suc k) s c ≡ up h k (swap_at s c q) q = up_goes h k s c n ∙ ap (λ (x : ℕ). up h k (swap_at s c x) x) w.2 in
        let d : c ≡ q → ⊥ = λ x. n (w.2 ∙ sym x) in
        let m : UpOk s.cells (time_at h (swap_at s c q)) q =
        up_step s.cells (time_at h s) (time_at h (swap_at s c q)) (time_real h s real) c (omega arith) ok w.1 (time_swapped h s c q inv w.0 (omega arith) d) in
        rw g (up_orders k (swap_at s c q) q (swap_inverse s c q inv w.0 (omega arith) d) (omega arith) m)
  ]
    where
      moves : (parent_of h s c ≡ c → ⊥) → (c < s.cells) × (earlier (time_at h s c) (time_at h s (parent c)) ≡ true) × (parent_of h s c ≡ parent c)
      moves = parent_elim h s c (λ q. (q ≡ c → ⊥) → (c < s.cells) × (earlier (time_at h s c) (time_at h s (parent c)) ≡ true) × (q ≡ parent c))
          (λ i e n. (i, e, refl)) (λ e n. absurd (n refl))

-- ---- the downshift
-- a parent that stays is no later than its children
module _ (p l r : Head) (L : is_nan_head l ≡ false) (R : is_nan_head r ≡ false) (a : earlier l p && no_later l r ≡ false) (b : earlier r p && earlier r l ≡ false) where
  stay_left : earlier l p ≡ false
  stay_left = by (earlier l p) refl
    where
      by : (x : Bool) → earlier l p ≡ x → earlier l p ≡ false
      by true e =
          let g : earlier r l ≡ true = earlier_of_not l r L R (rw e at a) in
          none_later p r l R (sym (and-true (earlier r p)) ∙ (rw g at b)) (earlier_asym r l g)
      by false e = e

  stay_right : earlier r p ≡ false
  stay_right = by (earlier r p) refl
    where
      by : (x : Bool) → earlier r p ≡ x → earlier r p ≡ false
      by true e = none_later p l r L stay_left (rw e at b)
      by false e = e

-- a child is the left or the right one
of_children : (p k : ℕ) (P : ℕ → Type 0) → 0 < k → parent k ≡ p → P (2 * p + 1) → P (2 * p + 2) → P k
of_children p k P K e x y = elim (ℕ_discrete k (2 * p + 1)) [
  | yes d ↦ rw d x
  | no d ↦ let f : k ≡ 2 * p + 2 = omega arith in rw f y
]

module _ (h : ℕ → Head) (real : Real h) where
  down_ends : (s : Scheduler) (p : ℕ) → DownOk s.cells (time_at h s) p → child_of h s p ≡ p → Ordered h s
  unfolding Ordered
  down_ends s p ok e k K I = elim (ℕ_discrete (parent k) p) [
    | yes y ↦
        let w = stays e in
        rw y (of_children p k (λ (i : ℕ). earlier (time_at h s i) (time_at h s p) ≡ false) K y w.0 w.1)
    | no y ↦ ok.rest k K I y
  ]
    where
      stays : child_of h s p ≡ p → (earlier (time_at h s (2 * p + 1)) (time_at h s p) ≡ false) × (earlier (time_at h s (2 * p + 2)) (time_at h s p) ≡ false)
      stays = child_elim h s p (λ q. q ≡ p → (earlier (time_at h s (2 * p + 1)) (time_at h s p) ≡ false) × (earlier (time_at h s (2 * p + 2)) (time_at h s p) ≡ false))
          (λ a b w. absurd (omega arith)) (λ a b c w. absurd (omega arith))
          (λ a b w.
          let L = time_real h s real (2 * p + 1) in
          let R = time_real h s real (2 * p + 2) in
          (stay_left (time_at h s p) (time_at h s (2 * p + 1)) (time_at h s (2 * p + 2)) L R a b, stay_right (time_at h s p) (time_at h s (2 * p + 1)) (time_at h s (2 * p + 2)) L R a b))

  -- what a child that p changes places with is
  abbrev Moves : Scheduler → ℕ → ℕ → Type 0
  Moves s p q = (0 < q) × (parent q ≡ p) × (earlier (time_at h s q) (time_at h s p) ≡ true) × ((k : ℕ) → 0 < k → k < s.cells → parent k ≡ p → earlier (time_at h s k) (time_at h s q) ≡ false)

  moves : (s : Scheduler) (p : ℕ) → (child_of h s p ≡ p → ⊥) → Moves s p (child_of h s p)
  moves s p = child_elim h s p (λ q. (q ≡ p → ⊥) → Moves s p q)
      (λ a b n. (omega arith, omega arith, a, λ k K I e. of_children p k (λ (i : ℕ). earlier (time_at h s i) (time_at h s (2 * p + 1)) ≡ false) K e (earlier_irrefl (time_at h s (2 * p + 1))) (no_later_not_earlier (time_at h s (2 * p + 1)) (time_at h s (2 * p + 2)) b)))
      (λ a b c n. (omega arith, omega arith, b, λ k K I e. of_children p k (λ (i : ℕ). earlier (time_at h s i) (time_at h s (2 * p + 2)) ≡ false) K e (earlier_asym (time_at h s (2 * p + 2)) (time_at h s (2 * p + 1)) c) (earlier_irrefl (time_at h s (2 * p + 2)))))
      (λ a b n. absurd (n refl))

  pub down_orders : (k : ℕ) (s : Scheduler) (p : ℕ) → Inverse s → s.cells - p ≤ k → DownOk s.cells (time_at h s) p → Ordered h (down h k s p)
  unfolding swap_at
  down_orders zero s p inv le' ok = unfold down Ordered in λ k K I. ok.rest k K I (λ w. omega arith)
  down_orders (suc k) s p inv le' ok = elim (ℕ_discrete (child_of h s p) p) [
    | yes e ↦ rw (down_stays h (suc k) s p e) (down_ends s p ok e)
    | no n ↦
        let q = child_of h s p in
        let w = moves s p n in
        let J : q < s.cells = child_in_lem h s p n in
        let I : p < s.cells = omega (arith, child_after h s p) in
        let d : p ≡ q → ⊥ = λ x. n (sym x) in
        let m : DownOk s.cells (time_at h (swap_at s p q)) q =
        down_step s.cells (time_at h s) (time_at h (swap_at s p q)) (time_real h s real) p q w.0 J w.1 ok w.2 w.3 (time_swapped h s p q inv I J d) in
        let f : (swap_at s p q).cells - q ≤ k = omega (arith, w.0, w.1) in
        rw (down_goes h k s p n) (down_orders k (swap_at s p q) q (swap_inverse s p q inv I J d) f m)
  ]

-- ---- the update: all is in order but the updated cell, whose head went from `before` to `after`
module _ (h₀ h : ℕ → Head) (s : Scheduler) (cell : ℕ) (before after : Head)
    (real₀ : Real h₀) (real : Real h) (inv : Inverse s) (ordered : Ordered h₀ s) (in' : cell < s.cells)
    (was : h₀ cell ≡ before) (now' : h cell ≡ after) (same : (k : ℕ) → (k ≡ cell → ⊥) → h k ≡ h₀ k) where
  abbrev at : ℕ
  at = get_or s.lookups cell 0

  abbrev t₀ : ℕ → Head
  t₀ = time_at h₀ s

  abbrev t : ℕ → Head
  t = time_at h s

  at_in : at < s.cells
  at_in = inv.lookups_in cell in'

  t₀_at : t₀ at ≡ before
  t₀_at = time_in_lem h₀ s at at_in ∙ ap h₀ (inv.back cell in') ∙ was

  t_at : t at ≡ after
  t_at = time_in_lem h s at at_in ∙ ap h (inv.back cell in') ∙ now'

  others : (i : ℕ) → (i ≡ at → ⊥) → t i ≡ t₀ i
  others i d = elim (dec_le s.cells i) [
    | yes o ↦ time_out h s i o ∙ sym (time_out h₀ s i o)
    | no n ↦
        let I : i < s.cells = omega arith in
        time_in_lem h s i I ∙ same (get_or s.heap i 0) (λ e. d (sym (inv.there i I) ∙ ap (λ (x : ℕ). get_or s.lookups x 0) e)) ∙ sym (time_in_lem h₀ s i I)
  ]

  order : (k : ℕ) → 0 < k → k < s.cells → earlier (t₀ k) (t₀ (parent k)) ≡ false
  unfolding Ordered
  order = ordered

  -- the children of the updated index are no earlier than its parent
  over : (k : ℕ) → 0 < k → k < s.cells → parent k ≡ at → 0 < at → earlier (t k) (t (parent at)) ≡ false
  over k K I e p =
      rw (others k (λ w. omega arith), others (parent at) (λ w. omega arith))
      (none_later (t₀ (parent at)) (t₀ at) (t₀ k) (time_real h₀ s real₀ at) (order at p at_in) (rw e at (order k K I)))

  down_ok : earlier before after ≡ true → DownOk s.cells t at
  down_ok e = record {
    rest = λ k K I d. rw (others (parent k) d) (elim (ℕ_discrete k at) [
      | yes x ↦
          let b : is_nan_head before ≡ false = rw t₀_at at (time_real h₀ s real₀ at) in
          rw (x, t_at) (none_later (t₀ (parent at)) before after b (rw (x, t₀_at) at (order k K I)) (earlier_asym before after e))
      | no x ↦ rw (others k x) (order k K I)
    ]);
    over = over;
  }

  up_ok : earlier before after ≡ false → UpOk s.cells t at
  up_ok e = record {
    rest = λ k K I d. rw (others k d) (elim (ℕ_discrete (parent k) at) [
      | yes y ↦
          let b : is_nan_head before ≡ false = rw t₀_at at (time_real h₀ s real₀ at) in
          rw (y, t_at) (none_later after before (t₀ k) b e (rw (y, t₀_at) at (order k K I)))
      | no y ↦ rw (others (parent k) y) (order k K I)
    ]);
    over = over;
  }

  -- The theorem: the update puts the heap in order again.
  pub updated_ordered : Ordered h (updated h s cell before after)
  unfolding updated downshifted upshifted
  updated_ordered = by (earlier before after) refl
    where
      by : (b : Bool) → earlier before after ≡ b → Ordered h (updated h s cell before after)
      by true e = rw e (down_orders h real (s.cells - at) s at inv (omega arith) (down_ok e))
      by false e = rw e (up_orders h real at s at inv (omega arith) (up_ok e))

-- ---- in order, the root is the least
pub root_least : (h : ℕ → Head) (s : Scheduler) → Real h → Ordered h s → (i : ℕ) → i < s.cells → earlier (time_at h s i) (time_at h s 0) ≡ false
root_least h s real ordered i I = go i i (omega arith) I
  where
    step : (k : ℕ) → 0 < k → k < s.cells → earlier (time_at h s k) (time_at h s (parent k)) ≡ false
    step = unfold Ordered in ordered

    go : (m i : ℕ) → i ≤ m → i < s.cells → earlier (time_at h s i) (time_at h s 0) ≡ false
    go zero i le' I = let e : i ≡ 0 = omega arith in rw e (earlier_irrefl (time_at h s 0))
    go (suc m) i le' I = elim (ℕ_discrete i 0) [
      | yes e ↦ rw e (earlier_irrefl (time_at h s 0))
      | no n ↦ none_later (time_at h s 0) (time_at h s (parent i)) (time_at h s i) (time_real h s real (parent i)) (go m (parent i) (omega arith) (omega arith)) (step i (omega arith) I)
    ]
