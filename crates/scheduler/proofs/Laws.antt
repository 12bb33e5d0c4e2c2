-- Laws of the definitions of `specs/Heap.antt` that the functions' proofs cite. Assumes nothing.
use mathlib.Core.Path.{◌≡◌, refl, sym, ap, ◌∙◌}
use mathlib.Core.Bool.{Bool, true, false, cond, ◌&&◌}
use mathlib.Core.List.{List, [], ◌∷◌}
use Prim.Native.Nat.{ℕ, zero, suc, ◌+◌, ◌-◌, ◌*◌, ◌≤◌, ◌<◌}
use native.Mathlib.Omega.{arith}
use native.Mathlib.Decide.{dec_le, ℕ_discrete}
use lib.ListN.{length, get_or, take}
use lib.Dec.{ltb}
use borrow.Author.Tests.{lt-ltb, le-ltb, eq-eqb, ne_eqb}
use Rattle.std.specs.Prelude.{None}
use Rattle.std.specs.List.{swap as std_swap}
use Rattle.std.proofs.lemmas.List.{get_or-take, get_or_default, length-take-le}
use Rattle.scheduler.specs.declared.Scheduler.{Scheduler}
use Rattle.scheduler.specs.Head.{Head, earlier, no_later}
use Rattle.scheduler.specs.Heap.{time_in, time_at, swap, swap_at, child_in, child_of, down, downshifted, parent, parent_in, parent_of, up, upshifted}
use Rattle.halting.proofs.Bools.{differ}

-- ---- the time at an index
pub time_in_lem : (h : ℕ → Head) (s : Scheduler) (i : ℕ) → i < s.cells → time_at h s i ≡ h (get_or s.heap i 0)
unfolding time_in
time_in_lem h s i lt' = simp (lt-ltb i s.cells lt')

pub time_out : (h : ℕ → Head) (s : Scheduler) (i : ℕ) → s.cells ≤ i → time_at h s i ≡ None
unfolding time_in
time_out h s i le' = simp (le-ltb i s.cells le')

-- ---- the choice of a child
pub chosen_elim : (x y z w : Bool) (l r p : ℕ) (P : ℕ → Type 0)
    → (x ≡ true → y ≡ true → P l)
    → (x && y ≡ false → z ≡ true → w ≡ true → P r)
    → (x && y ≡ false → z && w ≡ false → P p)
    → P (cond (x && y) l (cond (z && w) r p))
chosen_elim true true z w l r p P a b c = a refl refl
chosen_elim true false true true l r p P a b c = b refl refl refl
chosen_elim true false true false l r p P a b c = c refl refl
chosen_elim true false false w l r p P a b c = c refl refl
chosen_elim false y true true l r p P a b c = b refl refl refl
chosen_elim false y true false l r p P a b c = c refl refl
chosen_elim false y false w l r p P a b c = c refl refl

module _ (h : ℕ → Head) (s : Scheduler) (p : ℕ) where
  abbrev tp : Head
  tp = time_at h s p

  abbrev tl : Head
  tl = time_at h s (2 * p + 1)

  abbrev tr : Head
  tr = time_at h s (2 * p + 2)

  pub child_elim : (P : ℕ → Type 0)
      → (earlier tl tp ≡ true → no_later tl tr ≡ true → P (2 * p + 1))
      → (earlier tl tp && no_later tl tr ≡ false → earlier tr tp ≡ true → earlier tr tl ≡ true → P (2 * p + 2))
      → (earlier tl tp && no_later tl tr ≡ false → earlier tr tp && earlier tr tl ≡ false → P p)
      → P (child_of h s p)
  unfolding child_in
  child_elim P = chosen_elim (earlier tl tp) (no_later tl tr) (earlier tr tp) (earlier tr tl) (2 * p + 1) (2 * p + 2) p P

  -- where the child is another index, it is further on
  pub child_after : p ≤ child_of h s p
  child_after = child_elim (λ q. p ≤ q) (λ a b. omega arith) (λ a b c. omega arith) (λ a b. omega arith)

  -- and in use: past the end is empty, and empty is earlier than nothing
  pub child_in_lem : (child_of h s p ≡ p → ⊥) → child_of h s p < s.cells
  child_in_lem = child_elim (λ q. (q ≡ p → ⊥) → q < s.cells)
      (λ a b n. below (2 * p + 1) a)
      (λ a b c n. below (2 * p + 2) b)
      (λ a b n. absurd (n refl))
    where
      below : (i : ℕ) → earlier (time_at h s i) tp ≡ true → i < s.cells
      below i a = elim (dec_le s.cells i) [
        | yes o ↦ differ a (ap (λ (x : Head). earlier x tp) (time_out h s i o))
        | no n ↦ omega arith
      ]

-- ---- the downshift
-- past the cells in use there is nothing to change places with
pub child_out : (h : ℕ → Head) (s : Scheduler) (p : ℕ) → s.cells ≤ p → child_of h s p ≡ p
child_out h s p o = elim (ℕ_discrete (child_of h s p) p) [ yes e ↦ e | no n ↦ absurd (omega (arith, child_after h s p, child_in_lem h s p n)) ]

pub down_stays : (h : ℕ → Head) (k : ℕ) (s : Scheduler) (p : ℕ) → child_of h s p ≡ p → down h k s p ≡ s
unfolding down
down_stays h zero s p e = refl
down_stays h (suc k) s p e = simp (eq-eqb (child_of h s p) p e)

pub down_goes : (h : ℕ → Head) (k : ℕ) (s : Scheduler) (p : ℕ) → (child_of h s p ≡ p → ⊥) → down h (suc k) s p ≡ down h k (swap_at s p (child_of h s p)) (child_of h s p)
unfolding down
down_goes h k s p n = simp (ne_eqb (child_of h s p) p n)

pub swap_cells : (s : Scheduler) (a b : ℕ) → (swap_at s a b).cells ≡ s.cells
unfolding swap_at
swap_cells s a b = refl

pub further : (h : ℕ → Head) (s : Scheduler) (p k : ℕ) → s.cells - p ≤ suc k → (child_of h s p ≡ p → ⊥) → (swap_at s p (child_of h s p)).cells - child_of h s p ≤ k
further h s p k le' n = rw swap_cells (omega (arith, child_after h s p, ne-lt (child_of h s p) p (child_after h s p) n))
  where
    ne-lt : (q p : ℕ) → p ≤ q → (q ≡ p → ⊥) → p < q
    ne-lt q p l n = omega arith

-- any number of steps does that is no less than the cells from p on
pub down_fuel : (h : ℕ → Head) (k j : ℕ) (s : Scheduler) (p : ℕ) → s.cells - p ≤ k → s.cells - p ≤ j → down h k s p ≡ down h j s p
down_fuel h zero j s p a b = down_stays h zero s p (child_out h s p (omega arith)) ∙ sym (down_stays h j s p (child_out h s p (omega arith)))
down_fuel h (suc k) zero s p a b = down_stays h (suc k) s p (child_out h s p (omega arith)) ∙ sym (down_stays h zero s p (child_out h s p (omega arith)))
down_fuel h (suc k) (suc j) s p a b = elim (ℕ_discrete (child_of h s p) p) [
  | yes e ↦ down_stays h (suc k) s p e ∙ sym (down_stays h (suc j) s p e)
  | no n ↦ down_goes h k s p n ∙ down_fuel h k j (swap_at s p (child_of h s p)) (child_of h s p) (further h s p k a n) (further h s p j b n) ∙ sym (down_goes h j s p n)
]

pub downshifted_out : (h : ℕ → Head) (s : Scheduler) (p : ℕ) → s.cells ≤ p → downshifted h s p ≡ s
unfolding downshifted
downshifted_out h s p o = down_stays h (s.cells - p) s p (child_out h s p o)

pub downshifted_stays : (h : ℕ → Head) (s : Scheduler) (p : ℕ) → child_of h s p ≡ p → downshifted h s p ≡ s
unfolding downshifted
downshifted_stays h s p e = down_stays h (s.cells - p) s p e

pub downshifted_goes : (h : ℕ → Head) (s : Scheduler) (p : ℕ) → p < s.cells → (child_of h s p ≡ p → ⊥)
    → downshifted h s p ≡ downshifted h (swap_at s p (child_of h s p)) (child_of h s p)
unfolding downshifted
downshifted_goes h s p in' n =
    let q = child_of h s p in
    let s' = swap_at s p q in
    let e : s.cells - p ≡ suc (s.cells - p - 1) = omega arith in
    rw e (down_goes h (s.cells - p - 1) s p n
    ∙ down_fuel h (s.cells - p - 1) (s'.cells - q) s' q (further h s p (s.cells - p - 1) (omega arith) n) (omega arith))

-- ---- the upshift
pub up_stays : (h : ℕ → Head) (k : ℕ) (s : Scheduler) (c : ℕ) → parent_of h s c ≡ c → up h k s c ≡ s
unfolding up
up_stays h zero s c e = refl
up_stays h (suc k) s c e = simp (eq-eqb (parent_of h s c) c e)

pub up_goes : (h : ℕ → Head) (k : ℕ) (s : Scheduler) (c : ℕ) → (parent_of h s c ≡ c → ⊥) → up h (suc k) s c ≡ up h k (swap_at s c (parent_of h s c)) (parent_of h s c)
unfolding up
up_goes h k s c n = simp (ne_eqb (parent_of h s c) c n)

-- the parent where the index is in use and its own time is earlier
module _ (h : ℕ → Head) (heap : List ℕ) (n c : ℕ) where
  pub parent_out : n ≤ c → parent_in h heap n c ≡ c
  unfolding parent_in
  parent_out o = simp (le-ltb c n o)

  pub parent_late : c < n → earlier (time_in h heap n c) (time_in h heap n (parent c)) ≡ false → parent_in h heap n c ≡ c
  unfolding parent_in
  parent_late i e = simp (lt-ltb c n i, e)

  pub parent_early : c < n → earlier (time_in h heap n c) (time_in h heap n (parent c)) ≡ true → parent_in h heap n c ≡ parent c
  unfolding parent_in
  parent_early i e = simp (lt-ltb c n i, e)

  -- the root's parent is itself
  pub parent_root : c ≡ 0 → parent_in h heap n c ≡ c
  unfolding parent_in
  parent_root z = go (ltb c n && earlier (time_in h heap n c) (time_in h heap n (parent c)))
    where
      go : (b : Bool) → cond b (parent c) c ≡ c
      go true = omega arith
      go false = refl

pub parent_elim : (h : ℕ → Head) (s : Scheduler) (c : ℕ) (P : ℕ → Type 0)
    → (c < s.cells → earlier (time_at h s c) (time_at h s (parent c)) ≡ true → P (parent c))
    → ((c < s.cells → earlier (time_at h s c) (time_at h s (parent c)) ≡ false) → P c)
    → P (parent_of h s c)
parent_elim h s c P a b = elim (dec_le s.cells c) [
  | yes o ↦ rw (parent_out h s.heap s.cells c o) (b (λ i. absurd (omega arith)))
  | no n ↦ by (earlier (time_at h s c) (time_at h s (parent c))) refl (omega arith)
]
  where
    by : (x : Bool) → earlier (time_at h s c) (time_at h s (parent c)) ≡ x → c < s.cells → P (parent_of h s c)
    by true e i = rw (parent_early h s.heap s.cells c i e) (a i e)
    by false e i = rw (parent_late h s.heap s.cells c i e) (b (λ _. e))

-- an index's parent is nearer the root, or itself
nearer : (h : ℕ → Head) (s : Scheduler) (c k : ℕ) → c ≤ suc k → (parent_of h s c ≡ c → ⊥) → parent_of h s c ≤ k
nearer h s c k a = parent_elim h s c (λ q. (q ≡ c → ⊥) → q ≤ k) (λ i e n. omega arith) (λ e n. absurd (n refl))

-- any number of steps does that is no less than the index
pub up_fuel : (h : ℕ → Head) (k j : ℕ) (s : Scheduler) (c : ℕ) → c ≤ k → c ≤ j → up h k s c ≡ up h j s c
up_fuel h zero j s c a b = up_stays h zero s c (parent_root h s.heap s.cells c (omega arith)) ∙ sym (up_stays h j s c (parent_root h s.heap s.cells c (omega arith)))
up_fuel h (suc k) zero s c a b = up_stays h (suc k) s c (parent_root h s.heap s.cells c (omega arith)) ∙ sym (up_stays h zero s c (parent_root h s.heap s.cells c (omega arith)))
up_fuel h (suc k) (suc j) s c a b = elim (ℕ_discrete (parent_of h s c) c) [
  | yes e ↦ up_stays h (suc k) s c e ∙ sym (up_stays h (suc j) s c e)
  | no n ↦ up_goes h k s c n ∙ up_fuel h k j (swap_at s c (parent_of h s c)) (parent_of h s c) (nearer h s c k a n) (nearer h s c j b n) ∙ sym (up_goes h j s c n)
]

pub upshifted_stays : (h : ℕ → Head) (s : Scheduler) (c : ℕ) → parent_of h s c ≡ c → upshifted h s c ≡ s
unfolding upshifted
upshifted_stays h s c e = up_stays h c s c e

-- an index that changes places with its parent is in use, and its parent is nearer the root
pub parent_before : (h : ℕ → Head) (s : Scheduler) (c : ℕ) → (parent_of h s c ≡ c → ⊥) → (c < s.cells) × (parent_of h s c < c)
parent_before h s c =
    parent_elim h s c (λ q. (q ≡ c → ⊥) → (c < s.cells) × (q < c)) (λ i e n. (i, omega arith)) (λ e n. absurd (n refl))

pub upshifted_goes : (h : ℕ → Head) (s : Scheduler) (c : ℕ) → (parent_of h s c ≡ c → ⊥) → upshifted h s c ≡ upshifted h (swap_at s c (parent_of h s c)) (parent_of h s c)
unfolding upshifted
upshifted_goes h s c n =
    let q = parent_of h s c in
    let b = parent_before h s c n in
    let z : c ≡ suc (c - 1) = omega arith in
    ap (λ (k : ℕ). up h k s c) z
    ∙ up_goes h (c - 1) s c n
    ∙ up_fuel h (c - 1) q (swap_at s c q) q (omega arith) (omega arith)

-- ---- a heap whose cells in use stand alone
module _ (h : ℕ → Head) (heap : List ℕ) (n : ℕ) (N : n ≤ length heap) where
  time_taken : (i : ℕ) → time_in h (take n heap) (length (take n heap)) i ≡ time_in h heap n i
  unfolding time_in
  time_taken i = simp (length-take-le n heap N) (elim (dec_le n i) [
    | yes o ↦ simp (le-ltb i n o)
    | no l ↦ rw (get_or-take n heap i 0 (omega arith)) refl
  ])

  pub child_taken : (p : ℕ) → child_in h (take n heap) (length (take n heap)) p ≡ child_in h heap n p
  unfolding child_in
  child_taken p = rw (time_taken p, time_taken (2 * p + 1), time_taken (2 * p + 2)) refl

  pub parent_taken : (c : ℕ) → parent_in h (take n heap) (length (take n heap)) c ≡ parent_in h heap n c
  unfolding parent_in
  parent_taken c = rw (time_taken c, time_taken (parent c), length-take-le n heap N) refl

-- ---- two elements in each other's place, as std's own word has it
pub swapped : (l : List ℕ) (a b : ℕ) → a < length l → b < length l → std_swap l a b ≡ swap l a b
swapped [] a b i j = absurd (omega arith)
swapped (x ∷ xs) a b i j = rw (get_or_default (x ∷ xs) a x 0 i, get_or_default (x ∷ xs) b x 0 j) refl
