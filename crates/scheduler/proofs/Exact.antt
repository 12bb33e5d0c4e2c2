-- 02, T-06: the bound is exact. For every number of cells there is a heap in order, and a change of one head, whose update makes as many swaps as the whole
-- part of log2(cells). Assumes nothing.
use mathlib.Core.Path.{◌≡◌, refl, sym, ap, ◌∙◌}
use mathlib.Core.Bool.{Bool, true, false, cond}
use Prim.Native.Nat.{ℕ, zero, suc, ◌+◌, ◌-◌, ◌^◌, ◌≤◌, ◌<◌}
use native.Mathlib.Nat.{one-le-pow, pow-suc}
use native.Mathlib.Omega.{arith}
use native.Mathlib.Decide.{dec_le, ℕ_discrete}
use lib.ListN.{get_or}
use lib.Dec.{eqb}
use lib.Ieee.{Float, of_bits, is_nan}
use borrow.Author.Tests.{eq-eqb, ne_eqb}
use Rattle.std.specs.Prelude.{Some, None}
use Rattle.order.specs.Numbers.{fzero}
use Rattle.scheduler.specs.declared.Scheduler.{Scheduler}
use Rattle.scheduler.specs.Head.{Head, earlier, is_nan_head}
use Rattle.scheduler.specs.Heap.{time_at, swap, swap_at, swaps_of, parent, parent_of, upshift_swaps, update_swaps, start_heap}
use Rattle.scheduler.specs.Standing.{Inverse, Ordered, Real}
use Rattle.scheduler.specs.Log2.{Log2}
use Rattle.scheduler.proofs.Laws.{time_in_lem, time_out, parent_early}
use Rattle.scheduler.proofs.Inverse.{swap_snd, swap_inverse, start_lookups, start_inverse}
use Rattle.scheduler.proofs.Swaps.{swaps_goes}
use Rattle.scheduler.proofs.Worst.{up_worst, log2_some, log2_one, log2_9, log2_256}

-- a heap of n cells, in order, in which one cell's head then changes: its update makes k swaps
pub record Needs (n k : ℕ) : Type 0 where
  pub scheduler : Scheduler
  pub before : ℕ → Head
  pub after : ℕ → Head
  pub cell : ℕ
  pub cells : scheduler.cells ≡ n
  pub inverse : Inverse scheduler
  pub real : Real before × Real after
  pub ordered : Ordered before scheduler
  pub cell_in : cell < n
  pub others : (c : ℕ) → (c ≡ cell → ⊥) → after c ≡ before c
  pub swaps : update_swaps after scheduler cell (before cell) (after cell) ≡ k

-- the one cell x has an event, at time t
abbrev alone : Float → ℕ → ℕ → Head
alone t x c = cond (eqb c x) (Some t) None

module _ (t : Float) (x : ℕ) where
  alone_there : alone t x x ≡ Some t
  alone_there = simp (eq-eqb x x refl)

  alone_else : (c : ℕ) → (c ≡ x → ⊥) → alone t x c ≡ None
  alone_else c n = simp (ne_eqb c x n)

  at_root : (c m : ℕ) → c ≡ 0 → c + 1 < 2 ^ suc m
  at_root c m z = omega (arith, one-le-pow m 2 (omega arith), pow-suc 2 m)

  -- it goes up to the root: from index c that is the whole part of log2(c + 1) swaps
  to_root : (k : ℕ) (s : Scheduler) (c : ℕ) → Inverse s → c < s.cells → get_or s.heap c 0 ≡ x → c ≤ k → c + 1 < 2 ^ suc (swaps_of (parent_of (alone t x)) k s c)
  unfolding swap_at
  to_root zero s c inv i e l = at_root c (swaps_of (parent_of (alone t x)) zero s c) (omega arith)
  to_root (suc k) s c inv i e l = elim (ℕ_discrete c 0) [
    | yes z ↦ at_root c (swaps_of (parent_of (alone t x)) (suc k) s c) z
    | no z ↦
        let h = alone t x in
        let p = parent c in
        let j : p < s.cells = omega arith in
        let d : p ≡ c → ⊥ = λ w. omega arith in
        let f : get_or s.heap p 0 ≡ x → ⊥ = λ w. d (sym (inv.there p j) ∙ ap (λ (y : ℕ). get_or s.lookups y 0) (w ∙ sym e) ∙ inv.there c i) in
        let u : time_at h s c ≡ Some t = time_in_lem h s c i ∙ ap h e ∙ alone_there in
        let v : time_at h s p ≡ None = time_in_lem h s p j ∙ alone_else (get_or s.heap p 0) f in
        let w : parent_of h s c ≡ p = parent_early h s.heap s.cells c i (rw (u, v) refl) in
        let g : get_or (swap s.heap c p) p 0 ≡ x = swap_snd s.heap c p (omega (arith, inv.heap_long, inv.room)) (omega (arith, inv.heap_long, inv.room)) (λ y. d (sym y)) ∙ e in
        let m = swaps_of (parent_of h) k (swap_at s c p) p in
        let o : swaps_of (parent_of h) (suc k) s c ≡ suc m = swaps_goes (parent_of h) k s c (λ y. d (sym w ∙ y)) ∙ ap (λ (q : ℕ). suc (swaps_of (parent_of h) k (swap_at s c q) q)) w in
        rw o (omega (arith, pow-suc 2 (suc m), to_root k (swap_at s c p) p (swap_inverse s c p inv i j (λ y. d (sym y))) j g (omega arith)))
  ]

-- The theorem: a start's heap needs as many, whatever the number of cells: no cell has an event, and the last gets one.
pub needs : (n k : ℕ) → n ≤ 256 → Log2 n k → Needs n k
unfolding start_heap Real Ordered update_swaps upshift_swaps is_nan of_bits
needs n k r l =
    let i : 0 < n = log2_some n k l in
    let x = n - 1 in
    let s = start_heap n in
    let h = alone fzero x in
    let inv : Inverse s = start_inverse n r in
    let at : get_or s.lookups x 0 ≡ x = start_lookups n x r (omega arith) in
    let there : get_or s.heap x 0 ≡ x = ap (λ (y : ℕ). get_or s.heap y 0) (sym at) ∙ inv.back x (omega arith) in
    let m = swaps_of (parent_of h) x s x in
    let g : Log2 n m = record { no_more = omega (arith, up_worst h x s x); no_less = omega (arith, to_root fzero x x s x inv (omega arith) there (omega arith)) } in
    record {
      scheduler = s;
      before = λ c. None;
      after = h;
      cell = x;
      cells = refl;
      inverse = inv;
      real = (λ c. refl, real-alone x);
      ordered = λ c p q. none s c (parent c);
      cell_in = omega arith;
      others = λ c d. alone_else fzero x c d;
      swaps = ap (λ (y : ℕ). swaps_of (parent_of h) y s y) at ∙ log2_one n m k g l;
    }
  where
    real-alone : (x c : ℕ) → is_nan_head (alone fzero x c) ≡ false
    real-alone x c = by (eqb c x)
      where
        by : (b : Bool) → is_nan_head (cond b (Some fzero) None) ≡ false
        by true = refl
        by false = refl

    none : (s : Scheduler) (i j : ℕ) → earlier (time_at (λ c. None) s i) (time_at (λ c. None) s j) ≡ false
    none s i j = rw (nothing s i) refl
      where
        nothing : (s : Scheduler) (i : ℕ) → time_at (λ c. None) s i ≡ None
        nothing s i = elim (dec_le s.cells i) [ yes o ↦ time_out (λ c. None) s i o | no n ↦ time_in_lem (λ c. None) s i (omega arith) ]

-- 3 swaps for 9 cells and 8 for 256
pub needs_9 : Needs 9 3
needs_9 = needs 9 3 (omega arith) log2_9

pub needs_256 : Needs 256 8
needs_256 = needs 256 8 (omega arith) log2_256
