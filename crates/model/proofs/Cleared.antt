-- The state that an accepted start begins with, every place cleared, is sound. Assumes nothing.
use Prim.Native.Nat.{ℕ, ◌+◌, ◌≤◌}
use mathlib.Core.Path.{◌≡◌, refl, ap, ◌∙◌}
use mathlib.Core.List.{[]}
use mathlib.Core.Bool.{true}
use native.Mathlib.Omega.{arith}
use native.Mathlib.Decide.{dec_le}
use lib.Dec.{T}
use lib.ListN.{length, get_or, replicate, length-replicate, get_or-replicate, get_or-eq_default}
use lib.Ieee.{binary64, of_bits, le, fits}
use lib.Ieee.Scale.{finite}
use Rattle.std.specs.Prelude.{None}
use Rattle.scheduler.specs.declared.Scheduler.{Scheduler}
use Rattle.model.specs.declared.Domain.{Domain}
use Rattle.order.specs.Numbers.{fzero}
use Rattle.scheduler.specs.Head.{Head}
use Rattle.scheduler.specs.Heap.{time_at, start_heap}
use Rattle.scheduler.specs.Standing.{Ordered}
use Rattle.scheduler.proofs.Laws.{time_in_lem, time_out}
use Rattle.scheduler.proofs.Inverse.{start_inverse}
use Rattle.model.specs.Grid.{cells}
use Rattle.model.specs.Events.{head_time, zero_p}
use Rattle.model.specs.State.{Row, none, zero_g, heads, live_at, has}
use Rattle.model.specs.Acts.{fine_grain}
use Rattle.model.specs.Sizes.{box_ok}
use Rattle.model.specs.Start.{empty, clear}
use Rattle.model.proofs.Sound.{Numbers, Side, Sound}
use Rattle.halting.proofs.Bools.{clash}
use Rattle.model.proofs.Grid.{cells_max}

abbrev empty_n : ℕ → Row ℕ
empty_n k = empty k 0

empty_numbers : (n k : ℕ) → Numbers n k (empty_n k)
unfolding has
empty_numbers n k = record { full = full'; below = λ x h. clash h; once = tt }
  where
    full' : 0 + length (replicate {A = ℕ} k 0) ≡ k
    full' = let e = length-replicate {A = ℕ} k 0 in omega (arith, e)

empty_side : (m n k : ℕ) → Side m n k (replicate m (empty_n k))
empty_side m n k = record { long = length-replicate m (empty_n k); each = λ i I. rw (get_or-replicate m i (empty_n k) none I) (empty_numbers n k) }

module _ (m : ℕ) {A : Type 0} (k : ℕ) (z : A) where
  pub empty_live : (i : ℕ) → live_at (replicate m (empty k z)) i ≡ []
  empty_live i = elim (dec_le m i) [
    | yes o ↦ ap (λ (r : Row A). r.live) (get_or-eq_default (replicate m (empty k z)) none (let e = length-replicate m (empty k z) in omega (arith, e)))
    | no h ↦ ap (λ (r : Row A). r.live) (get_or-replicate m i (empty k z) none (omega arith))
  ]

empty_heads : (m room c : ℕ) → heads (replicate m (empty room zero_p)) c ≡ None
unfolding heads
empty_heads m room c = ap head_time (empty_live m room zero_p c)

all_empty : (h : ℕ → Head) (s : Scheduler) → ((c : ℕ) → h c ≡ None) → (i : ℕ) → time_at h s i ≡ None
all_empty h s f i = elim (dec_le s.cells i) [
  | yes o ↦ time_out h s i o
  | no n ↦ time_in_lem h s i (omega arith) ∙ f (get_or s.heap i 0)
]

all_ordered : (h : ℕ → Head) (s : Scheduler) → ((c : ℕ) → h c ≡ None) → Ordered h s
unfolding Ordered
all_ordered h s f c p q = rw (all_empty h s f c) refl

zero_fine : fine_grain zero_g ≡ true
unfolding fine_grain of_bits
zero_fine = refl

pub zero_le : T (le fzero fzero)
unfolding le of_bits
zero_le = tt

pub zero_finite : T (finite fzero)
unfolding of_bits
zero_finite = tt

pub zero_fits : T (fits binary64 fzero)
unfolding fits of_bits
zero_fits = tt

start_cells : (n : ℕ) → (start_heap n).cells ≡ n
unfolding start_heap
start_cells n = refl

pub clear_sound : (b : Domain) (room n : ℕ) → box_ok b ≡ true → 16 ≤ room → room ≤ 256 → n ≤ 256 → Sound (clear b room n)
unfolding clear
clear_sound b room n h r r' N =
    let e = length-replicate n zero_g in
    record {
      box = h;
      room = (r, r');
      few = rw e N;
      clock = zero_finite;
      fit = zero_fits;
      grains = λ g G. rw (get_or-replicate n g zero_g zero_g (rw e at G)) (record { fine = zero_fine; past = zero_le });
      lists = rw e (record {
        homes = empty_side n (cells b) 8;
        members = empty_side (cells b) n 32;
        mutual' = λ i c I C. rw (empty_live n {A = ℕ} 8 0 i, empty_live (cells b) {A = ℕ} 32 0 c) (nothing c i);
      });
      long = length-replicate (cells b) (empty room zero_p);
      queues = λ c C. rw (get_or-replicate (cells b) c (empty room zero_p) none C) (record { full = let l = length-replicate room zero_p in omega (arith, l); rising = tt; held = tt });
      heap = record { cells = start_cells (cells b); inverse = start_inverse (cells b) (cells_max b h); ordered = all_ordered (heads (replicate (cells b) (empty room zero_p))) (start_heap (cells b)) (empty_heads (cells b) room) };
    }
  where
    nothing : (x y : ℕ) → has x [] ≡ has y []
    nothing x y = unfold has in refl
