-- What the head of an empty list moves, if it reads as `f64_max`, which was 01's rule (scheduler, Agrees): nothing. Where every pending event passes refusal 5, each act on a queue
-- leaves the state that it left under that rule; and check 10 answers what it answered, of any state. Assumes nothing.
use Prim.Native.Nat.{ℕ, zero, suc, ◌+◌}
use mathlib.Core.Path.{◌≡◌, refl, ap, ◌∙◌}
use mathlib.Core.List.{List, [], ◌∷◌, ◌++◌}
use mathlib.Core.Bool.{Bool, true, false, not, ◌&&◌, ◌||◌}
use lib.Dec.{eqb}
use lib.ListN.{length, set, drop, replicate}
use lib.Ieee.{Float, lt}
use lib.Ieee.Bits.{is_true}
use Rattle.halting.specs.Every.{every, All}
use Rattle.halting.proofs.Bools.{and_l, and_r}
use Rattle.order.specs.Numbers.{f64_max}
use Rattle.scheduler.specs.declared.Scheduler.{Scheduler}
use Rattle.scheduler.specs.Head.{Head}
use Rattle.scheduler.specs.Heap.{parent}
use Rattle.scheduler.proofs.Agrees.{old_time, old_updated, was, Below, earlier_as_before, updated_as_before}
use Rattle.model.specs.declared.Place.{Place}
use Rattle.model.specs.Events.{event_of, insert_by, keep_by, gone_by, fine_place, head_time, zero_p}
use Rattle.model.specs.State.{Row, row, none, State, listed, queue, live_at, heads, requeued, with_queues, with_clock}
use Rattle.model.specs.Acts.{queue_row, inserted, cancelled, first, head, taken}
use Rattle.model.specs.Check.{all, walk, shaped, settled, linked, rising, named, kind_ok, held, queue_ok, queued, inverse, in_order, heaped, standing}
use Rattle.model.proofs.Lists.{set_case}
use Rattle.model.proofs.Queue.{fine_top, all_insert, all_keep}
use Rattle.model.proofs.Turns.{every_same}

-- ---- 01's rule
abbrev pub old_head : List Place → Float
old_head [] = f64_max
old_head (x ∷ xs) = x.time

abbrev pub old_heads : List (Row Place) → ℕ → Float
old_heads qs c = old_head (live_at qs c)

abbrev pub old_requeued : ℕ → Row Place → State → State
old_requeued c r s =
    let qs = set s.queues c r in
    with_queues qs (old_updated (old_heads qs) s.sched c (old_heads s.queues c) (old_head r.live)) s

abbrev pub old_inserted : ℕ → Place → State → State
old_inserted c e s = old_requeued c (row (insert_by e (queue s c)) (drop 1 (queue_row s c).spare)) s

abbrev pub old_cancelled : ℕ → ℕ → State → State
old_cancelled g c s = old_requeued c (row (keep_by g (queue s c)) (replicate (gone_by g (queue s c)) zero_p ++ (queue_row s c).spare)) s

abbrev pub old_taken : State → State
old_taken s = with_clock (head s).time (old_requeued (first s) (row (drop 1 (queue s (first s))) (zero_p ∷ (queue_row s (first s)).spare)) s)

abbrev pub old_order : (ℕ → Float) → Scheduler → ℕ → Bool
old_order h k i = eqb i 0 || not (lt (old_time h k i) (old_time h k (parent i)))

abbrev pub old_heaped : (ℕ → Float) → Scheduler → Bool
old_heaped h k = inverse k.cells k.heap k.lookups && (inverse k.cells k.lookups k.heap && every (old_order h k) k.cells 0)

abbrev pub old_standing : State → Bool
old_standing s = let n = s.sched.cells in
    shaped s && (settled s.mark s.clock s.box n s.grains && (linked (length s.grains) n s.homes s.members &&
    (queued s.clock s.room n s.members s.queues && old_heaped (old_heads s.queues) s.sched)))

-- ---- heads as that rule read them
was_head : (l : List Place) → was (head_time l) ≡ old_head l
was_head [] = refl
was_head (x ∷ xs) = refl

was_heads : (qs : List (Row Place)) → ◌≡◌ {A = ℕ → Float} (λ (k : ℕ). was (heads qs k)) (old_heads qs)
unfolding heads
was_heads qs = λ i k. was_head (live_at qs k) i

-- ---- the acts, where every pending event passes refusal 5
abbrev pub Fine : List Place → Type 0
Fine l = All (λ (e : Place). fine_place e ≡ true) l

abbrev pub AllFine : State → Type 0
AllFine s = (c : ℕ) → Fine (queue s c)

low : (l : List Place) → Fine l → Below (head_time l)
low [] a = tt
low (x ∷ xs) a = is_true _ (fine_top x a.0)

pub fine_set : (qs : List (Row Place)) (c : ℕ) (r : Row Place) → ((k : ℕ) → Fine (live_at qs k)) → Fine r.live → (k : ℕ) → Fine (live_at (set qs c r) k)
fine_set qs c r f p k = set_case (λ (x : Row Place). Fine x.live) none qs c k r (λ e. p) (f k)

pub fine_tail : (l : List Place) → Fine l → Fine (drop 1 l)
fine_tail [] a = tt
fine_tail (x ∷ xs) a = a.1

module _ (s : State) (fine : AllFine s) where
  pub requeued_as_before : (c : ℕ) (r : Row Place) → Fine r.live → requeued c r s ≡ old_requeued c r s
  unfolding requeued heads
  requeued_as_before c r p =
      let qs = set s.queues c r in
      ap (λ (k : Scheduler). with_queues qs k s)
      (updated_as_before (heads qs) (λ k. low (live_at qs k) (fine_set s.queues c r fine p k)) s.sched c (heads s.queues c) (head_time r.live) (low (queue s c) (fine c)) (low r.live p)
      ∙ ap (λ (h : ℕ → Float). old_updated h s.sched c (was (heads s.queues c)) (was (head_time r.live))) (was_heads qs)
      ∙ ap (λ (t : Float). old_updated (old_heads qs) s.sched c t (was (head_time r.live))) (was_head (queue s c))
      ∙ ap (λ (t : Float). old_updated (old_heads qs) s.sched c (old_head (queue s c)) t) (was_head r.live))

  -- an insertion, a cancelling, and taking the head
  pub inserted_as_before : (c : ℕ) (e : Place) → fine_place e ≡ true → inserted c e s ≡ old_inserted c e s
  inserted_as_before c e f = requeued_as_before c _ (all_insert (λ x. fine_place x ≡ true) e (queue s c) f (fine c))

  pub cancelled_as_before : (g c : ℕ) → cancelled g c s ≡ old_cancelled g c s
  unfolding cancelled
  cancelled_as_before g c = requeued_as_before c _ (all_keep (λ x. fine_place x ≡ true) g (queue s c) (fine c))

  pub taken_as_before : taken s ≡ old_taken s
  unfolding taken
  taken_as_before = ap (with_clock (head s).time) (requeued_as_before (first s) _ (fine_tail (queue s (first s)) (fine (first s))))

-- ---- check 10, of any state: where the queues pass, every pending event is fine, and where they do not, the heap is not asked
row_fine : (n c : ℕ) (m : List ℕ) (l : List Place) → all (held n c m) l ≡ true → Fine l
row_fine n c m [] h = tt
row_fine n c m (x ∷ xs) h = (and_l (fine_place x) (named n c m (event_of x.kind x)) (and_r (kind_ok x) _ (and_l (held n c m x) _ h)), row_fine n c m xs (and_r (held n c m x) _ h))

walk_fine : (t : Float) (room n : ℕ) (f : ℕ → List ℕ) (i : ℕ) (qs : List (Row Place)) → walk (λ c r. queue_ok t room n c (f c) r) i qs ≡ true → (k : ℕ) → Fine (live_at qs k)
unfolding walk
walk_fine t room n f i [] e k = tt
walk_fine t room n f i (r ∷ qs) e zero =
    row_fine n i (f i) r.live (and_r (rising t r.live) _ (and_r (eqb (length r.live + length r.spare) room) _ (and_l (queue_ok t room n i (f i) r) _ e)))
walk_fine t room n f i (r ∷ qs) e (suc k) = walk_fine t room n f (i + 1) qs (and_r (queue_ok t room n i (f i) r) _ e) k

pub queued_fine : (s : State) → queued s.clock s.room s.sched.cells s.members s.queues ≡ true → AllFine s
unfolding queued
queued_fine s e = walk_fine s.clock s.room s.sched.cells (listed s) 0 s.queues (and_l _ _ e)

heaped_as_before : (h : ℕ → Head) (k : Scheduler) → ((c : ℕ) → Below (h c)) → heaped h k.cells k.heap k.lookups ≡ old_heaped (λ c. was (h c)) k
unfolding heaped
heaped_as_before h k below =
    ap (λ (b : Bool). inverse k.cells k.heap k.lookups && (inverse k.cells k.lookups k.heap && b))
    (every_same (in_order h k.heap k.cells) (old_order (λ c. was (h c)) k) k.cells 0 (λ i a b. ap (λ (x : Bool). eqb i 0 || not x) (earlier_as_before h below k i (parent i))))

pub standing_as_before : (s : State) → standing s ≡ old_standing s
unfolding standing
standing_as_before s =
    ap (λ (b : Bool). shaped s && (settled s.mark s.clock s.box n s.grains && (linked (length s.grains) n s.homes s.members && b)))
    (by (queued s.clock s.room n s.members s.queues) refl)
  where
    n : ℕ
    n = s.sched.cells

    by : (q : Bool) → queued s.clock s.room s.sched.cells s.members s.queues ≡ q
        → ◌≡◌ {A = Bool} (q && heaped (heads s.queues) s.sched.cells s.sched.heap s.sched.lookups) (q && old_heaped (old_heads s.queues) s.sched)
    by false e = refl
    by true e =
        heaped_as_before (heads s.queues) s.sched (unfold heads in λ c. low (queue s c) (queued_fine s e c))
        ∙ ap (λ (h : ℕ → Float). old_heaped h s.sched) (was_heads s.queues)
