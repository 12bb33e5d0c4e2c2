-- 01, "Heap (scheduler.rs)", with the heads of 02, T-02: the heap of cell numbers with its lookups, what one shift and one update make of it, and with how many swaps.
-- `h` gives each cell's head. Assumes nothing: these are definitions.
use Rattle.std.specs.Prelude.{cond, ◌&&◌, List, ℕ, zero, suc, ◌+◌, ◌-◌, ◌*◌, ◌/◌, get_or, set, replicate, ltb, eqb, None}
use Rattle.scheduler.specs.declared.Scheduler.{Scheduler}
use Rattle.scheduler.specs.Head.{Head, earlier, no_later}

-- the head at a heap index; "a heap index past the end is likewise empty"
unfoldable pub time_in : (ℕ → Head) → List ℕ → ℕ → ℕ → Head
time_in h heap n i = cond (ltb i n) (h (get_or heap i 0)) None

abbrev pub time_at : (ℕ → Head) → Scheduler → ℕ → Head
time_at h s i = time_in h s.heap s.cells i

-- two elements change places
abbrev pub swap : List ℕ → ℕ → ℕ → List ℕ
swap l a b = set (set l a (get_or l b 0)) b (get_or l a 0)

-- the cells at two heap indices change places, in the heap and in the lookups
unfoldable pub swap_at : Scheduler → ℕ → ℕ → Scheduler
swap_at s a b = record { heap = swap s.heap a b; lookups = swap s.lookups (get_or s.heap a 0) (get_or s.heap b 0); cells = s.cells }

-- the swaps of a shift of at most k steps (02, T-06): one for each step from an index to the `next`, and none where that is the index itself
unfoldable pub swaps_of : (Scheduler → ℕ → ℕ) → ℕ → Scheduler → ℕ → ℕ
swaps_of next zero s i = 0
swaps_of next (suc k) s i = cond (eqb (next s i) i) 0 (suc (swaps_of next k (swap_at s i (next s i)) (next s i)))

-- of a parent p and its children l and r: l if left < parent and left ≤ right, else r if right < parent and right < left, else p itself
abbrev pub chosen : Head → Head → Head → ℕ → ℕ → ℕ → ℕ
chosen tp tl tr p l r = cond (earlier tl tp && no_later tl tr) l (cond (earlier tr tp && earlier tr tl) r p)

-- the child that p changes places with, or p itself
unfoldable pub child_in : (ℕ → Head) → List ℕ → ℕ → ℕ → ℕ
child_in h heap n p = chosen (time_in h heap n p) (time_in h heap n (2 * p + 1)) (time_in h heap n (2 * p + 2)) p (2 * p + 1) (2 * p + 2)

abbrev pub child_of : (ℕ → Head) → Scheduler → ℕ → ℕ
child_of h s p = child_in h s.heap s.cells p

-- a downshift of at most k steps, and of as many as the cells from p on; and its swaps
unfoldable pub down : (ℕ → Head) → ℕ → Scheduler → ℕ → Scheduler
down h zero s p = s
down h (suc k) s p = cond (eqb (child_of h s p) p) s (down h k (swap_at s p (child_of h s p)) (child_of h s p))

unfoldable pub downshifted : (ℕ → Head) → Scheduler → ℕ → Scheduler
downshifted h s p = down h (s.cells - p) s p

unfoldable pub downshift_swaps : (ℕ → Head) → Scheduler → ℕ → ℕ
downshift_swaps h s p = swaps_of (child_of h) (s.cells - p) s p

-- the parent's index
abbrev pub parent : ℕ → ℕ
parent c = (c - 1) / 2

-- the parent that c changes places with, or c itself
unfoldable pub parent_in : (ℕ → Head) → List ℕ → ℕ → ℕ → ℕ
parent_in h heap n c = cond (ltb c n && earlier (time_in h heap n c) (time_in h heap n (parent c))) (parent c) c

abbrev pub parent_of : (ℕ → Head) → Scheduler → ℕ → ℕ
parent_of h s c = parent_in h s.heap s.cells c

-- an upshift of at most k steps, and of as many as the index; and its swaps
unfoldable pub up : (ℕ → Head) → ℕ → Scheduler → ℕ → Scheduler
up h zero s c = s
up h (suc k) s c = cond (eqb (parent_of h s c) c) s (up h k (swap_at s c (parent_of h s c)) (parent_of h s c))

unfoldable pub upshifted : (ℕ → Head) → Scheduler → ℕ → Scheduler
upshifted h s c = up h c s c

unfoldable pub upshift_swaps : (ℕ → Head) → Scheduler → ℕ → ℕ
upshift_swaps h s c = swaps_of (parent_of h) c s c

-- down if before < after, otherwise up
unfoldable pub updated : (ℕ → Head) → Scheduler → ℕ → Head → Head → Scheduler
updated h s cell before after =
    cond (earlier before after) (downshifted h s (get_or s.lookups cell 0)) (upshifted h s (get_or s.lookups cell 0))

-- and the swaps of that shift
unfoldable pub update_swaps : (ℕ → Head) → Scheduler → ℕ → Head → Head → ℕ
update_swaps h s cell before after =
    cond (earlier before after) (downshift_swaps h s (get_or s.lookups cell 0)) (upshift_swaps h s (get_or s.lookups cell 0))

-- 0, 1, .., then zeros
unfoldable pub numbered : ℕ → List ℕ → List ℕ
numbered zero l = l
numbered (suc i) l = set (numbered i l) i i

unfoldable pub start_heap : ℕ → Scheduler
start_heap n = record { heap = numbered n (replicate 256 0); lookups = numbered n (replicate 256 0); cells = n }
