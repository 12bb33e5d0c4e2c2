-- Where one cell's row of events stands, and where a heap index goes first. Assumes nothing: these are definitions.
use Rattle.std.specs.Prelude.{ℕ, ◌≤◌, ◌≡◌, Bool, cond, List, length, Float}
use Rattle.scheduler.specs.Head.{Head}
use Rattle.scheduler.specs.Heap.{child_in, parent_in}
use Rattle.scheduler.specs.Inside.{head_in}
use Rattle.tables.specs.declared.Sizes.{Sizes}
use Rattle.tables.specs.Parts.{queue_part, events_part}
use Rattle.acts.specs.declared.queue.CellRow.{CellRow}

-- the parts of the two tables that cell c's row is, which are within them, and its head
pub record RowOf (z : Sizes) (nums : List ℕ) (reals : List Float) (c : ℕ) (k : CellRow) : Type 0 where
  pub nums_are : k.nums ≡ queue_part z c
  pub reals_are : k.reals ≡ events_part z c
  pub head_is : k.head ≡ head_in reals nums z.room c
  pub nums_on : k.nums.from ≤ k.nums.to
  pub nums_in : k.nums.to ≤ length nums
  pub reals_on : k.reals.from ≤ k.reals.to
  pub reals_in : k.reals.to ≤ length reals

-- the index that the cell at a heap index changes places with, or that index: a child's if its head is later than it was, otherwise the parent's
abbrev pub shifted_to : (ℕ → Head) → List ℕ → ℕ → ℕ → Bool → ℕ
shifted_to h heap n at later = cond later (child_in h heap n at) (parent_in h heap n at)
