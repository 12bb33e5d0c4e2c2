-- What the functions of this crate, and those that update a heap in its table, say to each other. Nobody needs it to know what the heap is (Heap).
-- Assumes nothing: these are definitions.
use Rattle.std.specs.Prelude.{ℕ, ◌||◌, cond, List, length, get_or, eqb, leb, Float, Some, None}
use Rattle.std.specs.Float.{nan}
use Rattle.layout.specs.Widths.{queue_from, events_from}
use Rattle.scheduler.specs.declared.head.Heads.{Heads}
use Rattle.scheduler.specs.Head.{Head}

-- the head of a cell, whose count and first event's time stand first in its parts of `held` and `times`
unfoldable pub head_in : List Float → List ℕ → ℕ → ℕ → Head
head_in times held room cell =
    cond (leb (length times) (events_from room cell) || eqb (get_or held (queue_from room cell) 0) 0) None (Some (get_or times (events_from room cell) nan))

abbrev pub heads_of : Heads → ℕ → Head
heads_of t = head_in t.times.now t.held.now t.room
