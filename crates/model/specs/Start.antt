-- 01, start: checks 1, 2, 4 in that order; then grains go in by index, each to its cells in the order of from_p_to_c; then init_events.
-- Assumes nothing: these are definitions.
use Rattle.std.specs.Prelude.{ℕ, Bool, cond, List, [], eqb, length, replicate}
use Rattle.halting.specs.Out.{Out}
use Rattle.order.specs.Numbers.{fzero}
use Rattle.scheduler.specs.Heap.{start_heap}
use Rattle.model.specs.declared.Domain.{Domain}
use Rattle.model.specs.declared.Particle.{Particle}
use Rattle.layout.specs.Widths.{home_room, member_room}
use Rattle.model.specs.Sizes.{box_ok, counts_ok, first_bad}
use Rattle.model.specs.Grid.{cells}
use Rattle.model.specs.Events.{zero_p}
use Rattle.model.specs.State.{Row, row, State, zero_g, marked}
use Rattle.model.specs.Rows.{doing, start_acts}

-- ---- an accepted start clears every place
abbrev pub empty : {A : Type 0} → ℕ → A → Row A
empty k z = row [] (replicate k z)

unfoldable pub clear : Domain → ℕ → ℕ → State
clear b room n = record {
  box = b;
  clock = fzero;
  mark = 0;
  room = room;
  grains = replicate n zero_g;
  homes = replicate n (empty home_room 0);
  members = replicate (cells b) (empty member_room 0);
  queues = replicate (cells b) (empty room zero_p);
  sched = start_heap (cells b);
}

-- then the acts of a start, in 01's order (Rows)
unfoldable pub begin : Domain → ℕ → List Particle → Out State
begin b room gs = let s = clear b room (length gs) in doing (start_acts b gs s) s

-- the answer: refused by 1, 2 or 4 (with the grain's index), all stays; else the state, its mark the number of a halt or 0
pub data Begun : Type 0 where
  refused : ℕ → ℕ → Begun
  started : State → Begun

abbrev pub started_at : Out State → Begun
started_at o = started (marked o.num o.st)

-- the checks in 01's order: what is given by the number that refuses, else what is behind them
abbrev pub start_checks : {A : Type 0} → Bool → Bool → Bool → (ℕ → A) → A → A
start_checks box counts grains by else = cond box (cond counts (cond grains else (by 4)) (by 2)) (by 1)

-- the grain that a refusal names: by 4 the lowest one out of range, 0 beside the others
abbrev pub blamed : Domain → List Particle → ℕ → ℕ
blamed b gs r = cond (eqb r 4) (first_bad b gs) 0

unfoldable pub start : Domain → ℕ → List Particle → Begun
start b room gs =
    start_checks (box_ok b) (counts_ok room (length gs)) (eqb (first_bad b gs) (length gs)) (λ r. refused r (blamed b gs r)) (started_at (begin b room gs))
