-- How long the lent tables of a start must be: 01's refusals 1 and 2, asked before there are tables. Assumes nothing: these are definitions.
use Rattle.std.specs.Prelude.{ℕ, ◌*◌, cond, Result, Ok, Err}
use Rattle.model.specs.declared.Domain.{Domain}
use Rattle.model.specs.declared.refusal.StartError.{StartError}
use Rattle.model.specs.Refusals.{start_error_number}
use Rattle.model.specs.Sizes.{box_ok, counts_ok}
use Rattle.tables.specs.declared.Sizes.{Sizes}
use Rattle.layout.specs.Widths.{input_wide}
use Rattle.tables.specs.declared.lengths.Lengths.{Lengths}
use Rattle.tables.specs.Lengths.{lists_need, grains_need, queue_need, events_need, order_need}
use Rattle.starting.specs.Cleared.{sizes_for}

-- a number, and the lengths beside it
pub record Needed : Type 0 where
  pub number : ℕ
  pub inputs : ℕ
  pub lists : ℕ
  pub grains : ℕ
  pub queue : ℕ
  pub events : ℕ
  pub order : ℕ

abbrev pub needed : ℕ → ℕ → ℕ → ℕ → ℕ → ℕ → ℕ → Needed
needed r i l g q e o = record { number = r; inputs = i; lists = l; grains = g; queue = q; events = e; order = o }

abbrev pub needed_by : ℕ → Sizes → Needed
needed_by n z = needed 0 (n * input_wide) (lists_need z) (grains_need z) (queue_need z) (events_need z) order_need

abbrev pub none_needed : ℕ → Needed
none_needed r = needed r 0 0 0 0 0 0

-- 1, 2, or 0 where neither holds whatever the tables
abbrev pub needed_for : Domain → ℕ → ℕ → Needed
needed_for b n room = cond (box_ok b) (cond (counts_ok room n) (needed_by n (sizes_for b n room)) (none_needed 2)) (none_needed 1)

-- what the lengths behind them, or the refusal, stand for
abbrev pub told_needed : ℕ → Result Lengths StartError → Needed
told_needed n (Ok l) = needed 0 (n * input_wide) l.lists l.grains l.queue l.events order_need
told_needed n (Err e) = none_needed (start_error_number e)
