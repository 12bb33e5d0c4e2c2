use mathlib.Core.Path.{sym, ap, ◌∙◌}
use Prim.Native.Nat.{ℕ}
use lib.Dec.{eqb}
use lib.ListN.{length, get_or}
use Rattle.std.proofs.Common.{rules}
use borrow.Author.Tests.{tests}
use Rattle.std.proofs.lemmas.Iterator.{YieldsList-from_range}
use Rattle.std.proofs.lemmas.Iterator.Search.{all_from_yields_List}
use Rattle.layout.specs.Widths.{queue_wide, events_wide}
use Rattle.model.specs.declared.Place.{Place}
use Rattle.model.specs.State.{Row, live_at, none}
use Rattle.model.specs.Standing.{syncs}
use Rattle.model.specs.Check.{queue_ok, queued}
use Rattle.tables.specs.Decode.{queue_at}
use Rattle.checks.specs.Held.{rows_in, queues_in}
use Rattle.checks.proofs.Cut.{both_long}
use Rattle.checks.proofs.Lists.{walk_places}
use native.Mathlib.Omega.{arith}
use Rattle.checks.proofs.places.EventRows.queued.Goals as goal

pub returns-then-all : goal.returns-then-all
unfolding queued
returns-then-all c =
    let s = c.args.self.now in
    let ms = rows_in c.args.members.now in
    let test = λ (i : ℕ). queue_ok c.args.t s.room s.count i (live_at ms i) (get_or (queues_in s) i none) in
    let each = all_from_yields_List test _ _ c.all.result c.all.ensures.ran (YieldsList-from_range 0 s.count s.count (cc) (omega arith)) (λ x b q k. search (rules, tests))
    ∙ walk_places (λ i (r : Row Place). queue_ok c.args.t s.room s.count i (live_at ms i) r) none (queues_in s) (both_long (queue_at s.room) (queue_wide s.room) (events_wide s.room) s.count s.numbers.now s.reals.now) in
    let u = c.live.ensures in
    rw (sym each ∙ c.if-all.true)
    (ap (λ (n : ℕ). eqb n 1) (c.syncs.ensures (length (live_at (queues_in s) 0)) c.live.result.1.now u.nums_whole ∙ ap syncs u.places))

pub returns-else-all : goal.returns-else-all
unfolding queued
returns-else-all c =
    let s = c.args.self.now in
    let ms = rows_in c.args.members.now in
    let test = λ (i : ℕ). queue_ok c.args.t s.room s.count i (live_at ms i) (get_or (queues_in s) i none) in
    let each = all_from_yields_List test _ _ c.all.result c.all.ensures.ran (YieldsList-from_range 0 s.count s.count (cc) (omega arith)) (λ x b q k. search (rules, tests))
    ∙ walk_places (λ i (r : Row Place). queue_ok c.args.t s.room s.count i (live_at ms i) r) none (queues_in s) (both_long (queue_at s.room) (queue_wide s.room) (events_wide s.room) s.count s.numbers.now s.reals.now) in
    rw (sym each ∙ c.if-all.false) c.if-all.false
