use mathlib.Core.Path.{sym, ap, ◌∙◌}
use mathlib.Core.Bool.{Bool, ◌&&◌}
use mathlib.Core.List.{List}
use Prim.Native.Nat.{ℕ}
use lib.ListN.{length}
use Rattle.model.specs.declared.Place.{Place}
use Rattle.model.specs.State.{live_at}
use Rattle.model.specs.Check.{all, rising, held}
use Rattle.checks.specs.Held.{rows_in, queues_in}
use Rattle.checks.proofs.OnePlace.{queue_by}
use Rattle.checks.proofs.places.EventRows.queue_ok.Goals as goal

pub returns-then-rising : goal.returns-then-rising
returns-then-rising c =
    let s = c.args.self.now in
    let u = c.live.ensures in
    let ps = live_at (queues_in s) c.args.c in
    let ms = live_at (rows_in c.args.members.now) c.args.c in
    let a = c.rising.ensures (length ps) c.live.result.0.now u.reals_whole ∙ ap (rising c.args.t) u.places in
    let b = c.all_held.ensures (length ps) u.nums_whole u.reals_whole ∙ ap (λ (x : List Place). all (held s.count c.args.c c.live-then-rising.result.now) x) u.places
    ∙ ap (λ (m : List ℕ). all (held s.count c.args.c m) ps) c.live-then-rising.ensures in
    sym (ap (λ (x : Bool). x && c.all_held.result) c.if-rising.true)
    ∙ queue_by s.room s.count s.numbers.now s.reals.now s.rowed s.reals_whole c.args.c c.requires.0 c.args.t s.count ms a b
