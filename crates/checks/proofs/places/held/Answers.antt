use mathlib.Core.Path.{◌≡◌}
use mathlib.Core.List.{[]}
use Rattle.std.proofs.Common.{rules}
use Rattle.tables.specs.Decode.{place_at}
use Rattle.checks.proofs.Chunks.{place_read}
use Rattle.checks.proofs.places.held.Goals as goal

pub returns-then-fine_place : goal.returns-then-fine_place
returns-then-fine_place c =
    let q = c.args.nums.now in
    let e = c.args.reals.now in
    let is : c.get_head-s.result ≡ place_at q e = c.get_head-s.ensures (place_at q e) [] (place_read q e c.requires.0 c.requires.1) in
    search rules

pub returns-else-fine_place : goal.returns-else-fine_place
returns-else-fine_place c =
    let q = c.args.nums.now in
    let e = c.args.reals.now in
    let is : c.get_head-s.result ≡ place_at q e = c.get_head-s.ensures (place_at q e) [] (place_read q e c.requires.0 c.requires.1) in
    search rules
