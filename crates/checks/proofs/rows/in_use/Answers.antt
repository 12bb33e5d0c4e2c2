use mathlib.Core.Path.{◌∙◌}
use Prim.Native.Nat.{◌-◌}
use lib.ListN.{length}
use Rattle.tables.specs.Decode.{row_at}
use Rattle.checks.proofs.OneRow.{row_is, used_is}
use Rattle.checks.proofs.rows.in_use.Goals as goal

pub live_of-requires : goal.live_of-requires
live_of-requires c =
    let l = c.args.row.now in
    (row_at (length l - 1) l, row_is l c.requires)

pub returns : goal.returns
returns c =
    let l = c.args.row.now in
    c.live_of.ensures (row_at (length l - 1) l) (row_is l c.requires) ∙ used_is l
