use mathlib.Core.Path.{◌≡◌}
use Rattle.std.proofs.Common.{rules}
use Rattle.tables.specs.Decode.{grain_at}
use Rattle.checks.proofs.Chunks.{grain_read}
use Rattle.checks.proofs.grains.timely.Goals as goal

pub returns-then-fine_grain : goal.returns-then-fine_grain
returns-then-fine_grain c =
    let e : c.read_grain-p.result ≡ grain_at c.args.reals.now = c.read_grain-p.ensures (grain_at c.args.reals.now) (grain_read c.args.reals.now c.requires) in
    search rules

pub returns-else-fine_grain : goal.returns-else-fine_grain
returns-else-fine_grain c =
    let e : c.read_grain-p.result ≡ grain_at c.args.reals.now = c.read_grain-p.ensures (grain_at c.args.reals.now) (grain_read c.args.reals.now c.requires) in
    search rules
