use Rattle.acts.proofs.StoreLaws.{store_refused, store_done}
use Rattle.tables.proofs.GrainLaws.{grain_fits}
use mathlib.Core.Path.{sym, ◌∙◌}
use Rattle.acts.proofs.store.store.Goals as goal

pub returns-then-not-fine_grain : goal.returns-then-not-fine_grain
returns-then-not-fine_grain c =
    let a = c.args in
    store_refused a.g a.p (sym c.fine_grain.ensures ∙ c.if-not-fine_grain.true)

pub put_grain-requires : goal.put_grain-requires
put_grain-requires c =
    let a = c.args in
    grain_fits c.requires.0.1 c.requires.1 a.g c.requires.2

pub returns : goal.returns
returns c =
    let a = c.args in
    store_done a.g a.p (sym c.fine_grain.ensures ∙ c.if-not-fine_grain.false) c.put_grain.ensures
