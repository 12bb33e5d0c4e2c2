use Rattle.acts.proofs.StoreLaws.{step_told}
use Rattle.tables.proofs.GrainLaws.{grain_fits}
use Rattle.acts.proofs.store.step_grain.Goals as goal

pub get_grain-p-requires : goal.get_grain-p-requires
get_grain-p-requires c = grain_fits c.requires.0.1 c.requires.1 c.args.g c.requires.2

pub returns : goal.returns
returns c =
    let a = c.args in
    λ s S t. step_told a.domain a.clock a.g c.get_grain-p.result c.stepped.result s (c.get_grain-p.ensures a.z s.grains S) c.stepped.ensures t (c.store.ensures s S)
