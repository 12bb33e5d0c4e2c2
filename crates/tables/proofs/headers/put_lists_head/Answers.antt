use mathlib.Core.Path.{◌∙◌}
use mathlib.Core.List.{[], ◌∷◌}
use lib.Seq.{sets}
use Rattle.tables.specs.Encode.{lists_head}
use Rattle.tables.proofs.Over.{over_sets}
use Rattle.tables.proofs.headers.put_lists_head.Goals as goal

pub returns : goal.returns
returns c =
    let b = c in
    let a = b.args in
    (λ i. sets a.lists.now 0 (a.mark ∷ a.z.grains ∷ a.z.cells ∷ a.z.room ∷ c.from.ensures i ∷ c.from-2.ensures i ∷ []))
    ∙ over_sets (lists_head a.mark a.z a.domain) a.lists.now b.requires
