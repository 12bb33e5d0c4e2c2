use Prim.Native.Nat.{ℕ, ◌≤◌}
use mathlib.Core.Path.{sym, subst, ◌∙◌}
use Rattle.model.proofs.Grid.{across_max, cells_max}
use Rattle.cell.specs.declared.Grid.{Grid}
use Rattle.simulator.proofs.StartLaws.{counts_mean, cells_counted}
use Rattle.fesolopi.proofs.table_lengths.Goals as goal

pub cells-requires : goal.cells-requires
cells-requires c =
    subst (λ (g : Grid). (g.n0 ≤ 16) × (g.n1 ≤ 16)) (sym c.new.ensures) (across_max c.args.domain (sym c.box_ok.ensures ∙ c.if-not-box_ok.false))

pub needed-requires : goal.needed-requires
needed-requires c =
    let a = c.args in
    let k = counts_mean a.room a.count (sym c.counts_ok.ensures ∙ c.if-not-counts_ok.false) in
    let few = subst (λ (n : ℕ). n ≤ 256) (sym (cells_counted a.domain c.new.result c.cells.result c.new.ensures c.cells.ensures)) (cells_max a.domain (sym c.box_ok.ensures ∙ c.if-not-box_ok.false)) in
    (k.grains_most, few, k.room_most)
