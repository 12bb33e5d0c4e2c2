use Rattle.model.specs.FromPToC.{between}
use Rattle.particle.specs.Spans.{cells_in}
use Rattle.starting.specs.Entries.{grid_cells}
use Rattle.starting.proofs.EntryLaws.{Left}
use Rattle.starting.proofs.entries.enter_rows.Given as goal

abbrev pub invariant-loop-j : goal.invariant-loop-j
invariant-loop-j l =
    Left l.w.sizes l.grain (grid_cells l.w.grid.n0 (cells_in l.x) (between l.fn.rows.lo l.fn.rows.hi)) (grid_cells l.w.grid.n0 (cells_in l.x) (between l.j l.fn.rows.hi)) l.initial.lists l.lists
