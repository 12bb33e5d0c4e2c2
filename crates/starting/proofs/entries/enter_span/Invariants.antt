use Rattle.model.specs.FromPToC.{between}
use Rattle.starting.specs.Entries.{row_cells}
use Rattle.starting.proofs.EntryLaws.{Left}
use Rattle.starting.proofs.entries.enter_span.Given as goal

abbrev pub invariant-loop-i : goal.invariant-loop-i
invariant-loop-i l =
    Left l.w.sizes l.grain (row_cells l.w.grid.n0 (between l.fn.cells.lo l.fn.cells.hi) l.j) (row_cells l.w.grid.n0 (between l.i l.fn.cells.hi) l.j) l.initial.lists l.lists
