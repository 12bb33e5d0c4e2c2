use Rattle.cell.proofs.Laws.{apart_cell}
use Rattle.cell.proofs.Cell.apart.Goals as goal

pub returns : goal.returns
returns c = let w = apart_cell c.args.domain c.args.self c.args.dpos c.requires in cc
