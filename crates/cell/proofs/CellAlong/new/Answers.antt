use Rattle.std.proofs.Common.{arith}
use Rattle.cell.proofs.Laws.{Inside, AlongIs, inside, wrapped_small, along_is}
use Rattle.cell.proofs.CellAlong.new.Goals.{Start}
use Rattle.cell.proofs.CellAlong.new.Goals as goal

known : (c : Start) → Inside c.args.grid c.args.dim c.args.cell
known c = inside c.args.domain c.args.grid c.args.dim c.args.cell c.requires.0 c.requires.1

meant : (c : Start) → AlongIs c.args.domain c.args.grid c.args.dim c.args.cell
meant c = along_is c.args.domain c.args.grid c.args.dim c.args.cell c.requires.0

pub edge-requires : goal.edge-requires
edge-requires c = let k = known (goal.at.edge-requires c).Start in (omega arith, omega arith)

pub edge-requires-2 : goal.edge-requires-2
edge-requires-2 c = let k = known (goal.at.edge-requires-2 c).Start in (omega arith, omega arith)

pub beside-requires : goal.beside-requires
beside-requires c =
    let k = known (goal.at.beside-requires c).Start in
    (k.some, k.few, omega arith, wrapped_small _ c.across-n.result _ (omega arith) (omega arith) c.index_below.ensures)

pub beside-requires-2 : goal.beside-requires-2
beside-requires-2 c =
    let k = known (goal.at.beside-requires-2 c).Start in
    (k.some, k.few, omega arith, wrapped_small _ c.across-n.result _ (omega arith) (omega arith) c.index_above.ensures)

pub returns : goal.returns
returns c = let w = meant (goal.at.returns c).Start in cc
