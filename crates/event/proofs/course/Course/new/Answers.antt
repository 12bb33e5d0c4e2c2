use Rattle.cell.proofs.Laws.{along_cell}
use Rattle.event.specs.Course.{course_of}
use Rattle.event.proofs.course.Course.new.Goals as goal

pub returns : goal.returns
unfolding course_of
returns c = cc (along_cell _ c.args.cell _ c.requires)
