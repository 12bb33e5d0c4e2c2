use Rattle.scheduler.proofs.Scheduler.+upshift.Given as goal

abbrev pub decreases-upshift : goal.decreases-upshift
decreases-upshift l = l.c
