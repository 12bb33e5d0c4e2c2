use Rattle.starting.proofs.BeginLaws.{fill_going, fill_halts, fill-some, fill_on}
use Rattle.starting.proofs.fill.Goals as goal

pub go_in-requires : goal.go_in-requires
go_in-requires c = fill_going c.args.inputs.now c.requires

pub returns-in_err-go_in : goal.returns-in_err-go_in
returns-in_err-go_in c =
    fill_halts c.args.inputs.now c.requires c.from_residual.result c.in_err-go_in.field-0.0 c.from_residual.ensures.1 c.in_err-go_in.ensures

pub first_events-requires : goal.first_events-requires
first_events-requires c = fill-some c.args.inputs.now c.requires c.in_ok-go_in.ensures

pub returns : goal.returns
returns c = fill_on c.args.inputs.now c.requires c.in_ok-go_in.ensures c.first_events.ensures
