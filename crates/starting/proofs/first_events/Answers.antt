use Rattle.starting.proofs.BeginLaws.{held_some, filled_by}
use borrow.Author.Rules.{rules}
use Rattle.starting.proofs.first_events.Goals as goal

pub init_events-requires : goal.init_events-requires
init_events-requires c = held_some c.requires

pub returns : goal.returns
returns c = filled_by c.init_events.ensures.does (search rules) (search rules) (search rules)
