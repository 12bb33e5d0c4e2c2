-- 01, "Collision" and "Doing an event": what the scheduling of one kind finds. Assumes nothing: these are definitions.
use Rattle.std.specs.Prelude.{Option, Result, Float}
use Rattle.model.specs.declared.Pending.{Pending}
use Rattle.model.specs.declared.refusal.RootRefused.{RootRefused}

-- when two grains touch: never (Ok None), after a time (Ok (Some dt)), or the root is refused
abbrev pub Contact : Type 0
Contact = Result (Option Float) RootRefused

-- no event (Ok None), one that is due (Ok (Some e)), or the root is refused
abbrev pub Plan : Type 0
Plan = Result (Option Pending) RootRefused

-- there is one such refusal
abbrev pub root_refused : RootRefused
root_refused = record {}
