use Prim.Native.Nat.{ℕ}
use mathlib.Core.Path.{sym, ap}
use Rattle.model.specs.Events.{event_of}
use Rattle.model.proofs.Places.{event_rest}
use borrow.Author.Rules.{rules}
use Rattle.tables.proofs.places.event_of.Goals as goal

pub returns-in-1 : goal.returns-in-1
returns-in-1 c = sym (ap (λ (k : ℕ). event_of k c.args.s) c.in-1.is)

pub returns-in-2 : goal.returns-in-2
returns-in-2 c = sym (ap (λ (k : ℕ). event_of k c.args.s) c.in-2.is)

pub returns-in-3 : goal.returns-in-3
returns-in-3 c = sym (ap (λ (k : ℕ). event_of k c.args.s) c.in-3.is)

pub returns-in-4 : goal.returns-in-4
returns-in-4 c = sym (ap (λ (k : ℕ). event_of k c.args.s) c.in-4.is)

pub returns-in_default : goal.returns-in_default
returns-in_default c =
    let s = c.args.s in
    sym (event_rest s.kind s (search rules) (search rules) (search rules) (search rules))
