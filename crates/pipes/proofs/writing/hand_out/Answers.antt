use Rattle.std.proofs.Common.{sym, ◌∙◌, subst}
use Rattle.pipes.specs.Writes.{Grown}
use Rattle.pipes.proofs.WriteLaws.{taken_some, taken_none, taken_all, handed_out}
use Rattle.pipes.proofs.writing.hand_out.Goals as goal

pub returns-in_default-clause-handed_out : goal.returns-in_default-clause-handed_out
returns-in_default-clause-handed_out g c =
    handed_out _ _ (c.loop-rest.invariant _ _ (taken_none _ _ _ (sym c.is_empty.ensures ∙ c.loop-rest-test.true) (subst (Grown _ _ _) c.in_default.is c.write_some.ensures.grown)))

pub returns-in_default-clause-written : goal.returns-in_default-clause-written
returns-in_default-clause-written g c =
    c.loop-rest.invariant _ _ (taken_none _ _ _ (sym c.is_empty.ensures ∙ c.loop-rest-test.true) (subst (Grown _ _ _) c.in_default.is c.write_some.ensures.grown))

pub loop-rest-preserved : goal.loop-rest-preserved
loop-rest-preserved g c = λ new r k.
    c.loop-rest.invariant new r (taken_some _ _ new c.in-Some.n c.loop-rest.rest.now c.in-Some.ensures.took (subst (Grown _ _ _) c.in-Some.is c.write_some.ensures.grown) k)

pub returns-clause-handed_out : goal.returns-clause-handed_out
returns-clause-handed_out g c = handed_out _ _ (c.loop-rest.invariant _ _ (taken_all _ _ (sym c.is_empty.ensures ∙ c.loop-rest-test.false)))

pub returns-clause-written : goal.returns-clause-written
returns-clause-written g c = c.loop-rest.invariant _ _ (taken_all _ _ (sym c.is_empty.ensures ∙ c.loop-rest-test.false))
