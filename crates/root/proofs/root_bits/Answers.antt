use mathlib.Core.Path.{sym, ◌∙◌}
use native.Mathlib.Nat.{le_trans, le_of_eq, lt_of_le_of_lt}
use Rattle.root.proofs.Finish.{zeros, low, unshifted, low_bits}
use Rattle.root.proofs.root_bits.Goals as goal

pub overflow_sub-z : goal.overflow_sub-z
overflow_sub-z c =
    (zeros c.args.bits c.requires.0 c.requires.1 c.if-field-eq0.true).0

pub finished-requires : goal.finished-requires
finished-requires c =
    let f = low c.args.bits c.requires.0 c.requires.1 c.if-field-eq0.true in
    let e = unshifted c.args.bits c.requires.0 c.requires.1 c.if-field-eq0.true in
    (le_trans f.from (le_of_eq (sym e)), lt_of_le_of_lt (le_of_eq e) f.to, f.small)

pub returns-then-field-eq0 : goal.returns-then-field-eq0
returns-then-field-eq0 c =
    c.finished.ensures ∙ low_bits c.args.bits c.requires.0 c.requires.1 c.if-field-eq0.true
