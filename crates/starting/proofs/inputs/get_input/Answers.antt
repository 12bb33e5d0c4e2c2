use mathlib.Core.Path.{◌∙◌}
use Rattle.starting.proofs.InputLaws.{input_read}
use Rattle.starting.proofs.inputs.get_input.Goals as goal

pub returns : goal.returns
returns c =
    let a = c.args in
    c.read_input.ensures ∙ input_read a.n a.inputs.now a.i c.requires.1
