use Rattle.tables.proofs.Runs.{keeping_gone, keeping_kept}
use native.Mathlib.Omega.{arith}
use Rattle.tables.proofs.places.keep_one.Goals as goal

pub returns-then-names_grain : goal.returns-then-names_grain
returns-then-names_grain c =
    (omega arith, λ live rest p m. keeping_gone m p c.get_place-next.ensures c.names_grain.ensures c.if-names_grain.true)

pub returns : goal.returns
returns c =
    (omega arith, λ live rest p m. keeping_kept m p c.get_place-next.ensures c.names_grain.ensures c.if-names_grain.false c.put_place.ensures)
