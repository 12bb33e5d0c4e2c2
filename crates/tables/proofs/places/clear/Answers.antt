use mathlib.Core.Path.{refl}
use Rattle.tables.proofs.Runs.{clearing_none, clearing_more, clear_ends}
use native.Mathlib.Omega.{arith}
use borrow.Author.Rules.{rules}
use Rattle.tables.proofs.places.clear.Goals as goal

pub loop-i-init : goal.loop-i-init
loop-i-init c = (omega arith, search rules, refl, refl, λ kept given rest e d h. clearing_none kept given rest e h)

pub loop-i-preserved : goal.loop-i-preserved
loop-i-preserved c =
    let l = c.loop-i in (
      omega arith,
      omega arith,
      search rules,
      search rules,
      λ kept given rest e d h. clearing_more (l.invariant.4 kept given rest e d h) e d l.invariant.0 c.loop-i-test.true c.zero_place.ensures c.put_place.ensures,
    )

pub returns : goal.returns
returns c =
    let l = c.loop-i in
    λ kept given rest e d h. clear_ends (l.invariant.4 kept given rest e d h) d (omega arith)
