use mathlib.Core.Path.{sym, ap, ◌∙◌, subst}
use mathlib.Core.List.{List, []}
use lib.Ieee.{Float}
use Rattle.std.specs.Slice.Iter.{chunks_exact_rest, chunks_exact_size}
use native.Mathlib.Omega.{arith}
use Rattle.checks.proofs.OnePlace.{Left, left_all, left_none, left_no, left_next}
use Rattle.checks.proofs.places.rising.Goals as goal

pub loop-place-init : goal.loop-place-init
loop-place-init c =
    let h = c.into_iter-place-iterator.ensures.into_iter_gives in
    let g = c.chunks_exact-place-items.ensures in
    (ap (λ (s : _). chunks_exact_size s) h ∙ g.size, subst (λ (l : List Float). Left c.args.t c.args.t c.args.reals.now l) (sym (ap (λ (s : _). chunks_exact_rest s) h ∙ g.rest)) (left_all c.args.t c.args.reals.now))

pub loop-place-preserved : goal.loop-place-preserved
loop-place-preserved c =
    let s = c.in-Some.ensures.steps in
    let size = c.loop-place.invariant.0 in
    (s.0 ∙ size, left_next c.loop-place.invariant.1 c.in-Some.place.now (chunks_exact_rest c.next.new.self) s.1.0 (s.1.1 ∙ size) (c.first_time-time.ensures []) c.if-from-time.true)

pub returns-else-from-time : goal.returns-else-from-time
returns-else-from-time c =
    let s = c.in-Some.ensures.steps in
    let size = c.loop-place.invariant.0 in
    left_no c.loop-place.invariant.1 c.in-Some.place.now (chunks_exact_rest c.next.new.self) s.1.0 (s.1.1 ∙ size) (c.first_time-time.ensures []) c.if-from-time.false

pub returns : goal.returns
returns c =
    let s = c.in-None.ensures.steps in
    let size = c.loop-place.invariant.0 in
    left_none c.loop-place.invariant.1 (omega (arith, s.1.0, size))
