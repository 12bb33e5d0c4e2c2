use mathlib.Core.Path.{◌≡◌, refl, sym, ap, ◌∙◌}
use native.Mathlib.Omega.{arith}
use native.Mathlib.Numerals.{one-add}
use Prim.Native.Nat.{ℕ, suc}
use Rattle.scheduler.specs.declared.Scheduler.{Scheduler}
use Rattle.scheduler.specs.Heap.{child_of, swap_at, downshifted, downshift_swaps}
use Rattle.scheduler.specs.Inside.{heads_of}
use Rattle.scheduler.proofs.Laws.{child_in_lem, child_after, child_out, child_taken, swap_cells, downshifted_out, downshifted_stays, downshifted_goes}
use Rattle.scheduler.proofs.Swaps.{down_swaps_stays, down_swaps_goes, down_swaps_few}
use Rattle.scheduler.proofs.Scheduler.+downshift.Goals.{After-child-q, After-swap}
use Rattle.scheduler.proofs.Scheduler.+downshift.Goals as goal

-- the child that was found
is : {t : ℕ} (c : After-child-q t) → c.child-q.result ≡ child_of (heads_of c.args.heads) c.args.self.now c.args.p
is c = c.child-q.ensures ∙ child_taken (heads_of c.args.heads) c.args.self.now.heap c.args.self.now.cells (omega (arith, c.requires)) c.args.p

pub returns-then-self-p : goal.returns-then-self-p
returns-then-self-p t c =
    let a = c.args in
    let h = heads_of a.heads in
    let o = c.if-self-p.true in
    (sym (downshifted_out h a.self.now a.p o), sym (down_swaps_stays h a.self.now a.p (child_out h a.self.now a.p o)))

pub returns-then-q-p : goal.returns-then-q-p
returns-then-q-p t c =
    let a = c.args in
    let h = heads_of a.heads in
    let f = sym (is (goal.at.returns-then-q-p t c).After-child-q) ∙ c.if-q-p.true in
    (sym (downshifted_stays h a.self.now a.p f), sym (down_swaps_stays h a.self.now a.p f))

pub swap-requires : goal.swap-requires
swap-requires t c =
    let a = c.args in
    let e = is (goal.at.swap-requires t c).After-child-q in
    let l = child_in_lem (heads_of a.heads) a.self.now a.p (λ w. c.if-q-p.false (e ∙ w)) in
    (omega (arith, c.if-self-p.false), omega arith)

pub downshift-below-requires : goal.downshift-below-requires
downshift-below-requires t c =
    let a = c.args in
    let e = is (goal.at.downshift-below-requires t c).After-child-q in
    let l = child_after (heads_of a.heads) a.self.now a.p in
    let n = ap (λ (s : Scheduler). s.cells) c.swap.ensures ∙ swap_cells a.self.now a.p c.child-q.result in
    (omega (arith, c.if-q-p.false, c.if-self-p.false), omega (arith, c.requires))

pub overflow_add-result : goal.overflow_add-result
overflow_add-result t c =
    let a = c.args in
    let n = ap (λ (s : Scheduler). s.cells) c.swap.ensures ∙ swap_cells a.self.now a.p c.child-q.result in
    omega (arith, c.downshift-below.ensures.1, down_swaps_few (heads_of a.heads) c.swap.new.self c.child-q.result, c.requires)

pub returns : goal.returns
returns t c =
    let a = c.args in
    let h = heads_of a.heads in
    let e = is (goal.at.returns t c).After-child-q in
    let n : child_of h a.self.now a.p ≡ a.p → ⊥ = λ w. c.if-q-p.false (e ∙ w) in
    let on : (A : Type 0) (f : Scheduler → ℕ → A) → f c.swap.new.self c.child-q.result ≡ f (swap_at a.self.now a.p (child_of h a.self.now a.p)) (child_of h a.self.now a.p) = λ A f. rw (c.swap.ensures, e) refl in (
      c.downshift-below.ensures.0 ∙ on Scheduler (downshifted h) ∙ sym (downshifted_goes h a.self.now a.p c.if-self-p.false n),
      one-add c.downshift-below.result ∙ ap suc (c.downshift-below.ensures.1 ∙ on ℕ (downshift_swaps h)) ∙ sym (down_swaps_goes h a.self.now a.p n),
    )
