use mathlib.Core.Path.{◌≡◌, refl, sym, ap, ◌∙◌}
use native.Mathlib.Omega.{arith}
use native.Mathlib.Numerals.{one-add}
use Prim.Native.Nat.{ℕ, suc}
use Rattle.scheduler.specs.declared.Scheduler.{Scheduler}
use Rattle.scheduler.specs.Heap.{parent_of, swap_at, upshifted, upshift_swaps}
use Rattle.scheduler.specs.Inside.{heads_of}
use Rattle.scheduler.proofs.Laws.{parent_before, parent_taken, swap_cells, upshifted_stays, upshifted_goes}
use Rattle.scheduler.proofs.Swaps.{up_swaps_stays, up_swaps_goes, up_swaps_few}
use Rattle.scheduler.proofs.Scheduler.+upshift.Goals.{After-parent-p}
use Rattle.scheduler.proofs.Scheduler.+upshift.Goals as goal

-- the parent that was found
is : {t : ℕ} (c : After-parent-p t) → c.parent-p.result ≡ parent_of (heads_of c.args.heads) c.args.self.now c.args.c
is c = c.parent-p.ensures ∙ parent_taken (heads_of c.args.heads) c.args.self.now.heap c.args.self.now.cells (omega (arith, c.requires)) c.args.c

pub returns-then-p-c : goal.returns-then-p-c
returns-then-p-c t c =
    let a = c.args in
    let h = heads_of a.heads in
    let f = sym (is (goal.at.returns-then-p-c t c).After-parent-p) ∙ c.if-p-c.true in
    (sym (upshifted_stays h a.self.now a.c f), sym (up_swaps_stays h a.self.now a.c f))

pub swap-requires : goal.swap-requires
swap-requires t c =
    let a = c.args in
    let e = is (goal.at.swap-requires t c).After-parent-p in
    let l = parent_before (heads_of a.heads) a.self.now a.c (λ w. c.if-p-c.false (e ∙ w)) in
    (omega (arith, c.requires), omega (arith, c.requires))

pub upshift-above-requires : goal.upshift-above-requires
upshift-above-requires t c =
    let a = c.args in
    let e = is (goal.at.upshift-above-requires t c).After-parent-p in
    let l = parent_before (heads_of a.heads) a.self.now a.c (λ w. c.if-p-c.false (e ∙ w)) in
    let n = ap (λ (s : Scheduler). s.cells) c.swap.ensures ∙ swap_cells a.self.now a.c c.parent-p.result in
    (omega (arith, c.decreases), omega (arith, c.requires))

pub overflow_add-result : goal.overflow_add-result
overflow_add-result t c =
    let a = c.args in
    let e = is (goal.at.overflow_add-result t c).After-parent-p in
    let l = parent_before (heads_of a.heads) a.self.now a.c (λ w. c.if-p-c.false (e ∙ w)) in
    omega (arith, c.upshift-above.ensures.1, up_swaps_few (heads_of a.heads) c.swap.new.self c.parent-p.result, c.requires)

pub returns : goal.returns
returns t c =
    let a = c.args in
    let h = heads_of a.heads in
    let e = is (goal.at.returns t c).After-parent-p in
    let n : parent_of h a.self.now a.c ≡ a.c → ⊥ = λ w. c.if-p-c.false (e ∙ w) in
    let on : (A : Type 0) (f : Scheduler → ℕ → A) → f c.swap.new.self c.parent-p.result ≡ f (swap_at a.self.now a.c (parent_of h a.self.now a.c)) (parent_of h a.self.now a.c) = λ A f. rw (c.swap.ensures, e) refl in (
      c.upshift-above.ensures.0 ∙ on Scheduler (upshifted h) ∙ sym (upshifted_goes h a.self.now a.c n),
      one-add c.upshift-above.result ∙ ap suc (c.upshift-above.ensures.1 ∙ on ℕ (upshift_swaps h)) ∙ sym (up_swaps_goes h a.self.now a.c n),
    )
