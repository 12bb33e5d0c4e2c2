-- OVER THE HISTORY OF ACTS, from an accepted start and whatever the runs and budgets, in every unhalted state and after each unhalted step of all runs:
-- no event from an old velocity (T-13), no missing event, and nothing else pending; with what makes the history true. Assumes nothing.
use Prim.Native.Nat.{ℕ, suc, ◌≤◌, ◌<◌}
use mathlib.Core.Path.{◌≡◌, refl, ap, subst, ◌∙◌}
use mathlib.Core.List.{List, [], ◌∷◌, ◌++◌}
use native.Mathlib.Omega.{arith}
use lib.ListN.{length}
use Rattle.halting.specs.Every.{All}
use Rattle.model.specs.Grid.{cells}
use Rattle.model.specs.State.{State, grain, queue}
use Rattle.model.specs.Run.{Ran, run_from}
use Rattle.model.specs.Start.{clear}
use Rattle.model.specs.Check.{run_all}
use Rattle.model.specs.Reached.{most, Call, after, Reached, StepOf}
use Rattle.model.specs.History.{History, history, dated_places, dated, given, Led, NoneOld}
use Rattle.model.specs.Missing.{NoneMissing, NothingElse}
use Rattle.model.proofs.Counts.{counts, state_at}
use Rattle.model.proofs.Whole.{runs}
use Rattle.model.proofs.Reached.{reached_well, counted_runs, steps_stand}
use Rattle.model.proofs.True.{history_true, velocity_given, PutBy, put_by, Distinct, distinct}
use Rattle.model.proofs.NoneOld.{none_old, all_told}
use Rattle.model.proofs.Watched.{none_missing_lem}
use Rattle.model.proofs.NothingElse.{nothing_else}

pub record Said (h : History) (s₀ s : State) : Type 0 where
  -- the history is true: from the cleared places its deeds lead to this state, each done in its turn, each try of what its rule finds there,
  -- with the grains that it is about stepped to the clock
  pub led : Led h s₀ s
  -- a grain's velocity is the one that its last turn gave it
  pub velocity : (g : ℕ) → g < length s.grains → (grain s g).vel ≡ given h g
  -- the pending events of the history, without their numbers, are those of the state; each number is that of the act that put the event in, and no two of a cell are equal
  pub pending : (c : ℕ) → c < cells s.box → dated_places (dated h c) ≡ queue s c
  pub put : (c : ℕ) → All (PutBy h c) (dated h c)
  pub distinct : (c : ℕ) → Distinct (dated h c)
  -- each pending event was scheduled after the last change of velocity of every grain that it names
  pub none_old : NoneOld h s
  -- no event is missing
  pub none_missing_lem : NoneMissing h s
  -- and nothing else is pending
  pub nothing_else : NothingElse h s

pub reached_said : (s : State) (r : Reached s) → s.mark ≡ 0 → Said (history s r) (clear r.box r.room (length r.grains)) s
reached_said s r m = record { led = history_true s r m; velocity = velocity_given s r m; pending = all_told s r m; put = put_by (history s r); distinct = distinct (history s r); none_old = none_old s r m; none_missing_lem = none_missing_lem s r m; nothing_else = nothing_else s r m }

-- ---- each state between the steps of a run is reached
after_more : (ks : List Call) (k : Call) (s : State) → after (ks ++ k ∷ []) s ≡ (run_all k.rate k.budget (after ks s)).state
unfolding after
after_more [] k s = refl
after_more (j ∷ ks) k s = after_more ks k (run_all j.rate j.budget s).state

pub step_reached : (u v : State) → StepOf u v → Reached v × (v.mark ≡ 0)
step_reached u v t =
    let r = t.reached in
    let k = t.call in
    let w = counted_runs k.rate k.budget t.from t.n (reached_well t.from r).sound t.counted in
    let go : (b : ℕ) → run_all k.rate b t.from ≡ run_from k.rate b 0 t.from = λ b. runs k.rate b t.from w.0 w.1 in
    let N : t.n < (run_from k.rate k.budget 0 t.from).count = rw (← go k.budget) t.counted in
    let small : suc t.n ≤ most = let a = (counts k.rate t.from k.budget).small in let b = k.small in omega (arith, a, b, N) in
    let there : (run_all k.rate (suc t.n) t.from).state ≡ v = ap (λ (x : Ran). x.state) (go (suc t.n)) ∙ state_at k.rate t.from k.budget (suc t.n) N ∙ t.after' in (
      record {
        box = r.box;
        fits = r.fits;
        room = r.room;
        grains = r.grains;
        begun = r.begun;
        accepted = r.accepted;
        calls = r.calls ++ (record { rate = k.rate; budget = suc t.n; small = small }) ∷ [];
        there = after_more r.calls (record { rate = k.rate; budget = suc t.n; small = small }) r.begun ∙ ap (λ (x : State). (run_all k.rate (suc t.n) x).state) r.there ∙ there;
      },
      subst (λ (x : State). x.mark ≡ 0) t.after' (steps_stand k.rate w.0 t.from w.1 (suc t.n) (λ m M. (counts k.rate t.from k.budget).whole m (omega arith) (omega arith))).free,
    )

pub each_step_said : (u v : State) → StepOf u v → (r : Reached v) × Said (history v r) (clear r.box r.room (length r.grains)) v
each_step_said u v t = let w = step_reached u v t in (w.0, reached_said v w.0 w.1)
