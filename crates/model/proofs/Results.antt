-- RESULTS STAY AS THEY WERE when the head of an empty list read as `f64_max`: every start, and every run on any state, answers and leaves what it did under that rule (AsBefore).
-- The rule is put into each act that gives a cell another row of events, and so into rows of acts, steps, starts and runs. Assumes nothing.
use Prim.Native.Nat.{ℕ, zero, suc}
use mathlib.Core.Path.{◌≡◌, refl, ap, subst, sym, ◌∙◌}
use mathlib.Core.List.{List}
use mathlib.Core.Bool.{Bool, true, false, cond}
use lib.Dec.{ltb, eqb}
use lib.ListN.{length}
use lib.Ieee.{Float}
use Rattle.halting.specs.Out.{Out, out, next, then}
use Rattle.halting.proofs.Bools.{and_l, and_r}
use Rattle.model.specs.declared.Domain.{Domain}
use Rattle.model.specs.declared.Particle.{Particle}
use Rattle.model.specs.declared.Place.{Place}
use Rattle.std.specs.Prelude.{Some, None, Ok, Err}
use Rattle.model.specs.Plans.{Plan}
use Rattle.model.specs.Sizes.{box_ok, counts_ok, first_bad, rated}
use Rattle.model.specs.Grid.{cells}
use Rattle.model.specs.Events.{place_of, fine_place, zero_p}
use Rattle.model.specs.State.{Row, State, queue, requeued}
use Rattle.model.specs.Acts.{insert, inserted, cancelled, first, taken}
use Rattle.model.specs.Rows.{Act, moving, turning, trying, cancelling, entering, leaving, perform, Acts, ended, act, doing, acts_of, start_acts}
use Rattle.model.specs.Execute.{Stepped, done, synchronised, halted, Moved, finish, finished, head_event, event, step}
use Rattle.model.specs.Run.{spent, Ran, ends, onward, run_from}
use Rattle.model.specs.Check.{shaped, settled, linked, queued, standing, sized, refusal, run_checks, run_all}
use Rattle.model.specs.Start.{clear, begin, Begun, refused, started_at, start_checks, blamed, start}
use Rattle.model.proofs.Cases.{store_case, enter_case, leave_case}
use Rattle.model.proofs.Queue.{all_insert, all_keep}
use Rattle.model.proofs.Cleared.{empty_live}
use Rattle.model.proofs.AsBefore.{Fine, AllFine, old_inserted, old_cancelled, old_taken, old_standing, fine_set, fine_tail, queued_fine, inserted_as_before, cancelled_as_before, taken_as_before, standing_as_before}

-- ---- 01's rule
abbrev pub old_insert : ℕ → Place → State → Out State
old_insert c e s = cond (fine_place e) (cond (ltb (length (queue s c)) s.room) (out 0 (old_inserted c e s)) (out 6 s)) (out 5 s)

abbrev pub old_put : ℕ → Plan → State → Out State
old_put c (Ok None) s = out 0 s
old_put c (Ok (Some e)) s = old_insert c (place_of e) s
old_put c (Err _) s = out 5 s

abbrev pub old_perform : Act → State → Out State
old_perform (moving g x t) s = perform (moving g x t) s
old_perform (turning g p) s = perform (turning g p) s
old_perform (trying c r x) s = old_put c x s
old_perform (cancelling g c) s = out 0 (old_cancelled g c s)
old_perform (entering g c) s = perform (entering g c) s
old_perform (leaving g c) s = perform (leaving g c) s

unfoldable pub old_doing : Acts → State → Out State
old_doing ended s = out 0 s
old_doing (act a f) s = then (old_perform a s) (λ u. old_doing (f u) u)

abbrev pub old_step : Float → State → Moved
old_step rate s = let u = old_taken s in finished (old_doing (acts_of rate (head_event s) u) u) (head_event s)

unfoldable pub old_run_from : Float → ℕ → ℕ → State → Ran
old_run_from rate zero d s = ends spent d s
old_run_from rate (suc b) d s = onward (old_step rate s).how (old_step rate s).state d (old_run_from rate b)

abbrev pub old_run_all : Float → ℕ → State → Ran
old_run_all rate b s = run_checks (sized s) s.mark (rated rate) (old_standing s) (λ r. refusal r s) (old_run_from rate b 0 s)

abbrev pub old_start : Domain → ℕ → List Particle → Begun
old_start b room gs =
    let s = clear b room (length gs) in
    start_checks (box_ok b) (counts_ok room (length gs)) (eqb (first_bad b gs) (length gs)) (λ r. refused r (blamed b gs r)) (started_at (old_doing (start_acts b gs s) s))

-- ---- an outcome by either rule, with every pending event fine
abbrev Same : Out State → Out State → Type 0
Same o p = (o ≡ p) × AllFine o.st

requeued_fine : (s : State) (c : ℕ) (r : Row Place) → AllFine s → Fine r.live → AllFine (requeued c r s)
unfolding requeued
requeued_fine s c r f p = fine_set s.queues c r f p

-- ---- an act
insert_as_before : (c : ℕ) (e : Place) (s : State) → AllFine s → Same (insert c e s) (old_insert c e s)
unfolding insert
insert_as_before c e s f = by (fine_place e) (ltb (length (queue s c)) s.room) refl
  where
    by : (b r : Bool) → fine_place e ≡ b → Same (cond b (cond r (out 0 (inserted c e s)) (out 6 s)) (out 5 s)) (cond b (cond r (out 0 (old_inserted c e s)) (out 6 s)) (out 5 s))
    by true true q = (ap (out 0) (inserted_as_before s f c e q), requeued_fine s c _ f (all_insert (λ x. fine_place x ≡ true) e (queue s c) q (f c)))
    by true false q = (refl, f)
    by false r q = (refl, f)

perform_as_before : (a : Act) (s : State) → AllFine s → Same (perform a s) (old_perform a s)
perform_as_before (moving g x t) s f = (refl, store_case (λ o. AllFine o.st) s g _ f (λ q. f))
perform_as_before (turning g p) s f = (refl, store_case (λ o. AllFine o.st) s g p f (λ q. f))
perform_as_before (trying c r (Ok None)) s f = (refl, f)
perform_as_before (trying c r (Ok (Some e))) s f = insert_as_before c (place_of e) s f
perform_as_before (trying c r (Err _)) s f = (refl, f)
perform_as_before (cancelling g c) s f =
    (ap (out 0) (cancelled_as_before s f g c), unfold cancelled in requeued_fine s c _ f (all_keep (λ x. fine_place x ≡ true) g (queue s c) (f c)))
perform_as_before (entering g c) s f = (refl, enter_case (λ o. AllFine o.st) s g c (λ a. f) f (λ a b d. f))
perform_as_before (leaving g c) s f = (refl, leave_case (λ o. AllFine o.st) s g c f (λ a. f))

-- ---- a row of acts
doing_as_before : (w : Acts) (s : State) → AllFine s → Same (doing w s) (old_doing w s)
unfolding doing old_doing
doing_as_before ended s f = (refl, f)
doing_as_before (act a w) s f =
    let k = perform_as_before a s f in
    let i = by (perform a s).num k.1 (doing_as_before (w (perform a s).st) (perform a s).st k.1) in
    (i.0 ∙ ap (λ (o : Out State). then o (λ u. old_doing (w u) u)) k.0, i.1)
  where
    by : (r : ℕ) → let u = (perform a s).st in AllFine u → Same (doing (w u) u) (old_doing (w u) u) → Same (next r u (λ v. doing (w v) v)) (next r u (λ v. old_doing (w v) v))
    by zero g i = i
    by (suc r) g i = (refl, g)

-- ---- a step
taken_fine : (s : State) → AllFine s → AllFine (taken s)
unfolding taken
taken_fine s f = requeued_fine s (first s) _ f (fine_tail (queue s (first s)) (f (first s)))

step_as_before : (rate : Float) (s : State) → AllFine s → (step rate s ≡ old_step rate s) × AllFine (step rate s).state
unfolding step event
step_as_before rate s f = (ap (λ (o : Out State). finished o (head_event s)) (k.0 ∙ ap (λ (u : State). old_doing (acts_of rate (head_event s) u) u) (taken_as_before s f)), by (event rate s).num)
  where
    k : Same (event rate s) (old_doing (acts_of rate (head_event s) (taken s)) (taken s))
    k = doing_as_before (acts_of rate (head_event s) (taken s)) (taken s) (taken_fine s f)

    by : (r : ℕ) → AllFine (finish r (event rate s).st (head_event s)).state
    by zero = k.1
    by (suc r) = k.1

-- ---- a run
runs_as_before : (rate : Float) (b d : ℕ) (s : State) → AllFine s → run_from rate b d s ≡ old_run_from rate b d s
unfolding run_from old_run_from
runs_as_before rate zero d s f = refl
runs_as_before rate (suc b) d s f =
    let k = step_as_before rate s f in
    by (step rate s).how (runs_as_before rate b (suc d) (step rate s).state k.1) ∙ ap (λ (m : Moved). onward m.how m.state d (old_run_from rate b)) k.0
  where
    by : (h : Stepped) → let u = (step rate s).state in run_from rate b (suc d) u ≡ old_run_from rate b (suc d) u → onward h u d (run_from rate b) ≡ onward h u d (old_run_from rate b)
    by done i = i
    by synchronised i = refl
    by (halted r) i = refl

standing_fine : (s : State) → standing s ≡ true → AllFine s
unfolding standing
standing_fine s e =
    let n = s.sched.cells in
    queued_fine s (and_l (queued s.clock s.room n s.members s.queues) _ (and_r (linked (length s.grains) n s.homes s.members) _ (and_r (settled s.mark s.clock s.box n s.grains) _ (and_r (shaped s) _ e))))

clear_fine : (b : Domain) (room n : ℕ) → AllFine (clear b room n)
unfolding clear
clear_fine b room n c = subst Fine (sym (empty_live (cells b) room zero_p c)) tt

-- THE THEOREMS: of any state, any rate and any budget; and of any box, room and grains.
pub run_as_before : (rate : Float) (b : ℕ) (s : State) → run_all rate b s ≡ old_run_all rate b s
unfolding run_all
run_as_before rate b s = by (standing s) refl ∙ ap (λ (x : Bool). checked x (old_run_from rate b 0 s)) (standing_as_before s)
  where
    checked : Bool → Ran → Ran
    checked x r = run_checks (sized s) s.mark (rated rate) x (λ r. refusal r s) r

    by : (x : Bool) → standing s ≡ x → checked x (run_from rate b 0 s) ≡ checked x (old_run_from rate b 0 s)
    by true e = ap (checked true) (runs_as_before rate b 0 s (standing_fine s e))
    by false e = refl

pub start_as_before : (b : Domain) (room : ℕ) (gs : List Particle) → start b room gs ≡ old_start b room gs
unfolding start begin
start_as_before b room gs =
    let s = clear b room (length gs) in
    ap (λ (o : Out State). start_checks (box_ok b) (counts_ok room (length gs)) (eqb (first_bad b gs) (length gs)) (λ r. refused r (blamed b gs r)) (started_at o))
    (doing_as_before (start_acts b gs s) s (clear_fine b room (length gs))).0
