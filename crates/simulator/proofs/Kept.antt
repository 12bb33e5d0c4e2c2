-- What steps and runs leave as it was: the box, the room, and how many grains there are. Assumes nothing.
use Prim.Native.Nat.{ℕ, zero, suc}
use mathlib.Core.Path.{◌≡◌, refl, ◌∙◌, subst}
use mathlib.Core.List.{List, [], ◌∷◌}
use lib.ListN.{length, length-set}
use lib.Ieee.{Float}
use Rattle.std.specs.Prelude.{Some, None, Ok, Err}
use Rattle.model.specs.declared.Event.{Event}
use Rattle.model.specs.declared.Place.{Place}
use Rattle.model.specs.Events.{place_of}
use Rattle.model.specs.Stepping.{landed}
use Rattle.model.specs.State.{State, grain, requeued}
use Rattle.model.specs.Acts.{insert, cancelled, taken}
use Rattle.model.specs.Execute.{Stepped, done, synchronised, halted, finish, head_event, event, step}
use Rattle.model.specs.Run.{Ran, onward, run_from}
use Rattle.model.specs.Check.{run_all}
use Rattle.model.proofs.Cases.{store_case, insert_case, enter_case, leave_case}
use Rattle.model.specs.Rows.{Act, moving, turning, trying, cancelling, entering, leaving, perform}
use Rattle.model.proofs.Performs.{Does, execute_acted}
use Rattle.model.proofs.Refusals.{run_case}

pub record Kept (s u : State) : Type 0 where
  pub box : u.box ≡ s.box
  pub room : u.room ≡ s.room
  pub few : length u.grains ≡ length s.grains

kept_refl : (s : State) → Kept s s
kept_refl s = record { box = refl; room = refl; few = refl }

kept_trans : (s u v : State) → Kept s u → Kept u v → Kept s v
kept_trans s u v a b = record { box = b.box ∙ a.box; room = b.room ∙ a.room; few = b.few ∙ a.few }

-- ---- acts
insert_kept : (c : ℕ) (e : Place) (s : State) → Kept s (insert c e s).st
insert_kept c e s = insert_case (λ o. Kept s o.st) s c e (kept_refl s) (λ r. kept_refl s) (λ f r. unfold requeued in record { box = refl; room = refl; few = refl })

act_kept : (a : Act) (s : State) → Kept s (perform a s).st
unfolding cancelled requeued
act_kept (moving g x t) s = store_case (λ o. Kept s o.st) s g (landed x t (grain s g)) (kept_refl s) (λ f. record { box = refl; room = refl; few = length-set s.grains g (landed x t (grain s g)) })
act_kept (turning g p) s = store_case (λ o. Kept s o.st) s g p (kept_refl s) (λ f. record { box = refl; room = refl; few = length-set s.grains g p })
act_kept (trying c r (Ok None)) s = kept_refl s
act_kept (trying c r (Ok (Some e))) s = insert_kept c (place_of e) s
act_kept (trying c r (Err _)) s = kept_refl s
act_kept (cancelling g c) s = record { box = refl; room = refl; few = refl }
act_kept (entering g c) s = enter_case (λ o. Kept s o.st) s g c (λ a. kept_refl s) (kept_refl s) (λ a b d. record { box = refl; room = refl; few = refl })
act_kept (leaving g c) s = leave_case (λ o. Kept s o.st) s g c (kept_refl s) (λ a. record { box = refl; room = refl; few = refl })

pub does_kept : (xs : List Act) (s u : State) → Does xs s u → Kept s u
does_kept [] s u d = subst (Kept s) d (kept_refl s)
does_kept (a ∷ xs) s u d = kept_trans s (perform a s).st u (act_kept a s) (does_kept xs (perform a s).st u d.1)

-- ---- a step
taken_kept : (s : State) → Kept s (taken s)
unfolding taken requeued
taken_kept s = record { box = refl; room = refl; few = refl }

event_kept : (rate : Float) (s : State) → Kept s (event rate s).st
unfolding event
event_kept rate s = let a = execute_acted rate (head_event s) (taken s) in kept_trans s (taken s) (event rate s).st (taken_kept s) (does_kept a.acts (taken s) (event rate s).st a.did)

finish_kept : (s : State) (r : ℕ) (u : State) (e : Event) → Kept s u → Kept s (finish r u e).state
finish_kept s zero u e k = k
finish_kept s (suc r) u e k = record { box = k.box; room = k.room; few = k.few }

pub step_kept : (rate : Float) (s : State) → Kept s (step rate s).state
unfolding step
step_kept rate s = finish_kept s (event rate s).num (event rate s).st (head_event s) (event_kept rate s)

-- ---- a run
onward_kept : (s : State) (h : Stepped) (u : State) (d : ℕ) (f : ℕ → State → Ran) → Kept s u → ((e : ℕ) (w : State) → Kept w (f e w).state) → Kept s (onward h u d f).state
onward_kept s done u d f k g = kept_trans s u (f (suc d) u).state k (g (suc d) u)
onward_kept s synchronised u d f k g = k
onward_kept s (halted r) u d f k g = k

pub run_kept : (rate : Float) (b d : ℕ) (s : State) → Kept s (run_from rate b d s).state
unfolding run_from
run_kept rate zero d s = kept_refl s
run_kept rate (suc b) d s = onward_kept s (step rate s).how (step rate s).state d (run_from rate b) (step_kept rate s) (λ e w. run_kept rate b e w)

pub all_kept : (rate : Float) (b : ℕ) (s : State) → Kept s (run_all rate b s).state
all_kept rate b s = run_case (λ f. Kept s (f b).state) rate s (kept_refl s) (λ h. kept_refl s) (kept_refl s) (kept_refl s) (λ h R t. run_kept rate b 0 s)
