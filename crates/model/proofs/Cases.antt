-- What each act's outcome is, by its tests, in 01's order: an act is done only where all of them pass. Assumes nothing.
use Prim.Native.Nat.{ℕ, ◌≤◌, ◌<◌}
use mathlib.Core.Path.{◌≡◌, refl}
use mathlib.Core.List.{List}
use mathlib.Core.Bool.{Bool, true, false, cond}
use lib.Dec.{ltb, leb}
use lib.ListN.{length, set}
use borrow.Author.Tests.{ltb-true, ltb-false, leb-false}
use Rattle.halting.specs.Out.{Out, out}
use Rattle.model.specs.declared.Particle.{Particle}
use Rattle.model.specs.declared.Place.{Place}
use Rattle.std.specs.Prelude.{Some, None, Ok, Err}
use Rattle.model.specs.Plans.{Plan}
use Rattle.scheduler.specs.declared.Scheduler.{Scheduler}
use Rattle.model.specs.Events.{fine_place, place_of}
use Rattle.model.specs.State.{Row, State, home, listed, queue, has, with_grains, with_queues, requeued}
use Rattle.model.specs.Acts.{fine_grain, store, insert, inserted, put, enter, entered, leave, gone}

pub on_test : {A : Type 0} (P : A → Type 0) (b : Bool) (x y : A) → (b ≡ true → P x) → (b ≡ false → P y) → P (cond b x y)
on_test P true x y f g = f refl
on_test P false x y f g = g refl

module _ (P : Out State → Type 0) (s : State) where
  -- 5
  pub store_case : (g : ℕ) (p : Particle) → P (out 5 s) → (fine_grain p ≡ true → P (out 0 (with_grains (set s.grains g p) s))) → P (store g p s)
  unfolding store
  store_case g p five done = on_test P (fine_grain p) (out 0 (with_grains (set s.grains g p) s)) (out 5 s) done (λ f. five)

  -- 5 before 6
  pub insert_case : (c : ℕ) (e : Place) → P (out 5 s) → (s.room ≤ length (queue s c) → P (out 6 s)) → (fine_place e ≡ true → length (queue s c) < s.room → P (out 0 (inserted c e s))) → P (insert c e s)
  unfolding insert
  insert_case c e five six done =
      on_test P (fine_place e) (cond (ltb (length (queue s c)) s.room) (out 0 (inserted c e s)) (out 6 s)) (out 5 s)
      (λ f. on_test P (ltb (length (queue s c)) s.room) (out 0 (inserted c e s)) (out 6 s) (λ r. done f (ltb-true _ _ r)) (λ r. six (ltb-false _ _ r)))
      (λ f. five)

  -- what was found goes in: of the state only events change
  pub put_case : (c : ℕ) (x : Plan) → ((r : ℕ) → P (out r s)) → ((q : List (Row Place)) (h : Scheduler) → P (out 0 (with_queues q h s))) → P (put c x s)
  put_case c (Ok None) same new = same 0
  put_case c (Ok (Some e)) same new = insert_case c (place_of e) (same 5) (λ r. same 6) (λ f r. unfold requeued in new _ _)
  put_case c (Err _) same new = same 5

  -- 8 before 7, the cell's room before the grain's
  pub enter_case : (g c : ℕ) → (has g (listed s c) ≡ true → P (out 8 s)) → P (out 7 s) → (has g (listed s c) ≡ false → length (listed s c) < 32 → length (home s g) < 8 → P (out 0 (entered g c s))) → P (enter g c s)
  unfolding enter
  enter_case g c eight seven done =
      on_test P (has g (listed s c)) (out 8 s) (cond (ltb (length (listed s c)) 32) (cond (ltb (length (home s g)) 8) (out 0 (entered g c s)) (out 7 s)) (out 7 s)) eight
      (λ a. on_test P (ltb (length (listed s c)) 32) (cond (ltb (length (home s g)) 8) (out 0 (entered g c s)) (out 7 s)) (out 7 s)
      (λ b. on_test P (ltb (length (home s g)) 8) (out 0 (entered g c s)) (out 7 s) (λ d. done a (ltb-true _ _ b) (ltb-true _ _ d)) (λ d. seven)) (λ b. seven))

  -- 9
  pub leave_case : (g c : ℕ) → P (out 9 s) → (1 < length (home s g) → P (out 0 (gone g c s))) → P (leave g c s)
  unfolding leave
  leave_case g c nine done = on_test P (leb (length (home s g)) 1) (out 9 s) (out 0 (gone g c s)) (λ a. nine) (λ a. done (leb-false _ _ a))
