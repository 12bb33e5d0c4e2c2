-- The loop over a run's steps: what is left to do after some of them, and how the run ends. Assumes nothing.
use Prim.Native.Nat.{ℕ, zero, suc, ◌+◌, ◌-◌, ◌≤◌, ◌<◌}
use mathlib.Core.Path.{◌≡◌, refl, sym, ap, ◌∙◌, subst}
use mathlib.Core.Bool.{Bool, true, false}
use mathlib.Core.List.{List}
use native.Mathlib.Nat.{sub-zero}
use native.Mathlib.Numerals.{add-one}
use native.Mathlib.Omega.{arith}
use lib.Ieee.{Float}
use Rattle.std.specs.Prelude.{Ok, Err}
use Rattle.model.specs.declared.Event.{Event}
use Rattle.model.specs.declared.Event.TheVariants.{InterParticleCollision, MoveToNeighbour, MoveOutOfCell, WallReflection, Synchronisation}
use Rattle.model.specs.declared.End.TheVariants.{Synchronised, Spent}
use Rattle.model.specs.declared.refusal.Halt.{Halt}
use Rattle.model.specs.declared.refusal.RunError.TheVariants.{Halted}
use Rattle.model.specs.Refusals.{halt_number, number_of}
use Rattle.model.specs.Sizes.{rated}
use Rattle.model.specs.State.{State, marked}
use Rattle.model.specs.Execute.{Moved, moved_to, done, halted, finish, head_event, event, step}
use Rattle.model.specs.Execute as doing
use Rattle.model.specs.Run.{spent, refused, onward, run_from}
use Rattle.model.specs.Run as run
use Rattle.model.specs.Reports.{ran_of}
use Rattle.halting.proofs.Bools.{clash}
use Rattle.model.proofs.HaltNumbers.{halt_no_zero}
use Rattle.model.proofs.Sound.{Stands}
use Rattle.model.proofs.Stands.{stands, standing, sound_fitted}
use Rattle.model.proofs.Steps.{Whole, step_stands}
use Rattle.model.proofs.Whole.{rated_later}
use Rattle.tables.specs.declared.Sizes.{Sizes}
use Rattle.tables.specs.Holds.{Holds}
use Rattle.acts.specs.declared.queue.Queues.{Queues}
use Rattle.step.specs.declared.Stepped.{Stepped}
use Rattle.step.specs.declared.World.{World}
use Rattle.step.specs.World.{Held, Steady, SameBox, Does, is_sync}
use Rattle.running.specs.Going.{Lent, Gone}

-- ---- a step, by its event's number and kind
done_is : (r : ℕ) (u : State) (e : Event) → r ≡ 0 → is_sync e ≡ false → finish r u e ≡ moved_to done u
done_is zero u (InterParticleCollision p q x y v w k) z n = refl
done_is zero u (MoveToNeighbour p x k) z n = refl
done_is zero u (MoveOutOfCell p x k) z n = refl
done_is zero u (WallReflection p x v w) z n = refl
done_is zero u Synchronisation z n = clash (sym n)
done_is (suc r) u e z n = absurd (omega (arith, z))

sync_is : (r : ℕ) (u : State) (e : Event) → r ≡ 0 → is_sync e ≡ true → finish r u e ≡ moved_to doing.synchronised u
sync_is zero u (InterParticleCollision p q x y v w k) z n = clash n
sync_is zero u (MoveToNeighbour p x k) z n = clash n
sync_is zero u (MoveOutOfCell p x k) z n = clash n
sync_is zero u (WallReflection p x v w) z n = clash n
sync_is zero u Synchronisation z n = refl
sync_is (suc r) u e z n = absurd (omega (arith, z))

halt_is : (r k : ℕ) (u : State) (e : Event) → k ≡ r → (k ≡ 0 → ⊥) → finish r u e ≡ moved_to (halted k) (marked k u)
halt_is zero k u e p n = absurd (n p)
halt_is (suc r) k u e p n = rw p

-- ---- what is left to do: the parts hold a state that stands, of this world, from which the run goes on as from the first
pub record Left (o : World) (rate : Float) (budget : ℕ) (s : State) (w : World) (lists : List ℕ) (grains : List Float) (q : Queues) (d : ℕ) : Type 0 where
  pub now : State
  pub same : SameBox o w
  pub held : Held w lists grains q now
  pub stands : Stands now
  pub left : run_from rate (budget - d) d now ≡ run_from rate budget 0 s

pub holds_of : {w : World} {lists : List ℕ} {grains : List Float} {q : Queues} {s : State} → Held w lists grains q s → Holds w.sizes lists grains q.queue.now q.events.now q.order.now s
holds_of h = record { listed = h.listed; grained = h.seen.grained; queued = h.seen.queued }

pub steady_of : {o : World} {rate : Float} {budget : ℕ} {s : State} {w : World} {lists : List ℕ} {grains : List Float} {q : Queues} {d : ℕ}
    (N : Left o rate budget s w lists grains q d) → Steady w lists grains q N.now
steady_of N = record { holds = holds_of N.held; box = N.held.seen.at.0; standing = standing N.now N.stands; fitted = sound_fitted N.now N.stands.sound }

-- the parts do not hold the mark
marked_holds : {z : Sizes} {lists : List ℕ} {grains : List Float} {queue : List ℕ} {events : List Float} {order : List ℕ} (s : State) (r : ℕ)
    → Holds z lists grains queue events order s → Holds z lists grains queue events order (marked r s)
marked_holds s r h = record {
  listed = h.listed;
  grained = h.grained;
  queued = record { ranged = h.queued.ranged; tables = h.queued.tables; heap = h.queued.heap; room_is = h.queued.room_is };
}

-- ---- one step more
turn : (rate : Float) (budget d : ℕ) (u : State) (m : Moved) → d < budget → step rate u ≡ m → run_from rate (budget - d) d u ≡ onward m.how m.state d (run_from rate (budget - suc d))
unfolding run_from
turn rate budget d u m h e =
    let k : budget - d ≡ suc (budget - suc d) = omega arith in
    ap (λ (n : ℕ). run_from rate n d u) k ∙ ap (λ (x : Moved). onward x.how x.state d (run_from rate (budget - suc d))) e

module _ {o : World} {rate : Float} {budget : ℕ} {s : State} where
  pub left_first : {lists : List ℕ} {grains : List Float} {q : Queues} → Lent o lists grains q.queue.now q.events.now q.order.now s → Left o rate budget s o lists grains q 0
  left_first h = record {
    now = s;
    same = record { sizes = refl; domain = refl; grid = refl };
    held = record { listed = h.holds.listed; seen = record { at = (h.box, h.clock); grained = h.holds.grained; queued = h.holds.queued } };
    stands = stands s h.fitted h.stands;
    left = ap (λ (n : ℕ). run_from rate n 0 s) (sub-zero budget);
  }

  module _ {lists lists' : List ℕ} {grains grains' : List Float} {q q' : Queues} {w w' : World} {d : ℕ} (r : Stepped)
      (R : rated rate ≡ true) (h : d < budget) (N : Left o rate budget s w lists grains q d) (same : SameBox w w')
      (does : Does (Steady w lists grains q) (Held w' lists' grains' q') (number_of r.done) (event rate)) where
    abbrev u : State
    u = (event rate N.now).st

    number : number_of r.done ≡ (event rate N.now).num
    number = (does.says N.now (steady_of N)).0

    held : Held w' lists' grains' q' (event rate N.now).st
    held = (does.says N.now (steady_of N)).1

    boxed : SameBox o w'
    boxed = record { sizes = same.sizes ∙ N.same.sizes; domain = same.domain ∙ N.same.domain; grid = same.grid ∙ N.same.grid }

    whole : (m : Moved) → Whole m.how → step rate N.now ≡ m → Stands m.state
    whole m v e = subst (λ (x : Moved). Stands x.state) e (step_stands rate (rated_later rate R) N.now N.stands (subst (λ (x : Moved). Whole x.how) (sym e) v))

    placed : Holds o.sizes lists' grains' q'.queue.now q'.events.now q'.order.now (event rate N.now).st
    placed = subst (λ (z : Sizes). Holds z lists' grains' q'.queue.now q'.events.now q'.order.now u) boxed.sizes (holds_of held)

    pub gone-halted : (k : Halt) (m : ℕ) → r.done ≡ Err k → m ≡ d → Gone o lists' grains' q'.queue.now q'.events.now q'.order.now (record { end = Err (Halted k); clock = w'.clock; events = m }) (run_from rate budget 0 s)
    gone-halted k m err me =
        let n = halt_number k in
        let e : step rate N.now ≡ moved_to (halted n) (marked n u) = unfold step in halt_is (event rate N.now).num n u (head_event N.now) (sym (ap number_of err) ∙ number) (halt_no_zero k) in
        subst (Gone o lists' grains' q'.queue.now q'.events.now q'.order.now (record { end = Err (Halted k); clock = w'.clock; events = m })) (sym (turn rate budget d N.now (moved_to (halted n) (marked n u)) h e) ∙ N.left)
        (record {
          answer = λ i. ran_of (refused n) (sym held.seen.at.1 i) (me i) (marked n u);
          holds = marked_holds u n placed;
          box = held.seen.at.0 ∙ boxed.domain;
          clock = held.seen.at.1;
          mark = refl;
        })

    -- where a step is done, its kind is asked too
    module _ (kind : (u : State) → Steady w lists grains q u → r.sync ≡ is_sync (head_event u)) where
      kind_is : r.sync ≡ is_sync (head_event N.now)
      kind_is = kind N.now (steady_of N)

      pub left-more : r.done ≡ Ok tt → r.sync ≡ false → Left o rate budget s w' lists' grains' q' (d + 1)
      left-more ok more =
          let e : step rate N.now ≡ moved_to done u = unfold step in done_is (event rate N.now).num u (head_event N.now) (sym number ∙ ap number_of ok) (sym kind_is ∙ more) in
          record {
            now = u;
            same = boxed;
            held = held;
            stands = whole (moved_to done u) tt e;
            left = ap (λ (k : ℕ). run_from rate (budget - k) k u) (add-one d) ∙ sym (turn rate budget d N.now (moved_to done u) h e) ∙ N.left;
          }

      pub gone-sync : (n : ℕ) → r.done ≡ Ok tt → r.sync ≡ true → n ≡ d → Gone o lists' grains' q'.queue.now q'.events.now q'.order.now (record { end = Ok Synchronised; clock = w'.clock; events = n + 1 }) (run_from rate budget 0 s)
      gone-sync n ok last ne =
          let e : step rate N.now ≡ moved_to doing.synchronised u = unfold step in sync_is (event rate N.now).num u (head_event N.now) (sym number ∙ ap number_of ok) (sym kind_is ∙ last) in
          subst (Gone o lists' grains' q'.queue.now q'.events.now q'.order.now (record { end = Ok Synchronised; clock = w'.clock; events = n + 1 })) (sym (turn rate budget d N.now (moved_to doing.synchronised u) h e) ∙ N.left)
          (record {
            answer = λ i. ran_of run.synchronised (sym held.seen.at.1 i) ((ap (λ (k : ℕ). k + 1) ne ∙ add-one d) i) u;
            holds = placed;
            box = held.seen.at.0 ∙ boxed.domain;
            clock = held.seen.at.1;
            mark = (whole (moved_to doing.synchronised u) tt e).free;
          })

  -- the budget is spent
  pub gone_spent : {lists : List ℕ} {grains : List Float} {q : Queues} {w : World} {d : ℕ} (n : ℕ)
      → Left o rate budget s w lists grains q d → budget ≤ d → n ≡ d → Gone o lists grains q.queue.now q.events.now q.order.now (record { end = Ok Spent; clock = w.clock; events = n }) (run_from rate budget 0 s)
  unfolding run_from
  gone_spent {lists = lists} {grains = grains} {q = q} {w = w} {d = d} n N h ne =
      let k : budget - d ≡ 0 = omega arith in
      subst (Gone o lists grains q.queue.now q.events.now q.order.now (record { end = Ok Spent; clock = w.clock; events = n })) (ap (λ (n : ℕ). run_from rate n d N.now) (sym k) ∙ N.left)
      (record {
        answer = λ i. ran_of spent (sym N.held.seen.at.1 i) (ne i) N.now;
        holds = subst (λ (z : Sizes). Holds z lists grains q.queue.now q.events.now q.order.now N.now) N.same.sizes (holds_of N.held);
        box = N.held.seen.at.0 ∙ N.same.domain;
        clock = N.held.seen.at.1;
        mark = N.stands.free;
      })
