-- What the acts on queues leave as it was, also in a row: all but queues and scheduler. Assumes nothing.
use Prim.Native.Nat.{ℕ}
use mathlib.Core.Path.{◌≡◌, refl, sym, ap, ◌∙◌, subst}
use mathlib.Core.List.{List}
use mathlib.Core.Bool.{Bool, true, false, cond}
use lib.Dec.{ltb}
use lib.ListN.{length, get_or}
use lib.Ieee.{Float}
use Rattle.halting.specs.Out.{out, each_of}
use Rattle.model.specs.declared.Place.{Place}
use Rattle.std.specs.Prelude.{Ok, Err, Some, None}
use Rattle.model.specs.Plans.{Plan}
use Rattle.model.specs.Events.{place_of, fine_place}
use Rattle.model.specs.State.{Row, none, State, queue, with_queues, requeued}
use Rattle.model.specs.Acts.{insert, inserted, put, cancel, cancelled, taken}
use Rattle.tables.specs.declared.Sizes.{Sizes}
use Rattle.tables.specs.Holds.{Queued, Holds}
use Rattle.tables.specs.Queues.{without}
use Rattle.acts.proofs.Touch.{touch_of}

-- u is s but for queues and scheduler
abbrev pub OnlyQueues : State → State → Type 0
OnlyQueues s u = u ≡ with_queues u.queues u.sched s

pub queues_none : (s : State) → OnlyQueues s s
queues_none s = refl

pub queues_both : (s u w : State) → OnlyQueues s u → OnlyQueues u w → OnlyQueues s w
queues_both s u w a b = b ∙ ap (λ (x : State). with_queues w.queues w.sched x) a

-- ---- the acts
requeued_only : (c : ℕ) (r : Row Place) (s : State) → OnlyQueues s (requeued c r s)
unfolding requeued
requeued_only c r s = refl

pub insert_only : (c : ℕ) (e : Place) (s : State) → OnlyQueues s (insert c e s).st
unfolding insert
insert_only c e s = go (fine_place e) (ltb (length (queue s c)) s.room)
  where
    go : (a b : Bool) → OnlyQueues s (cond a (cond b (out 0 (inserted c e s)) (out 6 s)) (out 5 s)).st
    go true true = requeued_only c _ s
    go true false = refl
    go false b = refl

pub put_only : (c : ℕ) (p : Plan) (s : State) → OnlyQueues s (put c p s).st
put_only c (Ok None) s = refl
put_only c (Ok (Some e)) s = insert_only c (place_of e) s
put_only c (Err _) s = refl

pub cancelled_only : (g c : ℕ) (s : State) → OnlyQueues s (cancelled g c s)
unfolding cancelled
cancelled_only g c s = requeued_only c (without g (get_or s.queues c none)) s

pub each_cancel_only : (g : ℕ) (l : List ℕ) (s : State) → OnlyQueues s (each_of (λ c. cancel g c) l s).st
each_cancel_only g l s = touch_of OnlyQueues queues_none queues_both (λ c. cancel g c) (λ c u. cancelled_only g c u) l s

-- ---- a fact of the state that speaks neither of the queues nor of the scheduler goes along
pub queues_along : (P : State → Type 0) (s u : State) → OnlyQueues s u → P (with_queues u.queues u.sched s) → P u
queues_along P s u o p = subst P (sym o) p

-- ---- all tables hold the state without its head, where those that the act touched do
pub taken_all : {z : Sizes} {l : List ℕ} {t : List Float} {q q' : List ℕ} {e e' : List Float} {o o' : List ℕ} (s : State) → Holds z l t q e o s → Queued z q' e' o' (taken s)
    → Holds z l t q' e' o' (taken s)
unfolding taken requeued
taken_all s h k = record { listed = h.listed; grained = h.grained; queued = k }
