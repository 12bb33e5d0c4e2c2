-- 01, "Doing an event" and "Synchronisation": an event's row of acts (Rows) done, and a step. Assumes nothing: these are definitions.
use Rattle.std.specs.Prelude.{ℕ, zero, suc, Float}
use Rattle.halting.specs.Out.{Out}
use Rattle.model.specs.declared.Event.{Event}
use Rattle.model.specs.declared.Event.TheVariants.{InterParticleCollision, MoveToNeighbour, MoveOutOfCell, WallReflection, Synchronisation}
use Rattle.model.specs.Events.{event_of}
use Rattle.model.specs.State.{State, marked}
use Rattle.model.specs.Acts.{head, taken}
use Rattle.model.specs.Rows.{doing, acts_of}

abbrev pub execute : Float → Event → State → Out State
execute rate e s = doing (acts_of rate e s) s

-- ---- a step: remove the head, update the heap, set the clock (`taken`), execute; a refusal is marked
pub data Stepped : Type 0 where
  done synchronised : Stepped
  halted : ℕ → Stepped

pub record Moved : Type 0 where
  pub how : Stepped
  pub state : State

abbrev pub moved_to : Stepped → State → Moved
moved_to h s = record { how = h; state = s }

abbrev pub was_sync : Event → Stepped
was_sync (InterParticleCollision p q x y v w k) = done
was_sync (MoveToNeighbour p x k) = done
was_sync (MoveOutOfCell p x k) = done
was_sync (WallReflection p x v w) = done
was_sync Synchronisation = synchronised

abbrev pub finish : ℕ → State → Event → Moved
finish zero s e = moved_to (was_sync e) s
finish (suc r) s e = moved_to (halted (suc r)) (marked (suc r) s)

abbrev pub finished : Out State → Event → Moved
finished o e = finish o.num o.st e

abbrev pub head_event : State → Event
head_event s = event_of (head s).kind (head s)

unfoldable pub event : Float → State → Out State
event rate s = execute rate (head_event s) (taken s)

unfoldable pub step : Float → State → Moved
step rate s = finished (event rate s) (head_event s)
