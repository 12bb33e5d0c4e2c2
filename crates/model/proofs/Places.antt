-- An event that is written at a place is read there again (`read_written`); a kind that is none of 1 to 4 reads as a synchronisation (`event_rest`).
-- Assumes nothing.
use Prim.Native.Nat.{ℕ, zero, suc}
use mathlib.Core.Path.{◌≡◌, refl}
use lib.Ieee.{Float}
use Rattle.model.specs.declared.Event.{Event}
use Rattle.model.specs.declared.Event.TheVariants.{InterParticleCollision, MoveToNeighbour, MoveOutOfCell, WallReflection, Synchronisation}
use Rattle.model.specs.declared.Pending.{Pending}
use Rattle.model.specs.declared.Place.{Place}
use Rattle.model.specs.Events.{place_of_event, place_of, event_of, pending_of}

pub read_written : (e : Pending) → pending_of (place_of e) ≡ e
read_written e = by e.time e.event
  where
    by : (t : Float) (v : Event) → pending_of (place_of_event t v) ≡ record { time = t; event = v }
    by t (InterParticleCollision p q pp qp pv qv v) = refl
    by t (MoveToNeighbour p x k) = refl
    by t (MoveOutOfCell p x k) = refl
    by t (WallReflection p x v w) = refl
    by t Synchronisation = refl

pub event_rest : (k : ℕ) (s : Place) → (k ≡ 1 → ⊥) → (k ≡ 2 → ⊥) → (k ≡ 3 → ⊥) → (k ≡ 4 → ⊥) → event_of k s ≡ Synchronisation
event_rest zero s a b c d = refl
event_rest (suc zero) s a b c d = absurd (a refl)
event_rest (suc (suc zero)) s a b c d = absurd (b refl)
event_rest (suc (suc (suc zero))) s a b c d = absurd (c refl)
event_rest (suc (suc (suc (suc zero)))) s a b c d = absurd (d refl)
event_rest (suc (suc (suc (suc (suc k))))) s a b c d = refl
