-- What init_events does to the tables, from what its calls do. Assumes nothing.
use Prim.Native.Nat.{ℕ, zero, suc, ◌+◌, ◌-◌, ◌<◌, ◌≤◌}
use mathlib.Core.Path.{◌≡◌, refl, ap, subst}
use mathlib.Core.List.{List, [], ◌∷◌}
use native.Mathlib.Nat.{suc-ne-zero}
use native.Mathlib.Numerals.{add-one}
use lib.Ieee.{Float}
use lib.ListN.{length, get_or, take, drop, drop_of_length-le}
use lib.Seq.{drop-cons}
use Rattle.std.specs.Prelude.{Result}
use Rattle.std.specs.Result.{IsErrAnd}
use Rattle.std.proofs.lemmas.List.{take_rest}
use Rattle.halting.specs.Out.{out, then, each_of}
use Rattle.order.specs.Numbers.{fzero}
use Rattle.model.specs.declared.Place.{Place}
use Rattle.model.specs.declared.refusal.Halt.{Halt}
use Rattle.model.specs.Refusals.{halt_number, number_of}
use Rattle.model.specs.State.{State, listed}
use Rattle.model.specs.Acts.{insert}
use Rattle.model.specs.Doing.{schedule_collision, boundaries, sync_at, pairs, sync_in, init_cell}
use Rattle.acts.specs.declared.queue.Queues.{Queues}
use Rattle.acts.specs.Tell.{InQueues}
use Rattle.step.specs.declared.World.{World}
use Rattle.step.specs.World.{Seen, Held, Does}
use Rattle.acts.proofs.Touch.{touch_then, touch_of}
use Rattle.acts.proofs.Frame.{OnlyQueues, queues_none, queues_both, insert_only}
use Rattle.step.proofs.Does.{does_none, does_halt, does_on, does_as}
use Rattle.step.proofs.Leaves.{queues_do, held_do, collisions_only, bounds_only}

-- ---- the first synchronisation
pub sync_none : {P : State → Type 0} (c : ℕ) → (c ≡ 0 → ⊥) → Does P P 0 (sync_in c)
sync_none zero n = absurd (n refl)
sync_none (suc c) n = does_none

pub sync_some : {P Q : State → Type 0} {r : ℕ} (c : ℕ) (x : Place) → c ≡ 0 → x ≡ sync_at fzero → ((s : State) → P s → (r ≡ (insert 0 x s).num) × Q (insert 0 x s).st) → Does P Q r (sync_in c)
sync_some {P} {Q} {r} zero x z e t = subst (λ (y : Place). Does P Q r (insert 0 y)) e (record { says = t })
sync_some (suc c) x z e t = absurd (suc-ne-zero c z)

sync_only : (c : ℕ) (s : State) → OnlyQueues s (sync_in c s).st
sync_only zero s = insert_only 0 (sync_at fzero) s
sync_only (suc c) s = refl

-- ---- the pairs of a list, as a loop over it goes
pairs_only : (c : ℕ) (l : List ℕ) (s : State) → OnlyQueues s (pairs c l s).st
unfolding pairs
pairs_only c [] s = refl
pairs_only c (p ∷ l) s = touch_then OnlyQueues queues_none queues_both s (each_of (schedule_collision c p) l s) (pairs c l) (collisions_only c p l s) (pairs_only c l)

-- what stands behind the i-th is lent on as a part
pub pairs_turn : (c : ℕ) (l : List ℕ) (i : ℕ) → i < length l → (s : State)
    → pairs c (drop i l) s ≡ then (each_of (schedule_collision c (get_or l i 0)) (take (length l - (i + 1)) (drop (i + 1) l)) s) (pairs c (drop (i + 1) l))
unfolding pairs
pairs_turn c l i h s = rw (take_rest l (i + 1), drop-cons l i 0 h, add-one i)

pub pairs_end : (c : ℕ) (l : List ℕ) (i : ℕ) → length l ≤ i → (s : State) → pairs c (drop i l) s ≡ out 0 s
unfolding pairs
pairs_end c l i h s = rw (drop_of_length-le l h) refl

-- ---- one cell: the three parts beside the lists, and in turn
module _ {w : World} {l : List ℕ} {g : List Float} {q q₁ : Queues} {r : ℕ} where
  pub sync_held : (c : ℕ) → Does (InQueues w.sizes q) (InQueues w.sizes q₁) r (sync_in c) → Does (Held w l g q) (Held w l g q₁) r (sync_in c)
  sync_held c d = held_do (sync_in c) (sync_only c) (queues_do (sync_in c) (sync_only c) (λ s h. d.says s h.queued))

  pub pairs_held : {c i : ℕ} (m : List ℕ) → c ≡ i → Does (Seen w g q) (Seen w g q₁) r (pairs c m) → Does (Held w l g q) (Held w l g q₁) r (pairs i m)
  pairs_held {c} {i} m k d = held_do (pairs i m) (pairs_only i m) (subst (λ (j : ℕ). Does (Seen w g q) (Seen w g q₁) r (pairs j m)) k d)

  pub bounds_held : {c i : ℕ} (m : List ℕ) → c ≡ i → Does (Seen w g q) (Seen w g q₁) r (each_of (λ p. boundaries c p) m) → Does (Held w l g q) (Held w l g q₁) r (each_of (λ p. boundaries i p) m)
  bounds_held {c} {i} m k d =
      held_do (each_of (λ p. boundaries i p) m) (λ s. touch_of OnlyQueues queues_none queues_both (λ p. boundaries i p) (λ p u. bounds_only i p u) m s)
      (subst (λ (j : ℕ). Does (Seen w g q) (Seen w g q₁) r (each_of (λ p. boundaries j p) m)) k d)

module _ {P Q : State → Type 0} (c : ℕ) where
  pub init_first : {A : Type 0} (r : Result A Halt) (h : Halt) → IsErrAnd r (λ (x : Halt). x ≡ h) → Does P Q (halt_number h) (sync_in c) → Does P Q (number_of r) (init_cell c)
  unfolding init_cell
  init_first r h e d = does_halt (λ s u. then (pairs c (listed u c) u) (λ v. each_of (λ p. boundaries c p) (listed v c) v)) r h e d

  pub init_second : {A : Type 0} {P₁ : State → Type 0} (r : Result A Halt) (h : Halt) (l : List ℕ) → ((s : State) → P₁ s → l ≡ listed s c) → IsErrAnd r (λ (x : Halt). x ≡ h)
      → Does P P₁ 0 (sync_in c) → Does P₁ Q (halt_number h) (pairs c l) → Does P Q (number_of r) (init_cell c)
  unfolding init_cell
  init_second r h l is e d f = does_on d (does_halt (λ s v. each_of (λ p. boundaries c p) (listed v c) v) r h e (does_as (λ s i. ap (λ (k : List ℕ). pairs c k s) (is s i)) f))

  pub init_third : {P₁ P₂ : State → Type 0} {r : ℕ} (l : List ℕ) → ((s : State) → P₁ s → l ≡ listed s c) → ((s : State) → P₂ s → l ≡ listed s c)
      → Does P P₁ 0 (sync_in c) → Does P₁ P₂ 0 (pairs c l) → Does P₂ Q r (each_of (λ p. boundaries c p) l) → Does P Q r (init_cell c)
  unfolding init_cell
  init_third l is is₁ d e f =
      does_on d (does_on (does_as (λ s h. ap (λ (k : List ℕ). pairs c k s) (is s h)) e) (does_as (λ s h. ap (λ (k : List ℕ). each_of (λ p. boundaries c p) k s) (is₁ s h)) f))
