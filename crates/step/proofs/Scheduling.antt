-- What each scheduling does to the tables, from what its calls do. Assumes nothing.
use Prim.Native.Nat.{ℕ, ◌+◌, ◌<◌, ◌≤◌}
use mathlib.Core.Path.{◌≡◌, refl, sym, ap, subst, ◌∙◌}
use mathlib.Core.List.{List, [], ◌∷◌}
use native.Mathlib.Numerals.{add-one}
use lib.Ieee.{Float}
use lib.ListN.{length, get_or, drop, drop_of_length-le}
use lib.Seq.{drop-cons}
use Rattle.std.specs.Prelude.{Result}
use Rattle.std.specs.Result.{IsErrAnd}
use Rattle.halting.specs.Out.{Out, out, then, each, each_of}
use Rattle.cell.specs.declared.Cell.{Cell}
use Rattle.cell.specs.Cell.{cell_of}
use Rattle.cell.proofs.Laws.{index_cell}
use Rattle.model.specs.declared.Bound.{Bound}
use Rattle.model.specs.declared.Bound.TheVariants.{ToNeighbour, OutOfCell, Wall}
use Rattle.model.specs.declared.Particle.{Particle}
use Rattle.model.specs.declared.refusal.Halt.{Halt}
use Rattle.model.specs.Refusals.{halt_number, number_of}
use Rattle.model.specs.Plans.{Plan}
use Rattle.model.specs.Reports.{plan_told}
use Rattle.model.specs.State.{State, home, listed, grain, zero_g}
use Rattle.model.specs.Acts.{put}
use Rattle.model.specs.Doing.{step_grain, schedule_collision, schedule_by, boundaries, schedule_with, schedule_events, again}
use Rattle.model.specs.Rows.{others, Finder, finder}
use Rattle.model.specs.Collision.{collision}
use Rattle.model.proofs.Answers.{one_plan}
use Rattle.tables.specs.declared.Sizes.{Sizes}
use Rattle.tables.specs.Holds.{Grained}
use Rattle.acts.specs.declared.queue.Queues.{Queues}
use Rattle.acts.specs.Tell.{At, InGrains, GrainsTold, InQueues, QueuesTold}
use Rattle.acts.proofs.Touch.{each_step_only}
use Rattle.step.specs.declared.World.{World}
use Rattle.step.specs.World.{Seen, Held, Does, Celled}
use Rattle.step.proofs.Does.{does_halt, does_on, does_as, then_none}
use Rattle.step.proofs.Leaves.{held_do, grains_do, stepped_only, put_does}

-- what a grain's reader gave
abbrev pub Read : List Float → ℕ → Particle → Type 0
Read t i a = (z : Sizes) (gs : List Particle) → Grained z t gs → a ≡ get_or gs i zero_g

module _ {w : World} {g : List Float} {q q₁ : Queues} {r : ℕ} where
  pub collide_does : (c i j : ℕ) (plan : Plan) {a b : Particle} → plan_told plan ≡ plan_told (collision w.domain w.clock c i j a b) → Read g i a → Read g j b
      → ((s : State) → InQueues w.sizes q s → QueuesTold w.sizes q₁ r (put c plan s)) → Does (Seen w g q) (Seen w g q₁) r (schedule_collision c i j)
  collide_does c i j plan {a} {b} k x y t =
      put_does c plan (λ s. collision s.box s.clock c i j (grain s i) (grain s j))
      (λ s h. let m : s.box ≡ w.domain = h.at.0 in let n : s.clock ≡ w.clock = h.at.1 in let x₁ : a ≡ grain s i = x w.sizes s.grains h.grained in let y₁ : b ≡ grain s j = y w.sizes s.grains h.grained in
      one_plan plan _ k ∙ rw (m, n, x₁, y₁)) t

  pub bound_does : (f : Finder) (d c i : ℕ) (plan : Plan) {a : Particle} → plan_told plan ≡ plan_told (f d w.domain w.clock c i a) → Read g i a
      → ((s : State) → InQueues w.sizes q s → QueuesTold w.sizes q₁ r (put c plan s)) → Does (Seen w g q) (Seen w g q₁) r (schedule_by f c i d)
  bound_does f d c i plan {a} k x t =
      put_does c plan (λ s. f d s.box s.clock c i (grain s i))
      (λ s h. let m : s.box ≡ w.domain = h.at.0 in let n : s.clock ≡ w.clock = h.at.1 in let x₁ : a ≡ grain s i = x w.sizes s.grains h.grained in
      one_plan plan _ k ∙ rw (m, n, x₁)) t

-- ---- the three kinds at a cell's bounds, as a loop over them goes
module _ (c p : ℕ) where
  abbrev pub bound : Bound → State → Out State
  bound b s = each (schedule_by (finder b) c p) 2 0 s

  abbrev pub kinds : List Bound → State → Out State
  kinds [] s = out 0 s
  kinds (b ∷ bs) s = then (bound b s) (kinds bs)

  pub kinds_turn : (bs : List Bound) (i : ℕ) (b : Bound) → i < length bs → (s : State) → kinds (drop i bs) s ≡ then (bound (get_or bs i b) s) (kinds (drop (i + 1) bs))
  kinds_turn bs i b h s = rw (drop-cons bs i b h, add-one i)

  pub kinds_end : (bs : List Bound) (i : ℕ) → length bs ≤ i → (s : State) → kinds (drop i bs) s ≡ out 0 s
  kinds_end bs i h s = rw (drop_of_length-le bs h) refl

  pub kinds_all : (s : State) → kinds (ToNeighbour ∷ OutOfCell ∷ Wall ∷ []) s ≡ boundaries c p s
  unfolding boundaries
  kinds_all s = λ i. then (bound ToNeighbour s) (λ u. then (bound OutOfCell u) (λ v. then_none (bound Wall v) i))

-- ---- schedule_events: its two calls beside the lists, and in turn over the part of the lists where the cell's grains stand
abbrev stepped : ℕ → List ℕ → ℕ → State → Out State
stepped p l c s = then (each_of (schedule_collision c p) (others p l) s) (boundaries c p)

module _ {w : World} {k : List ℕ} {g : List Float} {q : Queues} {r : ℕ} (p : ℕ) (l : List ℕ) where
  pub others_held : {g₁ : List Float} → ((s : State) → InGrains w.sizes g s → At w.domain w.clock s → GrainsTold w.sizes g₁ r (each_of step_grain (others p l) s))
      → Does (Held w k g q) (Held w k g₁ q) r (each_of step_grain (others p l))
  others_held t = grains_do (each_of step_grain (others p l)) (λ s. each_step_only (others p l) s) t

  pub stepped_held : {q₁ : Queues} {c i : ℕ} → c ≡ i → Does (Seen w g q) (Seen w g q₁) r (stepped p l c) → Does (Held w k g q) (Held w k g q₁) r (stepped p l i)
  stepped_held {q₁} {c} n d =
      subst (λ (j : ℕ). Does (Held w k g q) (Held w k g q₁) r (stepped p l j)) n
      (held_do (stepped p l c) (λ s. stepped_only c p (others p l) s) d)

same : (p c : ℕ) (l : List ℕ) (s : State) → l ≡ listed s c → schedule_with p c (others p l) s ≡ schedule_events p c s
unfolding schedule_events
same p c l s e = ap (λ (m : List ℕ). schedule_with p c (others p m) s) e

module _ {P Q : State → Type 0} (p c : ℕ) (l : List ℕ) (is : (s : State) → P s → l ≡ listed s c) where
  pub events_halt : {A : Type 0} (r : Result A Halt) (h : Halt) → IsErrAnd r (λ (x : Halt). x ≡ h) → Does P Q (halt_number h) (each_of step_grain (others p l)) → Does P Q (number_of r) (schedule_events p c)
  unfolding schedule_with
  events_halt r h e d = does_as (λ s k. same p c l s (is s k)) (does_halt (λ s u. then (each_of (schedule_collision c p) (others p l) u) (λ v. boundaries c p v)) r h e d)

  pub events_on : {P₁ : State → Type 0} {r : ℕ} → Does P P₁ 0 (each_of step_grain (others p l)) → Does P₁ Q r (stepped p l c) → Does P Q r (schedule_events p c)
  unfolding schedule_with
  events_on d e = does_as (λ s h. same p c l s (is s h)) (does_on d e)

-- ---- in each cell of a grain, over the part of the lists where they stand
module _ {P Q : State → Type 0} {r : ℕ} (p : ℕ) (l : List ℕ) (is : (s : State) → P s → l ≡ home s p) where
  pub again_does : Does P Q r (each_of (λ c. schedule_events p c) l) → Does P Q r (again p)
  unfolding again
  again_does d = does_as (λ s h. ap (λ (m : List ℕ). each_of (λ c. schedule_events p c) m s) (is s h)) d

-- ---- the cell that is made of an index
pub made_cell : {w : World} (i : ℕ) {c : Cell} → c ≡ cell_of w.domain i → i < w.sizes.cells → Celled w c
made_cell {w = w} i e h = let k = index_cell w.domain i e in record { is = e ∙ ap (cell_of w.domain) (sym k); inside = rw k h }
