-- Storing a grain's numbers and stepping a grain, from what the leaves say of the table. Assumes nothing.
use Prim.Native.Nat.{ℕ, ◌-◌}
use native.Mathlib.Omega.{arith}
use mathlib.Core.Path.{◌≡◌, refl, sym, ap, ◌∙◌, subst}
use mathlib.Core.Bool.{true, false}
use mathlib.Core.List.{List}
use lib.Ieee.{Float}
use lib.ListN.{set}
use Rattle.halting.specs.Out.{Out, each}
use Rattle.model.specs.declared.Domain.{Domain}
use Rattle.model.specs.declared.Particle.{Particle}
use Rattle.model.specs.Stepping.{stepped}
use Rattle.model.specs.State.{State, grain}
use Rattle.model.specs.Acts.{fine_grain, store}
use Rattle.model.specs.Doing.{step_grain}
use Rattle.tables.specs.declared.Sizes.{Sizes}
use Rattle.tables.specs.Holds.{Grained}
use Rattle.acts.specs.Tell.{At, InGrains, Grains, GrainsTold}
use Rattle.acts.proofs.InTurn.{Tells}

pub store_refused : {z : Sizes} {t : List Float} (g : ℕ) (p : Particle) → fine_grain p ≡ false → (s : State) → InGrains z t s → GrainsTold z t 5 (store g p s)
unfolding store
store_refused g p e s S = rw e (refl, S)

pub store_done : {z : Sizes} {t t' : List Float} (g : ℕ) (p : Particle) → fine_grain p ≡ true → ((z : Sizes) (gs : List Particle) → Grained z t gs → Grained z t' (set gs g p))
    → (s : State) → InGrains z t s → GrainsTold z t' 0 (store g p s)
unfolding store
store_done {z} g p e f s S = rw e (refl, f z s.grains S)

-- the grain read, and what it is stepped to
pub step_told : {z : Sizes} {t : List Float} {r : ℕ} (b : Domain) (clock : Float) (g : ℕ) (p q : Particle) (s : State) → p ≡ grain s g → q ≡ stepped b clock p → At b clock s
    → GrainsTold z t r (store g q s) → GrainsTold z t r (step_grain g s)
unfolding step_grain
step_told {z} {t} {r} b clock g p q s e f a told =
    subst (λ (x : Particle). GrainsTold z t r (store g x s))
    (f ∙ ap (λ (x : Particle). stepped b clock x) e ∙ ap (λ (x : Domain). stepped x clock (grain s g)) (sym a.0) ∙ ap (λ (x : Float). stepped s.box x (grain s g)) (sym a.1)) told

-- all of them
pub all_told : (H : State → Type 0) (act : ℕ → State → Out State) (s : State) {m n r : ℕ} → n ≡ m → Tells H r (each act (m - 0) 0 s) → Tells H r (each act n 0 s)
all_told H act s {m} {n} {r} e t = subst (λ (k : ℕ). Tells H r (each act k 0 s)) (let z : m - 0 ≡ n = omega arith in z) t

-- a loop's tables were t₀ and are t: they hold a state, and what the rest of the acts then does of it, all of them do
abbrev pub GoesOn : (State → Out State) → (State → Out State) → Sizes → Domain → Float → List Float → List Float → Type 0
GoesOn all rest z b clock t₀ t = Grains z t
    × ((t' : List Float) (r : ℕ) → ((s : State) → InGrains z t s → At b clock s → GrainsTold z t' r (rest s)) → (s : State) → InGrains z t₀ s → At b clock s → GrainsTold z t' r (all s))

-- a state with another box and clock, and the same grains
abbrev pub timed : Domain → Float → State → State
timed b t s = record { box = b; clock = t; mark = s.mark; room = s.room; grains = s.grains; homes = s.homes; members = s.members; queues = s.queues; sched = s.sched }
