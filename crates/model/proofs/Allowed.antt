-- WHAT IS ALLOWED: the grain that 4 names is the lowest whose numbers are out of range, and the budgets of calls are the numbers of 32 bits. Assumes nothing.
use Prim.Native.Nat.{ℕ, zero, suc, ◌^◌, ◌≤◌, ◌<◌}
use mathlib.Core.Path.{◌≡◌, refl, ap}
use mathlib.Core.List.{List, [], ◌∷◌}
use mathlib.Core.Bool.{Bool, true, false, cond}
use native.Mathlib.Omega.{arith}
use lib.ListN.{length, get_or}
use Rattle.model.specs.declared.Domain.{Domain}
use Rattle.model.specs.declared.Particle.{Particle}
use Rattle.model.specs.Sizes.{grain_ok, first_bad}
use Rattle.model.specs.State.{zero_g}
use Rattle.model.specs.Reached.{most}
use Rattle.halting.proofs.Bools.{differ}
use Rattle.model.proofs.Exactly.{Exactly}

-- grain g is out of range, and every lower one is in range
abbrev pub LowestBad : Domain → List Particle → ℕ → Type 0
LowestBad b ps g = (grain_ok b (get_or ps g zero_g) ≡ false) × ((i : ℕ) → i < g → grain_ok b (get_or ps i zero_g) ≡ true)

-- a grain is named exactly if it is the lowest that is out of range
pub lowest_named : (b : Domain) (ps : List Particle) (g : ℕ) → Exactly ((first_bad b ps ≡ g) × (g < length ps)) ((g < length ps) × LowestBad b ps g)
unfolding first_bad
lowest_named b [] g = record { only = λ h. absurd (omega (arith, h.1)); so = λ h. absurd (omega (arith, h.0)) }
lowest_named b (p ∷ ps) g = by (grain_ok b p) refl g (λ k. lowest_named b ps k)
  where
    lower : (g : ℕ) → grain_ok b p ≡ true → ((i : ℕ) → i < g → grain_ok b (get_or ps i zero_g) ≡ true) → (i : ℕ) → i < suc g → grain_ok b (get_or (p ∷ ps) i zero_g) ≡ true
    lower g e k zero h = e
    lower g e k (suc i) h = k i (omega (arith, h))

    by : (x : Bool) → grain_ok b p ≡ x → (g : ℕ) → ((k : ℕ) → Exactly ((first_bad b ps ≡ k) × (k < length ps)) ((k < length ps) × LowestBad b ps k))
        → Exactly ((cond x (suc (first_bad b ps)) 0 ≡ g) × (g < suc (length ps))) ((g < suc (length ps)) × LowestBad b (p ∷ ps) g)
    by true e zero k = record { only = λ h. absurd (omega (arith, h.0)); so = λ h. differ e h.1.0 }
    by true e (suc g) k = record {
      only = λ h. let w = (k g).only (omega (arith, h.0), omega (arith, h.1)) in (h.1, (w.1.0, lower g e w.1.1));
      so = λ h. let w = (k g).so (omega (arith, h.0), (h.1.0, λ i I. h.1.1 (suc i) (omega (arith, I)))) in (ap suc w.0, h.0);
    }
    by false e zero k = record { only = λ h. (h.1, (e, λ i I. absurd (omega (arith, I)))); so = λ h. (refl, h.0) }
    by false e (suc g) k = record { only = λ h. absurd (omega (arith, h.0)); so = λ h. differ (h.1.1 0 (omega arith)) e }

-- a budget is in its range exactly if it has 32 bits
pub budgets : (n : ℕ) → Exactly (n < 2 ^ 32) (n ≤ most)
budgets n = record { only = λ h. omega (arith, h); so = λ h. omega (arith, h) }
