-- The start numbers: a grain read from them, and the lowest that is out of range. Assumes nothing.
use Prim.Native.Nat.{ℕ, zero, suc, ◌-◌, ◌*◌, ◌≤◌, ◌<◌}
use mathlib.Core.Path.{◌≡◌, refl, sym, ap, ◌∙◌, subst}
use mathlib.Core.Bool.{true, false}
use mathlib.Core.List.{List, [], ◌∷◌}
use native.Mathlib.Nat.{le_of_suc-le-suc, not-suc-le-zero}
use native.Mathlib.Omega.{arith}
use lib.ListN.{length, get_or}
use lib.Ieee.{Float}
use borrow.Rule.Slice.PartMut.{mid_of}
use Rattle.std.specs.Prelude.{Option, Some, None, MatchOption}
use Rattle.layout.specs.Widths.{input_wide}
use Rattle.model.specs.declared.Domain.{Domain}
use Rattle.model.specs.declared.Particle.{Particle}
use Rattle.model.specs.Sizes.{grain_ok, first_bad}
use Rattle.model.specs.Stepping.{at_zero}
use Rattle.model.specs.State.{zero_g}
use Rattle.chunks.proofs.Laws.{tail_is}
use Rattle.checks.proofs.Cut.{cut_at, cut_long}
use Rattle.tables.specs.Inputs.{input_at, inputs_of}

pub input_read : (n : ℕ) (l : List Float) (i : ℕ) → i < n → input_at (mid_of (i * input_wide) (length l - i * input_wide) l) ≡ get_or (inputs_of n l) i zero_g
input_read n l i h = ap input_at (tail_is (i * input_wide) l) ∙ sym (cut_at input_at input_wide n l i zero_g h)

-- its time is 0
pub input_timed : (n : ℕ) (l : List Float) (i : ℕ) (p : Particle) → i < n → p ≡ get_or (inputs_of n l) i zero_g → at_zero p ≡ p
input_timed n l i p h e = subst (λ (q : Particle). at_zero q ≡ q) (sym (e ∙ cut_at input_at input_wide n l i zero_g h)) refl

-- the lowest that is out of range: those before it are in range; or all are
module _ (b : Domain) where
  bad_here : (gs : List Particle) (i : ℕ) → i < length gs → ((k : ℕ) → k < i → grain_ok b (get_or gs k zero_g) ≡ true) → grain_ok b (get_or gs i zero_g) ≡ false → first_bad b gs ≡ i
  unfolding first_bad
  bad_here [] i h f e = absurd (not-suc-le-zero h)
  bad_here (p ∷ ps) zero h f e = rw e
  bad_here (p ∷ ps) (suc i) h f e = rw (f 0 (omega arith)) (ap suc (bad_here ps i (le_of_suc-le-suc h) (λ k l. f (suc k) (omega (arith, l))) e))

  bad_nowhere : (gs : List Particle) → ((k : ℕ) → k < length gs → grain_ok b (get_or gs k zero_g) ≡ true) → first_bad b gs ≡ length gs
  unfolding first_bad
  bad_nowhere [] f = refl
  bad_nowhere (p ∷ ps) f = rw (f 0 (omega arith)) (ap suc (bad_nowhere ps (λ k l. f (suc k) (omega (arith, l)))))

  module _ (n : ℕ) (l : List Float) where
    abbrev FineBelow : ℕ → Type 0
    FineBelow i = (k : ℕ) → k < i → grain_ok b (get_or (inputs_of n l) k zero_g) ≡ true

    long : length (inputs_of n l) ≡ n
    long = cut_long input_at input_wide n l

    bad_at : (i : ℕ) → i < n → FineBelow i → grain_ok b (get_or (inputs_of n l) i zero_g) ≡ false → first_bad b (inputs_of n l) ≡ i
    bad_at i h f e = bad_here (inputs_of n l) i (subst (λ (m : ℕ). i < m) (sym long) h) f e

    bad_none : FineBelow n → first_bad b (inputs_of n l) ≡ n
    bad_none f = bad_nowhere (inputs_of n l) (subst FineBelow (sym long) f) ∙ long

    -- a search from 0 for one that is out of range, and what it found
    pub bad_found : (r : Option ℕ) → MatchOption r ((k : ℕ) → 0 ≤ k → k < n → grain_ok b (get_or (inputs_of n l) k zero_g) ≡ true) (λ i. (0 ≤ i) × (i < n) × (grain_ok b (get_or (inputs_of n l) i zero_g) ≡ false) × ((k : ℕ) → 0 ≤ k → k < i → grain_ok b (get_or (inputs_of n l) k zero_g) ≡ true))
        → MatchOption r (first_bad b (inputs_of n l) ≡ n) (λ i. (first_bad b (inputs_of n l) ≡ i) × (i < n))
    bad_found None m = bad_none (λ k h. m k (omega arith) h)
    bad_found (Some i) m = (bad_at i m.1 (λ k h. m.3 k (omega arith) h) m.2, m.1)
