-- Grains that go in leave all of a state but its grains and its lists. Assumes nothing.
use Prim.Native.Nat.{ℕ}
use mathlib.Core.Path.{◌≡◌, refl, sym, ap, ◌∙◌, subst}
use mathlib.Core.List.{List}
use lib.ListN.{get_or}
use Rattle.halting.specs.Out.{each, each_of}
use Rattle.model.specs.declared.Particle.{Particle}
use Rattle.model.specs.State.{State, zero_g, with_grains, with_lists}
use Rattle.model.specs.Stepping.{at_zero}
use Rattle.model.specs.FromPToC.{cells_of_grain}
use Rattle.model.specs.Acts.{store, enter}
use Rattle.model.specs.Doing.{goes_in}
use Rattle.acts.proofs.Touch.{OnlyGrains, OnlyLists, store_only, enter_only, touch_then, touch_of, touch_each}

-- ---- u is s but for its grains and its lists
abbrev pub OnlyIn : State → State → Type 0
OnlyIn s u = u ≡ with_lists u.homes u.members (with_grains u.grains s)

in_none : (s : State) → OnlyIn s s
in_none s = refl

in_both : (s u w : State) → OnlyIn s u → OnlyIn u w → OnlyIn s w
in_both s u w a b = b ∙ ap (λ (x : State). with_lists w.homes w.members (with_grains w.grains x)) a

grains_in : (s u : State) → OnlyGrains s u → OnlyIn s u
grains_in s u o = o ∙ ap (λ (x : State). with_lists x.homes x.members (with_grains u.grains s)) (sym o)

lists_in : (s u : State) → OnlyLists s u → OnlyIn s u
lists_in s u o = o ∙ ap (λ (x : State). with_lists u.homes u.members (with_grains x.grains s)) (sym o)

pub goes_in_only : (gs : List Particle) (i : ℕ) (s : State) → OnlyIn s (goes_in gs i s).st
unfolding goes_in
goes_in_only gs i s =
    let p = get_or gs i zero_g in
    touch_then OnlyIn in_none in_both s (store i (at_zero p) s) (λ u. each_of (λ c. enter i c) (cells_of_grain u.box p) u)
    (grains_in s _ (store_only i (at_zero p) s))
    (λ u. touch_of OnlyIn in_none in_both (λ c. enter i c) (λ c w. lists_in w _ (enter_only i c w)) (cells_of_grain u.box p) u)

pub all_only : (gs : List Particle) (m i : ℕ) (s : State) → OnlyIn s (each (goes_in gs) m i s).st
all_only gs m i s = touch_each OnlyIn in_none in_both (goes_in gs) (goes_in_only gs) m i s

-- what speaks of no grain and no list goes along
pub in_along : (P : State → Type 0) (s u : State) → OnlyIn s u → P (with_lists u.homes u.members (with_grains u.grains s)) → P u
in_along P s u o p = subst P (sym o) p
