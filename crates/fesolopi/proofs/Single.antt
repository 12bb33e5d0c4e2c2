-- ONLY ONE OUTCOME FITS what each exported call promises: the number, what is told beside it and every table afterwards; and a run's 0 and `spent_number` are no refusal's.
-- Assumes nothing.
use Prim.Native.Nat.{ℕ}
use mathlib.Core.Path.{◌≡◌, refl, sym, ap, subst, ◌∙◌}
use mathlib.Core.List.{List, [], ◌∷◌}
use mathlib.Core.Bool.{Bool, true, false, ◌||◌}
use mathlib.Core.Logic.{inl, inr}
use native.Mathlib.Omega.{arith}
use lib.Dec.{eqb}
use lib.Ieee.{Float}
use borrow.Author.Tests.{eq-eqb}
use Rattle.root.specs.Root.{root_of}
use Rattle.root.specs.Rule.{number as rootNumber, value as rootValue}
use Rattle.model.specs.declared.Domain.{Domain}
use Rattle.model.specs.State.{has}
use Rattle.model.specs.Run.{How, synchronised, spent, refused}
use Rattle.halting.proofs.Bools.{clash}
use Rattle.model.proofs.Exactly.{Exactly}
use Rattle.tables.specs.Decode.{Tables}
use Rattle.simulator.specs.Start.{start_all}
use Rattle.simulator.specs.Run.{run_tables}
use Rattle.simulator.proofs.Numbers.{OneOf, Given, run_number_lem}
use Rattle.fesolopi.specs.Codes.{StartGiven, start_given, start_given_by, spent_number, run_number, Ended, ended, ended_by}
use Rattle.fesolopi.specs.Needed.{Needed, needed, needed_for}

-- a start: its number, the grain named, the tables
pub one_begun : (b : Domain) (n room : ℕ) (inputs : List Float) (t : Tables) (r q g h : ℕ) (a c : Tables) → start_given r g a ≡ start_given_by (start_all b n room inputs t) → start_given q h c ≡ start_given_by (start_all b n room inputs t)
    → (r ≡ q) × (g ≡ h) × (a ≡ c)
one_begun b n room inputs t r q g h a c e f = let p = e ∙ sym f in (ap (λ (x : StartGiven). x.number) p, ap (λ (x : StartGiven). x.grain) p, ap (λ (x : StartGiven). x.after) p)

-- a run: its number, the clock, the events done, the tables
pub one_ended : (rate : Float) (b : ℕ) (t : Tables) (r q : ℕ) (x y : Float) (k m : ℕ) (a c : Tables) → ended r x k a ≡ ended_by (run_tables rate b t) → ended q y m c ≡ ended_by (run_tables rate b t)
    → (r ≡ q) × (x ≡ y) × (k ≡ m) × (a ≡ c)
one_ended rate b t r q x y k m a c e f =
    let p = e ∙ sym f in
    (ap (λ (z : Ended). z.number) p, ap (λ (z : Ended). z.clock) p, ap (λ (z : Ended). z.count) p, ap (λ (z : Ended). z.after) p)

-- the lengths that a start needs: its number, and each length
pub one_needed : (b : Domain) (n room : ℕ) (r i l g q e o r' i' l' g' q' e' o' : ℕ) → needed r i l g q e o ≡ needed_for b n room → needed r' i' l' g' q' e' o' ≡ needed_for b n room
    → (r ≡ r') × (i ≡ i') × (l ≡ l') × (g ≡ g') × (q ≡ q') × (e ≡ e') × (o ≡ o')
one_needed b n room r i l g q e o r' i' l' g' q' e' o' h k =
    let p = h ∙ sym k in (
      ap (λ (x : Needed). x.number) p,
      ap (λ (x : Needed). x.inputs) p,
      ap (λ (x : Needed). x.lists) p,
      ap (λ (x : Needed). x.grains) p,
      ap (λ (x : Needed). x.queue) p,
      ap (λ (x : Needed). x.events) p,
      ap (λ (x : Needed). x.order) p,
    )

-- a root: its number and its value
pub one_root : (d : Float) (r q : ℕ) (x y : Float) → r ≡ rootNumber (root_of d) → x ≡ rootValue (root_of d) → q ≡ rootNumber (root_of d) → y ≡ rootValue (root_of d) → (r ≡ q) × (x ≡ y)
one_root d r q x y e f g h = (e ∙ sym g, f ∙ sym h)

-- ---- a run's number is 0 exactly if it synchronised, and `spent_number` exactly if its budget was spent: no refusal gives either
or_right : (a b : Bool) → b ≡ true → (a || b) ≡ true
or_right true b e = refl
or_right false b e = e

one_has : (n : ℕ) (xs : List ℕ) → OneOf n xs → has n xs ≡ true
unfolding has
one_has n [] o = absurd o
one_has n (x ∷ xs) (inl e) = rw (eq-eqb n x e)
one_has n (x ∷ xs) (inr o) = or_right (eqb n x) (has n xs) (one_has n xs o)

-- a refusal's number is not n
abbrev numbers : List ℕ
numbers = 2 ∷ 3 ∷ 10 ∷ 5 ∷ 6 ∷ 7 ∷ 8 ∷ 9 ∷ []

never : {A : Type 0} (r n : ℕ) → Given (refused r) → has n numbers ≡ false → r ≡ n → A
never r n g z e = clash (sym z ∙ subst (λ (k : ℕ). has k numbers ≡ true) e (one_has r numbers g))

zero_tells : (h : How) → Given h → Exactly (run_number h ≡ 0) (h ≡ synchronised)
zero_tells synchronised g = record { only = λ e. refl; so = λ e. refl }
zero_tells spent g = record { only = λ e. absurd (omega (arith, e)); so = λ e. ap run_number e }
zero_tells (refused r) g = record { only = λ e. never r 0 g (unfold has in refl) e; so = λ e. ap run_number e }

spent_tells : (h : How) → Given h → Exactly (run_number h ≡ spent_number) (h ≡ spent)
spent_tells synchronised g = record { only = λ e. absurd (omega (arith, e)); so = λ e. ap run_number e }
spent_tells spent g = record { only = λ e. refl; so = λ e. refl }
spent_tells (refused r) g = record { only = λ e. never r spent_number g (unfold has in refl) e; so = λ e. ap run_number e }

pub run_tells_0 : (rate : Float) (b : ℕ) (t : Tables) → Exactly ((ended_by (run_tables rate b t)).number ≡ 0) ((run_tables rate b t).how ≡ synchronised)
run_tells_0 rate b t = zero_tells (run_tables rate b t).how (run_number_lem rate b t)

pub run_tells_spent : (rate : Float) (b : ℕ) (t : Tables) → Exactly ((ended_by (run_tables rate b t)).number ≡ spent_number) ((run_tables rate b t).how ≡ spent)
run_tells_spent rate b t = spent_tells (run_tables rate b t).how (run_number_lem rate b t)
