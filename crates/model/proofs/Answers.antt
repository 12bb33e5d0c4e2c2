-- The number and the values of an answer say which it is: two contacts told alike are the same (`one_contact`), and so are two plans (`one_plan`). Assumes nothing.
use Prim.Native.Nat.{ℕ, zero, suc}
use mathlib.Core.Path.{◌≡◌, refl, sym, ap, ◌∙◌}
use mathlib.Core.List.{List, [], ◌∷◌}
use Rattle.std.specs.Prelude.{Option, Result, Some, None, Ok, Err}
use Rattle.model.specs.declared.refusal.RootRefused.{RootRefused}
use Rattle.model.specs.Plans.{Contact, Plan, root_refused}
use Rattle.model.specs.Reports.{answered, contact_told, plan_told}

-- back from the number and the values
abbrev back : {A : Type 0} → ℕ → List A → Result (Option A) RootRefused
back zero [] = Ok None
back zero (x ∷ xs) = Ok (Some x)
back (suc n) xs = Err root_refused

back_is : {A : Type 0} (x : Result (Option A) RootRefused) → back (answered x).0 (answered x).1 ≡ x
unfolding answered
back_is (Ok None) = refl
back_is (Ok (Some a)) = refl
back_is (Err _) = refl

one_answer : {A : Type 0} (x y : Result (Option A) RootRefused) → answered x ≡ answered y → x ≡ y
one_answer x y e = sym (back_is x) ∙ ap (λ t. back t.0 t.1) e ∙ back_is y

pub one_contact : (x y : Contact) → contact_told x ≡ contact_told y → x ≡ y
one_contact = one_answer

pub one_plan : (x y : Plan) → plan_told x ≡ plan_told y → x ≡ y
one_plan = one_answer
