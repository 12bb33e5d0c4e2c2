-- AN EQUAL WAITS ITS TURN: an inserted event stands after every event that is not later, and before every later one. Assumes nothing.
use mathlib.Core.Path.{◌≡◌, refl, ap, subst}
use mathlib.Core.List.{List, [], ◌∷◌, ◌++◌}
use mathlib.Core.Bool.{Bool, true, false}
use lib.Dec.{T}
use lib.Ieee.{Float, le}
use Rattle.order.proofs.Order.{le_trans}
use Rattle.order.proofs.Compare.{fails}
use Rattle.model.specs.declared.Place.{Place}
use Rattle.model.specs.Events.{insert_by}
use Rattle.halting.specs.Every.{All}
use Rattle.model.specs.Standing.{Rising}

-- there is none, or the first is later than e
abbrev pub Later : Place → List Place → Type 0
Later e [] = Unit {0}
Later e (x ∷ xs) = le x.time e.time ≡ false

pub record Inserted (e : Place) (l : List Place) : Type 0 where
  pub before : List Place
  pub after : List Place
  pub was : l ≡ before ++ after
  pub is : insert_by e l ≡ before ++ e ∷ after
  pub not_later : All (λ x. le x.time e.time ≡ true) before
  pub later : Later e after

pub inserted_at : (e : Place) (l : List Place) → Inserted e l
unfolding insert_by
inserted_at e [] = record { before = []; after = []; was = refl; is = refl; not_later = tt; later = tt }
inserted_at e (x ∷ xs) = by (le x.time e.time) refl (inserted_at e xs)
  where
    by : (b : Bool) → le x.time e.time ≡ b → Inserted e xs → Inserted e (x ∷ xs)
    by true q i = record { before = x ∷ i.before; after = i.after; was = ap (λ (l : List Place). x ∷ l) i.was; is = rw q (ap (λ (l : List Place). x ∷ l) i.is); not_later = (q, i.not_later); later = i.later }
    by false q i = record { before = []; after = x ∷ xs; was = refl; is = rw q; not_later = tt; later = q }

-- in time order, what comes after a later one is later
all_later : (e : Place) (t : Float) (l : List Place) → le t e.time ≡ false → Rising t l → All (λ x. le x.time e.time ≡ false) l
all_later e t [] h r = tt
all_later e t (x ∷ xs) h r =
    let q : le x.time e.time ≡ false = fails (le x.time e.time) (λ k. subst T h (le_trans t x.time e.time r.0 k)) in
    (q, all_later e x.time xs q r.1)

rest_later : (e : Place) (t : Float) (bs xs : List Place) → Later e xs → Rising t (bs ++ xs) → All (λ x. le x.time e.time ≡ false) xs
rest_later e t [] [] h r = tt
rest_later e t [] (x ∷ xs) h r = (h, all_later e x.time xs h r.1)
rest_later e t (b ∷ bs) xs h r = rest_later e b.time bs xs h r.1

pub after_equals : (e : Place) (t : Float) (l : List Place) → Rising t l → All (λ x. le x.time e.time ≡ false) (inserted_at e l).after
after_equals e t l r = let i = inserted_at e l in rest_later e t i.before i.after i.later (subst (Rising t) i.was r)
