-- EACH HALT'S NUMBER IS GIVEN EXACTLY IF: what an act that refuses by 5 to 9 says of its state. Assumes nothing.
use Prim.Native.Nat.{ℕ, ◌≤◌, ◌<◌}
use mathlib.Core.Path.{◌≡◌, refl}
use mathlib.Core.Logic.{◌⊎◌, inl, inr}
use mathlib.Core.Bool.{Bool, true, false, cond}
use native.Mathlib.Omega.{arith}
use lib.Dec.{leb, ltb}
use lib.ListN.{length, set}
use borrow.Author.Tests.{leb-true, leb-false, ltb-true, ltb-false}
use Rattle.halting.specs.Out.{out}
use Rattle.model.specs.declared.Particle.{Particle}
use Rattle.model.specs.declared.Place.{Place}
use Rattle.std.specs.Prelude.{Some, None, Ok, Err}
use Rattle.model.specs.Plans.{Plan}
use Rattle.model.specs.Events.{place_of, fine_place}
use Rattle.model.specs.State.{State, home, listed, queue, has, with_grains}
use Rattle.model.specs.Acts.{fine_grain, store, inserted, insert, put, entered, enter, gone, leave}
use Rattle.halting.proofs.Bools.{differ}

-- A exactly if B
pub record Exactly (A B : Type 0) : Type 0 where
  pub only : A → B
  pub so : B → A

pub store_gives_5 : (g : ℕ) (p : Particle) (s : State) → Exactly ((store g p s).num ≡ 5) (fine_grain p ≡ false)
unfolding store
store_gives_5 g p s = by (fine_grain p) refl
  where
    by : (x : Bool) → fine_grain p ≡ x → Exactly ((cond x (out 0 (with_grains (set s.grains g p) s)) (out 5 s)).num ≡ 5) (fine_grain p ≡ false)
    by true e = record { only = λ h. absurd (omega (arith, h)); so = λ h. differ e h }
    by false e = record { only = λ h. e; so = λ h. refl }

module _ (c : ℕ) (e : Place) (s : State) where
  abbrev room : Bool
  room = ltb (length (queue s c)) s.room

  abbrev tested : Bool → Bool → ℕ
  tested x y = (cond x (cond y (out 0 (inserted c e s)) (out 6 s)) (out 5 s)).num

  pub insert_gives_5 : Exactly ((insert c e s).num ≡ 5) (fine_place e ≡ false)
  unfolding insert
  insert_gives_5 = by (fine_place e) refl room
    where
      by : (x : Bool) → fine_place e ≡ x → (y : Bool) → Exactly (tested x y ≡ 5) (fine_place e ≡ false)
      by true f true = record { only = λ h. absurd (omega (arith, h)); so = λ h. differ f h }
      by true f false = record { only = λ h. absurd (omega (arith, h)); so = λ h. differ f h }
      by false f y = record { only = λ h. f; so = λ h. refl }

  pub insert_gives_6 : Exactly ((insert c e s).num ≡ 6) ((fine_place e ≡ true) × (s.room ≤ length (queue s c)))
  unfolding insert
  insert_gives_6 = by (fine_place e) refl room refl
    where
      by : (x : Bool) → fine_place e ≡ x → (y : Bool) → room ≡ y → Exactly (tested x y ≡ 6) ((fine_place e ≡ true) × (s.room ≤ length (queue s c)))
      by true f true r = record { only = λ h. absurd (omega (arith, h)); so = λ h. let a : length (queue s c) < s.room = ltb-true _ _ r in let b = h.1 in absurd (omega (arith, a, b)) }
      by true f false r = record { only = λ h. (f, ltb-false _ _ r); so = λ h. refl }
      by false f y r = record { only = λ h. absurd (omega (arith, h)); so = λ h. differ h.0 f }

-- what a scheduling found cannot be stored: it is refused, or due with a number that is not finite or a time not below f64::MAX
abbrev pub Unfit : Plan → Type 0
Unfit (Ok None) = ⊥
Unfit (Ok (Some e)) = fine_place (place_of e) ≡ false
Unfit (Err _) = Unit {0}

-- what a scheduling found is refused by 5 exactly if it cannot be stored
pub put_gives_5 : (c : ℕ) (x : Plan) (s : State) → Exactly ((put c x s).num ≡ 5) (Unfit x)
put_gives_5 c (Ok None) s = record { only = λ h. absurd (omega (arith, h)); so = λ h. absurd h }
put_gives_5 c (Ok (Some e)) s = insert_gives_5 c (place_of e) s
put_gives_5 c (Err _) s = record { only = λ h. tt; so = λ h. refl }

module _ (g c : ℕ) (s : State) where
  abbrev cell : Bool
  cell = ltb (length (listed s c)) 32

  abbrev grain : Bool
  grain = ltb (length (home s g)) 8

  abbrev entering : Bool → Bool → Bool → ℕ
  entering x y z = (cond x (out 8 s) (cond y (cond z (out 0 (entered g c s)) (out 7 s)) (out 7 s))).num

  pub enter_gives_8 : Exactly ((enter g c s).num ≡ 8) (has g (listed s c) ≡ true)
  unfolding enter
  enter_gives_8 = by (has g (listed s c)) refl cell grain
    where
      by : (x : Bool) → has g (listed s c) ≡ x → (y z : Bool) → Exactly (entering x y z ≡ 8) (has g (listed s c) ≡ true)
      by true e y z = record { only = λ h. e; so = λ h. refl }
      by false e true true = record { only = λ h. absurd (omega (arith, h)); so = λ h. differ h e }
      by false e true false = record { only = λ h. absurd (omega (arith, h)); so = λ h. differ h e }
      by false e false z = record { only = λ h. absurd (omega (arith, h)); so = λ h. differ h e }

  pub enter_gives_7 : Exactly ((enter g c s).num ≡ 7) ((has g (listed s c) ≡ false) × ((32 ≤ length (listed s c)) ⊎ (8 ≤ length (home s g))))
  unfolding enter
  enter_gives_7 = by (has g (listed s c)) refl cell refl grain refl
    where
      by : (x : Bool) → has g (listed s c) ≡ x → (y : Bool) → cell ≡ y → (z : Bool) → grain ≡ z
          → Exactly (entering x y z ≡ 7) ((has g (listed s c) ≡ false) × ((32 ≤ length (listed s c)) ⊎ (8 ≤ length (home s g))))
      by true e y f z h = record { only = λ k. absurd (omega (arith, k)); so = λ k. differ e k.0 }
      by false e true f true h = record {
        only = λ k. absurd (omega (arith, k));
        so = λ k. let a : length (listed s c) < 32 = ltb-true _ _ f in let b : length (home s g) < 8 = ltb-true _ _ h in elim k.1 [ inl i ↦ absurd (omega (arith, a, i)) | inr i ↦ absurd (omega (arith, b, i)) ];
      }
      by false e true f false h = record { only = λ k. (e, inr (ltb-false _ _ h)); so = λ k. refl }
      by false e false f z h = record { only = λ k. (e, inl (ltb-false _ _ f)); so = λ k. refl }

  pub leave_gives_9 : Exactly ((leave g c s).num ≡ 9) (length (home s g) ≤ 1)
  unfolding leave
  leave_gives_9 = by (leb (length (home s g)) 1) refl
    where
      by : (x : Bool) → leb (length (home s g)) 1 ≡ x → Exactly ((cond x (out 9 s) (out 0 (gone g c s))).num ≡ 9) (length (home s g) ≤ 1)
      by true e = record { only = λ h. leb-true _ _ e; so = λ h. refl }
      by false e = record { only = λ h. absurd (omega (arith, h)); so = λ h. let a : 1 < length (home s g) = leb-false _ _ e in absurd (omega (arith, a, h)) }
