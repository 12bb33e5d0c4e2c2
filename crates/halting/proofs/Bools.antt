-- Laws of tests: what `and` and `or` of two say of each, and what a branch on one gives. Assumes nothing.
use mathlib.Core.Path.{◌≡◌, refl, sym, ◌∙◌}
use mathlib.Core.Bool.{Bool, true, false, ◌&&◌, ◌||◌, false≢true, cond}

-- a test does not pass and fail
pub clash {ℓ} : {A : Type ℓ} → false ≡ true → A
clash e = absurd (false≢true e)

pub differ {ℓ} : {A : Type ℓ} {b : Bool} → b ≡ true → b ≡ false → A
differ e f = clash (sym f ∙ e)

-- two tests of which each passes if the other does
pub both_ways : (a b : Bool) → (a ≡ true → b ≡ true) → (b ≡ true → a ≡ true) → a ≡ b
both_ways true b f g = sym (f refl)
both_ways false true f g = g refl
both_ways false false f g = refl

-- ---- and
pub and_l : (a b : Bool) → (a && b) ≡ true → a ≡ true
and_l true b e = refl
and_l false b e = e

pub and_r : (a b : Bool) → (a && b) ≡ true → b ≡ true
and_r true b e = e
and_r false b e = clash e

-- what `a && b` answers: q, which is a, passed and r, which is b, is the answer; or r, which is a, failed
pub both : (q a b r : Bool) → q ≡ a → q ≡ true → r ≡ b → r ≡ (a && b)
both q a b r m e f = rw (sym m ∙ e) f

pub neither : (a b r : Bool) → r ≡ a → r ≡ false → r ≡ (a && b)
neither a b r m e = rw (sym m ∙ e) e

-- ---- or
pub or_case : (a b : Bool) (P : Type 0) → (a || b) ≡ true → (a ≡ true → P) → (b ≡ true → P) → P
or_case true b P e f g = f refl
or_case false b P e f g = g e

pub or_false_l : (a b : Bool) → (a || b) ≡ false → a ≡ false
or_false_l true b e = e
or_false_l false b e = refl

pub or_false_r : (a b : Bool) → (a || b) ≡ false → b ≡ false
or_false_r true b e = clash (sym e)
or_false_r false b e = e

-- ---- what `if t { x } else { y }` answers
pub taken : {A : Type 0} (t : Bool) (x y r : A) → t ≡ true → r ≡ x → r ≡ cond t x y
taken t x y r e f = rw e f

pub left : {A : Type 0} (t : Bool) (x y r : A) → t ≡ false → r ≡ y → r ≡ cond t x y
left t x y r e f = rw e f

-- the test itself, an `and`, and what both branches are
pub itself : (a : Bool) → a ≡ cond a true false
itself true = refl
itself false = refl

pub and_cond : (a b : Bool) → (a && b) ≡ cond a b false
and_cond true b = refl
and_cond false b = refl

pub either : {A : Type 0} (t : Bool) (x : A) → x ≡ cond t x x
either true x = refl
either false x = refl
