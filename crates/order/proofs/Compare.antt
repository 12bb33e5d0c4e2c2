-- The order laws as equations of tests, as a branch of the code has them. Assumes nothing.
use mathlib.Core.Path.{◌≡◌, sym, subst}
use mathlib.Core.Bool.{Bool, true, false, not}
use lib.Dec.{T, T_not, not_T}
use lib.Ieee.{Float, lt, le, is_nan}
use lib.Ieee.Bits.{is_true, is_false}
use Rattle.order.proofs.Order as order

-- an equation with true or false, and the fact
pub yes : (b : Bool) → b ≡ true → T b
yes b e = subst T (sym e) tt

pub no : (b : Bool) → b ≡ false → T (not b)
no b e = subst (λ (b : Bool). T (not b)) (sym e) tt

-- a test that has no way to pass
pub fails : (b : Bool) → (T b → ⊥) → b ≡ false
fails b h = is_false b (not_T b h)

pub le_not_lt : (x y : Float) → le x y ≡ true → lt y x ≡ false
le_not_lt x y e = fails (lt y x) (λ (h : T (lt y x)). order.lt_not_le y x h (yes (le x y) e))

pub lt_asym : (x y : Float) → lt x y ≡ true → lt y x ≡ false
lt_asym x y e = le_not_lt x y (is_true (le x y) (order.lt→le x y (yes (lt x y) e)))

pub lt_irrefl : (x : Float) → lt x x ≡ false
lt_irrefl x = fails (lt x x) (order.lt_irrefl x)

-- without a NaN, what is not earlier is at least as late, and what is not at most is later
pub le_of_not_lt : (x y : Float) → is_nan x ≡ false → is_nan y ≡ false → lt y x ≡ false → le x y ≡ true
le_of_not_lt x y p q e = is_true (le x y) (order.not_lt→le y x (no (is_nan y) q) (no (is_nan x) p) (no (lt y x) e))

pub lt_of_not_le : (x y : Float) → is_nan x ≡ false → is_nan y ≡ false → le x y ≡ false → lt y x ≡ true
lt_of_not_le x y p q e = is_true (lt y x) (order.not_le_lt y x (no (is_nan y) q) (no (is_nan x) p) (T_not (le x y) (no (le x y) e)))

-- x is not later than y and y not later than z, so x is not later than z. Only y must be no NaN
pub not_later : (x y z : Float) → is_nan y ≡ false → lt y x ≡ false → lt z y ≡ false → lt z x ≡ false
not_later x y z n a b = fails (lt z x) (λ (h : T (lt z x)).
    order.lt_not_le z x h
    (order.le_trans x y z (order.not_lt→le y x (no (is_nan y) n) (order.lt_right z x h) (no (lt y x) a)) (order.not_lt→le z y (order.lt_left z x h) (no (is_nan y) n) (no (lt z y) b))))
