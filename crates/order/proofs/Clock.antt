-- The clock law: adding what is not below zero to a finite value never gives a smaller one (`add_up`), whatever the signs, zeros and overflow included.
-- Assumes nothing.
use mathlib.Core.Path.{◌≡◌, refl, sym, ap, ◌∙◌, subst}
use Prim.Native.Nat.{ℕ, zero, suc, ◌+◌, ◌-◌, ◌*◌, ◌^◌, ◌≤◌, ◌<◌}
use native.Mathlib.Nat.{le_of_eq, mul-le-mul_right, mul-pos, zero-mul, sub-le, le-add_right}
use native.Mathlib.Omega.{arith}
use mathlib.Core.Bool.{Bool, true, false, not, ◌&&◌, cond}
use lib.IntN.{ℤ, pos}
use lib.Dec.{T, T_not, ltb, ltb→lt}
use lib.Ieee.{Float, nan, inf, fin, Format, prec, emax, low, up, down, odd, units, round, neg, sum, add, le, lt, is_nan, fits, of_bits}
use lib.Ieee.Fits.{down_pos, round_is, neg-fits}
use lib.Ieee.Order.{round_mono}
use lib.Ieee.Scale.{finite}
use Rattle.order.specs.Numbers.{fzero}
use Rattle.order.proofs.Order.{Leq, le→leq, leq→le, not_lt→le}
use Rattle.order.proofs.Value.{round_own}

-- ---- a sign goes through rounding
odd_neg : (d q k l : ℕ) → odd d true q k l ≡ neg (odd d false q k l)
unfolding odd neg
odd_neg d zero k l = refl
odd_neg d (suc q) k l = refl

pick_neg : (b : Bool) (x y : Float) → x ≡ neg y → cond b x (inf true) ≡ neg (cond b y (inf false))
pick_neg true x y p = p
pick_neg false x y p = unfold neg in refl

units_neg : (f : Format) (q k : ℕ) → units f true q k ≡ neg (units f false q k)
unfolding units
units_neg f q k = pick_neg (ltb (q * 2 ^ k) (2 ^ (low f + suc (emax f)))) (odd (suc (prec f)) true q k (low f)) (odd (suc (prec f)) false q k (low f)) (odd_neg (suc (prec f)) q k (low f))

pub round_neg : (f : Format) (n d : ℕ) → round f true n d ≡ neg (round f false n d)
round_neg f n d = round_is f true n d ∙ units_neg f _ _ ∙ sym (ap neg (round_is f false n d))

-- ---- and turns the order round
leq_neg : (s : Bool) (a : ℕ) (t : Bool) (b : ℕ) → Leq s a t b → Leq (not t) b (not s) a
leq_neg false a false b h = h
leq_neg false a true b h = omega arith
leq_neg true a false b h = tt
leq_neg true a true b h = h

pub neg_le : (x y : Float) → T (le x y) → T (le (neg y) (neg x))
neg_le nan y h = absurd (unfold le in h)
neg_le (inf s) nan h = absurd (unfold le in h)
neg_le (inf true) (inf true) h = unfold le neg in tt
neg_le (inf true) (inf false) h = unfold le neg in tt
neg_le (inf false) (inf true) h = absurd (unfold le in h)
neg_le (inf false) (inf false) h = unfold le neg in tt
neg_le (inf true) (fin t n d) h = unfold le neg in tt
neg_le (inf false) (fin t n d) h = absurd (unfold le in h)
neg_le (fin s m e) nan h = absurd (unfold le in h)
neg_le (fin s m e) (inf true) h = absurd (unfold le in h)
neg_le (fin s m e) (inf false) h = unfold le neg in tt
neg_le (fin s m e) (fin t n d) h = unfold neg in leq→le (not t) n d (not s) m e (leq_neg s (m * up e * down d) t (n * up d * down e) (le→leq s m e t n d h))

-- ---- what is negative is below what rounds to a value that is not
odd_above : (m : ℕ) (e : ℤ) (d q k l : ℕ) → T (le (fin true m e) (odd d false q k l))
unfolding odd
odd_above m e d zero k l = leq→le true m e false 0 (pos 0) tt
odd_above m e d (suc q) k l = leq→le true m e false _ _ tt

units_above : (m : ℕ) (e : ℤ) (f : Format) (q k : ℕ) → T (le (fin true m e) (units f false q k))
unfolding units
units_above m e f q k = go (ltb (q * 2 ^ k) (2 ^ (low f + suc (emax f))))
  where
    go : (b : Bool) → T (le (fin true m e) (cond b (odd (suc (prec f)) false q k (low f)) (inf false)))
    go true = odd_above m e (suc (prec f)) q k (low f)
    go false = unfold le in tt

round_above : (f : Format) (m : ℕ) (e : ℤ) (n d : ℕ) → T (le (fin true m e) (round f false n d))
round_above f m e n d = subst (λ (z : Float). T (le (fin true m e) z)) (sym (round_is f false n d)) (units_above m e f _ _)

-- ---- one value and a fraction above it, or below it
module _ (f : Format) (m : ℕ) (e : ℤ) (k : ℕ) (K : 0 < k) where
  up_from : T (fits f (fin false m e)) → (n : ℕ) → m * up e * k ≤ n → T (le (fin false m e) (round f false n (down e * k)))
  up_from t n h =
      subst (λ (z : Float). T (le z (round f false n (down e * k)))) (round_own f false m e k K t)
      (round_mono f (m * up e * k) (down e * k) n (down e * k) (mul-pos (down_pos e) K) (mul-pos (down_pos e) K) (mul-le-mul_right (down e * k) h))

  down_to : T (fits f (fin false m e)) → (n : ℕ) → n ≤ m * up e * k → T (le (round f false n (down e * k)) (fin false m e))
  down_to t n h =
      subst (λ (z : Float). T (le (round f false n (down e * k)) z)) (round_own f false m e k K t)
      (round_mono f n (down e * k) (m * up e * k) (down e * k) (mul-pos (down_pos e) K) (mul-pos (down_pos e) K) (mul-le-mul_right (down e * k) h))

  flip : fin true m e ≡ neg (fin false m e)
  unfolding neg
  flip = refl

  -- the same below zero: a smaller size is a larger value
  up_from_below : T (fits f (fin true m e)) → (n : ℕ) → n ≤ m * up e * k → T (le (fin true m e) (round f true n (down e * k)))
  up_from_below t n h =
      subst (λ (z : Float). T (le z (round f true n (down e * k)))) (sym flip)
      (subst (λ (z : Float). T (le (neg (fin false m e)) z)) (sym (round_neg f n (down e * k)))
      (neg_le (round f false n (down e * k)) (fin false m e) (down_to (unfold neg in neg-fits f (fin true m e) t) n h)))

-- ---- the four signs. b is the size of what is added, 0 where its sign is minus
sum_up : (f : Format) (s : Bool) (m : ℕ) (e : ℤ) (t : Bool) (b k : ℕ) → 0 < k → T (fits f (fin s m e)) → Leq false 0 t b → T (le (fin s m e) (sum f s (m * up e * k) t b (down e * k)))
unfolding sum
sum_up f false m e false b k K F h = up_from f m e k K F (m * up e * k + b) (le-add_right (m * up e * k) b)
sum_up f true m e true b k K F h = up_from_below f m e k K F (m * up e * k + b) (omega arith)
sum_up f false m e true b k K F h = go (ltb (m * up e * k) b) (ltb→lt (m * up e * k) b)
  where
    go : (q : Bool) → (T q → m * up e * k < b) → T (le (fin false m e) (cond q (round f true (b - m * up e * k) (down e * k)) (round f false (m * up e * k - b) (down e * k))))
    go true l = absurd (none (m * up e * k) b h (l tt))
      where
        none : (a c : ℕ) → 0 + c ≤ 0 → a < c → ⊥
        none a c p q = omega arith
    go false l = up_from f m e k K F (m * up e * k - b) (omega arith)
sum_up f true m e false b k K F h = go (ltb (m * up e * k) b) (ltb b (m * up e * k))
  where
    go : (q r : Bool) → T (le (fin true m e) (cond q (round f false (b - m * up e * k) (down e * k)) (round f (true && r) (m * up e * k - b) (down e * k))))
    go true r = round_above f m e (b - m * up e * k) (down e * k)
    go false true = up_from_below f m e k K F (m * up e * k - b) (sub-le (m * up e * k) b)
    go false false = round_above f m e (m * up e * k - b) (down e * k)

-- what le fzero says of a number
from_zero : (t : Bool) (n : ℕ) (d : ℤ) (k : ℕ) → T (le fzero (fin t n d)) → Leq false 0 t (n * up d * k)
unfolding of_bits
from_zero false n d k h = omega arith
from_zero true n d k h = size (n * up d) k (le→leq false 0 (pos 0) true n d h)
  where
    size : (a c : ℕ) → 0 * 1 * down d + a * 1 ≤ 0 → 0 + a * c ≤ 0
    size a c p = le_of_eq (ap (λ (x : ℕ). 0 + x * c) (is_zero a (0 * 1 * down d) p) ∙ ap (λ (x : ℕ). 0 + x) (zero-mul c))
      where
        is_zero : (a z : ℕ) → z + a * 1 ≤ 0 → a ≡ 0
        is_zero a z q = omega arith

pub add_up : (f : Format) (x y : Float) → T (fits f x) → T (finite x) → T (le fzero y) → T (le x (add f x y))
unfolding of_bits
add_up f nan y F p h = absurd p
add_up f (inf s) y F p h = absurd p
add_up f (fin s m e) nan F p h = absurd (unfold le in h)
add_up f (fin s m e) (inf true) F p h = absurd (unfold le in h)
add_up f (fin s m e) (inf false) F p h = unfold le add in tt
add_up f (fin s m e) (fin t n d) F p h = unfold add in sum_up f s m e t (n * up d * down e) (down d) (down_pos d) F (from_zero t n d (down e) h)

-- as a program has it: `dt < 0` failed, and the sum is finite (or only: no NaN)
add_nan : (f : Format) (x : Float) → T (is_nan (add f x nan))
unfolding add is_nan
add_nan f nan = tt
add_nan f (inf s) = tt
add_nan f (fin s m e) = tt

right_no_nan : (f : Format) (x y : Float) → T (not (is_nan (add f x y))) → T (not (is_nan y))
right_no_nan f x nan h = absurd (T_not (is_nan (add f x nan)) h (add_nan f x))
right_no_nan f x (inf t) h = unfold is_nan in tt
right_no_nan f x (fin t n d) h = unfold is_nan in tt

pub finite_no_nan : (x : Float) → T (finite x) → T (not (is_nan x))
unfolding is_nan
finite_no_nan nan h = absurd h
finite_no_nan (inf s) h = tt
finite_no_nan (fin s m e) h = tt

pub clock_on : (f : Format) (x y : Float) → T (fits f x) → T (finite x) → T (not (lt y fzero)) → T (not (is_nan (add f x y))) → T (le x (add f x y))
unfolding of_bits
clock_on f x y F p h k = add_up f x y F p (not_lt→le y fzero (right_no_nan f x y k) (unfold is_nan in tt) h)
