-- Sums, differences and quotients of values that are not below zero keep the order of what goes in. `plain` values are finite with the sign clear (+0 too). Assumes nothing.
use mathlib.Core.Path.{◌≡◌, refl, sym, ap, ◌∙◌, subst}
use Prim.Native.Nat.{ℕ, zero, suc, ◌+◌, ◌-◌, ◌*◌, ◌^◌, ◌≤◌, ◌<◌}
use native.Mathlib.Nat.{le_of_eq, le_trans, mul-pos, add_comm, mul_comm, mul_assoc, mul_left_comm, mul-le-mul_right, add-mul, mul-sub, zero-mul, lt_irrefl}
use native.Mathlib.Omega.{arith}
use mathlib.Core.Bool.{Bool, true, false, ◌&&◌, cond}
use lib.IntN.{ℤ}
use lib.Dec.{T, ltb, eqb, ltb→lt, lt→ltb, eqb-suc-zero}
use lib.Ieee.{Float, nan, inf, fin, Format, prec, emax, low, up, down, odd, units, round, sum, add, sub, div, neg, le, to_unsigned}
use lib.Ieee.Fits.{up_pos, down_pos, round_is}
use lib.Ieee.Order.{round_mono}
use lib.Ieee.Positive.{num, den, positive, den_pos, own_value, value_pos}
use borrow.Author.Tests.{le-ltb, lt-ltb}
use Rattle.order.proofs.Order.{le→leq, leq→le}
use Rattle.order.proofs.Order as O
use Rattle.order.proofs.Clock.{round_neg}

-- finite, sign clear
abbrev pub plain : Float → Bool
plain nan = false
plain (inf s) = false
plain (fin true m e) = false
plain (fin false m e) = true

pub positive_plain : (x : Float) → T (positive x) → T (plain x)
positive_plain nan p = p
positive_plain (inf s) p = p
positive_plain (fin true m e) p = p
positive_plain (fin false m e) p = tt

pub le→fr : (x y : Float) → T (plain x) → T (plain y) → T (le x y) → num x * den y ≤ num y * den x
le→fr nan y p q h = absurd p
le→fr (inf s) y p q h = absurd p
le→fr (fin true m e) y p q h = absurd p
le→fr (fin false m e) nan p q h = absurd q
le→fr (fin false m e) (inf t) p q h = absurd q
le→fr (fin false m e) (fin true n d) p q h = absurd q
le→fr (fin false m e) (fin false n d) p q h = le→leq false m e false n d h

pub fr→le : (x y : Float) → T (plain x) → T (plain y) → num x * den y ≤ num y * den x → T (le x y)
fr→le nan y p q h = absurd p
fr→le (inf s) y p q h = absurd p
fr→le (fin true m e) y p q h = absurd p
fr→le (fin false m e) nan p q h = absurd q
fr→le (fin false m e) (inf t) p q h = absurd q
fr→le (fin false m e) (fin true n d) p q h = absurd q
fr→le (fin false m e) (fin false n d) p q h = leq→le false m e false n d h

-- ---- what rounds with the sign clear and is not above a plain value is plain
odd_plain : (d q k l : ℕ) → T (plain (odd d false q k l))
unfolding odd
odd_plain d zero k l = tt
odd_plain d (suc q) k l = tt

pub not_inf : (hi : Float) → T (plain hi) → T (le (inf false) hi) → ⊥
unfolding le
not_inf nan p h = p
not_inf (inf s) p h = p
not_inf (fin true m e) p h = p
not_inf (fin false m e) p h = h

units_plain : (f : Format) (q k : ℕ) (hi : Float) → T (plain hi) → T (le (units f false q k) hi) → T (plain (units f false q k))
unfolding units
units_plain f q k hi p = go (ltb (q * 2 ^ k) (2 ^ (low f + suc (emax f))))
  where
    go : (b : Bool) → T (le (cond b (odd (suc (prec f)) false q k (low f)) (inf false)) hi) → T (plain (cond b (odd (suc (prec f)) false q k (low f)) (inf false)))
    go true h = odd_plain (suc (prec f)) q k (low f)
    go false h = absurd (not_inf hi p h)

pub round_plain : (f : Format) (a c : ℕ) (hi : Float) → T (plain hi) → T (le (round f false a c) hi) → T (plain (round f false a c))
round_plain f a c hi p h =
    subst (λ (z : Float). T (plain z)) (sym (round_is f false a c))
    (units_plain f _ _ hi p (subst (λ (z : Float). T (le z hi)) (round_is f false a c) h))

-- ---- the sum of two plain values
pub add_is : (f : Format) (x y : Float) → T (plain x) → T (plain y) → add f x y ≡ round f false (num x * den y + num y * den x) (den x * den y)
unfolding add sum
add_is f nan y p q = absurd p
add_is f (inf s) y p q = absurd p
add_is f (fin true m e) y p q = absurd p
add_is f (fin false m e) nan p q = absurd q
add_is f (fin false m e) (inf t) p q = absurd q
add_is f (fin false m e) (fin true n d) p q = absurd q
add_is f (fin false m e) (fin false n d) p q = refl

add_fr : (a p b q n d : ℕ) → a * q ≤ b * p → (a * d + n * p) * (q * d) ≤ (b * d + n * q) * (p * d)
add_fr a p b q n d h =
    let k : a * q * (d * d) ≤ b * p * (d * d) = mul-le-mul_right (d * d) h in
    let l : (a * d + n * p) * (q * d) ≡ a * q * (d * d) + n * (p * (q * d)) = add-mul (a * d) (n * p) (q * d) ∙ simp (mul_assoc, mul_comm, mul_left_comm) in
    let r : (b * d + n * q) * (p * d) ≡ b * p * (d * d) + n * (p * (q * d)) = add-mul (b * d) (n * q) (p * d) ∙ simp (mul_assoc, mul_comm, mul_left_comm) in
    omega arith

pub add_mono : (f : Format) (x x' y : Float) → T (plain x) → T (plain x') → T (plain y) → T (le x x') → T (le (add f x y) (add f x' y))
add_mono f x x' y p p' q h =
    subst (λ (z : Float). T (le z (add f x' y))) (sym (add_is f x y p q))
    (subst (λ (z : Float). T (le (round f false (num x * den y + num y * den x) (den x * den y)) z)) (sym (add_is f x' y p' q))
    (round_mono f _ (den x * den y) _ (den x' * den y) (mul-pos (den_pos x) (den_pos y)) (mul-pos (den_pos x') (den_pos y))
    (add_fr (num x) (den x) (num x') (den x') (num y) (den y) (le→fr x x' p p' h))))

-- and in both parts
swapped : (f : Format) (x y : Float) → T (plain x) → T (plain y) → add f x y ≡ add f y x
swapped f x y p q =
    add_is f x y p q ∙ ap (λ (a : ℕ). round f false a (den x * den y)) (add_comm (num x * den y) (num y * den x))
    ∙ ap (λ (c : ℕ). round f false (num y * den x + num x * den y) c) (mul_comm (den x) (den y)) ∙ sym (add_is f y x q p)

pub sum_mono : (f : Format) (x x' y y' : Float) → T (plain x) → T (plain x') → T (plain y) → T (plain y') → T (le x x') → T (le y y') → T (le (add f x y) (add f x' y'))
sum_mono f x x' y y' p p' q q' h k =
    O.le_trans (add f x y) (add f x' y) (add f x' y') (add_mono f x x' y p p' q h)
    (subst (λ (z : Float). T (le z (add f x' y'))) (swapped f y x' q p') (subst (λ (z : Float). T (le (add f y x') z)) (swapped f y' x' q' p') (add_mono f y y' x' q q' p' k)))

pub add_plain : (f : Format) (x y hi : Float) → T (plain x) → T (plain y) → T (plain hi) → T (le (add f x y) hi) → T (plain (add f x y))
add_plain f x y hi p q r h =
    subst (λ (z : Float). T (plain z)) (sym (add_is f x y p q))
    (round_plain f _ _ hi r (subst (λ (z : Float). T (le z hi)) (add_is f x y p q) h))

-- ---- the difference of two plain values, the second not larger
sum_down : (f : Format) (a b c : ℕ) → b ≤ a → sum f false a true b c ≡ round f false (a - b) c
unfolding sum
sum_down f a b c h = ap (λ (t : Bool). cond t (round f true (b - a) c) (round f false (a - b) c)) (le-ltb a b h)

sum_under : (f : Format) (a b c : ℕ) → a < b → sum f false a true b c ≡ round f true (b - a) c
unfolding sum
sum_under f a b c h = ap (λ (t : Bool). cond t (round f true (b - a) c) (round f false (a - b) c)) (lt-ltb a b h)

opened : (f : Format) (m : ℕ) (e : ℤ) (n : ℕ) (d : ℤ) → sub f (fin false m e) (fin false n d) ≡ sum f false (m * up e * down d) true (n * up d * down e) (down e * down d)
unfolding sub
opened f m e n d = refl

sub_opened : (f : Format) (x y : Float) → T (plain x) → T (plain y) → sub f x y ≡ sum f false (num x * den y) true (num y * den x) (den x * den y)
sub_opened f nan y p q = absurd p
sub_opened f (inf s) y p q = absurd p
sub_opened f (fin true m e) y p q = absurd p
sub_opened f (fin false m e) nan p q = absurd q
sub_opened f (fin false m e) (inf t) p q = absurd q
sub_opened f (fin false m e) (fin true n d) p q = absurd q
sub_opened f (fin false m e) (fin false n d) p q = opened f m e n d

pub sub_is : (f : Format) (x y : Float) → T (plain x) → T (plain y) → T (le y x) → sub f x y ≡ round f false (num x * den y - num y * den x) (den x * den y)
sub_is f x y p q h = sub_opened f x y p q ∙ sum_down f (num x * den y) (num y * den x) (den x * den y) (le→fr y x q p h)

-- (a/p - n/d) and (b/q - m/c): a/p ≤ b/q and m/c ≤ n/d
sub_fr : (a p b q n d m c : ℕ) → a * q ≤ b * p → m * d ≤ n * c → (a * d - n * p) * (q * c) ≤ (b * c - m * q) * (p * d)
sub_fr a p b q n d m c h k =
    let h' : a * q * (d * c) ≤ b * p * (d * c) = mul-le-mul_right (d * c) h in
    let k' : m * d * (p * q) ≤ n * c * (p * q) = mul-le-mul_right (p * q) k in
    let l : (a * d - n * p) * (q * c) ≡ a * q * (d * c) - n * c * (p * q) = mul_comm (a * d - n * p) (q * c) ∙ mul-sub (q * c) (a * d) (n * p) ∙ simp (mul_assoc, mul_comm, mul_left_comm) in
    let r : (b * c - m * q) * (p * d) ≡ b * p * (d * c) - m * d * (p * q) = mul_comm (b * c - m * q) (p * d) ∙ mul-sub (p * d) (b * c) (m * q) ∙ simp (mul_assoc, mul_comm, mul_left_comm) in
    omega arith

-- larger minuend, smaller subtrahend: a larger difference
pub sub_mono : (f : Format) (x x' y y' : Float) → T (plain x) → T (plain x') → T (plain y) → T (plain y') → T (le y x) → T (le y' x') → T (le x x') → T (le y' y) → T (le (sub f x y) (sub f x' y'))
sub_mono f x x' y y' p p' q q' u u' h k =
    subst (λ (z : Float). T (le z (sub f x' y'))) (sym (sub_is f x y p q u))
    (subst (λ (z : Float). T (le (round f false (num x * den y - num y * den x) (den x * den y)) z)) (sym (sub_is f x' y' p' q' u'))
    (round_mono f _ (den x * den y) _ (den x' * den y') (mul-pos (den_pos x) (den_pos y)) (mul-pos (den_pos x') (den_pos y'))
    (sub_fr (num x) (den x) (num x') (den x') (num y) (den y) (num y') (den y') (le→fr x x' p p' h) (le→fr y' y q' q k))))

pub sub_plain : (f : Format) (x y hi : Float) → T (plain x) → T (plain y) → T (le y x) → T (plain hi) → T (le (sub f x y) hi) → T (plain (sub f x y))
sub_plain f x y hi p q u r h =
    subst (λ (z : Float). T (plain z)) (sym (sub_is f x y p q u))
    (round_plain f _ _ hi r (subst (λ (z : Float). T (le z hi)) (sub_is f x y p q u) h))

-- ---- a quotient
not_zero : (n : ℕ) → 0 < n → eqb n 0 ≡ false
not_zero zero h = absurd (lt_irrefl 0 h)
not_zero (suc n) h = eqb-suc-zero n

pub div_is : (f : Format) (x d : Float) → T (plain x) → T (positive d) → div f x d ≡ round f false (num x * den d) (num d * den x)
div_is f nan d p q = absurd p
div_is f (inf s) d p q = absurd p
div_is f (fin true m e) d p q = absurd p
div_is f (fin false m e) nan p q = absurd q
div_is f (fin false m e) (inf s) p q = absurd q
div_is f (fin false m e) (fin true n g) p q = absurd q
div_is f (fin false m e) (fin false n g) p q = unfold div in ap (λ (b : Bool). cond b (cond (eqb m 0) nan (inf false)) (round f false (m * up e * down g) (n * up g * down e))) (not_zero n (ltb→lt 0 n q))

pub num_pos : (x : Float) → T (positive x) → 0 < num x
num_pos x p = value_pos x (num x) (den x) p (den_pos x) (own_value x p)

-- a/p ≤ b/q, m/c ≤ n/d: (a/p)/(n/d) ≤ (b/q)/(m/c)
div_fr : (a p b q n d m c : ℕ) → a * q ≤ b * p → m * d ≤ n * c → a * d * (m * q) ≤ b * c * (n * p)
div_fr a p b q n d m c h k =
    le_trans (le_of_eq (simp (mul_assoc, mul_comm, mul_left_comm)))
    (le_trans (mul-le-mul_right (m * d) h)
    (le_trans (le_of_eq (mul_comm (b * p) (m * d)))
    (le_trans (mul-le-mul_right (b * p) k) (le_of_eq (simp (mul_assoc, mul_comm, mul_left_comm))))))

pub div_mono : (f : Format) (x x' d d' : Float) → T (plain x) → T (plain x') → T (positive d) → T (positive d') → T (le x x') → T (le d' d) → T (le (div f x d) (div f x' d'))
div_mono f x x' d d' p p' q q' h k =
    subst (λ (z : Float). T (le z (div f x' d'))) (sym (div_is f x d p q))
    (subst (λ (z : Float). T (le (round f false (num x * den d) (num d * den x)) z)) (sym (div_is f x' d' p' q'))
    (round_mono f _ (num d * den x) _ (num d' * den x') (mul-pos (num_pos d q) (den_pos x)) (mul-pos (num_pos d' q') (den_pos x'))
    (div_fr (num x) (den x) (num x') (den x') (num d) (den d) (num d') (den d') (le→fr x x' p p' h) (le→fr d' d (positive_plain d' q') (positive_plain d q) k))))

pub div_plain : (f : Format) (x d hi : Float) → T (plain x) → T (positive d) → T (plain hi) → T (le (div f x d) hi) → T (plain (div f x d))
div_plain f x d hi p q r h =
    subst (λ (z : Float). T (plain z)) (sym (div_is f x d p q))
    (round_plain f _ _ hi r (subst (λ (z : Float). T (le z hi)) (div_is f x d p q) h))

-- ---- a difference below zero, and a quotient of one
pub sub_under : (f : Format) (x y : Float) → T (plain x) → T (plain y) → num x * den y < num y * den x → sub f x y ≡ neg (round f false (num y * den x - num x * den y) (den x * den y))
sub_under f x y p q h = sub_opened f x y p q ∙ sum_under f (num x * den y) (num y * den x) (den x * den y) h ∙ round_neg f (num y * den x - num x * den y) (den x * den y)

pub div_minus : (f : Format) (x d : Float) → T (plain x) → T (positive d) → div f (neg x) d ≡ round f true (num x * den d) (num d * den x)
div_minus f nan d p q = absurd p
div_minus f (inf s) d p q = absurd p
div_minus f (fin true m e) d p q = absurd p
div_minus f (fin false m e) nan p q = absurd q
div_minus f (fin false m e) (inf s) p q = absurd q
div_minus f (fin false m e) (fin true n g) p q = absurd q
div_minus f (fin false m e) (fin false n g) p q = unfold div neg in ap (λ (b : Bool). cond b (cond (eqb m 0) nan (inf true)) (round f true (m * up e * down g) (n * up g * down e))) (not_zero n (ltb→lt 0 n q))

odd_cut : (w d q k l : ℕ) → to_unsigned w (odd d true q k l) ≡ 0
unfolding odd to_unsigned
odd_cut w d zero k l = refl
odd_cut w d (suc q) k l = refl

units_cut : (w : ℕ) (f : Format) (q k : ℕ) → to_unsigned w (units f true q k) ≡ 0
unfolding units
units_cut w f q k = go (ltb (q * 2 ^ k) (2 ^ (low f + suc (emax f))))
  where
    go : (b : Bool) → to_unsigned w (cond b (odd (suc (prec f)) true q k (low f)) (inf true)) ≡ 0
    go true = odd_cut w (suc (prec f)) q k (low f)
    go false = unfold to_unsigned in refl

pub round_cut : (w : ℕ) (f : Format) (a c : ℕ) → to_unsigned w (round f true a c) ≡ 0
round_cut w f a c = ap (to_unsigned w) (round_is f true a c) ∙ units_cut w f _ _

-- x - y ≤ x + y
pub sub_le_add : (f : Format) (x y : Float) → T (plain x) → T (plain y) → T (le y x) → T (le (sub f x y) (add f x y))
sub_le_add f x y p q h =
    subst (λ (z : Float). T (le z (add f x y))) (sym (sub_is f x y p q h))
    (subst (λ (z : Float). T (le (round f false (num x * den y - num y * den x) (den x * den y)) z)) (sym (add_is f x y p q))
    (round_mono f _ (den x * den y) _ (den x * den y) (mul-pos (den_pos x) (den_pos y)) (mul-pos (den_pos x) (den_pos y))
    (mul-le-mul_right (den x * den y) (less (num x * den y) (num y * den x)))))
  where
    less : (a b : ℕ) → a - b ≤ a + b
    less a b = omega arith

-- ---- -0 stands for +0 in a sum or a difference with a positive value
sum_minus_zero : (f : Format) (a b c : ℕ) → a ≡ 0 → 0 < b → sum f true a false b c ≡ sum f false a false b c
unfolding sum
sum_minus_zero f a b c h k = go (ltb a b) (lt→ltb a b (subst (λ (z : ℕ). z < b) (sym h) k))
  where
    go : (t : Bool) → T t → cond t (round f false (b - a) c) (round f (true && ltb b a) (a - b) c) ≡ round f false (a + b) c
    go true t = ap (λ (z : ℕ). round f false z c) (omega arith)
    go false t = absurd t

dif_minus_zero : (f : Format) (a b c : ℕ) → a ≡ 0 → 0 < b → sum f true a true b c ≡ sum f false a true b c
unfolding sum
dif_minus_zero f a b c h k = go (ltb a b) (lt→ltb a b (subst (λ (z : ℕ). z < b) (sym h) k))
  where
    go : (t : Bool) → T t → round f true (a + b) c ≡ cond t (round f true (b - a) c) (round f false (a - b) c)
    go true t = ap (λ (z : ℕ). round f true z c) (omega arith)
    go false t = absurd t

zero_sized : (m : ℕ) (e : ℤ) (d : ℕ) → m * up e ≡ 0 → m * up e * d ≡ 0
zero_sized m e d h = ap (λ (z : ℕ). z * d) h ∙ zero-mul d

pub add_minus_zero : (f : Format) (m : ℕ) (e : ℤ) (y : Float) → m * up e ≡ 0 → T (positive y) → add f (fin true m e) y ≡ add f (fin false m e) y
add_minus_zero f m e nan h q = absurd q
add_minus_zero f m e (inf s) h q = absurd q
add_minus_zero f m e (fin true n d) h q = absurd q
add_minus_zero f m e (fin false n d) h q = unfold add in sum_minus_zero f (m * up e * down d) (n * up d * down e) (down e * down d) (zero_sized m e (down d) h) (mul-pos (mul-pos (ltb→lt 0 n q) (up_pos d)) (down_pos e))

pub sub_minus_zero : (f : Format) (m : ℕ) (e : ℤ) (y : Float) → m * up e ≡ 0 → T (positive y) → sub f (fin true m e) y ≡ sub f (fin false m e) y
sub_minus_zero f m e nan h q = absurd q
sub_minus_zero f m e (inf s) h q = absurd q
sub_minus_zero f m e (fin true n d) h q = absurd q
sub_minus_zero f m e (fin false n d) h q = unfold sub in dif_minus_zero f (m * up e * down d) (n * up d * down e) (down e * down d) (zero_sized m e (down d) h) (mul-pos (mul-pos (ltb→lt 0 n q) (up_pos d)) (down_pos e))
