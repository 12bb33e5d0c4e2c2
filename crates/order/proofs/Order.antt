-- `le` and `lt` of lib.Ieee on values that are not NaN are a total preorder and its strict part.
-- Where a premise is a passed comparison, no NaN stands in it, so most laws ask nothing else. Assumes nothing.
use mathlib.Core.Path.{◌≡◌, refl, sym, subst}
use mathlib.Core.Logic.{◌⊎◌, inl, inr}
use Prim.Native.Nat.{ℕ, ◌+◌, ◌*◌, ◌≤◌, ◌<◌}
use native.Mathlib.Nat.{le_of_eq, le_of_lt, eq-or-lt_of_le, mul_right_comm, mul-le-mul_right, le_of_mul-le-mul_right, add-mul, zero-mul}
use native.Mathlib.Nat as N
use native.Mathlib.Omega.{arith}
use mathlib.Core.Bool.{Bool, true, false, not, ◌&&◌, ◌||◌}
use lib.IntN.{ℤ}
use lib.Dec.{T, ltb, eqb, ltb→lt, lt→ltb, nltb→le, eqb→eq, T_not, not_T}
use lib.Ieee.{Float, nan, inf, fin, up, down, below, level, lt, eq, le, is_nan}
use lib.Ieee.Fits.{down_pos, and_i, and_l, and_r, eq→eqb}
use lib.Ieee.Bits.{is_true, is_false}

-- ---- signed magnitudes: ±a ≤ ±b, where -0 equals +0
abbrev pub Leq : Bool → ℕ → Bool → ℕ → Type 0
Leq false a false b = a ≤ b
Leq false a true b = a + b ≤ 0
Leq true a false b = Unit
Leq true a true b = b ≤ a

leq_trans : (s : Bool) (a : ℕ) (t : Bool) (b : ℕ) (u : Bool) (c : ℕ) → Leq s a t b → Leq t b u c → Leq s a u c
leq_trans false a false b false c p q = omega arith
leq_trans false a false b true c p q = omega arith
leq_trans false a true b false c p q = omega arith
leq_trans false a true b true c p q = omega arith
leq_trans true a t b false c p q = tt
leq_trans true a false b true c p q = omega arith
leq_trans true a true b true c p q = omega arith

-- a common factor k above 0
leq_scale : (s : Bool) (a : ℕ) (t : Bool) (b k : ℕ) → Leq s a t b → Leq s (a * k) t (b * k)
leq_scale false a false b k h = mul-le-mul_right k h
leq_scale false a true b k h = N.le_trans (le_of_eq (sym (add-mul a b k))) (N.le_trans (mul-le-mul_right k h) (le_of_eq (zero-mul k)))
leq_scale true a false b k h = tt
leq_scale true a true b k h = mul-le-mul_right k h

leq_unscale : (s : Bool) (a : ℕ) (t : Bool) (b k : ℕ) → 0 < k → Leq s (a * k) t (b * k) → Leq s a t b
leq_unscale false a false b k K h = le_of_mul-le-mul_right h K
leq_unscale false a true b k K h = le_of_mul-le-mul_right (N.le_trans (le_of_eq (add-mul a b k)) (N.le_trans h (le_of_eq (sym (zero-mul k))))) K
leq_unscale true a false b k K h = tt
leq_unscale true a true b k K h = le_of_mul-le-mul_right h K

-- the same with both magnitudes written another way
leq_as : (s : Bool) {a a' : ℕ} (t : Bool) {b b' : ℕ} → a ≡ a' → b ≡ b' → Leq s a t b → Leq s a' t b'
leq_as s {a} {a'} t {b} {b'} p q h = subst (λ (z : ℕ). Leq s a' t z) q (subst (λ (z : ℕ). Leq s z t b) p h)

-- three fractions x / p, y / q, z / r with signs
leq_through : (s : Bool) (x p : ℕ) (t : Bool) (y q : ℕ) (u : Bool) (z r : ℕ) → 0 < q → Leq s (x * q) t (y * p) → Leq t (y * r) u (z * q) → Leq s (x * r) u (z * p)
leq_through s x p t y q u z r Q h k =
    leq_unscale s (x * r) u (z * p) q Q
    (leq_trans s (x * r * q) t (y * p * r) u (z * p * q)
    (leq_as s t (mul_right_comm x q r) refl (leq_scale s (x * q) t (y * p) r h))
    (leq_as t u (mul_right_comm y r p) (mul_right_comm z q p) (leq_scale t (y * r) u (z * q) p k)))

-- ---- the tests and the facts
or_case : (a b : Bool) → T (a || b) → T a ⊎ T b
or_case true b t = inl tt
or_case false b t = inr t

or_l : (a b : Bool) → T a → T (a || b)
or_l true b t = tt
or_l false b t = absurd t

pub or_r : (a b : Bool) → T b → T (a || b)
or_r true b t = tt
or_r false b t = t

test→leq : (s : Bool) (a : ℕ) (t : Bool) (b : ℕ) → T (below s a t b || level s a t b) → Leq s a t b
test→leq false a false b h = elim (or_case (ltb a b) (eqb a b && true) h) [ inl p ↦ le_of_lt (ltb→lt a b p) | inr q ↦ le_of_eq (eqb→eq a b (and_l (eqb a b) true q)) ]
test→leq false a true b h =
    let p : a ≡ b = eqb→eq a b (and_l (eqb a b) (eqb a 0) h) in
    let q : a ≡ 0 = eqb→eq a 0 (and_r (eqb a b) (eqb a 0) h) in
    omega arith
test→leq true a false b h = tt
test→leq true a true b h = elim (or_case (ltb b a) (eqb a b && true) h) [ inl p ↦ le_of_lt (ltb→lt b a p) | inr q ↦ le_of_eq (sym (eqb→eq a b (and_l (eqb a b) true q))) ]

zero_both : (a b : ℕ) → a + b ≤ 0 → (a ≡ b) × (a ≡ 0)
zero_both a b h = (omega arith, omega arith)

leq→test : (s : Bool) (a : ℕ) (t : Bool) (b : ℕ) → Leq s a t b → T (below s a t b || level s a t b)
leq→test false a false b h = elim (eq-or-lt_of_le h) [ inl p ↦ or_r (ltb a b) (eqb a b && true) (and_i (eqb a b) true (eq→eqb p) tt) | inr q ↦ or_l (ltb a b) (eqb a b && true) (lt→ltb a b q) ]
leq→test false a true b h = let z = zero_both a b h in and_i (eqb a b) (eqb a 0) (eq→eqb z.0) (eq→eqb z.1)
leq→test true a false b h = go (ltb 0 (a + b)) (nltb→le 0 (a + b))
  where
    go : (c : Bool) → (T (not c) → a + b ≤ 0) → T (c || (eqb a b && (false || eqb a 0)))
    go true k = tt
    go false k = let z = zero_both a b (k tt) in and_i (eqb a b) (eqb a 0) (eq→eqb z.0) (eq→eqb z.1)
leq→test true a true b h = elim (eq-or-lt_of_le h) [ inl p ↦ or_r (ltb b a) (eqb a b && true) (and_i (eqb a b) true (eq→eqb (sym p)) tt) | inr q ↦ or_l (ltb b a) (eqb a b && true) (lt→ltb b a q) ]

-- ---- le
pub le→leq : (s : Bool) (m : ℕ) (e : ℤ) (t : Bool) (n : ℕ) (d : ℤ) → T (le (fin s m e) (fin t n d)) → Leq s (m * up e * down d) t (n * up d * down e)
unfolding le
le→leq s m e t n d h = test→leq s (m * up e * down d) t (n * up d * down e) h

pub leq→le : (s : Bool) (m : ℕ) (e : ℤ) (t : Bool) (n : ℕ) (d : ℤ) → Leq s (m * up e * down d) t (n * up d * down e) → T (le (fin s m e) (fin t n d))
unfolding le
leq→le s m e t n d h = leq→test s (m * up e * down d) t (n * up d * down e) h

leq_refl : (s : Bool) (a : ℕ) → Leq s a s a
leq_refl false a = omega arith
leq_refl true a = omega arith

pub le_refl : (x : Float) → T (not (is_nan x)) → T (le x x)
unfolding is_nan
le_refl nan h = absurd h
le_refl (inf true) h = unfold le in tt
le_refl (inf false) h = unfold le in tt
le_refl (fin s m e) h = leq→le s m e s m e (leq_refl s (m * up e * down e))

-- an infinity on one side
le_inf : (x : Float) → T (not (is_nan x)) → T (le x (inf false))
unfolding is_nan le
le_inf nan h = absurd h
le_inf (inf true) h = tt
le_inf (inf false) h = tt
le_inf (fin s m e) h = tt

inf_le : (x : Float) → T (not (is_nan x)) → T (le (inf true) x)
unfolding is_nan le
inf_le nan h = absurd h
inf_le (inf true) h = tt
inf_le (inf false) h = tt
inf_le (fin s m e) h = tt

pub le_left : (x y : Float) → T (le x y) → T (not (is_nan x))
unfolding is_nan le
le_left nan y h = absurd h
le_left (inf s) y h = tt
le_left (fin s m e) y h = tt

pub le_right : (x y : Float) → T (le x y) → T (not (is_nan y))
unfolding is_nan le
le_right nan y h = absurd h
le_right (inf s) nan h = absurd h
le_right (inf s) (inf t) h = tt
le_right (inf s) (fin t n d) h = tt
le_right (fin s m e) nan h = absurd h
le_right (fin s m e) (inf t) h = tt
le_right (fin s m e) (fin t n d) h = tt

-- nothing but the infinity itself is above it, or below
top_only : (y : Float) → T (le (inf false) y) → y ≡ inf false
unfolding le
top_only nan h = absurd h
top_only (inf true) h = absurd h
top_only (inf false) h = refl
top_only (fin t n d) h = absurd h

bottom_only : (x : Float) → T (le x (inf true)) → x ≡ inf true
unfolding le
bottom_only nan h = absurd h
bottom_only (inf true) h = refl
bottom_only (inf false) h = absurd h
bottom_only (fin s m e) h = absurd h

pub le_trans : (x y z : Float) → T (le x y) → T (le y z) → T (le x z)
le_trans nan y z h k = absurd (T_not (is_nan nan) (le_left nan y h) (unfold is_nan in tt))
le_trans (inf true) y z h k = inf_le z (le_right y z k)
le_trans (inf false) y z h k = subst (λ (w : Float). T (le w z)) (top_only y h) k
le_trans (fin s m e) y nan h k = absurd (T_not (is_nan nan) (le_right y nan k) (unfold is_nan in tt))
le_trans (fin s m e) y (inf false) h k = le_inf (fin s m e) (unfold is_nan in tt)
le_trans (fin s m e) y (inf true) h k = subst (λ (w : Float). T (le (fin s m e) w)) (bottom_only y k) h
le_trans (fin s m e) nan (fin u l g) h k = absurd (T_not (is_nan nan) (le_right (fin s m e) nan h) (unfold is_nan in tt))
le_trans (fin s m e) (inf true) (fin u l g) h k = absurd (unfold le in h)
le_trans (fin s m e) (inf false) (fin u l g) h k = absurd (unfold le in k)
le_trans (fin s m e) (fin t n d) (fin u l g) h k =
    leq→le s m e u l g (leq_through s (m * up e) (down e) t (n * up d) (down d) u (l * up g) (down g) (down_pos d) (le→leq s m e t n d h) (le→leq t n d u l g k))

-- ---- lt is the negation of le, the other way round
-- two tests that pass together are one test
one_test : (a b : Bool) → (T a → T b) → (T b → T a) → a ≡ b
one_test true b p q = sym (is_true b (p tt))
one_test false b p q = sym (is_false b (not_T b q))

-- ±a < ±b
abbrev Lth : Bool → ℕ → Bool → ℕ → Type 0
Lth false a false b = a < b
Lth false a true b = ⊥
Lth true a false b = 0 < a + b
Lth true a true b = b < a

below→lth : (s : Bool) (a : ℕ) (t : Bool) (b : ℕ) → T (below s a t b) → Lth s a t b
below→lth false a false b h = ltb→lt a b h
below→lth false a true b h = h
below→lth true a false b h = ltb→lt 0 (a + b) h
below→lth true a true b h = ltb→lt b a h

lth→below : (s : Bool) (a : ℕ) (t : Bool) (b : ℕ) → Lth s a t b → T (below s a t b)
lth→below false a false b h = lt→ltb a b h
lth→below false a true b h = h
lth→below true a false b h = lt→ltb 0 (a + b) h
lth→below true a true b h = lt→ltb b a h

lth_not : (s : Bool) (a : ℕ) (t : Bool) (b : ℕ) → Lth s a t b → Leq t b s a → ⊥
lth_not false a false b h k = omega arith
lth_not false a true b h k = h
lth_not true a false b h k = omega arith
lth_not true a true b h k = omega arith

not_lth : (s : Bool) (a : ℕ) (t : Bool) (b : ℕ) → (Leq t b s a → ⊥) → Lth s a t b
not_lth false a false b h = omega arith
not_lth false a true b h = h tt
not_lth true a false b h = omega arith
not_lth true a true b h = omega arith

lt_below : (s : Bool) (m : ℕ) (e : ℤ) (t : Bool) (n : ℕ) (d : ℤ) → lt (fin s m e) (fin t n d) ≡ below s (m * up e * down d) t (n * up d * down e)
unfolding lt
lt_below s m e t n d = refl

fin_lt : (s : Bool) (m : ℕ) (e : ℤ) (t : Bool) (n : ℕ) (d : ℤ) → lt (fin s m e) (fin t n d) ≡ not (le (fin t n d) (fin s m e))
fin_lt s m e t n d =
    let a = m * up e * down d in
    let b = n * up d * down e in
    one_test (lt (fin s m e) (fin t n d)) (not (le (fin t n d) (fin s m e)))
    (λ (p : T (lt (fin s m e) (fin t n d))). not_T (le (fin t n d) (fin s m e)) (λ (q : T (le (fin t n d) (fin s m e))). lth_not s a t b (below→lth s a t b (subst T (lt_below s m e t n d) p)) (le→leq t n d s m e q)))
    (λ (p : T (not (le (fin t n d) (fin s m e)))). subst T (sym (lt_below s m e t n d)) (lth→below s a t b (not_lth s a t b (λ (q : Leq t b s a). T_not (le (fin t n d) (fin s m e)) p (leq→le t n d s m e q)))))

pub lt_is_not_le : (x y : Float) → T (not (is_nan x)) → T (not (is_nan y)) → lt x y ≡ not (le y x)
lt_is_not_le nan y h k = absurd (unfold is_nan in h)
lt_is_not_le (inf s) nan h k = absurd (unfold is_nan in k)
lt_is_not_le (inf true) (inf true) h k = unfold lt le in refl
lt_is_not_le (inf true) (inf false) h k = unfold lt le in refl
lt_is_not_le (inf false) (inf true) h k = unfold lt le in refl
lt_is_not_le (inf false) (inf false) h k = unfold lt le in refl
lt_is_not_le (inf true) (fin t n d) h k = unfold lt le in refl
lt_is_not_le (inf false) (fin t n d) h k = unfold lt le in refl
lt_is_not_le (fin s m e) nan h k = absurd (unfold is_nan in k)
lt_is_not_le (fin s m e) (inf true) h k = unfold lt le in refl
lt_is_not_le (fin s m e) (inf false) h k = unfold lt le in refl
lt_is_not_le (fin s m e) (fin t n d) h k = fin_lt s m e t n d

-- ---- the rest follows from these
pub lt→le : (x y : Float) → T (lt x y) → T (le x y)
unfolding le
lt→le x y h = or_l (lt x y) (eq x y) h

pub lt_left : (x y : Float) → T (lt x y) → T (not (is_nan x))
lt_left x y h = le_left x y (lt→le x y h)

pub lt_right : (x y : Float) → T (lt x y) → T (not (is_nan y))
lt_right x y h = le_right x y (lt→le x y h)

pub lt_not_le : (x y : Float) → T (lt x y) → T (le y x) → ⊥
lt_not_le x y h k = T_not (le y x) (subst T (lt_is_not_le x y (lt_left x y h) (lt_right x y h)) h) k

pub not_le_lt : (x y : Float) → T (not (is_nan x)) → T (not (is_nan y)) → (T (le y x) → ⊥) → T (lt x y)
not_le_lt x y p q h = subst T (sym (lt_is_not_le x y p q)) (not_T (le y x) h)

-- a failed `<` between values that are no NaN
pub not_lt→le : (x y : Float) → T (not (is_nan x)) → T (not (is_nan y)) → T (not (lt x y)) → T (le y x)
not_lt→le x y p q h = go (le y x) (subst (λ (b : Bool). T (not b)) (lt_is_not_le x y p q) h)
  where
    go : (b : Bool) → T (not (not b)) → T b
    go true t = tt
    go false t = t

pub le_total : (x y : Float) → T (not (is_nan x)) → T (not (is_nan y)) → T (le x y) ⊎ T (le y x)
le_total x y p q = go (lt x y) (lt→le x y) (not_lt→le x y p q)
  where
    go : (b : Bool) → (T b → T (le x y)) → (T (not b) → T (le y x)) → T (le x y) ⊎ T (le y x)
    go true h k = inl (h tt)
    go false h k = inr (k tt)

pub le_lt_trans : (x y z : Float) → T (le x y) → T (lt y z) → T (lt x z)
le_lt_trans x y z h k = not_le_lt x z (le_left x y h) (lt_right y z k) (λ (q : T (le z x)). lt_not_le y z k (le_trans z x y q h))

pub lt_le_trans : (x y z : Float) → T (lt x y) → T (le y z) → T (lt x z)
lt_le_trans x y z h k = not_le_lt x z (lt_left x y h) (le_right y z k) (λ (q : T (le z x)). lt_not_le x y h (le_trans y z x k q))

pub lt_trans : (x y z : Float) → T (lt x y) → T (lt y z) → T (lt x z)
lt_trans x y z h k = lt_le_trans x y z h (lt→le y z k)

pub lt_irrefl : (x : Float) → T (lt x x) → ⊥
lt_irrefl x h = lt_not_le x x h (lt→le x x h)
