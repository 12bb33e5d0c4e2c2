-- Inside the box a grain touches at most two cells of a direction (`few_inside`): the kernel's span of [x - r, x + r] has at most two, for every radius r up to 1/2. Assumes nothing.
use mathlib.Core.Path.{◌≡◌, refl, sym, ap, ◌∙◌, subst}
use mathlib.Core.Logic.{inl, inr}
use mathlib.Core.List.{List, [], ◌∷◌}
use Prim.Native.Nat.{ℕ, zero, suc, ◌+◌, ◌-◌, ◌*◌, ◌≤◌, ◌<◌}
use native.Mathlib.Nat.{le_of_eq, le_trans, mul-pos, mul-one, mul_comm, mul_assoc, mul_left_comm, mul-le-mul_right, le_of_mul-le-mul_right, add-mul, lt_irrefl, add-suc, suc-add, add-zero, suc-mul, le_of_lt}
use native.Mathlib.Omega.{arith}
use mathlib.Core.Bool.{Bool, true, false, not, ◌&&◌}
use lib.Dec.{T, leb, leb→le, nleb→lt, lit<}
use lib.Ieee.{Float, binary64, round, add, sub, div, le, of_bits, to_unsigned}
use lib.Ieee.Fits.{and_l, and_r}
use lib.Ieee.Order.{round_mono}
use lib.Ieee.Positive.{num, den, positive, den_pos, through}
use Rattle.order.proofs.Order as O
use Rattle.order.proofs.Cut.{cut_mono}
use Rattle.order.specs.Numbers.{one, two}
use Rattle.model.specs.Constants.{greatest_radius, longest}
use Rattle.model.specs.FromPToC.{width, first_cell, end_cell}
use Rattle.order.proofs.Mono.{plain, positive_plain, le→fr, div_is, add_mono, sub_mono, div_mono, num_pos, sum_mono}
use Rattle.root.proofs.Cases.{no_nan}
use Rattle.model.proofs.Eighths.{cnt, Facts, passed, tested, nth, half_plain}
use Rattle.model.proofs.Kernels.{cut, two_positive, max_cut_ge, min_cut_le, cut_count, cnt_is, quotient_plain, one_plain, fortyeight_plain}

-- ---- fractions: A/P ≤ (i+5)/4, i/4 ≤ a/p, a/p < (k+1) c/d, 2 ≤ c/d: then A/P ≤ (k + 15/8) c/d
far_enough : (A P a p c d i k : ℕ) → 0 < p → A * 4 ≤ (i + 5) * P → i * p ≤ a * 4 → a * d ≤ suc k * (c * p) → 2 * d ≤ c → A * d * 8 ≤ (8 * k + 15) * (c * P)
far_enough A P a p c d i k D f1 f2 f3 f4 =
    let t1 = A * (d * p) in
    let t2 = i * (P * (d * p)) in
    let t3 = P * (d * p) in
    let t4 = a * (d * P) in
    let t5 = k * (c * (p * P)) in
    let t6 = c * (p * P) in
    let g1 : 4 * t1 ≤ t2 + 5 * t3 = le_trans (le_of_eq (simp (mul_assoc, mul_comm))) (le_trans (mul-le-mul_right (d * p) f1) (le_of_eq (mul_assoc (i + 5) P (d * p) ∙ add-mul i 5 (P * (d * p))))) in
    let g2 : t2 ≤ 4 * t4 = le_trans (le_of_eq (simp (mul_assoc, mul_comm, mul_left_comm))) (le_trans (mul-le-mul_right (P * d) f2) (le_of_eq (simp (mul_assoc, mul_comm, mul_left_comm)))) in
    let s6 : suc k * t6 ≡ t5 + t6 = suc-mul k t6 in
    let g3 : t4 ≤ t5 + t6 = le_trans (le_of_eq (simp (mul_assoc, mul_comm, mul_left_comm))) (le_trans (mul-le-mul_right P f3) (le_of_eq (mul_assoc (suc k) (c * p) P ∙ ap (λ (z : ℕ). suc k * z) (mul_assoc c p P) ∙ s6))) in
    let g4 : 2 * t3 ≤ t6 = le_trans (le_of_eq (simp (mul_assoc, mul_comm, mul_left_comm))) (le_trans (mul-le-mul_right (p * P) f4) (le_of_eq refl)) in
    let l : A * d * 8 * p ≡ 8 * t1 = simp (mul_assoc, mul_comm, mul_left_comm) in
    let r1 : (8 * k + 15) * (c * P) * p ≡ (8 * k + 15) * t6 = mul_assoc (8 * k + 15) (c * P) p ∙ ap (λ (z : ℕ). (8 * k + 15) * z) (mul_assoc c P p ∙ ap (λ (z : ℕ). c * z) (mul_comm P p)) in
    let r2 : (8 * k + 15) * t6 ≡ 8 * t5 + 15 * t6 = add-mul (8 * k) 15 t6 ∙ ap (λ (z : ℕ). z + 15 * t6) (mul_assoc 8 k t6) in
    le_of_mul-le-mul_right {k = p} (omega arith) D

-- ---- k + 15/8, plus 1, is cut to k + 2: k up to 24
abbrev eighths : ℕ → Float
eighths k = round binary64 false (8 * k + 15) 8

abbrev capped : ℕ → Bool
capped k = plain (eighths k) && leb (cut (add binary64 (eighths k) one)) (suc (suc k))

abbrev caps : ℕ → Bool
caps zero = true
caps (suc k) = capped k && caps k

caps_checked : T (caps 25)
unfolding round add of_bits to_unsigned
caps_checked = tt

caps_at : (m k : ℕ) → T (caps m) → k < m → T (capped k)
caps_at zero k t h = absurd (no k h)
  where
    no : (k : ℕ) → k < 0 → ⊥
    no k h = omega arith
caps_at (suc m) k t h = go (leb m k) refl (λ (l : k < m). caps_at m k (and_r (capped m) (caps m) t) l)
  where
    go : (b : Bool) → leb m k ≡ b → (k < m → T (capped k)) → T (capped k)
    go true e again = let q : m ≤ k = leb→le m k (subst T (sym e) tt) in let s : k ≡ m = omega arith in subst (λ (z : ℕ). T (capped z)) (sym s) (and_l (capped m) (caps m) t)
    go false e again = again (nleb→lt m k (subst (λ (b : Bool). T (not b)) (sym e) tt))

twentyfour : cut (div binary64 longest two) ≡ 24
unfolding of_bits div to_unsigned
twentyfour = refl

two_wide : (w : Float) → T (positive w) → T (le two w) → 2 * den w ≤ num w
unfolding of_bits
two_wide w p h = le_trans (le→fr two w tt (positive_plain w p) h) (le_of_eq (mul-one (num w)))

-- ---- the kernel's span of two ends that are at most 5/4 apart
module _ (l : Float) (n : ℕ) (F : Facts l n) (m k : Float) (pm : T (plain m)) (pk : T (plain k)) (m48 : T (le m longest)) (k48 : T (le k longest)) (i : ℕ)
    (hk : num k * 4 ≤ (i + 5) * den k) (hm : i * den m ≤ num m * 4) where
  abbrev w : Float
  w = width l n

  abbrev z : Float
  z = div binary64 m w

  abbrev y : Float
  y = div binary64 k w

  low : cut z ≤ 24
  low = le_trans (cut_mono 64 z (div binary64 longest two) (div_mono binary64 m longest w two pm fortyeight_plain F.wide_positive two_positive m48 F.two_up)) (le_of_eq twentyfour)

  -- m is below the next cell's edge
  below : num m * den w < suc (cut z) * (num w * den m)
  below = go (leb (suc (cut z) * (num w * den m)) (num m * den w)) refl
    where
      over : suc (cut z) * (num w * den m) ≤ num m * den w → suc (cut z) ≤ cut z
      over h =
          le_trans (le_of_eq (sym (cut_count (suc (cut z)) (omega (arith, low)))))
          (cut_mono 64 (cnt (suc (cut z))) z
          (subst (λ (v : Float). T (le v z)) (sym (cnt_is (suc (cut z))))
          (subst (λ (v : Float). T (le (round binary64 false (suc (cut z)) 1) v)) (sym (div_is binary64 m w pm F.wide_positive))
          (round_mono binary64 (suc (cut z)) 1 (num m * den w) (num w * den m) (lit< tt) (mul-pos (num_pos w F.wide_positive) (den_pos m)) (le_trans h (le_of_eq (sym (mul-one (num m * den w)))))))))

      go : (b : Bool) → leb (suc (cut z) * (num w * den m)) (num m * den w) ≡ b → num m * den w < suc (cut z) * (num w * den m)
      go true e = absurd (lt_irrefl (cut z) (over (leb→le (suc (cut z) * (num w * den m)) (num m * den w) (subst T (sym e) tt))))
      go false e = nleb→lt (suc (cut z) * (num w * den m)) (num m * den w) (subst (λ (b : Bool). T (not b)) (sym e) tt)

  y_le : T (le y (eighths (cut z)))
  y_le =
      subst (λ (v : Float). T (le v (eighths (cut z)))) (sym (div_is binary64 k w pk F.wide_positive))
      (round_mono binary64 (num k * den w) (num w * den k) (8 * cut z + 15) 8 (mul-pos (num_pos w F.wide_positive) (den_pos k)) (lit< tt)
      (far_enough (num k) (den k) (num m) (den m) (num w) (den w) i (cut z) (den_pos m) hk hm (le_of_lt below) (two_wide w F.wide_positive F.two_up)))

  pub few : end_cell l n k ≤ suc (suc (first_cell l n m))
  few =
      let c : T (capped (cut z)) = caps_at 25 (cut z) caps_checked (omega (arith, low)) in
      let pe : T (plain (eighths (cut z))) = and_l (plain (eighths (cut z))) (leb (cut (add binary64 (eighths (cut z)) one)) (suc (suc (cut z)))) c in
      let u : cut (add binary64 (eighths (cut z)) one) ≤ suc (suc (cut z)) = leb→le (cut (add binary64 (eighths (cut z)) one)) (suc (suc (cut z))) (and_r (plain (eighths (cut z))) (leb (cut (add binary64 (eighths (cut z)) one)) (suc (suc (cut z)))) c) in
      let v : cut (add binary64 y one) ≤ cut (add binary64 (eighths (cut z)) one) = cut_mono 64 (add binary64 y one) (add binary64 (eighths (cut z)) one) (add_mono binary64 y (eighths (cut z)) one (quotient_plain l n F k pk k48) pe one_plain y_le) in
      let a : end_cell l n k ≤ cut (add binary64 y one) = min_cut_le (add binary64 y one) (cnt n) in
      let b : cut z ≤ first_cell l n m = max_cut_ge z in
      last _ _ _ _ (cut z) a v u b
    where
      last : (h p q lo c : ℕ) → h ≤ p → p ≤ q → q ≤ suc (suc c) → c ≤ lo → h ≤ suc (suc lo)
      last h p q lo c a b d e = omega arith

-- ---- the two ends of a grain are at most 5/4 apart: by quarters of a position, 1/2 to 48
abbrev quarter : ℕ → Float
quarter k = round binary64 false k 4

abbrev ends2 : Float → Float → ℕ → List Bool
ends2 a b j =
    positive a
    ∷ positive b
    ∷ le greatest_radius a
    ∷ plain (add binary64 b greatest_radius)
    ∷ plain (sub binary64 a greatest_radius)
    ∷ leb (num (add binary64 b greatest_radius) * 4) ((j - 2 + 5) * den (add binary64 b greatest_radius))
    ∷ leb ((j - 2) * den (sub binary64 a greatest_radius)) (num (sub binary64 a greatest_radius) * 4)
    ∷ []

abbrev row2 : ℕ → Bool
row2 j = tested (ends2 (quarter j) (quarter (suc j)) j)

abbrev rows2 : ℕ → ℕ → Bool
rows2 zero j = true
rows2 (suc c) j = row2 j && rows2 c (suc j)

checked2 : T (rows2 190 2)
unfolding round add sub le of_bits
checked2 = tt

pub record Near (x r : Float) : Type 0 where
  pub i : ℕ
  pub high : num (add binary64 x r) * 4 ≤ (i + 5) * den (add binary64 x r)
  pub deep : i * den (sub binary64 x r) ≤ num (sub binary64 x r) * 4

module _ (x r : Float) (px : T (plain x)) (pr : T (plain r)) (hr : T (le r greatest_radius)) (hx : T (le greatest_radius x)) (M : T (plain (add binary64 x r))) (N : T (plain (sub binary64 x r))) (x48 : T (le x (quarter 192))) where
  at2 : (j : ℕ) → T (row2 j) → T (le (quarter j) x) → T (le x (quarter (suc j))) → Near x r
  at2 j t ha hb =
      let a = quarter j in
      let b = quarter (suc j) in
      let e : (k : ℕ) → T (nth (ends2 a b j) k) = passed (ends2 a b j) t in
      let u = add binary64 b greatest_radius in
      let v = sub binary64 a greatest_radius in
      record {
        i = j - 2;
        high = through (num (add binary64 x r)) (num u) (j - 2 + 5) (den (add binary64 x r)) (den u) 4 (den_pos u)
            (le→fr (add binary64 x r) u M (e 3) (sum_mono binary64 x b r greatest_radius px (positive_plain b (e 1)) pr half_plain hb hr))
            (leb→le (num u * 4) ((j - 2 + 5) * den u) (e 5));
        deep = through (j - 2) (num v) (num (sub binary64 x r)) 4 (den v) (den (sub binary64 x r)) (den_pos v)
            (leb→le ((j - 2) * den v) (num v * 4) (e 6))
            (le→fr v (sub binary64 x r) (e 4) N (sub_mono binary64 a x greatest_radius r (positive_plain a (e 0)) px half_plain pr (e 2) (O.le_trans r greatest_radius x hr hx) ha hr));
      }

  next2 : (j : ℕ) (b : Bool) → le x (quarter (suc j)) ≡ b → T (row2 j) → T (le (quarter j) x) → (T (le (quarter (suc j)) x) → Near x r) → Near x r
  next2 j true h t a again = at2 j t a (subst T (sym h) tt)
  next2 j false h t a again = again (elim (O.le_total x (quarter (suc j)) (O.le_left x (quarter 192) x48) (no_nan (quarter (suc j)) (passed (ends2 (quarter j) (quarter (suc j)) j) t 1))) [ inl s ↦ absurd (subst T h s) | inr s ↦ s ])

  walk2 : (c j : ℕ) → j + suc c ≡ 192 → T (rows2 (suc c) j) → T (le (quarter j) x) → Near x r
  walk2 zero j e t a = at2 j (and_l (row2 j) true t) a (subst (λ (k : ℕ). T (le x (quarter k))) (sym e ∙ add-suc j 0 ∙ ap suc (add-zero j)) x48)
  walk2 (suc c) j e t a = next2 j (le x (quarter (suc j))) refl (and_l (row2 j) (rows2 (suc c) (suc j)) t) a (walk2 c (suc j) (suc-add j (suc c) ∙ sym (add-suc j (suc c)) ∙ e) (and_r (row2 j) (rows2 (suc c) (suc j)) t))

half_quarter : quarter 2 ≡ greatest_radius
unfolding round of_bits
half_quarter = refl

high_end : quarter 192 ≡ longest
unfolding round of_bits
high_end = refl

near : (x r : Float) → T (plain x) → T (plain r) → T (le r greatest_radius) → T (le greatest_radius x) → T (le x longest) → T (plain (add binary64 x r)) → T (plain (sub binary64 x r)) → Near x r
near x r px pr hr hx x48 M N = walk2 x r px pr hr hx M N (subst (λ (z : Float). T (le x z)) (sym high_end) x48) 189 2 refl checked2 (subst (λ (z : Float). T (le z x)) (sym half_quarter) hx)

-- inside the box, from 1/2 on: at most two cells
pub few_inside : (l : Float) (n : ℕ) (F : Facts l n) (x r : Float) → T (plain x) → T (plain r) → T (le r greatest_radius) → T (le greatest_radius x) → T (le x longest) → T (plain (add binary64 x r)) → T (plain (sub binary64 x r))
    → T (le (sub binary64 x r) longest) → T (le (add binary64 x r) longest)
    → end_cell l n (add binary64 x r) ≤ suc (suc (first_cell l n (sub binary64 x r)))
few_inside l n F x r px pr hr hx x48 M N m48 k48 = let q = near x r px pr hr hx x48 M N in few l n F (sub binary64 x r) (add binary64 x r) N M m48 k48 q.i q.high q.deep
