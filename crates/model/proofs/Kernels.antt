-- The ends of a kernel, the cells that reach from one position to another in a direction: bounds from either side. Assumes nothing.
use mathlib.Core.Path.{◌≡◌, refl, sym, ap, ◌∙◌, subst}
use Prim.Native.Nat.{ℕ, suc, ◌+◌, ◌-◌, ◌*◌, ◌/◌, ◌^◌, ◌≤◌, ◌<◌, zero-le}
use native.Mathlib.Nat.{le_refl, le_of_eq, le_trans, mul-pos, mul-one, one-mul, zero-mul, suc-mul, le-div_iff_mul-le, lt_of_lt_of_le, lt_of_le_of_lt, min-le_left}
use native.Mathlib.Omega.{arith}
use mathlib.Core.Bool.{Bool, true, false, not, cond}
use lib.IntN.{pos}
use lib.Dec.{T, leb, le→leb, lit≤, lit<, leb→le, nleb→lt}
use lib.Ieee.{Float, nan, inf, fin, binary64, up, down, round, add, sub, div, lt, le, of_int, of_bits, to_unsigned, in_float}
use lib.Ieee.Fits.{down_pos}
use lib.Ieee.Order.{round_mono, le_of_values}
use lib.Ieee.Back.{unsigned_back, round_whole}
use lib.Ieee.Positive.{num, den, positive, den_pos}
use Rattle.order.proofs.Order as O
use Rattle.order.proofs.Cut.{cut_mono, cut_capped}
use Rattle.order.proofs.Finite.{round_zero}
use Rattle.order.specs.Numbers.{fzero, one, two, max_of, min_of}
use Rattle.model.specs.Constants.{least_radius, greatest_radius, shortest, longest}
use Rattle.model.specs.FromPToC.{width, first_cell, end_cell}
use Rattle.order.proofs.Mono.{plain, positive_plain, fr→le, add_is, div_is, add_mono, div_mono, div_plain, num_pos}
use Rattle.model.proofs.Eighths.{more, four, cnt, Facts}

-- Rust's `as usize`
abbrev pub cut : Float → ℕ
cut x = to_unsigned 64 x

-- ---- cut, capped from either side
pub cut_zero : cut fzero ≡ 0
unfolding of_bits to_unsigned
cut_zero = refl

pub max_cut_le : (z : Float) → cut (max_of z fzero) ≤ cut z
max_cut_le z = go (lt z fzero)
  where
    go : (b : Bool) → cut (cond b fzero z) ≤ cut z
    go true = le_trans (le_of_eq cut_zero) zero-le
    go false = le_refl (cut z)

pub max_cut_ge : (z : Float) → cut z ≤ cut (max_of z fzero)
max_cut_ge z = go (lt z fzero) refl
  where
    go : (b : Bool) → lt z fzero ≡ b → cut z ≤ cut (cond b fzero z)
    go true h = cut_mono 64 z fzero (O.lt→le z fzero (subst T (sym h) tt))
    go false h = le_refl (cut z)

pub min_cut_le : (u c : Float) → cut (min_of u c) ≤ cut u
min_cut_le u c = go (lt c u) refl
  where
    go : (b : Bool) → lt c u ≡ b → cut (cond b c u) ≤ cut u
    go true h = cut_mono 64 c u (O.lt→le c u (subst T (sym h) tt))
    go false h = le_refl (cut u)

pub min_cut_ge : (k : ℕ) (u c : Float) → k ≤ cut u → k ≤ cut c → k ≤ cut (min_of u c)
min_cut_ge k u c h j = go (lt c u)
  where
    go : (b : Bool) → k ≤ cut (cond b c u)
    go true = j
    go false = h

-- ---- one more
pub in_float_lem : (n : ℕ) → n ≤ 256 → T (in_float binary64 (pos n))
unfolding in_float
in_float_lem n h = le→leb n 9007199254740992 (le_trans h (lit≤ tt))

pub cut_count : (n : ℕ) → n ≤ 256 → cut (cnt n) ≡ n
cut_count n h = (unsigned_back binary64 64 n (in_float_lem n h) (lt_of_le_of_lt h (lit< tt))).1

pub cnt_is : (n : ℕ) → cnt n ≡ round binary64 false n 1
unfolding of_int
cnt_is n = refl

-- a number at most the cut of a plain value is at most that value
pub below_cut : (k : ℕ) (z : Float) → T (plain z) → k ≤ cut z → k * den z ≤ num z
unfolding to_unsigned
below_cut k nan p h = absurd p
below_cut k (inf s) p h = absurd p
below_cut k (fin true m e) p h = absurd p
below_cut k (fin false m e) p h = (le-div_iff_mul-le (down_pos e)).0 (le_trans h (min-le_left (m * up e / down e) (2 ^ 64 - 1)))

pub one_plain : T (plain one)
unfolding of_bits
one_plain = tt

pub one_num : num one ≡ 1
unfolding of_bits
one_num = refl

pub one_den : den one ≡ 1
unfolding of_bits
one_den = refl

-- cut (z + 1) is at least one more than cut z
pub cut_next : (z : Float) → T (plain z) → (k : ℕ) → k < 256 → k ≤ cut z → suc k ≤ cut (add binary64 z one)
cut_next z p k K h =
    le_trans (le_of_eq (sym (cut_count (suc k) K)))
    (cut_mono 64 (cnt (suc k)) (add binary64 z one)
    (subst (λ (y : Float). T (le y (add binary64 z one))) (sym (cnt_is (suc k)))
    (subst (λ (y : Float). T (le (round binary64 false (suc k) 1) y)) (sym (add_is binary64 z one p one_plain))
    (round_mono binary64 (suc k) 1 (num z * den one + num one * den z) (den z * den one) (lit< tt) (mul-pos (den_pos z) (den_pos one))
    (fr (num z) (den z) (num one) (den one) one_num one_den (below_cut k z p h))))))
  where
    fr : (a d u v : ℕ) → u ≡ 1 → v ≡ 1 → k * d ≤ a → suc k * (d * v) ≤ (a * v + u * d) * 1
    fr a d u v e g l = rw e (rw g (simp (mul-one, one-mul, suc-mul) (omega arith)))

-- a plain value below n has its cut below n
pub value_of : (z : Float) → T (plain z) → (n : ℕ) → n ≤ 256 → n ≤ cut z → T (le (cnt n) z)
value_of nan p n N h = absurd p
value_of (inf s) p n N h = absurd p
value_of (fin true m e) p n N h = absurd p
value_of (fin false m e) p n N h =
    subst (λ (y : Float). T (le y (fin false m e))) (sym (cnt_is n))
    (le_of_values (round binary64 false n 1) (fin false m e) n 1 (m * up e) (down e) (lit< tt) (down_pos e) (round_whole binary64 false n (le_trans N (lit≤ tt))) (refl, refl)
    (le_trans (below_cut n (fin false m e) tt h) (le_of_eq (sym (mul-one (m * up e))))))

pub cut_lt : (z : Float) → T (plain z) → (n : ℕ) → n ≤ 256 → T (lt z (cnt n)) → cut z < n
cut_lt z p n N h = go (leb n (cut z)) refl
  where
    go : (b : Bool) → leb n (cut z) ≡ b → cut z < n
    go true e = absurd (O.lt_not_le z (cnt n) h (value_of z p n N (leb→le n (cut z) (subst T (sym e) tt))))
    go false e = nleb→lt n (cut z) (subst (λ (b : Bool). T (not b)) (sym e) tt)

-- ---- numbers
abbrev pub eight : Float
eight = of_bits binary64 0x4020_0000_0000_0000

pub zero_plain : T (plain fzero)
unfolding of_bits
zero_plain = tt

pub half_self : T (le greatest_radius greatest_radius)
unfolding of_bits le
half_self = tt

pub two_positive : T (positive two)
unfolding of_bits
two_positive = tt

pub four_positive : T (positive four)
unfolding of_bits
four_positive = tt

pub eight_plain : T (plain eight)
unfolding of_bits
eight_plain = tt

pub nine_plain : T (plain shortest)
unfolding of_bits
nine_plain = tt

pub fortyeight_plain : T (plain longest)
unfolding of_bits
fortyeight_plain = tt

-- 1 / 2 + 1 is cut to 1, 0 + 1 too, 4 / 4 too; 48 / 2 is plain
pub half_again : T (plain (div binary64 one two))
unfolding of_bits div
half_again = tt

pub one_and_half : cut (add binary64 (div binary64 one two) one) ≡ 1
unfolding of_bits div add to_unsigned
one_and_half = refl

pub just_one : cut (add binary64 fzero one) ≡ 1
unfolding of_bits add to_unsigned
just_one = refl

pub four_fours : cut (div binary64 four four) ≡ 1
unfolding of_bits div to_unsigned
four_fours = refl

pub many_plain : T (plain (div binary64 longest two))
unfolding of_bits div
many_plain = tt

pub zero_le_plain : (z : Float) → T (plain z) → T (le fzero z)
zero_le_plain nan p = absurd p
zero_le_plain (inf s) p = absurd p
zero_le_plain (fin true m e) p = absurd p
zero_le_plain (fin false m e) p = unfold of_bits in O.leq→le false 0 (pos 0) false m e (le_trans (le_of_eq (zero-mul (down e))) zero-le)

pub plain_self : (z : Float) → T (plain z) → T (le z z)
plain_self z p = fr→le z z p p (le_refl (num z * den z))

pub nothing : (d c : ℕ) → 0 < c → round binary64 false (num fzero * d) c ≡ fzero
unfolding of_bits
nothing d c h = ap (λ (k : ℕ). round binary64 false k c) (zero-mul d) ∙ round_zero binary64 c h

pub low : cut (max_of fzero fzero) ≡ 0
unfolding of_bits lt to_unsigned
low = refl

pub up_one : (a b c : ℕ) → a ≤ b → suc b ≤ c → a < c
up_one a b c h k = omega arith

-- ---- the kernel
module _ (l : Float) (n : ℕ) (F : Facts l n) where
  pub n256 : n ≤ 256
  n256 = le_trans F.sixteen_down (lit≤ tt)

  abbrev w : Float
  w = width l n

  -- from 0 to at most 1: just cell 0
  pub from_zero : first_cell l n fzero ≡ 0
  from_zero = ap (λ (z : Float). cut (max_of z fzero)) (div_is binary64 fzero w zero_plain F.wide_positive ∙ nothing (den w) (num w * den fzero) (mul-pos (num_pos w F.wide_positive) (den_pos fzero))) ∙ low

  pub quotient_plain : (m : Float) → T (plain m) → T (le m longest) → T (plain (div binary64 m w))
  quotient_plain m p h =
      div_plain binary64 m w (div binary64 longest two) p F.wide_positive many_plain
      (div_mono binary64 m longest w two p fortyeight_plain F.wide_positive two_positive h F.two_up)

  pub hi_some : (m : Float) → T (plain m) → T (le m longest) → 1 ≤ end_cell l n m
  hi_some m p h =
      let q = quotient_plain m p h in
      min_cut_ge 1 (add binary64 (div binary64 m w) one) (cnt n)
      (le_trans (le_of_eq (sym just_one)) (cut_mono 64 _ _ (add_mono binary64 fzero (div binary64 m w) one zero_plain q one_plain (zero_le_plain (div binary64 m w) q))))
      (le_trans (lit≤ tt) (le_trans F.three_up (le_of_eq (sym (cut_count n n256)))))

  pub hi_in : (m : Float) → end_cell l n m ≤ n
  hi_in m = cut_capped binary64 64 (add binary64 (div binary64 m w) one) n (in_float_lem n n256) (lt_of_le_of_lt n256 (lit< tt))

  pub hi_one : (m : Float) → T (plain m) → T (le m one) → end_cell l n m ≤ 1
  hi_one m p h =
      let d : T (le (div binary64 m w) (div binary64 one two)) = div_mono binary64 m one w two p one_plain F.wide_positive two_positive h F.two_up in
      let q : T (plain (div binary64 m w)) = div_plain binary64 m w (div binary64 one two) p F.wide_positive half_again d in
      le_trans (min_cut_le (add binary64 (div binary64 m w) one) (cnt n))
      (le_trans (cut_mono 64 _ _ (add_mono binary64 (div binary64 m w) (div binary64 one two) one q half_again one_plain d)) (le_of_eq one_and_half))

  -- from 4 on: no cell 0
  pub lo_far : (m : Float) → T (plain m) → T (le four m) → 1 ≤ first_cell l n m
  lo_far m p h =
      le_trans (le_of_eq (sym four_fours))
      (le_trans (cut_mono 64 _ _ (div_mono binary64 four m four w (positive_plain four four_positive) p four_positive F.wide_positive h F.four_down))
      (max_cut_ge (div binary64 m w)))

  -- inside: some cell
  pub inside : (m k : Float) → T (plain m) → T (plain k) → T (le m k) → T (le k longest) → T (le m (sub binary64 l least_radius)) → first_cell l n m < end_cell l n k
  inside m k p q h j t =
      let z = div binary64 m w in
      let y = div binary64 k w in
      let pz : T (plain z) = quotient_plain m p (O.le_trans m k longest h j) in
      let py : T (plain y) = quotient_plain k q j in
      let zy : T (le z y) = div_mono binary64 m k w w p q F.wide_positive F.wide_positive h (plain_self w (positive_plain w F.wide_positive)) in
      let below : cut z < n = cut_lt z pz n n256 (F.top m p t) in
      up_one _ (cut z) _ (max_cut_le z)
      (min_cut_ge (suc (cut z)) (add binary64 y one) (cnt n)
      (le_trans (cut_next z pz (cut z) (lt_of_lt_of_le below n256) (le_refl (cut z))) (cut_mono 64 _ _ (add_mono binary64 z y one pz py one_plain zy)))
      (le_trans below (le_of_eq (sym (cut_count n n256)))))

  -- from one unit below the length on: the last cell, or none
  pub lo_last : (m : Float) → T (plain m) → T (le (sub binary64 (sub binary64 F.low greatest_radius) greatest_radius) m) → n ≤ suc (first_cell l n m)
  lo_last m p h = more n (cut (div binary64 m w)) (first_cell l n m) (F.last m p h) (max_cut_ge (div binary64 m w))
