-- A box length from 9 to 48 and its cells, as from_p_to_c needs them: computed at 312 rows of an eighth of a unit each, and carried to every
-- length between two eighths by the order of sums, differences and quotients. Assumes nothing.
use mathlib.Core.Path.{◌≡◌, refl, sym, ap, ◌∙◌, subst}
use mathlib.Core.Logic.{◌⊎◌, inl, inr}
use mathlib.Core.List.{List, [], ◌∷◌}
use Prim.Native.Nat.{ℕ, zero, suc, ◌+◌, ◌≤◌, max}
use native.Mathlib.Nat.{le_trans, le_antisymm, add-suc, suc-add, eq-or-lt_of_le, add-zero}
use native.Mathlib.Omega.{arith}
use mathlib.Core.Bool.{Bool, true, false, not, cond, ◌&&◌}
use lib.IntN.{pos}
use lib.Dec.{T, leb, leb→le}
use lib.Ieee.{Float, binary64, round, add, sub, div, lt, le, is_nan, of_int, of_bits, to_unsigned}
use lib.Ieee.Fits.{and_l, and_r}
use lib.Ieee.Positive.{positive, between}
use Rattle.order.proofs.Order as O
use Rattle.order.proofs.Cut.{cut_mono}
use Rattle.order.specs.Numbers.{one, two}
use Rattle.model.specs.Constants.{least_radius, greatest_radius, cell_size, shortest, longest}
use Rattle.model.specs.FromPToC.{width}
use Rattle.model.specs.Grid.{cells_of}
use Rattle.order.proofs.Mono.{plain, positive_plain, add_mono, sub_mono, div_mono}
use Rattle.root.proofs.Cases.{no_nan}

abbrev pub four : Float
four = of_bits binary64 0x4010_0000_0000_0000

abbrev pub cnt : ℕ → Float
cnt n = of_int binary64 (pos n)

-- a number of eighths
abbrev eighth : ℕ → Float
eighth k = round binary64 false k 8

-- ---- lists of tests
abbrev pub tested : List Bool → Bool
tested [] = true
tested (b ∷ bs) = b && tested bs

abbrev pub nth : List Bool → ℕ → Bool
nth [] i = true
nth (b ∷ bs) zero = b
nth (b ∷ bs) (suc i) = nth bs i

pub passed : (bs : List Bool) → T (tested bs) → (i : ℕ) → T (nth bs i)
passed [] t i = tt
passed (b ∷ bs) t zero = and_l b (tested bs) t
passed (b ∷ bs) t (suc i) = passed bs (and_r b (tested bs) t) i

-- ---- the tests at one row: lengths from a to b, n cells
abbrev tests : Float → Float → ℕ → List Bool
tests a b n =
    leb 3 n
    ∷ leb n 16
    ∷ positive (cnt n)
    ∷ le two (width a n)
    ∷ le (width b n) four
    ∷ lt (div binary64 (sub binary64 b least_radius) (width a n)) (cnt n)
    ∷ positive (width a n)
    ∷ positive (width b n)
    ∷ leb n (suc (to_unsigned 64 (div binary64 (sub binary64 (sub binary64 a greatest_radius) greatest_radius) (width b n))))
    ∷ []

-- the ends' own tests, and those of the cells: at b only where it has more cells than a
abbrev ends : Float → Float → List Bool
ends a b =
    positive a
    ∷ positive b
    ∷ plain (sub binary64 b least_radius)
    ∷ plain (add binary64 b greatest_radius)
    ∷ le greatest_radius a
    ∷ le least_radius b
    ∷ le a (add binary64 b greatest_radius)
    ∷ le (sub binary64 (add binary64 b greatest_radius) a) one
    ∷ leb (cells_of b) (suc (cells_of a))
    ∷ tested (tests a b (cells_of a))
    ∷ cond (leb (cells_of b) (cells_of a)) true (tested (tests a b (cells_of b)))
    ∷ plain (sub binary64 a greatest_radius)
    ∷ le greatest_radius (sub binary64 a greatest_radius)
    ∷ plain (sub binary64 (sub binary64 a greatest_radius) greatest_radius)
    ∷ le (add binary64 (sub binary64 a greatest_radius) greatest_radius) a
    ∷ le (sub binary64 (sub binary64 a greatest_radius) greatest_radius) (sub binary64 a greatest_radius)
    ∷ []

abbrev row : ℕ → Bool
row k = tested (ends (eighth k) (eighth (suc k)))

-- c rows from k on
abbrev rows : ℕ → ℕ → Bool
rows zero k = true
rows (suc c) k = row k && rows c (suc k)

checked : T (rows 312 72)
unfolding round add sub div lt le to_unsigned of_int of_bits
checked = tt

-- ---- what a length and its cells keep
pub record Facts (l : Float) (n : ℕ) : Type 0 where
  pub three_up : 3 ≤ n
  pub sixteen_down : n ≤ 16
  pub length_positive : T (positive l)
  pub length_half : T (le greatest_radius l)
  pub wide_positive : T (positive (width l n))
  pub two_up : T (le two (width l n))
  pub four_down : T (le (width l n) four)
  -- what lies a quarter of a unit below the length or lower is in the last cell or below it
  pub top : (m : Float) → T (plain m) → T (le m (sub binary64 l least_radius)) → T (lt (div binary64 m (width l n)) (cnt n))
  -- what a position adds past the end is at most one
  pub over : (m : Float) → T (plain m) → T (le l m) → T (le m (add binary64 l greatest_radius)) → T (le (sub binary64 m l) one)
  -- a length not above this one, and what lies one unit below it is in the last cell
  pub low : Float
  pub low_plain : T (plain low)
  pub low_half : T (le greatest_radius low)
  pub low_le : T (le low l)
  pub inner_plain : T (plain (sub binary64 low greatest_radius))
  pub inner_half : T (le greatest_radius (sub binary64 low greatest_radius))
  pub back : T (le (add binary64 (sub binary64 low greatest_radius) greatest_radius) low)
  pub down : T (le (sub binary64 (sub binary64 low greatest_radius) greatest_radius) (sub binary64 low greatest_radius))
  pub last : (m : Float) → T (plain m) → T (le (sub binary64 (sub binary64 low greatest_radius) greatest_radius) m) → n ≤ suc (to_unsigned 64 (div binary64 m (width l n)))

pub half_plain : T (plain greatest_radius)
unfolding of_bits
half_plain = tt

three_positive : T (positive cell_size)
unfolding of_bits
three_positive = tt

three_no_nan : T (le cell_size cell_size)
three_no_nan = O.le_refl cell_size (no_nan cell_size three_positive)

pub least_plain : T (plain least_radius)
unfolding of_bits
least_plain = tt

pub least_half : T (le least_radius greatest_radius)
unfolding of_bits le
least_half = tt

least_self : T (le least_radius least_radius)
unfolding of_bits le
least_self = tt

max_mono : (a b : ℕ) → a ≤ b → max 3 a ≤ max 3 b
max_mono a b h = omega arith

pub more : (n c d : ℕ) → n ≤ suc c → c ≤ d → n ≤ suc d
more n c d h k = omega arith

cells_mono : (a b : Float) → T (positive a) → T (positive b) → T (le a b) → cells_of a ≤ cells_of b
cells_mono a b p q h = max_mono _ _ (cut_mono 64 _ _ (div_mono binary64 a b cell_size cell_size (positive_plain a p) (positive_plain b q) three_positive three_positive h three_no_nan))

module _ (l : Float) (a b : Float) (E : T (tested (ends a b))) (ha : T (le a l)) (hb : T (le l b)) where
  e : (i : ℕ) → T (nth (ends a b) i)
  e = passed (ends a b) E

  pl : T (positive l)
  pl = between a l b (e 0) (e 1) ha hb

  nan_free : (x : Float) → T (positive x) → T (le x x)
  nan_free x p = O.le_refl x (no_nan x p)

  with : (n : ℕ) → T (tested (tests a b n)) → Facts l n
  with n G =
      let t : (i : ℕ) → T (nth (tests a b n) i) = passed (tests a b n) G in
      let self : T (le (cnt n) (cnt n)) = nan_free (cnt n) (t 2) in
      let wa : T (le (width a n) (width l n)) = div_mono binary64 a l (cnt n) (cnt n) (positive_plain a (e 0)) (positive_plain l pl) (t 2) (t 2) ha self in
      let wb : T (le (width l n) (width b n)) = div_mono binary64 l b (cnt n) (cnt n) (positive_plain l pl) (positive_plain b (e 1)) (t 2) (t 2) hb self in
      let pw : T (positive (width l n)) = between (width a n) (width l n) (width b n) (t 6) (t 7) wa wb in
      let hl : T (le greatest_radius l) = O.le_trans greatest_radius a l (e 4) ha in
      let ql : T (le least_radius l) = O.le_trans least_radius greatest_radius l least_half hl in
      let ls : T (le (sub binary64 l least_radius) (sub binary64 b least_radius)) = sub_mono binary64 l b least_radius least_radius (positive_plain l pl) (positive_plain b (e 1)) least_plain least_plain ql (e 5) hb least_self in
      record {
        three_up = leb→le 3 n (t 0);
        sixteen_down = leb→le n 16 (t 1);
        length_positive = pl;
        length_half = hl;
        wide_positive = pw;
        two_up = O.le_trans two (width a n) (width l n) (t 3) wa;
        four_down = O.le_trans (width l n) (width b n) four wb (t 4);
        top = λ (m : Float) (p : T (plain m)) (h : T (le m (sub binary64 l least_radius))).
            O.le_lt_trans (div binary64 m (width l n)) (div binary64 (sub binary64 b least_radius) (width a n)) (cnt n)
            (div_mono binary64 m (sub binary64 b least_radius) (width l n) (width a n) p (e 2) pw (t 6) (O.le_trans m (sub binary64 l least_radius) (sub binary64 b least_radius) h ls) wa)
            (t 5);
        over = λ (m : Float) (p : T (plain m)) (h : T (le l m)) (k : T (le m (add binary64 l greatest_radius))).
            O.le_trans (sub binary64 m l) (sub binary64 (add binary64 b greatest_radius) a) one
            (sub_mono binary64 m (add binary64 b greatest_radius) l a p (e 3) (positive_plain l pl) (positive_plain a (e 0)) h (e 6)
            (O.le_trans m (add binary64 l greatest_radius) (add binary64 b greatest_radius) k (add_mono binary64 l b greatest_radius (positive_plain l pl) (positive_plain b (e 1)) half_plain hb)) ha)
            (e 7);
        low = a;
        low_plain = positive_plain a (e 0);
        low_half = e 4;
        low_le = ha;
        inner_plain = e 11;
        inner_half = e 12;
        back = e 14;
        down = e 15;
        last = λ (m : Float) (p : T (plain m)) (h : T (le (sub binary64 (sub binary64 a greatest_radius) greatest_radius) m)).
            more n _ _ (leb→le n (suc (to_unsigned 64 (div binary64 (sub binary64 (sub binary64 a greatest_radius) greatest_radius) (width b n)))) (t 8))
            (cut_mono 64 _ _ (div_mono binary64 (sub binary64 (sub binary64 a greatest_radius) greatest_radius) m (width b n) (width l n) (e 13) p (t 7) pw h wb));
      }

  one_of : (c d n : ℕ) → c ≤ n → n ≤ d → d ≤ suc c → (n ≡ c) ⊎ (n ≡ d)
  one_of c d n h k j = elim (eq-or-lt_of_le h) [ inl p ↦ inl (sym p) | inr p ↦ inr (omega arith) ]

  for : (n : ℕ) → cells_of l ≡ n → T (tested (tests a b n)) → Facts l (cells_of l)
  for n p t = with (cells_of l) (subst (λ (k : ℕ). T (tested (tests a b k))) (sym p) t)

  at_row : Facts l (cells_of l)
  at_row = go (leb (cells_of b) (cells_of a)) refl (e 10)
    where
      up : cells_of a ≤ cells_of l
      up = cells_mono a l (e 0) pl ha

      down : cells_of l ≤ cells_of b
      down = cells_mono l b pl (e 1) hb

      go : (t : Bool) → leb (cells_of b) (cells_of a) ≡ t → T (cond t true (tested (tests a b (cells_of b)))) → Facts l (cells_of l)
      go true h q = for (cells_of a) (le_antisymm (le_trans down (leb→le (cells_of b) (cells_of a) (subst T (sym h) tt))) up) (e 9)
      go false h q = elim (one_of (cells_of a) (cells_of b) (cells_of l) up down (leb→le (cells_of b) (suc (cells_of a)) (e 8))) [ inl p ↦ for (cells_of a) p (e 9) | inr p ↦ for (cells_of b) p q ]

-- ---- every length
nan_of : (x y : Float) → le x y ≡ false → T (not (is_nan x)) → T (not (is_nan y)) → T (le y x)
nan_of x y h p q = elim (O.le_total x y p q) [ inl t ↦ absurd (subst T h t) | inr t ↦ t ]

step : (l : Float) (k : ℕ) (b : Bool) → le l (eighth (suc k)) ≡ b → T (not (is_nan l)) → T (row k) → T (le (eighth k) l) → (T (le (eighth (suc k)) l) → Facts l (cells_of l)) → Facts l (cells_of l)
step l k true h p r a next = at_row l (eighth k) (eighth (suc k)) r a (subst T (sym h) tt)
step l k false h p r a next = next (nan_of l (eighth (suc k)) h p (no_nan (eighth (suc k)) (passed (ends (eighth k) (eighth (suc k))) r 1)))

walk : (l : Float) → T (le l (eighth 384)) → (c k : ℕ) → k + suc c ≡ 384 → T (rows (suc c) k) → T (le (eighth k) l) → Facts l (cells_of l)
walk l top zero k e r a = at_row l (eighth k) (eighth (suc k)) (and_l (row k) true r) a (subst (λ (j : ℕ). T (le l (eighth j))) (sym e ∙ add-suc k 0 ∙ ap suc (add-zero k)) top)
walk l top (suc c) k e r a = step l k (le l (eighth (suc k))) refl (O.le_left l (eighth 384) top) (and_l (row k) (rows (suc c) (suc k)) r) a (walk l top c (suc k) (suc-add k (suc c) ∙ sym (add-suc k (suc c)) ∙ e) (and_r (row k) (rows (suc c) (suc k)) r))

low_end : eighth 72 ≡ shortest
unfolding round of_bits
low_end = refl

high_end : eighth 384 ≡ longest
unfolding round of_bits
high_end = refl

pub facts : (l : Float) → T (le shortest l) → T (le l longest) → Facts l (cells_of l)
facts l h k = walk l (subst (λ (z : Float). T (le l z)) (sym high_end) k) 311 72 refl checked (subst (λ (z : Float). T (le z l)) (sym low_end) h)
