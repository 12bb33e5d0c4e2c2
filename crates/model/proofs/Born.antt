-- A GRAIN IS NEVER BORN OUTSIDE EVERY CELL: from_p_to_c gives one or two different cells in a direction of every accepted position, for every radius
-- from 1/4 to 1/2, and one to four in both. Assumes nothing.
use mathlib.Core.Path.{◌≡◌, refl, sym, ap, ◌∙◌, subst}
use mathlib.Core.Logic.{inl, inr}
use Prim.Native.Nat.{ℕ, suc, ◌+◌, ◌-◌, ◌*◌, ◌≤◌, ◌<◌, zero-le}
use native.Mathlib.Nat.{le_of_eq, le_trans, mul-pos, zero-mul, lt_of_le_of_lt, mul-le-mul_right, mul_comm, sub-le}
use native.Mathlib.Omega.{arith}
use mathlib.Core.Bool.{Bool, true, false, not, ◌&&◌, cond}
use lib.IntN.{ℤ, pos}
use lib.Dec.{T, leb, leb→le, nleb→lt}
use lib.Ieee.{Float, nan, inf, fin, binary64, up, down, round, add, sub, neg, div, lt, le, is_nan, of_bits, fits}
use lib.Ieee.Fits.{down_pos}
use lib.Ieee.Order.{round_mono}
use lib.Ieee.Positive.{num, den, positive, den_pos, between}
use Rattle.order.specs.Numbers.{fzero, one}
use Rattle.model.specs.Constants.{least_radius, greatest_radius, least_val, greatest_val, shortest, longest}
use Rattle.model.specs.Grid.{cells_of, length_of, across, cells}
use Rattle.model.specs.FromPToC.{width, first_cell, end_cell, kernel, reached, cells_of_grain}
use Rattle.order.proofs.Mono.{plain, positive_plain, fr→le, sub_is, sub_mono, add_plain, sub_plain, not_inf, sub_under, div_minus, round_cut, sub_le_add, add_minus_zero, sub_minus_zero, sum_mono}
use Rattle.order.proofs.Value.{round_own}
use Rattle.model.proofs.Eighths.{four, Facts, facts, half_plain, least_plain, least_half}
use Rattle.model.proofs.Kernels.{half_self, lo_last, cut, eight, eight_plain, fortyeight_plain, from_zero, hi_in, hi_one, hi_some, inside, lo_far, max_cut_le, nine_plain, one_plain, plain_self, zero_le_plain, zero_plain}
use Rattle.model.proofs.Few.{few_inside}
use mathlib.Core.List.{List, ◌++◌}
use Rattle.model.specs.declared.Domain.{Domain}
use Rattle.model.specs.declared.Particle.{Particle}
use Rattle.model.specs.Check.{Fits}
use Rattle.model.specs.Sizes.{within, length_ok, box_ok, place_ok, speed_ok, grain_ok}
use Rattle.halting.proofs.Bools.{and_l, and_r}
use Rattle.model.proofs.Queue.{T_of}
use Rattle.model.proofs.Placed.{Placed, alone, joined, product}
use Rattle.order.proofs.Order as O

-- by the lower and the upper end
abbrev reached_by : Float → ℕ → Float → Float → List ℕ
reached_by l n mn mx =
    cond (lt mn fzero) (kernel l n fzero mx ++ kernel l n (add binary64 l mn) l)
    (cond (lt l mx) (kernel l n fzero (sub binary64 mx l) ++ kernel l n mn l)
    (kernel l n mn mx))

two_ones : (a b c d n : ℕ) → b ≤ 1 → d ≤ n → n ≤ suc c → b - a + (d - c) ≤ 2
two_ones a b c d n h k j = omega arith

up_two : (a b : ℕ) → b ≤ 1 → b ≤ suc (suc a)
up_two a b h = omega arith

-- ---- more numbers
least_positive : T (positive least_radius)
unfolding of_bits
least_positive = tt

half_positive : T (positive greatest_radius)
unfolding of_bits
half_positive = tt

zero_least : T (le fzero least_radius)
unfolding of_bits le
zero_least = tt

half_whole : T (le (sub binary64 greatest_radius fzero) greatest_radius)
unfolding of_bits sub le
half_whole = tt

one_is : add binary64 greatest_radius greatest_radius ≡ one
unfolding of_bits add
one_is = refl

one_48 : T (le one longest)
unfolding of_bits le
one_48 = tt

four_low : T (le four (sub binary64 shortest greatest_radius))
unfolding of_bits sub le
four_low = tt

four_low8 : T (le four (sub binary64 eight greatest_radius))
unfolding of_bits sub le
four_low8 = tt

eight_half : T (le greatest_radius eight)
unfolding of_bits le
eight_half = tt

half_nine : T (le greatest_radius shortest)
unfolding of_bits le
half_nine = tt

top_plain : T (plain (sub binary64 longest fzero))
unfolding of_bits sub
top_plain = tt

top_least_plain : T (plain (sub binary64 longest least_radius))
unfolding of_bits sub
top_least_plain = tt

sum_plain : T (plain (add binary64 longest greatest_radius))
unfolding of_bits add
sum_plain = tt

zero_48 : T (le fzero longest)
unfolding of_bits le
zero_48 = tt

least_48 : T (le least_radius longest)
unfolding of_bits le
least_48 = tt

-- 9 is not below 8 + 1/2, nor below 1
not_short : T (lt shortest (add binary64 eight greatest_radius)) → ⊥
unfolding of_bits add lt
not_short h = h

not_one : T (lt shortest one) → ⊥
unfolding of_bits lt
not_one h = h

plain_no_nan : (x : Float) → T (plain x) → T (not (is_nan x))
plain_no_nan nan p = absurd p
plain_no_nan (inf s) p = absurd p
plain_no_nan (fin s m e) p = unfold is_nan in tt

not_below_zero : (z : Float) → T (plain z) → lt z fzero ≡ true → ⊥
not_below_zero z p h = O.lt_not_le z fzero (subst T (sym h) tt) (zero_le_plain z p)

as_sub : (l r : Float) → add binary64 l (neg r) ≡ sub binary64 l r
unfolding sub
as_sub l r = refl

module _ (l x r : Float) (h9 : T (le shortest l)) (h48 : T (le l longest)) (lr : T (le least_radius r)) (hr : T (le r greatest_radius)) (pr : T (plain r)) (px : T (plain x)) (xl : T (le x l)) where
  F : Facts l (cells_of l)
  F = facts l h9 h48

  pl : T (plain l)
  pl = positive_plain l F.length_positive

  abbrev mn : Float
  mn = sub binary64 x r

  abbrev mx : Float
  mx = add binary64 x r

  x48 : T (le x longest)
  x48 = O.le_trans x l longest xl h48

  mx_le : T (le mx (add binary64 l greatest_radius))
  mx_le = sum_mono binary64 x l r greatest_radius px pl pr half_plain xl hr

  mx_plain : T (plain mx)
  mx_plain = add_plain binary64 x r (add binary64 longest greatest_radius) px pr sum_plain (sum_mono binary64 x longest r greatest_radius px fortyeight_plain pr half_plain x48 hr)

  mx_one : T (le x greatest_radius) → T (le mx one)
  mx_one h = subst (λ (z : Float). T (le mx z)) one_is (sum_mono binary64 x greatest_radius r greatest_radius px half_plain pr half_plain h hr)

  l_sub : T (le four (sub binary64 l greatest_radius))
  l_sub = O.le_trans four (sub binary64 shortest greatest_radius) (sub binary64 l greatest_radius) four_low (sub_mono binary64 shortest l greatest_radius greatest_radius nine_plain pl half_plain half_plain half_nine F.length_half h9 half_self)

  -- x below the radius: s is how far the grain reaches below 0
  module _ (u : le r x ≡ false) where
    xr : T (le x r)
    xr = elim (O.le_total r x (plain_no_nan r pr) (plain_no_nan x px)) [ inl t ↦ absurd (subst T u t) | inr t ↦ t ]

    strict : num x * den r < num r * den x
    strict = go (leb (num r * den x) (num x * den r)) refl
      where
        go : (b : Bool) → leb (num r * den x) (num x * den r) ≡ b → num x * den r < num r * den x
        go true e = absurd (subst T u (fr→le r x pr px (leb→le (num r * den x) (num x * den r) (subst T (sym e) tt))))
        go false e = nleb→lt (num r * den x) (num x * den r) (subst (λ (b : Bool). T (not b)) (sym e) tt)

    abbrev s : Float
    s = sub binary64 r x

    mn-is : mn ≡ neg s
    mn-is = sub_under binary64 x r px pr strict ∙ ap (λ (d : ℕ). neg (round binary64 false (num r * den x - num x * den r) d)) (mul_comm (den x) (den r)) ∙ ap neg (sym (sub_is binary64 r x pr px xr))

    s-half : T (le s greatest_radius)
    s-half = O.le_trans s (sub binary64 greatest_radius fzero) greatest_radius (sub_mono binary64 r greatest_radius x fzero pr half_plain px zero_plain xr (zero_le_plain greatest_radius half_plain) hr (zero_le_plain x px)) half_whole

    s-plain : T (plain s)
    s-plain = sub_plain binary64 r x greatest_radius pr px xr half_plain s-half

    low-one : T (le mx one)
    low-one = mx_one (O.le_trans x r greatest_radius xr hr)

    left_is : add binary64 l mn ≡ sub binary64 l s
    left_is = ap (λ (z : Float). add binary64 l z) mn-is ∙ as_sub l s

    s-l : T (le s l)
    s-l = O.le_trans s greatest_radius l s-half F.length_half

    left_far : T (le four (add binary64 l mn))
    left_far = subst (λ (z : Float). T (le four z)) (sym left_is)
        (O.le_trans four (sub binary64 l greatest_radius) (sub binary64 l s) l_sub (sub_mono binary64 l l greatest_radius s pl pl half_plain s-plain F.length_half s-l (plain_self l pl) s-half))

    left-plain : T (plain (add binary64 l mn))
    left-plain = subst (λ (z : Float). T (plain z)) (sym left_is) (sub_plain binary64 l s (sub binary64 longest fzero) pl s-plain s-l top_plain (sub_mono binary64 l longest s fzero pl fortyeight_plain s-plain zero_plain s-l zero_48 h48 (zero_le_plain s s-plain)))

    left-deep : T (le (sub binary64 (sub binary64 F.low greatest_radius) greatest_radius) (add binary64 l mn))
    left-deep = subst (λ (z : Float). T (le (sub binary64 (sub binary64 F.low greatest_radius) greatest_radius) z)) (sym left_is)
        (O.le_trans (sub binary64 (sub binary64 F.low greatest_radius) greatest_radius) (sub binary64 F.low greatest_radius) (sub binary64 l s) F.down
        (sub_mono binary64 F.low l greatest_radius s F.low_plain pl half_plain s-plain F.low_half s-l F.low_le s-half))

    below-edge : Placed 2 (cells_of l) (kernel l (cells_of l) fzero mx ++ kernel l (cells_of l) (add binary64 l mn) l)
    below-edge = joined (cells_of l) (first_cell l (cells_of l) fzero) (end_cell l (cells_of l) mx) (first_cell l (cells_of l) (add binary64 l mn)) (end_cell l (cells_of l) l)
        (lt_of_le_of_lt (le_of_eq (from_zero l (cells_of l) F)) (hi_some l (cells_of l) F mx mx_plain (O.le_trans mx one longest low-one one_48)))
        (le_trans (hi_one l (cells_of l) F mx mx_plain low-one) (lo_far l (cells_of l) F (add binary64 l mn) left-plain left_far))
        (hi_in l (cells_of l) F mx) (hi_in l (cells_of l) F l)
        (two_ones _ _ _ _ (cells_of l) (hi_one l (cells_of l) F mx mx_plain low-one) (hi_in l (cells_of l) F l) (lo_last l (cells_of l) F (add binary64 l mn) left-plain left-deep))

    no-wide : lt l mx ≡ true → ⊥
    no-wide e = not_one (O.le_lt_trans shortest l one h9 (O.lt_le_trans l mx one (subst T (sym e) tt) low-one))

    lo-none : first_cell l (cells_of l) mn ≤ 0
    lo-none = le_trans (max_cut_le (div binary64 mn (width l (cells_of l)))) (le_of_eq (ap (λ (z : Float). cut (div binary64 z (width l (cells_of l)))) mn-is ∙ ap cut (div_minus binary64 s (width l (cells_of l)) s-plain F.wide_positive) ∙ round_cut 64 binary64 _ _))

    alone-low : Placed 2 (cells_of l) (kernel l (cells_of l) mn mx)
    alone-low = alone (cells_of l) (first_cell l (cells_of l) mn) (end_cell l (cells_of l) mx)
        (lt_of_le_of_lt lo-none (hi_some l (cells_of l) F mx mx_plain (O.le_trans mx one longest low-one one_48)))
        (hi_in l (cells_of l) F mx) (up_two _ _ (hi_one l (cells_of l) F mx mx_plain low-one))

  -- x at least the radius
  module _ (u : T (le r x)) where
    mn-low : T (le mn (sub binary64 l least_radius))
    mn-low = sub_mono binary64 x l r least_radius px pl pr least_plain u (O.le_trans least_radius greatest_radius l least_half F.length_half) xl lr

    mn-plain : T (plain mn)
    mn-plain = sub_plain binary64 x r (sub binary64 longest least_radius) px pr u top_least_plain (sub_mono binary64 x longest r least_radius px fortyeight_plain pr least_plain u least_48 x48 lr)

    alone-in : lt l mx ≡ false → Placed 2 (cells_of l) (kernel l (cells_of l) mn mx)
    alone-in e =
        let mm : T (le mn mx) = sub_le_add binary64 x r px pr u in
        let m48 : T (le mx longest) = O.le_trans mx l longest (O.not_lt→le l mx (plain_no_nan l pl) (plain_no_nan mx mx_plain) (subst (λ (b : Bool). T (not b)) (sym e) tt)) h48 in
        alone (cells_of l) (first_cell l (cells_of l) mn) (end_cell l (cells_of l) mx)
        (inside l (cells_of l) F mn mx mn-plain mx_plain mm m48 mn-low) (hi_in l (cells_of l) F mx)
        (elim (O.le_total greatest_radius x (plain_no_nan greatest_radius half_plain) (plain_no_nan x px)) [
          | inl t ↦ few_inside l (cells_of l) F x r px pr hr t x48 mx_plain mn-plain (O.le_trans mn mx longest mm m48) m48
          | inr t ↦ up_two _ _ (hi_one l (cells_of l) F mx mx_plain (mx_one t))
        ])

    above-edge : lt l mx ≡ true → Placed 2 (cells_of l) (kernel l (cells_of l) fzero (sub binary64 mx l) ++ kernel l (cells_of l) mn l)
    above-edge e =
        let lm : T (lt l mx) = subst T (sym e) tt in
        let ll : T (le l mx) = O.lt→le l mx lm in
        let o : T (le (sub binary64 mx l) one) = F.over mx mx_plain ll mx_le in
        let po : T (plain (sub binary64 mx l)) = sub_plain binary64 mx l one mx_plain pl ll one_plain o in
        let far : T (le eight x) = elim (O.le_total eight x (plain_no_nan eight eight_plain) (plain_no_nan x px)) [
          | inl t ↦ t
          | inr t ↦ absurd (not_short (O.le_lt_trans shortest l (add binary64 eight greatest_radius) h9 (O.lt_le_trans l mx (add binary64 eight greatest_radius) lm (sum_mono binary64 x eight r greatest_radius px eight_plain pr half_plain t hr))))
        ] in
        let inner : T (le (sub binary64 F.low greatest_radius) x) = elim (O.le_total (sub binary64 F.low greatest_radius) x (plain_no_nan (sub binary64 F.low greatest_radius) F.inner_plain) (plain_no_nan x px)) [
          | inl t ↦ t
          | inr t ↦ absurd (O.lt_irrefl l (O.lt_le_trans l mx l lm
              (O.le_trans mx (add binary64 (sub binary64 F.low greatest_radius) greatest_radius) l (sum_mono binary64 x (sub binary64 F.low greatest_radius) r greatest_radius px F.inner_plain pr half_plain t hr)
              (O.le_trans (add binary64 (sub binary64 F.low greatest_radius) greatest_radius) F.low l F.back F.low_le))))
        ] in
        let deep : T (le (sub binary64 (sub binary64 F.low greatest_radius) greatest_radius) mn) = sub_mono binary64 (sub binary64 F.low greatest_radius) x greatest_radius r F.inner_plain px half_plain pr F.inner_half u inner hr in
        let mf : T (le four mn) = O.le_trans four (sub binary64 eight greatest_radius) mn four_low8 (sub_mono binary64 eight x greatest_radius r eight_plain px half_plain pr eight_half u far hr) in
        joined (cells_of l) (first_cell l (cells_of l) fzero) (end_cell l (cells_of l) (sub binary64 mx l)) (first_cell l (cells_of l) mn) (end_cell l (cells_of l) l)
        (lt_of_le_of_lt (le_of_eq (from_zero l (cells_of l) F)) (hi_some l (cells_of l) F (sub binary64 mx l) po (O.le_trans (sub binary64 mx l) one longest o one_48)))
        (le_trans (hi_one l (cells_of l) F (sub binary64 mx l) po o) (lo_far l (cells_of l) F mn mn-plain mf))
        (hi_in l (cells_of l) F (sub binary64 mx l)) (hi_in l (cells_of l) F l)
        (two_ones _ _ _ _ (cells_of l) (hi_one l (cells_of l) F (sub binary64 mx l) po o) (hi_in l (cells_of l) F l) (lo_last l (cells_of l) F mn mn-plain deep))

  plain_placed : Placed 2 (cells_of l) (reached_by l (cells_of l) mn mx)
  plain_placed = go (lt mn fzero) refl (lt l mx) refl (le r x) refl
    where
      go : (b : Bool) → lt mn fzero ≡ b → (c : Bool) → lt l mx ≡ c → (d : Bool) → le r x ≡ d
          → Placed 2 (cells_of l) (cond b (kernel l (cells_of l) fzero mx ++ kernel l (cells_of l) (add binary64 l mn) l) (cond c (kernel l (cells_of l) fzero (sub binary64 mx l) ++ kernel l (cells_of l) mn l) (kernel l (cells_of l) mn mx)))
      go true b c hc true d = absurd (not_below_zero mn (mn-plain (subst T (sym d) tt)) b)
      go true b c hc false d = below-edge d
      go false b true c true d = above-edge (subst T (sym d) tt) c
      go false b true c false d = absurd (no-wide d c)
      go false b false c true d = alone-in (subst T (sym d) tt) c
      go false b false c false d = alone-low d

-- ---- every accepted position: -0 too
minus_none : (m : ℕ) (e : ℤ) → T (le fzero (fin true m e)) → m * up e ≡ 0
unfolding of_bits
minus_none m e h = none (m * up e) (down e) (O.le→leq false 0 (pos 0) true m e h)
  where
    none : (a d : ℕ) → 0 * d + a * 1 ≤ 0 → a ≡ 0
    none a d k = omega arith

zero_first : (m : ℕ) (e : ℤ) (l : Float) → m * up e ≡ 0 → T (plain l) → T (le (fin false m e) l)
zero_first m e l h p = fr→le (fin false m e) l tt p (le_trans (le_of_eq (ap (λ (z : ℕ). z * den l) h ∙ zero-mul (den l))) zero-le)

-- a radius in range is above zero
radius_positive : (r : Float) → T (le least_radius r) → T (le r greatest_radius) → T (positive r)
radius_positive r lr hr = between least_radius r greatest_radius least_positive half_positive lr hr

pub within_placed : (l x r : Float) → T (le shortest l) → T (le l longest) → T (le least_radius r) → T (le r greatest_radius) → T (le fzero x) → T (le x l) → Placed 2 (cells_of l) (reached l (cells_of l) r x)
unfolding reached
within_placed l nan r h9 h48 lr hr h0 xl = absurd (unfold le in xl)
within_placed l (inf true) r h9 h48 lr hr h0 xl = absurd (unfold of_bits le in h0)
within_placed l (inf false) r h9 h48 lr hr h0 xl = absurd (not_inf l (positive_plain l (facts l h9 h48).length_positive) xl)
within_placed l (fin false m e) r h9 h48 lr hr h0 xl = plain_placed l (fin false m e) r h9 h48 lr hr (positive_plain r (radius_positive r lr hr)) tt xl
within_placed l (fin true m e) r h9 h48 lr hr h0 xl =
    let z : m * up e ≡ 0 = minus_none m e h0 in
    let pr : T (positive r) = radius_positive r lr hr in
    subst (λ (v : Float). Placed 2 (cells_of l) (reached_by l (cells_of l) v (add binary64 (fin true m e) r))) (sym (sub_minus_zero binary64 m e r z pr))
    (subst (λ (v : Float). Placed 2 (cells_of l) (reached_by l (cells_of l) (sub binary64 (fin false m e) r) v)) (sym (add_minus_zero binary64 m e r z pr))
    (plain_placed l (fin false m e) r h9 h48 lr hr (positive_plain r pr) tt (zero_first m e l z (positive_plain l (facts l h9 h48).length_positive))))

-- between walls: from the radius to the length less the radius, which is not above the length
sub_own : (l r : Float) → T (fits binary64 l) → T (positive l) → T (plain r) → T (le r l) → T (le (sub binary64 l r) l)
sub_own nan r f p q h = absurd p
sub_own (inf s) r f p q h = absurd p
sub_own (fin true m e) r f p q h = absurd p
sub_own (fin false m e) r f p q h =
    subst (λ (z : Float). T (le z (fin false m e))) (sym (sub_is binary64 (fin false m e) r tt q h))
    (subst (λ (z : Float). T (le (round binary64 false (m * up e * den r - num r * down e) (down e * den r)) z)) (round_own binary64 false m e (den r) (den_pos r) f)
    (round_mono binary64 _ (down e * den r) (m * up e * den r) (down e * den r) (mul-pos (down_pos e) (den_pos r)) (mul-pos (down_pos e) (den_pos r)) (mul-le-mul_right (down e * den r) (sub-le (m * up e * den r) (num r * down e)))))

-- ---- both directions: the lengths are 64-bit floats, as every owned float is
direction_placed : (l x r : Float) (p : Bool) → T (fits binary64 l) → length_ok l ≡ true → T (le least_radius r) → T (le r greatest_radius) → cond p (within fzero l x) (within r (sub binary64 l r) x) ≡ true → Placed 2 (cells_of l) (reached l (cells_of l) r x)
direction_placed l x r true f h lr hr k = within_placed l x r (T_of _ (and_l (le shortest l) _ h)) (T_of _ (and_r (le shortest l) _ h)) lr hr (T_of _ (and_l (le fzero x) _ k)) (T_of _ (and_r (le fzero x) _ k))
direction_placed l x r false f h lr hr k =
    let h9 = T_of _ (and_l (le shortest l) _ h) in
    let h48 = T_of _ (and_r (le shortest l) _ h) in
    let F = facts l h9 h48 in
    within_placed l x r h9 h48 lr hr (O.le_trans fzero r x (O.le_trans fzero least_radius r zero_least lr) (T_of _ (and_l (le r x) _ k)))
    (O.le_trans x (sub binary64 l r) l (T_of _ (and_r (le r x) _ k)) (sub_own l r f F.length_positive (positive_plain r (radius_positive r lr hr)) (O.le_trans r greatest_radius l hr F.length_half)))

-- an accepted grain's radius is in range
pub size_ok : (b : Domain) (p : Particle) → grain_ok b p ≡ true → within least_radius greatest_radius p.rad ≡ true
size_ok b p ok = and_r (within least_val greatest_val p.val) _ (and_r (speed_ok p.vel.x && speed_ok p.vel.y) _ (and_r (place_ok 0 b p && place_ok 1 b p) _ ok))

pub born : (b : Domain) (p : Particle) → Fits b → box_ok b ≡ true → grain_ok b p ≡ true → Placed 4 (cells b) (cells_of_grain b p)
unfolding cells_of_grain across
born b p f box ok =
    let place = and_l (place_ok 0 b p && place_ok 1 b p) _ ok in
    let size = size_ok b p ok in
    let lr = T_of _ (and_l (le least_radius p.rad) _ size) in
    let hr = T_of _ (and_r (le least_radius p.rad) _ size) in
    product b (reached (length_of 0 b) (cells_of (length_of 0 b)) p.rad p.pos.x) (reached (length_of 1 b) (cells_of (length_of 1 b)) p.rad p.pos.y)
    (direction_placed (length_of 0 b) p.pos.x p.rad b.periodic0 f.first (and_l (length_ok (length_of 0 b)) _ box) lr hr (and_l (place_ok 0 b p) _ place))
    (direction_placed (length_of 1 b) p.pos.y p.rad b.periodic1 f.second (and_r (length_ok (length_of 0 b)) _ box) lr hr (and_r (place_ok 0 b p) _ place))
