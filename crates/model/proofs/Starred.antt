-- 01, "Marked examples": the 14 starred ones, at radius 0.5, as one table with one claim over its rows (`starred_hold`); three beside them at other radii (`sized_hold`);
-- and the others, with examples of what those leave out (`unstarred_hold`). Each row goes through the definitions that the contracts cite. Assumes nothing.
use Prim.Native.Nat.{ℕ, ◌^◌}
use mathlib.Core.Path.{◌≡◌, refl, ap}
use mathlib.Core.List.{List, [], ◌∷◌}
use mathlib.Core.Bool.{Bool, true, false, ◌&&◌, beq}
use lib.Dec.{T, eqb, eqb→eq}
use lib.IntN.{ℤ, pos, negsuc}
use lib.ListN.{length}
use lib.Count.{count_leading_zeros}
use lib.Ieee.{Float, nan, inf, fin, binary64, of_bits, to_bits, round, add, sub, mul, div, neg, lt, le, eq, of_int, to_unsigned}
use lib.Ieee.Fits.{and_l, and_r}
use Rattle.order.specs.Numbers.{fzero, one_quarter, half, one, two, nine}
use Rattle.model.specs.Constants.{restitution}
use Rattle.root.specs.Isqrt.{near, root}
use Rattle.root.specs.Root.{root_of, sqrt_of}
use Rattle.myvec.specs.declared.MyVec.{MyVec}
use Rattle.myvec.specs.Vec.{vec}
use Rattle.model.specs.declared.Particle.{Particle}
use Rattle.std.specs.Prelude.{Some, None, Ok, Err}
use Rattle.model.specs.Plans.{Contact}
use Rattle.model.specs.Sizes.{box_ok, rated, grain_ok}
use Rattle.model.specs.Grid.{box_of, cells_of, across, below, above, position}
use Rattle.model.specs.Periodic.{apart}
use Rattle.model.specs.Stepping.{grain_of, new_pos}
use Rattle.model.specs.FromPToC.{up_from, reached, cells_at, cells_of_grain}
use Rattle.model.specs.Collision.{reach, a_of, b_of, c_of, d_of, too_slow, collide, collision}
use Rattle.model.specs.Moves.{later, to_neighbour, out_of_cell}
use Rattle.model.specs.Walls.{wall}
use Rattle.model.specs.Events.{zero_v, insert_by}
use Rattle.model.specs.Start.{start}
use Rattle.halting.specs.Every.{All}
use Rattle.model.specs.Check.{all}
use Rattle.model.proofs.Scenes.{plus, minus, periodic_box, walled_box, floored_box, slider, mover, sized, dt, place, entering, leaving, reflecting, dpos, dvel, colliding, grains, of_grain, refusal, start_in, outward, inward}

-- ---- what an example says: one or more equations, between numbers, lists of them, floats, pairs of floats, tests, or times
pub data Fact : Type 0 where
  number : ℕ → ℕ → Fact
  numbers : List ℕ → List ℕ → Fact
  float : Float → Float → Fact
  vector : MyVec → MyVec → Fact
  test : Bool → Bool → Fact
  when : Contact → Contact → Fact

abbrev pub Holds : Fact → Type 0
Holds (number x y) = x ≡ y
Holds (numbers x y) = x ≡ y
Holds (float x y) = x ≡ y
Holds (vector x y) = x ≡ y
Holds (test x y) = x ≡ y
Holds (when x y) = x ≡ y

abbrev pub Row : Type 0
Row = List Fact

abbrev pub Claim : Row → Type 0
Claim r = All Holds r

-- two grains are x apart, their velocities differ by v, and they touch when k says: by their reach, x and v alone, and by the whole collision
abbrev touch : Particle → Particle → MyVec → MyVec → Contact → Row
touch p q x v k = vector (dpos p q) x ∷ vector (dvel p q) v ∷ when (collide (reach p q) x v) k ∷ when (dt (colliding periodic_box p q)) k ∷ []

-- a range takes its ends, lo and hi, and neither the next float on either side nor a NaN
abbrev ends : (Float → Bool) → Float → Float → Float → Float → Row
ends ok below lo hi above = test (ok below) false ∷ test (ok lo) true ∷ test (ok hi) true ∷ test (ok above) false ∷ test (ok nan) false ∷ []

-- ---- the 14 starred examples
unfoldable pub starred : List Row
starred =
    -- cells of a length
    (number (cells_of (plus 9 1)) 3 ∷ [])
    ∷ (number (cells_of (plus 12 1)) 4 ∷ [])
    ∷ (number (cells_of (plus 48 1)) 16 ∷ [])
    -- cell 0's neighbours
    ∷ (number (below 0 periodic_box 0) 2 ∷ number (above 0 periodic_box 0) 1 ∷ [])
    ∷ (number (below 1 periodic_box 0) 6 ∷ number (above 1 periodic_box 0) 3 ∷ [])
    -- a grain's cells
    ∷ (numbers (cells_of_grain periodic_box (slider (plus 1 4) (plus 9 2) fzero)) (3 ∷ 5 ∷ []) ∷ [])
    ∷ (numbers (cells_of_grain periodic_box (slider (plus 5 2) (plus 9 2) fzero)) (3 ∷ 4 ∷ []) ∷ [])
    -- collisions
    ∷ (let x = vec (plus 3 1) fzero in
    let v = vec (minus 2 1) fzero in
    let p = mover (plus 3 1) one in
    let q = mover (plus 6 1) (minus 1 1) in
    let c = c_of (reach p q) x in
    float (a_of v) (plus 4 1) ∷ float (b_of x v) (minus 6 1) ∷ float c (plus 8 1) ∷ float (d_of (a_of v) (b_of x v) c) (plus 4 1) ∷ touch p q x v (Ok (Some (plus 1 1))))
    ∷ (let x = vec (plus 3 1) (plus 1 1) in
    let v = vec (minus 1 1) fzero in
    let p = slider (plus 3 1) (plus 4 1) one in
    let q = slider (plus 6 1) (plus 5 1) fzero in
    float (d_of (a_of v) (b_of x v) (c_of (reach p q) x)) fzero ∷ touch p q x v (Ok (Some (plus 3 1))))
    ∷ touch (slider (plus 3 1) (plus 4 1) one) (slider (plus 6 1) (plus 11 2) fzero) (vec (plus 3 1) (plus 3 2)) (vec (minus 1 1) fzero) (Ok None)
    ∷ touch (mover (plus 4 1) one) (mover (plus 5 1) (minus 1 1)) (vec (plus 1 1) fzero) (vec (minus 2 1) fzero) (Ok (Some fzero))
    -- the test on a, alone and in the collision
    ∷ (let v = vec (minus 1 (2 ^ 26)) fzero in
    test (too_slow (a_of v)) false ∷ touch (mover (plus 3 1) (plus 1 (2 ^ 26))) (mover (plus 6 1) fzero) (vec (plus 3 1) fzero) v (Ok (Some (plus (2 ^ 27) 1))))
    ∷ (let v = vec (minus 1 (2 ^ 27)) fzero in
    test (too_slow (a_of v)) true ∷ touch (mover (plus 3 1) (plus 1 (2 ^ 27))) (mover (plus 6 1) fzero) (vec (plus 3 1) fzero) v (Ok None))
    -- a move from cell column 1: into cell 5, and out of cell 4
    ∷ (let p = mover (plus 9 2) one in
    when (dt (entering periodic_box 4 p)) (Ok (Some (plus 1 1))) ∷ number (place (entering periodic_box 4 p)).cell 5
    ∷ when (dt (leaving periodic_box 4 p)) (Ok (Some (plus 2 1))) ∷ number (place (leaving periodic_box 4 p)).cell 4 ∷ [])
    ∷ []

fourteen : length starred ≡ 14
unfolding starred
fourteen = refl

-- ---- three at other radii (02, T-04)
unfoldable pub other_radii : List Row
other_radii =
    -- a grain of radius 1/4 at x = 1/4 touches the edge at 0 and is in column 0 alone; at 11/4 it touches the border at 3 and is in columns 0 and 1
    (numbers (cells_of_grain periodic_box (sized one_quarter (mover (plus 1 4) fzero))) (3 ∷ []) ∷ numbers (cells_of_grain periodic_box (sized one_quarter (mover (plus 11 4) fzero))) (3 ∷ 4 ∷ []) ∷ [])
    -- radii 1/4 and 1/2, 3 apart, nearing by 2 in a unit of time: c = 9 - 9/16, d = 36 - 4·c = 9/4; they are 3/4 apart after 9/8
    ∷ (let x = vec (plus 3 1) fzero in
    let v = vec (minus 2 1) fzero in
    let p = sized one_quarter (mover (plus 3 1) one) in
    let q = mover (plus 6 1) (minus 1 1) in
    let c = c_of (reach p q) x in
    float (reach p q) (plus 3 4) ∷ float c (plus 135 16) ∷ float (d_of (a_of v) (b_of x v) c) (plus 9 4) ∷ touch p q x v (Ok (Some (plus 9 8))))
    -- radius 1/4 from 9/2 on at speed 1: into the cell that begins at 6 after 5/4, out of its own after 7/4; at the wall at 9 from 15/2 on after 5/4
    ∷ (let p = sized one_quarter (mover (plus 9 2) one) in
    when (dt (entering periodic_box 4 p)) (Ok (Some (plus 5 4))) ∷ when (dt (leaving periodic_box 4 p)) (Ok (Some (plus 7 4)))
    ∷ when (dt (reflecting walled_box 5 (sized one_quarter (mover (plus 15 2) one)))) (Ok (Some (plus 5 4))) ∷ [])
    ∷ []

-- ---- the others
unfoldable pub unstarred : List Row
unstarred =
    -- lengths out of range, in either direction
    (number (refusal (start_in (plus 17 2) nine)) 1 ∷ number (refusal (start_in nine (plus 17 2))) 1 ∷ [])
    ∷ (number (refusal (start_in (plus 97 2) nine)) 1 ∷ number (refusal (start_in nine (plus 97 2))) 1 ∷ [])
    -- the last column of walls: a reflection, and no event
    ∷ (when (dt (reflecting walled_box 5 (mover (plus 15 2) one))) (Ok (Some (plus 1 1))) ∷ [])
    ∷ (let p = mover (plus 17 2) one in
    when (dt (reflecting walled_box 5 p)) (Ok None) ∷ when (dt (entering walled_box 5 p)) (Ok None) ∷ when (dt (leaving walled_box 5 p)) (Ok None) ∷ [])
    -- across the periodic edge: a grain at 8.5 seen from column 0, one at 0.5 seen from column 2
    ∷ (when (dt (entering periodic_box 3 (mover (plus 17 2) one))) (Ok (Some (plus 3 1))) ∷ [])
    ∷ (when (dt (entering periodic_box 5 (mover half (minus 1 1)))) (Ok (Some (plus 3 1))) ∷ [])
    -- (1 / a)·(-√d - b) where dividing by a rounds to another float
    ∷ (when (collide one (vec (plus 3 1) fzero) (vec (minus 21 1) fzero)) (Ok (Some (of_bits binary64 0x3fb8_6186_1861_8619))) ∷ [])
    -- an event goes after one that is as early, and before a later one
    ∷ (numbers (grains (insert_by (of_grain 2 one) (of_grain 0 one ∷ of_grain 1 two ∷ []))) (0 ∷ 2 ∷ 1 ∷ []) ∷ [])
    -- two grains of value 1 that touch in direction 1 bounce by the restitution there, and half of gravity pulls both in direction 0, which has walls
    ∷ (let p = grain_of (vec (plus 9 2) (plus 4 1)) (vec fzero one) fzero one half in
    let q = grain_of (vec (plus 9 2) (plus 5 1)) (vec fzero (minus 1 1)) fzero one half in
    vector (place (colliding walled_box p q)).c (vec (minus 1 4) (neg restitution)) ∷ vector (place (colliding walled_box p q)).d (vec (minus 1 4) restitution) ∷ [])
    -- a grain of value 0.5 at the low wall and at the high one: its velocity and its value afterwards
    ∷ (let e = place (reflecting walled_box 3 (mover (plus 3 2) (minus 1 1))) in
    vector e.c (vec one fzero) ∷ float e.val (plus 1 4) ∷ [])
    ∷ (let e = place (reflecting walled_box 5 (mover (plus 15 2) one)) in
    vector e.c (vec (minus 1 1) fzero) ∷ float e.val (plus 3 4) ∷ [])
    -- box lengths
    ∷ ends (λ l. box_ok (box_of (vec l nine) true true)) (inward nine) nine (plus 48 1) (outward (plus 48 1))
    ∷ ends (λ l. box_ok (box_of (vec nine l) true true)) (inward nine) nine (plus 48 1) (outward (plus 48 1))
    -- start positions: wall-bounded and periodic, in each direction
    ∷ ends (λ x. grain_ok walled_box (mover x fzero)) (inward half) half (plus 17 2) (outward (plus 17 2))
    ∷ ends (λ x. grain_ok floored_box (mover x fzero)) (outward (neg fzero)) fzero nine (outward nine)
    ∷ ends (λ y. grain_ok floored_box (slider one y fzero)) (inward half) half (plus 17 2) (outward (plus 17 2))
    ∷ ends (λ y. grain_ok walled_box (slider one y fzero)) (outward (neg fzero)) fzero nine (outward nine)
    ∷ ends (λ x. grain_ok walled_box (sized one_quarter (mover x fzero))) (inward one_quarter) one_quarter (plus 35 4) (outward (plus 35 4))
    -- start velocities, values, radii, sync rates
    ∷ ends (λ v. grain_ok periodic_box (mover one v)) (outward (minus 1024 1)) (minus 1024 1) (plus 1024 1) (outward (plus 1024 1))
    ∷ ends (λ v. grain_ok periodic_box (grain_of (vec one one) (vec fzero v) fzero half half)) (outward (minus 1024 1)) (minus 1024 1) (plus 1024 1) (outward (plus 1024 1))
    ∷ ends (λ w. grain_ok periodic_box (grain_of (vec one one) zero_v fzero w half)) (outward (neg fzero)) fzero one (outward one)
    ∷ ends (λ r. grain_ok walled_box (sized r (mover one fzero))) (inward one_quarter) one_quarter half (outward half)
    ∷ ends rated (inward (plus 1 (2 ^ 20))) (plus 1 (2 ^ 20)) (plus (2 ^ 20) 1) (outward (plus (2 ^ 20) 1))
    ∷ []

-- ---- the test of a row
abbrev pub same_list : List ℕ → List ℕ → Bool
same_list [] [] = true
same_list [] (y ∷ ys) = false
same_list (x ∷ xs) [] = false
same_list (x ∷ xs) (y ∷ ys) = eqb x y && same_list xs ys

abbrev same_int : ℤ → ℤ → Bool
same_int (pos a) (pos b) = eqb a b
same_int (pos a) (negsuc b) = false
same_int (negsuc a) (pos b) = false
same_int (negsuc a) (negsuc b) = eqb a b

abbrev same_float : Float → Float → Bool
same_float nan nan = true
same_float nan (inf t) = false
same_float nan (fin t n d) = false
same_float (inf s) nan = false
same_float (inf s) (inf t) = beq s t
same_float (inf s) (fin t n d) = false
same_float (fin s m e) nan = false
same_float (fin s m e) (inf t) = false
same_float (fin s m e) (fin t n d) = beq s t && (eqb m n && same_int e d)

abbrev same_time : Contact → Contact → Bool
same_time (Ok None) (Ok None) = true
same_time (Ok None) (Ok (Some y)) = false
same_time (Ok None) (Err _) = false
same_time (Ok (Some x)) (Ok None) = false
same_time (Ok (Some x)) (Ok (Some y)) = same_float x y
same_time (Ok (Some x)) (Err _) = false
same_time (Err _) (Ok None) = false
same_time (Err _) (Ok (Some y)) = false
same_time (Err _) (Err _) = true

abbrev same_vec : MyVec → MyVec → Bool
same_vec u v = same_float u.x v.x && same_float u.y v.y

abbrev good : Fact → Bool
good (number x y) = eqb x y
good (numbers x y) = same_list x y
good (float x y) = same_float x y
good (vector x y) = same_vec x y
good (test x y) = beq x y
good (when x y) = same_time x y

-- ---- a test that passes makes the claim good
same_test : (x y : Bool) → T (beq x y) → x ≡ y
same_test true true h = refl
same_test true false h = absurd h
same_test false true h = absurd h
same_test false false h = refl

pub same_list_lem : (x y : List ℕ) → T (same_list x y) → x ≡ y
same_list_lem [] [] h = refl
same_list_lem [] (y ∷ ys) h = absurd h
same_list_lem (x ∷ xs) [] h = absurd h
same_list_lem (x ∷ xs) (y ∷ ys) h =
    let p = eqb→eq x y (and_l (eqb x y) (same_list xs ys) h) in
    let q = same_list_lem xs ys (and_r (eqb x y) (same_list xs ys) h) in
    λ i. p i ∷ q i

same_int_lem : (a b : ℤ) → T (same_int a b) → a ≡ b
same_int_lem (pos a) (pos b) h = ap pos (eqb→eq a b h)
same_int_lem (pos a) (negsuc b) h = absurd h
same_int_lem (negsuc a) (pos b) h = absurd h
same_int_lem (negsuc a) (negsuc b) h = ap negsuc (eqb→eq a b h)

same_float_lem : (x y : Float) → T (same_float x y) → x ≡ y
same_float_lem nan nan h = refl
same_float_lem nan (inf t) h = absurd h
same_float_lem nan (fin t n d) h = absurd h
same_float_lem (inf s) nan h = absurd h
same_float_lem (inf s) (inf t) h = ap inf (same_test s t h)
same_float_lem (inf s) (fin t n d) h = absurd h
same_float_lem (fin s m e) nan h = absurd h
same_float_lem (fin s m e) (inf t) h = absurd h
same_float_lem (fin s m e) (fin t n d) h =
    let k = and_r (beq s t) (eqb m n && same_int e d) h in
    let p = same_test s t (and_l (beq s t) (eqb m n && same_int e d) h) in
    let q = eqb→eq m n (and_l (eqb m n) (same_int e d) k) in
    let r = same_int_lem e d (and_r (eqb m n) (same_int e d) k) in
    λ i. fin (p i) (q i) (r i)

same_time_lem : (x y : Contact) → T (same_time x y) → x ≡ y
same_time_lem (Ok None) (Ok None) h = refl
same_time_lem (Ok None) (Ok (Some y)) h = absurd h
same_time_lem (Ok None) (Err _) h = absurd h
same_time_lem (Ok (Some x)) (Ok None) h = absurd h
same_time_lem (Ok (Some x)) (Ok (Some y)) h = ap (λ (t : Float). Ok (Some t)) (same_float_lem x y h)
same_time_lem (Ok (Some x)) (Err _) h = absurd h
same_time_lem (Err _) (Ok None) h = absurd h
same_time_lem (Err _) (Ok (Some y)) h = absurd h
same_time_lem (Err _) (Err _) h = refl

same_vec_lem : (u v : MyVec) → T (same_vec u v) → u ≡ v
same_vec_lem u v h =
    let p = same_float_lem u.x v.x (and_l (same_float u.x v.x) (same_float u.y v.y) h) in
    let q = same_float_lem u.y v.y (and_r (same_float u.x v.x) (same_float u.y v.y) h) in
    λ i. vec (p i) (q i)

good_holds : (f : Fact) → T (good f) → Holds f
good_holds (number x y) h = eqb→eq x y h
good_holds (numbers x y) h = same_list_lem x y h
good_holds (float x y) h = same_float_lem x y h
good_holds (vector x y) h = same_vec_lem x y h
good_holds (test x y) h = same_test x y h
good_holds (when x y) h = same_time_lem x y h

all_holds : {A : Type 0} (p : A → Bool) (P : A → Type 0) → ((x : A) → T (p x) → P x) → (l : List A) → T (all p l) → All P l
all_holds p P f [] h = tt
all_holds p P f (x ∷ xs) h = (f x (and_l (p x) (all p xs) h), all_holds p P f xs (and_r (p x) (all p xs) h))

good_rows : (l : List Row) → T (all (all good) l) → All Claim l
good_rows = all_holds (all good) Claim (all_holds good Holds good_holds)

-- ---- computed over the whole of each table
starred_good : T (all (all good) starred)
unfolding starred round add sub mul div neg lt le eq of_int to_unsigned of_bits to_bits root_of sqrt_of near root count_leading_zeros across position new_pos up_from reached cells_at cells_of_grain apart collision later to_neighbour out_of_cell
starred_good = tt

pub starred_hold : All Claim starred
starred_hold = good_rows starred starred_good

radii_good : T (all (all good) other_radii)
unfolding other_radii round add sub mul div neg lt le eq of_int to_unsigned of_bits to_bits root_of sqrt_of near root count_leading_zeros across position new_pos up_from reached cells_at cells_of_grain apart collision later to_neighbour out_of_cell wall
radii_good = tt

pub sized_hold : All Claim other_radii
sized_hold = good_rows other_radii radii_good

unstarred_good : T (all (all good) unstarred)
unfolding unstarred round add sub mul div neg lt le eq of_int to_unsigned of_bits to_bits root_of sqrt_of near root count_leading_zeros across position new_pos apart collision later to_neighbour out_of_cell wall insert_by start
unstarred_good = tt

pub unstarred_hold : All Claim unstarred
unstarred_hold = good_rows unstarred unstarred_good
