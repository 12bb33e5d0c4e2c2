-- The constants of 01, each by its role and once: the rules name the role. What belongs to a wall is asked of the wall.
-- Assumes nothing: these are definitions.
use Rattle.std.specs.Prelude.{ℕ, ◌≡◌, refl, Bool, false, cond, pos, negsuc, Float}
use Rattle.std.specs.Float.{fin, binary64}
use Rattle.std.specs.Float.Ieee.{of_bits, round}
use Rattle.order.specs.Numbers.{fzero, one_quarter, half, one, three, nine, fortyeight}
use Rattle.model.specs.declared.Domain.{Domain}

-- ---- "constants that belong to their types": cell size 3 and restitution 0.99; and in place of a radius 0.5 the least and the greatest that a grain may bring (02, T-04), 0.25 and 0.5
abbrev pub least_radius : Float
least_radius = one_quarter

abbrev pub greatest_radius : Float
greatest_radius = half

abbrev pub cell_size : Float
cell_size = three

abbrev pub restitution : Float
restitution = of_bits binary64 0x3fef_ae14_7ae1_47ae

-- the float nearest to 99 / 100
restitution_is : restitution ≡ round binary64 false 99 100
unfolding of_bits round
restitution_is = refl

-- ---- ranges: a box length, cells in a direction, the sync rate, a start velocity's component, a value
abbrev pub shortest : Float
shortest = nine

abbrev pub longest : Float
longest = fortyeight

abbrev pub fewest_across : ℕ
fewest_across = 3

-- 2 ^ -20 and 2 ^ 20
abbrev pub finest : Float
finest = of_bits binary64 0x3eb0_0000_0000_0000

finest_is : finest ≡ fin false 1 (negsuc 19)
unfolding of_bits
finest_is = refl

abbrev pub coarsest : Float
coarsest = of_bits binary64 0x4130_0000_0000_0000

coarsest_is : coarsest ≡ fin false 1 (pos 20)
unfolding of_bits
coarsest_is = refl

-- 1024
abbrev pub fastest : Float
fastest = of_bits binary64 0x4090_0000_0000_0000

fastest_is : fastest ≡ fin false 1 (pos 10)
unfolding of_bits
fastest_is = refl

abbrev pub least_val : Float
least_val = fzero

abbrev pub greatest_val : Float
greatest_val = one

-- ---- collisions: the least a = dvel·dvel that gives an event, 2 ^ -52
abbrev pub least_a : Float
least_a = of_bits binary64 0x3cb0_0000_0000_0000

least_a_is : least_a ≡ fin false 1 (negsuc 51)
unfolding of_bits
least_a_is = refl

-- what each of two values counts in their mean
abbrev pub mean_factor : Float
mean_factor = half

-- what each of two velocities counts in that of the centre, and how much of their difference each grain has besides
abbrev pub centre_factor : Float
centre_factor = half

-- the size of gravity in a wall-bounded direction, and the mean value that does not feel it
abbrev pub gravity_size : Float
gravity_size = half

abbrev pub neutral_val : Float
neutral_val = half

-- ---- walls: the value that a wall fixes, whatever the box and the direction, 0 at the low one and 1 at the high one; and the factor of wall plus old
abbrev pub wall_of : Domain → ℕ → Bool → Float
wall_of b d low = cond low fzero one

abbrev pub wall_factor : Float
wall_factor = half
