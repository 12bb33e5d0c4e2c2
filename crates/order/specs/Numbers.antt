-- Numbers as floats, each by its bits, and what those bits are; what a rule uses one for is named where the rule is. A float is `fin sign m e`, m odd: m * 2 ^ e,
-- with e = pos k for 2 ^ k and negsuc k for 2 ^ -(k + 1). Assumes nothing.
use Rattle.std.specs.Prelude.{false, cond, ◌≡◌, refl, pos, negsuc, Float}
use Rattle.std.specs.Float.{fin, binary64}
use Rattle.std.specs.Float.Ieee.{lt, of_bits}

abbrev pub fzero : Float
fzero = of_bits binary64 0

abbrev pub one_quarter : Float
one_quarter = of_bits binary64 0x3fd0_0000_0000_0000

abbrev pub half : Float
half = of_bits binary64 0x3fe0_0000_0000_0000

abbrev pub one : Float
one = of_bits binary64 0x3ff0_0000_0000_0000

abbrev pub two : Float
two = of_bits binary64 0x4000_0000_0000_0000

abbrev pub three : Float
three = of_bits binary64 0x4008_0000_0000_0000

abbrev pub nine : Float
nine = of_bits binary64 0x4022_0000_0000_0000

abbrev pub fortyeight : Float
fortyeight = of_bits binary64 0x4048_0000_0000_0000

-- f64::MAX
abbrev pub f64_max : Float
f64_max = of_bits binary64 0x7fef_ffff_ffff_ffff

-- ---- what the bits are
fzero_is : fzero ≡ fin false 0 (pos 0)
unfolding of_bits
fzero_is = refl

one_quarter_is : one_quarter ≡ fin false 1 (negsuc 1)
unfolding of_bits
one_quarter_is = refl

half_is : half ≡ fin false 1 (negsuc 0)
unfolding of_bits
half_is = refl

one_is : one ≡ fin false 1 (pos 0)
unfolding of_bits
one_is = refl

two_is : two ≡ fin false 1 (pos 1)
unfolding of_bits
two_is = refl

three_is : three ≡ fin false 3 (pos 0)
unfolding of_bits
three_is = refl

nine_is : nine ≡ fin false 9 (pos 0)
unfolding of_bits
nine_is = refl

fortyeight_is : fortyeight ≡ fin false 3 (pos 4)
unfolding of_bits
fortyeight_is = refl

f64_max_is : f64_max ≡ fin false 9007199254740991 (pos 971)
unfolding of_bits
f64_max_is = refl

-- ---- the larger and the smaller of two, as `if a < b` picks them
abbrev pub max_of : Float → Float → Float
max_of a b = cond (lt a b) b a

abbrev pub min_of : Float → Float → Float
min_of a b = cond (lt b a) b a
