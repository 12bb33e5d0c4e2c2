-- What the listing program does not serve: more grains than are kept, or a box length from 12 to 48. Assumes nothing.
use Rattle.std.specs.Prelude.{Bool, ◌&&◌, ◌||◌, ℕ, ltb, Float}
use Rattle.std.specs.Float.{binary64}
use Rattle.std.specs.Float.Ieee.{of_bits, le}
use Rattle.listing_text.specs.Columns.{most_kept}

abbrev pub twelve : Float
twelve = of_bits binary64 0x4028_0000_0000_0000

abbrev pub forty_eight : Float
forty_eight = of_bits binary64 0x4048_0000_0000_0000

-- not for a NaN
abbrev pub long_length : Float → Bool
long_length l = le twelve l && le l forty_eight

abbrev pub too_large : ℕ → Float → Float → Bool
too_large n l0 l1 = ltb most_kept n || (long_length l0 || long_length l1)
