-- The lent table of start numbers read as grains: six floats each, x, y, vx, vy, the value and the radius; the time is 0. Assumes nothing: these are definitions.
use Rattle.std.specs.Prelude.{ℕ, List, get_or, Float}
use Rattle.std.specs.Float.{nan}
use Rattle.order.specs.Numbers.{fzero}
use Rattle.layout.specs.Widths.{input_wide}
use Rattle.myvec.specs.Vec.{vec}
use Rattle.model.specs.declared.Particle.{Particle}
use Rattle.model.specs.Stepping.{grain_of}
use Rattle.tables.specs.Decode.{cut}

abbrev pub input_at : List Float → Particle
input_at f = grain_of (vec (get_or f 0 nan) (get_or f 1 nan)) (vec (get_or f 2 nan) (get_or f 3 nan)) fzero (get_or f 4 nan) (get_or f 5 nan)

-- the first n grains
abbrev pub inputs_of : ℕ → List Float → List Particle
inputs_of n f = cut input_at input_wide n f
