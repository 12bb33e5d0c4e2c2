-- 02, T-02: the question for a cell's head is answered by "empty" or by a time, and "empty sorts after every time". None stands for empty.
-- Assumes nothing: these are definitions.
use Rattle.std.specs.Prelude.{Bool, true, false, Float, Option, None, Some}
use Rattle.std.specs.Float.Ieee.{lt, le, is_nan}

abbrev pub Head : Type 0
Head = Option Float

-- before < after
abbrev pub earlier : Head → Head → Bool
earlier None b = false
earlier (Some t) None = true
earlier (Some t) (Some u) = lt t u

-- left ≤ right
abbrev pub no_later : Head → Head → Bool
no_later a None = true
no_later None (Some u) = false
no_later (Some t) (Some u) = le t u

-- a time that is a NaN
abbrev pub is_nan_head : Head → Bool
is_nan_head None = false
is_nan_head (Some t) = is_nan t
