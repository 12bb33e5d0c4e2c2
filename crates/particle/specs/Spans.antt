-- The cells of one direction that a grain touches, as at most two spans. Assumes nothing: these are definitions.
use Rattle.std.specs.Prelude.{ℕ, cond, List, ◌++◌, Float}
use Rattle.std.specs.Float.{binary64}
use Rattle.std.specs.Float.Ieee.{add, sub, lt}
use Rattle.order.specs.Numbers.{fzero}
use Rattle.model.specs.FromPToC.{between, first_cell, end_cell}
use Rattle.particle.specs.declared.Span.{Span}
use Rattle.particle.specs.declared.Spans.{Spans}

-- the numbers that they stand for, one span after the other
abbrev pub cells_in : Spans → List ℕ
cells_in s = between s.first.lo s.first.hi ++ between s.second.lo s.second.hi

abbrev pub span_of : Float → ℕ → Float → Float → Span
span_of l n min max = record { lo = first_cell l n min; hi = end_cell l n max }

abbrev pub joined : Span → Span → Spans
joined p q = record { first = p; second = q }

-- one span, and an empty one behind it
abbrev pub alone : Span → Spans
alone p = joined p (record { lo = p.hi; hi = p.hi })

-- by the lower and the upper end of a grain of radius rad at x: across the low edge, across the high edge, or across neither
unfoldable pub spans_of : Float → ℕ → Float → Float → Spans
spans_of l n rad x =
    let min = sub binary64 x rad in
    let max = add binary64 x rad in
    cond (lt min fzero) (joined (span_of l n fzero max) (span_of l n (add binary64 l min) l))
    (cond (lt l max) (joined (span_of l n fzero (sub binary64 max l)) (span_of l n min l))
    (alone (span_of l n min max)))
