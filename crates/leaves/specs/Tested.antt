-- What the program tests of a case before it asks. Assumes nothing: these are definitions.
use Rattle.std.specs.Prelude.{◌≤◌}
use Rattle.particle.specs.declared.Span.{Span}
use Rattle.particle.specs.declared.Spans.{Spans}

-- a span of cells is in order and short
pub record Short (s : Span) : Type 0 where
  pub order : s.lo ≤ s.hi
  pub few : s.hi ≤ 16

-- so are both of two
pub record Small (s : Spans) : Type 0 where
  pub first : Short s.first
  pub second : Short s.second
