-- What taking more digits asks of the root so far, and what it makes of it. Assumes nothing: these are definitions.
use Rattle.std.specs.Prelude.{◌≡◌, ℕ, ◌+◌, ◌*◌, ◌^◌, ◌≤◌, ◌<◌}
use Rattle.root.specs.declared.Digits.{Digits}

-- the part of the argument that was taken so far
abbrev pub taken : Digits → ℕ
taken s = s.q * s.q + s.rem

-- q is the largest with q * q ≤ M, and rem is what is left of M
pub record DigitsOf (M : ℕ) (s : Digits) : Type 0 where
  pub value : taken s ≡ M
  pub rest : s.rem ≤ 2 * s.q

pub record ReadyOne (s : Digits) (two : ℕ) : Type 0 where
  pub small : s.q < 2 ^ 53
  pub rest : s.rem ≤ 2 * s.q
  pub next : two < 4

-- the root so far has as many digits as are asked for
pub record ReadyMore (s : Digits) (unit high low : ℕ) : Type 0 where
  pub small : s.q < 2 ^ 27
  pub rest : s.rem ≤ 2 * s.q
  pub enough : unit ≤ 2 * s.q
  pub first : high < unit
  pub second : low < unit
