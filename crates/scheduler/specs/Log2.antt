-- 02, T-06: the whole part of the base-2 logarithm. Assumes nothing: this is a definition.
use Rattle.std.specs.Prelude.{ℕ, suc, ◌^◌, ◌≤◌, ◌<◌}

-- k is that of n
pub record Log2 (n k : ℕ) : Type 0 where
  pub no_more : 2 ^ k ≤ n
  pub no_less : n < 2 ^ suc k
