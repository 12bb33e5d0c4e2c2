-- 01, "Square root": what the answer is, in the document's own words and not by how it is found. Assumes nothing: these are definitions.
use Rattle.std.specs.Prelude.{◌≡◌, ℕ, zero, suc, ◌+◌, ◌-◌, ◌*◌, ◌^◌, ◌≤◌, ◌<◌, true, false, T, ℤ, Float, Option, Some, None}
use Rattle.std.specs.Float.{nan, inf, fin, binary64}
use Rattle.std.specs.Float.Ieee.{fits, up, down}
use Rattle.std.specs.Float.Ieee.Exact.{HasValue}
use Rattle.order.specs.Numbers.{fzero}

-- (2r-1)² < 4M < (2r+1)²
pub record Nearest (M r : ℕ) : Type 0 where
  pub low : (2 * r - 1) * (2 * r - 1) < 4 * M
  pub high : 4 * M < (2 * r + 1) * (2 * r + 1)

-- d = M * 4 ^ e with 2 ^ 104 ≤ M < 2 ^ 106, and y = r * 2 ^ e with the r nearest to M's root
pub record Rooted (d y : Float) : Type 0 where
  pub M : ℕ
  pub r : ℕ
  pub e : ℤ
  pub from : 2 ^ 104 ≤ M
  pub to : M < 2 ^ 106
  pub of : HasValue d false (M * (up e * up e)) (down e * down e)
  pub nearest : Nearest M r
  pub is : HasValue y false (r * up e) (down e)

-- what an answer gives back: its number, 5 where there is no root, and its value, +0 beside a refusal
abbrev pub number : Option Float → ℕ
number (Some y) = 0
number None = 5

abbrev pub value : Option Float → Float
value (Some y) = y
value None = fzero

-- +0, -0 and +infinity give themselves, other negatives and NaN are refused by 5, a positive finite value has its root: by the number n and the value y
unfoldable pub RootSays : Float → ℕ → Float → Type 0
RootSays nan n y = n ≡ 5
RootSays (inf true) n y = n ≡ 5
RootSays (inf false) n y = (n ≡ 0) × (y ≡ inf false)
RootSays (fin s zero e) n y = (n ≡ 0) × (y ≡ fin s zero e)
RootSays (fin true (suc m) e) n y = n ≡ 5
RootSays (fin false (suc m) e) n y = (n ≡ 0) × T (fits binary64 y) × Rooted (fin false (suc m) e) y

abbrev pub RootRule : Float → Option Float → Type 0
RootRule x r = RootSays x (number r) (value r)
