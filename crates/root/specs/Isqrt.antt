-- The whole-number square root, digit by digit, and the whole number nearest to a square root. Assumes nothing: these are definitions.
use Rattle.std.specs.Prelude.{ℕ, zero, suc, ◌+◌, ◌*◌, ◌/◌, cond, leb, ltb}

-- one digit more: the root of M, from q, the root of M / 4
abbrev pub grow : ℕ → ℕ → ℕ
grow q M = cond (leb ((2 * q + 1) * (2 * q + 1)) M) (2 * q + 1) (2 * q)

-- the largest q with q * q ≤ M, for an M below 4 ^ k
unfoldable pub root : ℕ → ℕ → ℕ
root zero M = 0
root (suc k) M = grow (root k (M / 4)) M

-- the whole number nearest to the square root of an M below 4 ^ 53
abbrev pub closer : ℕ → ℕ → ℕ
closer q M = cond (ltb (q * q + q) M) (q + 1) q

unfoldable pub near : ℕ → ℕ
unfolding root
near M = closer (root 53 M) M
