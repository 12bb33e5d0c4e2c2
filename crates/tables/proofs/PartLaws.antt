-- Rows at parts of a table: a part's end fits, and the numbers in use stand behind the count. Assumes nothing.
use mathlib.Core.Path.{◌≡◌, ap}
use Prim.Native.Nat.{ℕ, ◌+◌, ◌*◌, ◌≤◌, ◌<◌}
use native.Mathlib.Nat.{mul-le-mul}
use native.Mathlib.Omega.{arith}
use Rattle.chunks.proofs.Laws.{chunk_in}
use Rattle.tables.specs.declared.parts.Part.{Part}
use Rattle.tables.specs.Parts.{part_of}

-- of at most 256 rows, each at most m wide, one that follows them ends below 257 of that width
pub end_most : (c w m : ℕ) {a b : ℕ} → c ≤ 256 → w ≤ m → a ≡ c * w → b ≡ w → a + b ≤ 256 * m + m
end_most c w m h k e f = let p = mul-le-mul h k in omega arith

-- of n rows, as wide each, that fill a table of m places, each part lies within it
pub part_in : (c n w : ℕ) {m : ℕ} {p : Part} → p ≡ part_of (c * w) w → c < n → m ≡ n * w → (p.from ≤ p.to) × (p.to ≤ m)
part_in c n w e h k = let a = ap (λ (q : Part). q.from) e in let b = ap (λ (q : Part). q.to) e in let i = chunk_in c n w h in (omega arith, omega arith)
