-- What a read into a buffer may answer. Assumes nothing: this is a definition.
use Rattle.std.specs.Prelude.{ℕ, ◌≤◌, IfOk}
use Rattle.std.specs.declared.result.Result.{Result}

-- of n bytes: how many of them it moved, where it does not fail
abbrev pub Moved : {E : Type 0} → ℕ → Result ℕ E → Type 0
Moved n got = IfOk got (λ k. k ≤ n)
