-- An outcome is a number, 0 for done and the refusal's otherwise, beside the state. An act is a function to outcomes.
use Rattle.std.specs.Prelude.{ℕ, zero, suc, List, [], ◌∷◌}

pub record Out (S : Type 0) : Type 0 where
  pub num : ℕ
  pub st : S

abbrev pub out : {S : Type 0} → ℕ → S → Out S
out r s = record { num = r; st = s }

abbrev pub next : {S : Type 0} → ℕ → S → (S → Out S) → Out S
next zero s k = k s
next (suc r) s k = out (suc r) s

-- go on where the number is 0
abbrev pub then : {S : Type 0} → Out S → (S → Out S) → Out S
then o k = next o.num o.st k

-- the act at c, c + 1, .., m of them, up to the first refusal
unfoldable pub each : {S : Type 0} → (ℕ → S → Out S) → ℕ → ℕ → S → Out S
each act zero c s = out 0 s
each act (suc m) c s = then (act c s) (each act m (suc c))

-- the act at each of a list, up to the first refusal
unfoldable pub each_of : {S : Type 0} → (ℕ → S → Out S) → List ℕ → S → Out S
each_of act [] s = out 0 s
each_of act (x ∷ xs) s = then (act x s) (each_of act xs)
