-- Chunks one after another: a table as a flat list of what each record encodes to. Assumes nothing: these are definitions.
use Rattle.std.specs.Prelude.{List, [], ◌∷◌, ◌++◌}

abbrev pub flat : {A B : Type 0} → (A → List B) → List A → List B
flat enc [] = []
flat enc (x ∷ xs) = enc x ++ flat enc xs
