use mathlib.Core.Path.{◌≡◌}
use Rattle.std.specs.Slice.Iter.{chunks_exact_rest, chunks_exact_size}
use Rattle.layout.specs.Widths.{place_reals_wide}
use Rattle.checks.proofs.OnePlace.{Left}
use Rattle.checks.proofs.places.rising.Given as goal

abbrev pub invariant-loop-place : goal.invariant-loop-place
invariant-loop-place l = (chunks_exact_size l.place-iterator ≡ place_reals_wide) × Left l.t l.from l.reals (chunks_exact_rest l.place-iterator)
