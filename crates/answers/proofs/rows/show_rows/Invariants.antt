use Prim.Native.Nat.{◌*◌}
use mathlib.Core.Path.{◌≡◌}
use mathlib.Core.List.{◌++◌, map}
use lib.ListN.{drop}
use Rattle.chunks.specs.Flat.{flat}
use Rattle.tables.specs.Decode.{grains_of}
use Rattle.listing_text.specs.Columns.{columns}
use Rattle.listing_text.specs.Grammar.{columns_of}
use Rattle.answers.specs.Answer.{shown_grain}
use Rattle.answers.proofs.rows.show_rows.Given as goal

abbrev pub invariant-loop-i : goal.invariant-loop-i
invariant-loop-i l = l.bits ≡ flat columns_of (map shown_grain (grains_of l.i l.grains)) ++ drop (l.i * columns) l.initial.bits
