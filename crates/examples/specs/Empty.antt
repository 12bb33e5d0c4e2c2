-- Written by tools/traces: the oracle's start empty and its dumps after 0 to 3 events.
use Rattle.std.specs.Prelude.{[], ◌∷◌, true}
use Rattle.examples.specs.Dump.{S, c, dump, Trace, trace, opening}

unfoldable pub empty_trace : Trace
empty_trace =
    trace (opening 0x4022000000000000 0x4022000000000000 true true 16 ([]) 0x3FF0000000000000)
    ((dump 0x0 0
    ([])
    (c [] (S 0x0 ∷ []) ∷ c [] [] ∷ c [] [] ∷ c [] [] ∷ c [] [] ∷ c [] [] ∷ c [] [] ∷ c [] [] ∷ c [] [] ∷ [])
    (0 ∷ 1 ∷ 2 ∷ 3 ∷ 4 ∷ 5 ∷ 6 ∷ 7 ∷ 8 ∷ []) (0 ∷ 1 ∷ 2 ∷ 3 ∷ 4 ∷ 5 ∷ 6 ∷ 7 ∷ 8 ∷ []))
    ∷ (dump 0x0 0
    ([])
    (c [] (S 0x3FF0000000000000 ∷ []) ∷ c [] [] ∷ c [] [] ∷ c [] [] ∷ c [] [] ∷ c [] [] ∷ c [] [] ∷ c [] [] ∷ c [] [] ∷ [])
    (0 ∷ 1 ∷ 2 ∷ 3 ∷ 4 ∷ 5 ∷ 6 ∷ 7 ∷ 8 ∷ []) (0 ∷ 1 ∷ 2 ∷ 3 ∷ 4 ∷ 5 ∷ 6 ∷ 7 ∷ 8 ∷ []))
    ∷ (dump 0x3FF0000000000000 0
    ([])
    (c [] (S 0x4000000000000000 ∷ []) ∷ c [] [] ∷ c [] [] ∷ c [] [] ∷ c [] [] ∷ c [] [] ∷ c [] [] ∷ c [] [] ∷ c [] [] ∷ [])
    (0 ∷ 1 ∷ 2 ∷ 3 ∷ 4 ∷ 5 ∷ 6 ∷ 7 ∷ 8 ∷ []) (0 ∷ 1 ∷ 2 ∷ 3 ∷ 4 ∷ 5 ∷ 6 ∷ 7 ∷ 8 ∷ []))
    ∷ (dump 0x4000000000000000 0
    ([])
    (c [] (S 0x4008000000000000 ∷ []) ∷ c [] [] ∷ c [] [] ∷ c [] [] ∷ c [] [] ∷ c [] [] ∷ c [] [] ∷ c [] [] ∷ c [] [] ∷ [])
    (0 ∷ 1 ∷ 2 ∷ 3 ∷ 4 ∷ 5 ∷ 6 ∷ 7 ∷ 8 ∷ []) (0 ∷ 1 ∷ 2 ∷ 3 ∷ 4 ∷ 5 ∷ 6 ∷ 7 ∷ 8 ∷ []))
    ∷ [])
