-- One cell's row of events has as many places after the acts as before. Assumes nothing.
use mathlib.Core.Path.{ap}
use Prim.Native.Nat.{ℕ, ◌<◌}
use native.Mathlib.Nat.{not-suc-le-zero}
use native.Mathlib.Omega.{arith}
use mathlib.Core.List.{List, [], ◌∷◌, ◌++◌, append-nil}
use lib.ListN.{length, replicate, length-append, length-replicate}
use Rattle.model.specs.declared.Place.{Place}
use Rattle.model.specs.Events.{insert_by, keep_by, gone_by, zero_p}
use Rattle.model.specs.State.{Row, row}
use Rattle.model.proofs.Queue.{length_insert, length_keep}
use Rattle.tables.specs.Holds.{Full}
use Rattle.tables.specs.Queues.{placed, without, headless}

pub full_placed : {room : ℕ} (e : Place) (live spare : List Place) → Full room (row live spare) → length live < room → Full room (placed e (row live spare))
full_placed e live [] g l = let k = ap length (append-nil live) in absurd (omega arith)
full_placed e live (x ∷ rest) g l = let p = length-append (insert_by e live) rest in let q = length_insert e live in let t = length-append live (x ∷ rest) in omega arith

pub full_without : {room : ℕ} (n : ℕ) (r : Row Place) → Full room r → Full room (without n r)
full_without n r g =
    let l₁ = length-append (keep_by n r.live) (replicate (gone_by n r.live) zero_p ++ r.spare) in
    let l₂ = length-append (replicate (gone_by n r.live) zero_p) r.spare in
    let l₃ = length-replicate (gone_by n r.live) zero_p in
    let l₄ = length_keep n r.live in
    let l₅ = length-append r.live r.spare in
    omega arith

pub full_headless : {room : ℕ} (live spare : List Place) → 0 < length live → Full room (row live spare) → Full room (headless (row live spare))
full_headless [] spare l g = absurd (not-suc-le-zero l)
full_headless (x ∷ live) spare l g = let p = length-append live (zero_p ∷ spare) in let q = length-append live spare in omega arith
