-- The head of a cell, read in the tables and in the state that they are read as. Assumes nothing.
use mathlib.Core.Path.{◌≡◌, refl, sym, ap, ◌∙◌}
use Prim.Native.Nat.{ℕ, zero, suc, ◌*◌, ◌≤◌, ◌<◌}
use native.Mathlib.Nat.{suc-ne-zero, not-suc-le-zero, add-zero}
use native.Mathlib.Omega.{arith}
use mathlib.Core.List.{List}
use lib.ListN.{length, get_or, take, drop}
use lib.Seq.{get_or-drop}
use lib.Ieee.{Float, nan}
use Rattle.std.specs.Prelude.{Some}
use Rattle.layout.specs.Widths.{queue_wide, events_wide}
use Rattle.chunks.proofs.Laws.{chunk_in}
use Rattle.scheduler.specs.Inside.{head_in}
use Rattle.scheduler.proofs.Heads.{head_none, head_some}
use Rattle.model.specs.declared.Place.{Place}
use Rattle.model.specs.Events.{head_time}
use Rattle.model.specs.State.{Row, none, heads}
use Rattle.tables.specs.Decode.{cut_both, places_of, queue_at, queues_of}
use Rattle.checks.proofs.Cut.{both_at}

head_first : (k room : ℕ) (q : List ℕ) (e : List Float) → 0 < room → head_time (take (suc k) (places_of room q e)) ≡ Some (get_or e 0 nan)
unfolding cut_both
head_first k zero q e h = absurd (not-suc-le-zero h)
head_first k (suc room) q e h = refl

pub heads_in : (room n : ℕ) (q : List ℕ) (e : List Float) (c : ℕ) → 0 < room → c < n → n * events_wide room ≤ length e → heads (queues_of room n q e) c ≡ head_in e q room c
unfolding heads
heads_in room n q e c r h l =
    ap (λ (x : Row Place). head_time x.live) (both_at (queue_at room) (queue_wide room) (events_wide room) n q e c none h)
    ∙ by (get_or (drop (c * queue_wide room) q) 0 0) (sym (at q (c * queue_wide room) 0))
  where
    at : {A : Type 0} (l : List A) (i : ℕ) (d : A) → get_or (drop i l) 0 d ≡ get_or l i d
    at l i d = get_or-drop i l 0 d ∙ ap (λ (k : ℕ). get_or l k d) (add-zero i)

    by : (k : ℕ) → get_or q (c * queue_wide room) 0 ≡ k → head_time (take k (places_of room (drop 1 (drop (c * queue_wide room) q)) (drop (c * events_wide room) e))) ≡ head_in e q room c
    by zero z = sym (head_none e q room c z)
    by (suc k) z =
        head_first k room (drop 1 (drop (c * queue_wide room) q)) (drop (c * events_wide room) e) r
        ∙ ap Some (at e (c * events_wide room) nan)
        ∙ sym (head_some e q room c (let i = chunk_in c n (events_wide room) h in omega arith) (λ w. suc-ne-zero k (sym z ∙ w)))
