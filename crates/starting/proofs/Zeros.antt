-- Parts of tables whose places are all 0, with the heap numbered, hold the cleared state. Assumes nothing.
use Prim.Native.Nat.{ℕ, zero, suc, ◌+◌, ◌*◌, ◌≤◌, ◌<◌}
use mathlib.Core.Path.{◌≡◌, refl, sym, ap, ◌∙◌, subst}
use mathlib.Core.Bool.{true}
use mathlib.Core.List.{List, ◌∷◌, ◌++◌}
use native.Mathlib.Nat.{zero-mul, suc-mul}
use native.Mathlib.Numerals.{add-one}
use native.Mathlib.Omega.{arith}
use lib.ListN.{length, replicate, length-append, length-replicate, replicate-append-replicate}
use lib.Ieee.{Float}
use Rattle.layout.specs.Widths.{grain_wide, home_room, member_room, home_wide, members_wide, home_from, place_nums_wide, place_reals_wide, queue_wide, events_wide, order_wide}
use Rattle.order.specs.Numbers.{fzero}
use Rattle.halting.specs.Every.{All}
use Rattle.chunks.specs.Flat.{flat}
use Rattle.scheduler.specs.Heap.{start_heap}
use Rattle.scheduler.proofs.Inverse.{start_inverse}
use Rattle.model.specs.declared.Domain.{Domain}
use Rattle.model.specs.Sizes.{box_ok}
use Rattle.model.specs.Grid.{cells}
use Rattle.model.specs.Events.{zero_p}
use Rattle.model.specs.State.{Row, zero_g}
use Rattle.model.specs.Start.{empty, clear}
use Rattle.model.proofs.Cleared.{clear_sound}
use Rattle.tables.specs.declared.Sizes.{Sizes}
use Rattle.tables.specs.Layout.{places, grain_reals, row_nums, place_nums, place_reals, queue_nums, queue_reals, order_bytes}
use Rattle.tables.specs.Holds.{Rows, Listed, Grained, Queued, Holds}
use Rattle.acts.proofs.FromSound.{sound_held}
use Rattle.starting.specs.Cleared.{sizes_for}

-- ---- the same record again and again
flat_same : {A B : Type 0} (enc : A → List B) (x : A) (v : B) (w : ℕ) → enc x ≡ replicate w v → (n : ℕ) → replicate (n * w) v ≡ flat enc (replicate n x)
flat_same enc x v w e zero = ap (λ (k : ℕ). replicate k v) (zero-mul w)
flat_same {B = B} enc x v w e (suc n) =
    ap (λ (k : ℕ). replicate k v) (let s = suc-mul n w in let h : suc n * w ≡ w + n * w = omega arith in h)
    ∙ sym (replicate-append-replicate w (n * w) v)
    ∙ ap (λ (l : List B). l ++ replicate (n * w) v) (sym e)
    ∙ ap (λ (l : List B). enc x ++ l) (flat_same enc x v w e n)

every_same : {A : Type 0} (P : A → Type 0) (x : A) → P x → (n : ℕ) → All P (replicate n x)
every_same P x p zero = tt
every_same P x p (suc n) = (p, every_same P x p n)

empty_rows : (m w n : ℕ) → Rows m w n (replicate m (empty w 0))
empty_rows m w n = record {
  many = length-replicate m (empty w 0);
  wide = every_same (λ (r : Row ℕ). length (places r) ≡ w) (empty w 0) (length-replicate w 0) m;
  below = every_same (λ (r : Row ℕ). All (λ (x : ℕ). x < n) r.live) (empty w 0) tt m;
}

empty_queue : (room : ℕ) → queue_nums (empty room zero_p) ≡ replicate (queue_wide room) 0
empty_queue room = ap (λ (l : List ℕ). 0 ∷ l) (sym (flat_same place_nums zero_p 0 place_nums_wide refl room)) ∙ ap (λ (k : ℕ). replicate k 0) (sym (add-one (room * place_nums_wide)))

empty_events : (room : ℕ) → queue_reals (empty room zero_p) ≡ replicate (events_wide room) fzero
empty_events room = sym (flat_same place_reals zero_p fzero place_reals_wide refl room)

module _ (b : Domain) (room n : ℕ) where
  abbrev zero_lists : List ℕ
  zero_lists = replicate (home_from n + cells b * members_wide) 0

  abbrev zero_grains : List Float
  zero_grains = replicate (n * grain_wide) fzero

  abbrev zero_queue : List ℕ
  zero_queue = replicate (cells b * queue_wide room) 0

  abbrev zero_events : List Float
  zero_events = replicate (cells b * events_wide room) fzero

  clear_listed : Listed (sizes_for b n room) zero_lists (clear b room n).homes (clear b room n).members
  unfolding clear
  clear_listed = record {
    is =
        sym (replicate-append-replicate (home_from n) (cells b * members_wide) 0)
        ∙ ap (λ (l : List ℕ). l ++ replicate (cells b * members_wide) 0) (flat_same row_nums (empty home_room 0) 0 home_wide refl n)
        ∙ ap (λ (l : List ℕ). flat row_nums (replicate n (empty home_room 0)) ++ l) (flat_same row_nums (empty member_room 0) 0 members_wide refl (cells b));
    homes = empty_rows n home_room (cells b);
    members = empty_rows (cells b) member_room n;
  }

  clear_grained : Grained (sizes_for b n room) zero_grains (clear b room n).grains
  unfolding clear
  clear_grained = record { is = flat_same grain_reals zero_g fzero grain_wide refl n; many = length-replicate n zero_g }

  module _ (box : box_ok b ≡ true) (r : 16 ≤ room) (r' : room ≤ 256) (few : n ≤ 256) where
    clear-queued : Queued (sizes_for b n room) zero_queue zero_events (order_bytes (start_heap (cells b))) (clear b room n)
    unfolding clear
    clear-queued =
        sound_held {z = sizes_for b n room} (clear b room n) (clear_sound b room n box r r' few) (length-replicate n zero_g) refl refl
        (flat_same queue_nums (empty room zero_p) 0 (queue_wide room) (empty_queue room) (cells b))
        (flat_same queue_reals (empty room zero_p) fzero (events_wide room) (empty_events room) (cells b)) refl

    clear-held : Holds (sizes_for b n room) zero_lists zero_grains zero_queue zero_events (order_bytes (start_heap (cells b))) (clear b room n)
    clear-held = record { listed = clear_listed; grained = clear_grained; queued = clear-queued }

-- the heap and the lookups of a start
pub start_long : (n : ℕ) → n ≤ 256 → length (order_bytes (start_heap n)) ≡ order_wide
start_long n h =
    let i = start_inverse n h in
    length-append (start_heap n).heap (start_heap n).lookups ∙ (let p = i.heap_long in let q = i.lookups_long in omega arith)

-- over any sizes that are the box's
pub cleared_held : (z : Sizes) (b : Domain) → z.cells ≡ cells b → box_ok b ≡ true → 16 ≤ z.room → z.room ≤ 256 → z.grains ≤ 256
    → {l : List ℕ} {t : List Float} {q : List ℕ} {e : List Float} {o : List ℕ} → l ≡ replicate (home_from z.grains + z.cells * members_wide) 0 → t ≡ replicate (z.grains * grain_wide) fzero
    → q ≡ replicate (z.cells * (queue_wide z.room)) 0 → e ≡ replicate (z.cells * (events_wide z.room)) fzero → o ≡ order_bytes (start_heap z.cells)
    → Holds z l t q e o (clear b z.room z.grains)
cleared_held z b c box r r' few {l} {t} {q} {e} {o} el et eq ee eo = go (sym el) (sym et) (sym eq) (sym ee) (sym eo)
  where
    at : ℕ → Type 0
    at n = Holds (record { grains = z.grains; cells = n; room = z.room }) (replicate (home_from z.grains + n * members_wide) 0) (replicate (z.grains * grain_wide) fzero)
        (replicate (n * (queue_wide z.room)) 0) (replicate (n * (events_wide z.room)) fzero) (order_bytes (start_heap n)) (clear b z.room z.grains)

    zeros : at z.cells
    zeros = subst at (sym c) (clear-held b z.room z.grains box r r' few)

    go : replicate (home_from z.grains + z.cells * members_wide) 0 ≡ l → replicate (z.grains * grain_wide) fzero ≡ t → replicate (z.cells * (queue_wide z.room)) 0 ≡ q
        → replicate (z.cells * (events_wide z.room)) fzero ≡ e → order_bytes (start_heap z.cells) ≡ o → Holds z l t q e o (clear b z.room z.grains)
    go a b' c' d f =
        subst (λ (m : List ℕ). Holds z m t q e o (clear b z.room z.grains)) a
        (subst (λ (m : List Float). Holds z (replicate (home_from z.grains + z.cells * members_wide) 0) m q e o (clear b z.room z.grains)) b'
        (subst (λ (m : List ℕ). Holds z (replicate (home_from z.grains + z.cells * members_wide) 0) (replicate (z.grains * grain_wide) fzero) m e o (clear b z.room z.grains)) c'
        (subst (λ (m : List Float). Holds z (replicate (home_from z.grains + z.cells * members_wide) 0) (replicate (z.grains * grain_wide) fzero) (replicate (z.cells * (queue_wide z.room)) 0) m o (clear b z.room z.grains)) d
        (subst (λ (m : List ℕ). Holds z (replicate (home_from z.grains + z.cells * members_wide) 0) (replicate (z.grains * grain_wide) fzero) (replicate (z.cells * (queue_wide z.room)) 0) (replicate (z.cells * (events_wide z.room)) fzero) m (clear b z.room z.grains)) f zeros))))
