-- Tables that hold a state are legible. Assumes nothing.
use mathlib.Core.Path.{◌≡◌, refl, sym, ap, ◌∙◌}
use Prim.Native.Nat.{ℕ, zero, suc, ◌+◌, ◌≤◌}
use native.Mathlib.Nat.{suc-ne-zero}
use native.Mathlib.Omega.{arith}
use mathlib.Core.List.{List, [], ◌∷◌, ◌++◌, append_assoc}
use mathlib.Core.Bool.{Bool, true, ◌&&◌}
use lib.ListN.{length, get_or, drop}
use lib.Seq.{drop_at}
use borrow.Author.Tests.{le-leb}
use Rattle.layout.specs.Widths.{home_room, member_room, home_wide, members_wide, queue_wide}
use Rattle.halting.specs.Every.{All}
use Rattle.chunks.specs.Flat.{flat}
use Rattle.model.specs.State.{Row, State}
use Rattle.tables.specs.declared.Sizes.{Sizes}
use Rattle.tables.specs.Layout.{places, row_nums, queue_nums}
use Rattle.tables.specs.Holds.{Rows, Full}
use Rattle.tables.proofs.RowLaws.{live_most}
use Rattle.tables.specs.Decode.{Tables}
use Rattle.checks.specs.Check.{counts_within, legible_by}
use Rattle.tables.specs.Lengths.{queue_need}
use Rattle.checks.proofs.Hold.{Hold}
use Rattle.tables.proofs.Runs.{row_nums_long}
use Rattle.checks.proofs.Back.{row_wide_lem, lists_cut, members_cut, queue_cut}

-- ---- counts of rows that are written are within their room
module _ {A : Type 0} (enc : A → List ℕ) (v w : ℕ) (P : A → Type 0) (long : (x : A) → P x → length (enc x) ≡ w) (few : (x : A) (y : List ℕ) → P x → get_or (enc x ++ y) 0 0 ≤ v) where
  counted_flat : (n : ℕ) (xs : List A) (y : List ℕ) → length xs ≡ n → All P xs → counts_within v w n (flat enc xs ++ y) ≡ true
  unfolding counts_within
  counted_flat zero xs y e f = refl
  counted_flat (suc n) [] y e f = absurd (suc-ne-zero n (sym e))
  counted_flat (suc n) (x ∷ xs) y e f =
      ap (counts_within v w (suc n)) (append_assoc (enc x) (flat enc xs) y)
      ∙ ap (λ (b : Bool). b && counts_within v w n (drop w (enc x ++ (flat enc xs ++ y)))) (le-leb _ v (few x (flat enc xs ++ y) f.0))
      ∙ ap (counts_within v w n) (drop_at (enc x) (flat enc xs ++ y) w (long x f.0)) ∙ counted_flat n xs y (omega arith) f.1

live_few : {A : Type 0} (r : Row A) {k : ℕ} → length (places r) ≡ k → length r.live ≤ k
live_few r e = let a = live_most r in omega arith

rows_counted : (k : ℕ) {m n : ℕ} (rs : List (Row ℕ)) (y : List ℕ) → Rows m k n rs → counts_within k (k + 1) m (flat row_nums rs ++ y) ≡ true
rows_counted k {m = m} rs y R =
    counted_flat row_nums k (k + 1) (λ (r : Row ℕ). length (row_nums r) ≡ k + 1) (λ r p. p) (λ r y p. live_few r (omega arith)) m rs y R.many (row_wide_lem k rs R.wide)

module _ (z : Sizes) (t : Tables) (s : State) (H : Hold z t s) where
  pub legible_held : legible_by z t.lists t.queue ≡ true
  legible_held =
      let room = z.room in
      rw (
        H.flags,
        ap (counts_within home_room home_wide z.grains) (lists_cut z t s H) ∙ rows_counted home_room s.homes _ H.body.listed.homes,
        ap (counts_within member_room members_wide z.cells) (members_cut z t s H) ∙ rows_counted member_room s.members _ H.body.listed.members,
        ap (counts_within room (queue_wide room) z.cells) (queue_cut z t s H)
            ∙ counted_flat queue_nums room (queue_wide room) (Full room) (row_nums_long room) (λ r y g. live_few r g) z.cells s.queues (drop (queue_need z) t.queue) H.body.queued.tables.many H.body.queued.tables.full,
      )
