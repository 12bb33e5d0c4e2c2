-- The tables of all cells' events with the heap's, and each act on them: one row is lent and put back, then the heap is updated. Assumes nothing.
use mathlib.Core.Path.{◌≡◌, refl, sym, ap, ◌∙◌, subst}
use Prim.Native.Nat.{ℕ, zero, suc, ◌-◌, ◌*◌, ◌≤◌, ◌<◌}
use native.Mathlib.Nat.{suc-ne-zero, suc-mul, zero-mul}
use native.Mathlib.Omega.{arith}
use native.Mathlib.Decide.{dec_le}
use mathlib.Core.List.{List, [], ◌∷◌, ◌++◌}
use mathlib.Core.Bool.{Bool, true, false, cond}
use lib.Dec.{ltb}
use lib.ListN.{length, get_or, set, length-set, get_or-append, get_or-eq_default}
use lib.Seq.{get_or-set_same, get_or-append-add}
use lib.Ieee.{Float, nan}
use borrow.Author.Tests.{le-ltb, lt-ltb}
use Rattle.std.specs.Prelude.{Some}
use Rattle.halting.specs.Out.{Out, out}
use Rattle.halting.specs.Every.{All}
use Rattle.halting.proofs.All.{all_at, all_set}
use Rattle.chunks.specs.Flat.{flat}
use Rattle.chunks.proofs.Laws.{length_flat, chunk_in, chunk_mid, chunk_put}
use Rattle.scheduler.specs.Head.{Head}
use Rattle.scheduler.proofs.Heads.{head_none, head_some}
use Rattle.scheduler.specs.declared.Scheduler.{Scheduler}
use Rattle.scheduler.specs.Heap.{updated}
use Rattle.scheduler.specs.Inside.{head_in}
use Rattle.layout.specs.Widths.{queue_wide, events_wide, queue_from, events_from, order_wide}
use Rattle.model.specs.declared.Place.{Place}
use Rattle.model.specs.Events.{head_time, head_place, fine_place}
use Rattle.model.specs.State.{Row, none, State, queue, heads, live_at, requeued, with_clock}
use Rattle.model.specs.Acts.{insert, inserted, cancelled, first, head, taken}
use Rattle.tables.specs.declared.Sizes.{Sizes}
use Rattle.tables.specs.declared.parts.Part.{Part}
use Rattle.tables.specs.Layout.{places, place_reals, queue_nums, queue_reals, order_bytes}
use Rattle.tables.specs.Holds.{Ranged, Full, Tabled, Queued, Told}
use Rattle.tables.specs.Decode.{scheduler_of}
use Rattle.tables.specs.Parts.{lent, back}
use Rattle.tables.specs.Rows.{count_in}
use Rattle.tables.specs.Queues.{placed, without, headless, RowIn, InParts}
use Rattle.tables.proofs.Runs.{rows_nums_wide, rows_reals_wide}
use Rattle.tables.proofs.RowLaws.{live_most}
use Rattle.tables.proofs.HeapLaws.{heaped_is, heaped_long}
use Rattle.acts.specs.declared.queue.CellRow.{CellRow}
use Rattle.acts.specs.Queues.{RowOf}
use Rattle.acts.proofs.Rows.{full_placed, full_without, full_headless}
use Rattle.acts.proofs.Updates.{heaped_new}

pub on_yes : {A : Type 0} (P : A → Type 0) (b : Bool) (x y : A) → b ≡ true → P x → P (cond b x y)
on_yes P b x y e p = subst (λ (t : Bool). P (cond t x y)) (sym e) p

pub on_no : {A : Type 0} (P : A → Type 0) (b : Bool) (x y : A) → b ≡ false → P y → P (cond b x y)
on_no P b x y e p = subst (λ (t : Bool). P (cond t x y)) (sym e) p

-- ---- all rows

-- the first element of chunk c; past the chunks, the default
flat_get : {A B : Type 0} (enc : A → List B) (w : ℕ) (xs : List A) (c : ℕ) (d : B) (z : A) → 0 < w → All (λ (x : A). length (enc x) ≡ w) xs → get_or (enc z) 0 d ≡ d
    → get_or (flat enc xs) (c * w) d ≡ get_or (enc (get_or xs c z)) 0 d
flat_get enc w [] c d z p v e = sym e
flat_get enc w (x ∷ xs) zero d z p v e =
    ap (λ k. get_or (enc x ++ flat enc xs) k d) (zero-mul w) ∙ get_or-append (enc x) (flat enc xs) d 0 (omega (arith, v.0))
flat_get enc w (x ∷ xs) (suc c) d z p v e =
    ap (λ k. get_or (enc x ++ flat enc xs) k d) (let s = suc-mul c w in omega (arith, v.0)) ∙ get_or-append-add (enc x) (flat enc xs) (c * w) d ∙ flat_get enc w xs c d z p v.1 e

module _ {z : Sizes} {nums : List ℕ} {reals : List Float} {qs : List (Row Place)} (t : Tabled z nums reals qs) where
  inside : (c : ℕ) → c < z.cells → c < length qs
  inside c h = omega (arith, t.many)

  -- the tables' lengths
  pub queue_long : length nums ≡ queue_from z.room z.cells
  queue_long = ap length t.queue_is ∙ length_flat queue_nums (queue_wide z.room) qs (rows_nums_wide z.room qs t.full) ∙ ap (λ (m : ℕ). m * queue_wide z.room) t.many

  pub events_long : length reals ≡ events_from z.room z.cells
  events_long = ap length t.events_is ∙ length_flat queue_reals (events_wide z.room) qs (rows_reals_wide z.room qs t.full) ∙ ap (λ (m : ℕ). m * events_wide z.room) t.many

  pub full_at : (c : ℕ) → c < z.cells → Full z.room (get_or qs c none)
  full_at c h = all_at (Full z.room) qs c none t.full (inside c h)

  -- how many events a cell holds
  pub count_at : (c : ℕ) → get_or nums (queue_from z.room c) 0 ≡ length (live_at qs c)
  count_at c = ap (λ (l : List ℕ). get_or l (queue_from z.room c) 0) t.queue_is ∙ flat_get queue_nums (queue_wide z.room) qs c 0 none (omega arith) (rows_nums_wide z.room qs t.full) refl

  -- the first event of a cell that holds some
  time_at_lem : 0 < z.room → (c : ℕ) (x : Place) (l : List Place) → live_at qs c ≡ x ∷ l → get_or reals (events_from z.room c) nan ≡ x.time
  time_at_lem k c x l e =
      ap (λ (l : List Float). get_or l (events_from z.room c) nan) t.events_is ∙ flat_get queue_reals (events_wide z.room) qs c nan none (omega arith) (rows_reals_wide z.room qs t.full) refl
      ∙ ap (λ (m : List Place). get_or (flat place_reals (m ++ (get_or qs c none).spare)) 0 nan) e

  -- its time is within the table
  time_there : 0 < z.room → (c : ℕ) (x : Place) (l : List Place) → live_at qs c ≡ x ∷ l → events_from z.room c < length reals
  time_there k c x l e = elim (dec_le z.cells c) [
    | yes o ↦ absurd (suc-ne-zero (length l) (ap length (sym e ∙ ap (λ (r : Row Place). r.live) (get_or-eq_default qs none (omega (arith, t.many))))))
    | no n ↦ let i = chunk_in c z.cells (events_wide z.room) (omega arith) in omega (arith, events_long)
  ]

  -- each cell's head, also past the cells
  pub heads_at : 0 < z.room → (c : ℕ) → head_in reals nums z.room c ≡ heads qs c
  unfolding heads
  heads_at k c = by (live_at qs c) refl
    where
      by : (l : List Place) → live_at qs c ≡ l → head_in reals nums z.room c ≡ heads qs c
      by [] e = head_none reals nums z.room c (count_at c ∙ ap length e) ∙ sym (ap head_time e)
      by (x ∷ l) e =
          head_some reals nums z.room c (time_there k c x l e) (λ w. suc-ne-zero (length l) (sym (ap length e) ∙ sym (count_at c) ∙ w))
          ∙ ap Some (time_at_lem k c x l e) ∙ sym (ap head_time e)

  pub heads_are : 0 < z.room → head_in reals nums z.room ≡ heads qs
  heads_are k = λ i c. heads_at k c i

-- ---- one cell's row
module _ {z : Sizes} {nums : List ℕ} {reals : List Float} {qs : List (Row Place)} (t : Tabled z nums reals qs) {c : ℕ} {k : CellRow} (K : RowOf z nums reals c k) (h : c < z.cells) where
  abbrev old : Row Place
  old = get_or qs c none

  nums_from : k.nums.from ≡ queue_from z.room c
  nums_from = ap (λ (p : Part). p.from) K.nums_are

  nums_wide : k.nums.to - k.nums.from ≡ queue_wide z.room
  nums_wide = let a = nums_from in let b = ap (λ (p : Part). p.to) K.nums_are in omega arith

  reals_from : k.reals.from ≡ events_from z.room c
  reals_from = ap (λ (p : Part). p.from) K.reals_are

  reals_wide : k.reals.to - k.reals.from ≡ events_wide z.room
  reals_wide = let a = reals_from in let b = ap (λ (p : Part). p.to) K.reals_are in omega arith

  -- the parts hold it
  pub row_at : RowIn (lent k.nums nums) (lent k.reals reals) old
  row_at = record {
    nums_is = chunk_mid queue_nums (queue_wide z.room) qs c none k.nums.from (k.nums.to - k.nums.from) (rows_nums_wide z.room qs t.full) (inside t c h) t.queue_is nums_from nums_wide;
    reals_is = chunk_mid queue_reals (events_wide z.room) qs c none k.reals.from (k.reals.to - k.reals.from) (rows_reals_wide z.room qs t.full) (inside t c h) t.events_is reals_from reals_wide;
  }

  pub row_count : count_in (lent k.nums nums) ≡ length old.live
  row_count = ap count_in row_at.nums_is

  pub count_there : 0 < length (lent k.nums nums)
  count_there = let e = ap length row_at.nums_is in omega arith

  pub row_few : z.room ≤ 256 → length (places old) ≤ 256
  row_few m = let f = full_at t c h in omega arith

  -- with another row put there the tables hold that one
  pub put_row : (r : Row Place) {ns : List ℕ} {rs : List Float} → Full z.room r → RowIn ns rs r → Tabled z (back k.nums nums ns) (back k.reals reals rs) (set qs c r)
  put_row r g u = record {
    queue_is = chunk_put queue_nums (queue_wide z.room) qs c none r k.nums.from (k.nums.to - k.nums.from) (rows_nums_wide z.room qs t.full) (inside t c h) t.queue_is nums_from nums_wide u.nums_is;
    events_is = chunk_put queue_reals (events_wide z.room) qs c none r k.reals.from (k.reals.to - k.reals.from) (rows_reals_wide z.room qs t.full) (inside t c h) t.events_is reals_from reals_wide u.reals_is;
    many = length-set qs c r ∙ t.many;
    full = all_set (Full z.room) qs c r t.full g;
  }

-- ---- the state, after one cell's row and the heap are renewed

head_here : (s : State) (c : ℕ) (r : Row Place) → c < length s.queues → heads (set s.queues c r) c ≡ head_time r.live
unfolding heads
head_here s c r h = ap (λ (x : Row Place). head_time x.live) (get_or-set_same s.queues c r none h)

pub requeued_held : {z : Sizes} {nums ns : List ℕ} {reals rs : List Float} {order order₁ : List ℕ} (s : State) (c : ℕ) (r : Row Place) (before : Head)
    → Queued z nums reals order s → c < z.cells → before ≡ head_in reals nums z.room c
    → Tabled z ns rs (set s.queues c r)
    → order₁ ≡ order_bytes (updated (head_in rs ns z.room) (scheduler_of z.cells order) c before (head_in rs ns z.room c))
    → Queued z ns rs order₁ (requeued c r s)
unfolding requeued
requeued_held {z = z} {order = order} s c r before q h eb t e =
    let qs : List (Row Place) = set s.queues c r in
    let some : 0 < z.room = q.ranged.room_some in
    let here : heads qs c ≡ head_time r.live = head_here s c r (let m = q.tables.many in omega arith) in
    record {
      ranged = q.ranged;
      tables = t;
      heap = heaped_new (heads qs) c (heads s.queues c) (head_time r.live) q.heap
          (e
          ∙ ap (λ (f : ℕ → Head). order_bytes (updated f (scheduler_of z.cells order) c before (f c))) (heads_are t some)
          ∙ ap (λ (b : Head). order_bytes (updated (heads qs) (scheduler_of z.cells order) c b (heads qs c))) (eb ∙ heads_at q.tables some c)
          ∙ ap (λ (a : Head). order_bytes (updated (heads qs) (scheduler_of z.cells order) c (heads s.queues c) a)) here
          ∙ ap (λ (x : Scheduler). order_bytes (updated (heads qs) x c (heads s.queues c) (head_time r.live))) (heaped_is q.heap));
      room_is = q.room_is;
    }

-- ---- what the acts ask of those they call

module _ {z : Sizes} {nums : List ℕ} {reals : List Float} {order : List ℕ} {s : State} (q : Queued z nums reals order s) {c : ℕ} (h : c < z.cells) where
  pub row_asks : Ranged z × (c < z.cells) × (length nums ≡ queue_from z.room z.cells) × (length reals ≡ events_from z.room z.cells)
  row_asks = (q.ranged, h, queue_long q.tables, events_long q.tables)

  pub update_asks : {ns : List ℕ} {rs : List Float} {qs : List (Row Place)} → Tabled z ns rs qs
      → (length order ≡ order_wide) × (z.cells ≤ 256) × (c < 256) × (z.room ≤ 256)
  update_asks t = (heaped_long q.heap, q.ranged.cells_most, omega (arith, q.ranged.cells_most), q.ranged.room_most)

-- what a leaf on rows makes of any row that the parts hold
abbrev pub Makes : (Row Place → Row Place) → List ℕ → List Float → List ℕ → List Float → Type 0
Makes f nums reals ns rs = (r : Row Place) → RowIn nums reals r → RowIn ns rs (f r)

abbrev pub Takes : Place → List ℕ → List Float → List ℕ → List Float → Type 0
Takes x nums reals ns rs = (r : Row Place) → RowIn nums reals r → (x ≡ head_place r.live) × RowIn ns rs (headless r)

-- ---- insertion

module _ {z : Sizes} {nums : List ℕ} {reals : List Float} {order : List ℕ} (c : ℕ) (e : Place) (s : State) (q : Queued z nums reals order s) where
  abbrev full : Out State
  full = cond (ltb (length (queue s c)) s.room) (out 0 (inserted c e s)) (out 6 s)

  pub insert_five : fine_place e ≡ false → Told z nums reals order 5 (insert c e s)
  unfolding insert
  insert_five f = on_no (Told z nums reals order 5) (fine_place e) full (out 5 s) f (refl, q)

  module _ {k : CellRow} (K : RowOf z nums reals c k) (h : c < z.cells) (f : fine_place e ≡ true) where
    pub insert-six : z.room ≤ count_in (lent k.nums nums) → Told z nums reals order 6 (insert c e s)
    unfolding insert
    insert-six l =
        on_yes (Told z nums reals order 6) (fine_place e) full (out 5 s) f
        (on_no (Told z nums reals order 6) (ltb (length (queue s c)) s.room) (out 0 (inserted c e s)) (out 6 s)
        (le-ltb (length (queue s c)) s.room (let n = row_count q.tables K h in let m = q.room_is in omega arith)) (refl, q))

    -- what the leaf asks, and what the tables hold once the row is in
    pub insert-asks : count_in (lent k.nums nums) < z.room → InParts (lent k.nums nums) (lent k.reals reals) (λ r. length r.live < length (places r))
    insert-asks l = (
      get_or s.queues c none,
      row_at q.tables K h,
      row_few q.tables K h q.ranged.room_most,
      let n = row_count q.tables K h in let m = full_at q.tables c h in omega arith,
    )

    pub insert-tables : {ns : List ℕ} {rs : List Float} → count_in (lent k.nums nums) < z.room
        → Makes (placed e) (lent k.nums nums) (lent k.reals reals) ns rs
        → Tabled z (back k.nums nums ns) (back k.reals reals rs) (set s.queues c (placed e (get_or s.queues c none)))
    insert-tables l done =
        let r : Row Place = get_or s.queues c none in
        let n = row_count q.tables K h in
        put_row q.tables K h (placed e r) (full_placed e r.live r.spare (full_at q.tables c h) (omega arith)) (done r (row_at q.tables K h))

    pub insert-done : {ns : List ℕ} {rs : List Float} {order₁ : List ℕ} → count_in (lent k.nums nums) < z.room
        → Tabled z ns rs (set s.queues c (placed e (get_or s.queues c none)))
        → order₁ ≡ order_bytes (updated (head_in rs ns z.room) (scheduler_of z.cells order) c k.head (head_in rs ns z.room c))
        → Told z ns rs order₁ 0 (insert c e s)
    unfolding insert
    insert-done {ns} {rs} {order₁} l t ea =
        on_yes (Told z ns rs order₁ 0) (fine_place e) full (out 5 s) f
        (on_yes (Told z ns rs order₁ 0) (ltb (length (queue s c)) s.room) (out 0 (inserted c e s)) (out 6 s)
        (lt-ltb (length (queue s c)) s.room (let n = row_count q.tables K h in let m = q.room_is in omega arith))
        (refl, requeued_held s c (placed e (get_or s.queues c none)) k.head q h K.head_is t ea))

-- ---- cancelling

module _ {z : Sizes} {nums : List ℕ} {reals : List Float} {order : List ℕ} (c g : ℕ) (s : State) (q : Queued z nums reals order s) {k : CellRow} (K : RowOf z nums reals c k) (h : c < z.cells) where
  pub cancel_asks : InParts (lent k.nums nums) (lent k.reals reals) (λ r. length r.live ≤ length (places r))
  cancel_asks = (get_or s.queues c none, row_at q.tables K h, row_few q.tables K h q.ranged.room_most, live_most (get_or s.queues c none))

  pub cancel_tables : {ns : List ℕ} {rs : List Float} → Makes (without g) (lent k.nums nums) (lent k.reals reals) ns rs
      → Tabled z (back k.nums nums ns) (back k.reals reals rs) (set s.queues c (without g (get_or s.queues c none)))
  cancel_tables done =
      let r : Row Place = get_or s.queues c none in
      put_row q.tables K h (without g r) (full_without g r (full_at q.tables c h)) (done r (row_at q.tables K h))

  pub cancel_done : {ns : List ℕ} {rs : List Float} {order₁ : List ℕ} → Tabled z ns rs (set s.queues c (without g (get_or s.queues c none)))
      → order₁ ≡ order_bytes (updated (head_in rs ns z.room) (scheduler_of z.cells order) c k.head (head_in rs ns z.room c))
      → (◌≡◌ {A = ℕ} 0 0) × Queued z ns rs order₁ (cancelled g c s)
  unfolding cancelled
  cancel_done t ea = (refl, requeued_held s c (without g (get_or s.queues c none)) k.head q h K.head_is t ea)

-- ---- the head

-- the clock is not among what these tables hold
pub clock_held : {z : Sizes} {nums : List ℕ} {reals : List Float} {order : List ℕ} {s : State} (t : Float) → Queued z nums reals order s → Queued z nums reals order (with_clock t s)
clock_held t q = record { ranged = q.ranged; tables = q.tables; heap = q.heap; room_is = q.room_is }

module _ {z : Sizes} {nums : List ℕ} {reals : List Float} {order : List ℕ} (c : ℕ) (s : State) (q : Queued z nums reals order s) {k : CellRow} (K : RowOf z nums reals c k) (h : c < z.cells)
    (l : 0 < get_or nums (queue_from z.room c) 0) where
  some_there : 0 < length (queue s c)
  some_there = omega (arith, count_at q.tables c)

  pub take_asks : InParts (lent k.nums nums) (lent k.reals reals) (λ r. 0 < length r.live)
  take_asks = (get_or s.queues c none, row_at q.tables K h, row_few q.tables K h q.ranged.room_most, some_there)

  pub take_tables : {ns : List ℕ} {rs : List Float} {x : Place} → Takes x (lent k.nums nums) (lent k.reals reals) ns rs
      → Tabled z (back k.nums nums ns) (back k.reals reals rs) (set s.queues c (headless (get_or s.queues c none)))
  take_tables got =
      let r : Row Place = get_or s.queues c none in
      put_row q.tables K h (headless r) (full_headless r.live r.spare some_there (full_at q.tables c h)) (got r (row_at q.tables K h)).1

  pub take_done : {ns ns₁ : List ℕ} {rs rs₁ : List Float} {order₁ : List ℕ} {x : Place} → Takes x (lent k.nums nums) (lent k.reals reals) ns₁ rs₁
      → Tabled z ns rs (set s.queues c (headless (get_or s.queues c none)))
      → order₁ ≡ order_bytes (updated (head_in rs ns z.room) (scheduler_of z.cells order) c k.head (head_in rs ns z.room c))
      → c ≡ first s → (x ≡ head s) × Queued z ns rs order₁ (taken s)
  unfolding taken
  take_done {ns = ns} {rs = rs} {order₁ = order₁} got t ea e = (
    (got (get_or s.queues c none) (row_at q.tables K h)).0 ∙ ap (λ (n : ℕ). head_place (queue s n)) e,
    clock_held (head s).time (subst (λ (n : ℕ). Queued z ns rs order₁ (requeued n (headless (get_or s.queues n none)) s)) e
        (requeued_held s c (headless (get_or s.queues c none)) k.head q h K.head_is t ea)),
  )
