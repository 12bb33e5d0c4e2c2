-- Tables that are long enough, whose counts are within their room, hold the state that they are read as, once its facts stand. Assumes nothing.
use mathlib.Core.Path.{◌≡◌, refl, sym, ap, ◌∙◌, subst}
use Prim.Native.Nat.{ℕ, zero, suc, ◌+◌, ◌-◌, ◌*◌, ◌≤◌, ◌<◌}
use native.Mathlib.Nat.{zero-mul, suc-mul, mul-le-mul_right}
use native.Mathlib.Numerals.{add-one}
use native.Mathlib.Omega.{arith}
use mathlib.Core.List.{List, [], ◌∷◌, ◌++◌}
use mathlib.Core.Bool.{true}
use lib.ListN.{length, get_or, take, drop, length-append, length-drop, take-append-drop}
use lib.Seq.{take-add, drop-drop, length-take-le}
use lib.Ieee.{Float, nan}
use Rattle.chunks.proofs.Laws.{take_tab}
use Rattle.layout.specs.Widths.{lists_head_wide, grains_head_wide, grain_wide, home_room, member_room, members_wide, home_from, place_nums_wide, place_reals_wide, queue_wide, events_wide}
use Rattle.halting.specs.Every.{All}
use Rattle.halting.proofs.All.{all_of}
use Rattle.chunks.specs.Flat.{flat}
use Rattle.model.specs.declared.Place.{Place}
use Rattle.model.specs.Grid.{cells}
use Rattle.model.specs.State.{Row, none, listed}
use Rattle.model.proofs.Sound.{Numbers, Side, Stands}
use Rattle.model.proofs.Lists.{has_all}
use Rattle.tables.specs.declared.Sizes.{Sizes}
use Rattle.tables.specs.Layout.{places, grain_reals, row_nums, place_nums, place_reals, queue_nums, queue_reals}
use Rattle.tables.specs.Holds.{Grained, Rows, Listed, Full, Tabled, Heaped, Holds}
use Rattle.tables.proofs.Runs.{full_of}
use Rattle.tables.specs.Decode.{Tables, decoded_by, cut, cut_both, grains_part, grain_at, row_at, rows_of, place_at, places_of, queue_at}
use Rattle.checks.specs.Check.{counts_within}
use Rattle.checks.specs.Inside.{Legible, Sized}
use Rattle.tables.specs.Lengths.{lists_need, grains_need}
use Rattle.tables.specs.Bodies.{lists_body, grains_body, queue_body, events_body, order_body}
use Rattle.checks.proofs.Cut.{drop_next, cut_long, both_long, counted_at}
use Rattle.checks.proofs.OneRow.{row_read}

-- ---- records that are read are those that were written
module _ {A B : Type 0} (read : List B → A) (enc : A → List B) (w : ℕ) where
  cut_flat : (n : ℕ) (l : List B) → ((i : ℕ) → i < n → enc (read (drop (i * w) l)) ≡ take w (drop (i * w) l)) → flat enc (cut read w n l) ≡ take (n * w) l
  unfolding cut
  cut_flat zero l h = ap (λ (k : ℕ). take k l) (sym (zero-mul w))
  cut_flat (suc n) l h =
      ap (λ (x : List B). x ++ flat enc (cut read w n (drop w l))) (subst (λ (k : ℕ). enc (read (drop k l)) ≡ take w (drop k l)) (zero-mul w) (h 0 (omega arith)))
      ∙ ap (λ (x : List B). take w l ++ x) (cut_flat n (drop w l) (λ i g. subst (λ (x : List B). enc (read x) ≡ take w x) (sym (drop_next i w l)) (h (suc i) (omega arith))))
      ∙ sym (take-add w (n * w) l) ∙ (let e : w + n * w ≡ suc n * w = (let s = suc-mul n w in omega arith) in ap (λ (k : ℕ). take k l) e)

module _ {A B C : Type 0} (read : List B → List C → A) (w v : ℕ) where
  both_first : (enc : A → List B) (n : ℕ) (l : List B) (m : List C) → ((i : ℕ) → i < n → enc (read (drop (i * w) l) (drop (i * v) m)) ≡ take w (drop (i * w) l))
      → flat enc (cut_both read w v n l m) ≡ take (n * w) l
  unfolding cut_both
  both_first enc zero l m h = ap (λ (k : ℕ). take k l) (sym (zero-mul w))
  both_first enc (suc n) l m h =
      ap (λ (x : List B). x ++ flat enc (cut_both read w v n (drop w l) (drop v m))) (start (zero-mul w) (zero-mul v) (h 0 (omega arith)))
      ∙ ap (λ (x : List B). take w l ++ x) (both_first enc n (drop w l) (drop v m) (λ i g. next (drop_next i w l) (drop_next i v m) (h (suc i) (omega arith))))
      ∙ sym (take-add w (n * w) l) ∙ (let e : w + n * w ≡ suc n * w = (let s = suc-mul n w in omega arith) in ap (λ (k : ℕ). take k l) e)
    where
      start : {a b : ℕ} → a ≡ 0 → b ≡ 0 → enc (read (drop a l) (drop b m)) ≡ take w (drop a l) → enc (read l m) ≡ take w l
      start p q k = rw (p, q) at k

      next : {x x' : List B} {y y' : List C} → x ≡ x' → y ≡ y' → enc (read x' y') ≡ take w x' → enc (read x y) ≡ take w x
      next p q k = rw (p, q) k

  both_second : (enc : A → List C) (n : ℕ) (l : List B) (m : List C) → ((i : ℕ) → i < n → enc (read (drop (i * w) l) (drop (i * v) m)) ≡ take v (drop (i * v) m))
      → flat enc (cut_both read w v n l m) ≡ take (n * v) m
  unfolding cut_both
  both_second enc zero l m h = ap (λ (k : ℕ). take k m) (sym (zero-mul v))
  both_second enc (suc n) l m h =
      ap (λ (x : List C). x ++ flat enc (cut_both read w v n (drop w l) (drop v m))) (start (zero-mul w) (zero-mul v) (h 0 (omega arith)))
      ∙ ap (λ (x : List C). take v m ++ x) (both_second enc n (drop w l) (drop v m) (λ i g. next (drop_next i w l) (drop_next i v m) (h (suc i) (omega arith))))
      ∙ sym (take-add v (n * v) m) ∙ (let e : v + n * v ≡ suc n * v = (let s = suc-mul n v in omega arith) in ap (λ (k : ℕ). take k m) e)
    where
      start : {a b : ℕ} → a ≡ 0 → b ≡ 0 → enc (read (drop a l) (drop b m)) ≡ take v (drop b m) → enc (read l m) ≡ take v m
      start p q k = rw (p, q) at k

      next : {x x' : List B} {y y' : List C} → x ≡ x' → y ≡ y' → enc (read x' y') ≡ take v y' → enc (read x y) ≡ take v y
      next p q k = rw (p, q) k

-- record i of n has its places
inside : {B : Type 0} (n w i : ℕ) (l : List B) → n * w ≤ length l → i < n → w ≤ length (drop (i * w) l)
inside n w i l h g = let s = suc-mul i w in let m = mul-le-mul_right w g in let e = length-drop (i * w) l in omega arith

-- ---- each record
grain_read : (l : List Float) → grain_wide ≤ length l → grain_reals (grain_at l) ≡ take grain_wide l
grain_read l h = sym (take_tab l nan grain_wide 0 h)

places_nums : (n : ℕ) (q : List ℕ) (e : List Float) → n * place_nums_wide ≤ length q → flat place_nums (places_of n q e) ≡ take (n * place_nums_wide) q
places_nums n q e h = both_first place_at place_nums_wide place_reals_wide place_nums n q e (λ i g. sym (take_tab (drop (i * place_nums_wide) q) 0 place_nums_wide 0 (inside n place_nums_wide i q h g)))

places_reals : (n : ℕ) (q : List ℕ) (e : List Float) → n * place_reals_wide ≤ length e → flat place_reals (places_of n q e) ≡ take (n * place_reals_wide) e
places_reals n q e h = both_second place_at place_nums_wide place_reals_wide place_reals n q e (λ i g. sym (take_tab (drop (i * place_reals_wide) e) nan place_reals_wide 0 (inside n place_reals_wide i e h g)))

module _ (room : ℕ) (q : List ℕ) (e : List Float) (h : get_or q 0 0 ≤ room) where
  all_places : places (queue_at room q e) ≡ places_of room (drop 1 q) e
  all_places = take-append-drop (get_or q 0 0) (places_of room (drop 1 q) e)

  queue_nums_lem : queue_wide room ≤ length q → queue_nums (queue_at room q e) ≡ take (queue_wide room) q
  queue_nums_lem k =
      ap (λ (n : ℕ). n ∷ flat place_nums (places (queue_at room q e))) (length-take-le (get_or q 0 0) (places_of room (drop 1 q) e) (let l = both_long place_at place_nums_wide place_reals_wide room (drop 1 q) e in omega arith))
      ∙ ap (λ (ps : List Place). get_or q 0 0 ∷ flat place_nums ps) all_places
      ∙ ap (λ (x : List ℕ). get_or q 0 0 ∷ x) (places_nums room (drop 1 q) e (let l = length-drop 1 q in omega arith))
      ∙ whole q k
    where
      whole : (q : List ℕ) → queue_wide room ≤ length q → get_or q 0 0 ∷ take (room * place_nums_wide) (drop 1 q) ≡ take (queue_wide room) q
      whole [] k = absurd (omega arith)
      whole (x ∷ q) k = ap (λ (n : ℕ). take n (x ∷ q)) (sym (add-one (room * place_nums_wide)))

  queue_reals_lem : events_wide room ≤ length e → queue_reals (queue_at room q e) ≡ take (events_wide room) e
  queue_reals_lem k = ap (flat place_reals) all_places ∙ places_reals room (drop 1 q) e k

-- a side of the lists
pub side_rows : (k : ℕ) (rs : List (Row ℕ)) {a b m n : ℕ} → a ≡ m → b ≡ n → Side a b k rs → Rows m k n rs
side_rows k rs {m = m} {n = n} p q u = rows (rw (p, q) at u)
  where
    wide : (r : Row ℕ) → Numbers n k r → length (places r) ≡ k
    wide r f = length-append r.live r.spare ∙ f.full

    rows : Side m n k rs → Rows m k n rs
    rows s = record {
      many = s.long;
      wide = all_of (λ (r : Row ℕ). length (places r) ≡ k) none rs (λ i h. wide (get_or rs i none) (s.each i (let e = s.long in omega arith)));
      below = all_of (λ (r : Row ℕ). All (λ (x : ℕ). x < n) r.live) none rs
          (λ i h. has_all (λ (x : ℕ). x < n) (get_or rs i none).live (s.each i (let e = s.long in omega arith)).below);
    }

-- ---- what the tables hold
rows_flat : (v n : ℕ) (l : List ℕ) → counts_within v (v + 1) n l ≡ true → n * (v + 1) ≤ length l → flat row_nums (rows_of v n l) ≡ take (n * (v + 1)) l
rows_flat v n l c h = cut_flat (row_at v) row_nums (v + 1) n l (λ i g. row_read v (drop (i * (v + 1)) l) (counted_at v (v + 1) n l i c g) (inside n (v + 1) i l h g))

module _ (z : Sizes) (t : Tables) (S : Sized z t) (L : Legible z t.lists t.queue) (F : Stands (decoded_by z t)) where
  abbrev g9 : ℕ
  g9 = home_from z.grains

  cells_agree : cells (decoded_by z t).box ≡ z.cells
  cells_agree = sym F.sound.heap.cells

  grains_agree : length (decoded_by z t).grains ≡ z.grains
  grains_agree = cut_long grain_at grain_wide z.grains (grains_part t.grains)

  lists_held : Listed z (lists_body z t.lists) (decoded_by z t).homes (decoded_by z t).members
  lists_held =
      let l = t.lists in
      let need = S.lists_long in
      let d6 = length-drop lists_head_wide l in
      let dm = length-drop (lists_head_wide + g9) l in
      let k : lists_need z - lists_head_wide ≡ g9 + z.cells * members_wide = omega arith in
      record {
        is = ap (λ (n : ℕ). take n (drop lists_head_wide l)) k ∙ take-add g9 (z.cells * members_wide) (drop lists_head_wide l)
            ∙ ap (λ (x : List ℕ). take g9 (drop lists_head_wide l) ++ take (z.cells * members_wide) x) (drop-drop g9 lists_head_wide l)
            ∙ ap (λ (x : List ℕ). x ++ take (z.cells * members_wide) (drop (lists_head_wide + g9) l)) (sym (rows_flat home_room z.grains (drop lists_head_wide l) L.homes (omega arith)))
            ∙ ap (λ (x : List ℕ). flat row_nums (decoded_by z t).homes ++ x) (sym (rows_flat member_room z.cells (drop (lists_head_wide + g9) l) L.members (omega arith)));
        homes = side_rows home_room (decoded_by z t).homes grains_agree cells_agree F.sound.lists.homes;
        members = side_rows member_room (decoded_by z t).members cells_agree grains_agree F.sound.lists.members;
      }

  grains_held : Grained z (grains_body z t.grains) (decoded_by z t).grains
  grains_held =
      let need = S.grains_long in
      let d = length-drop grains_head_wide t.grains in
      let k : grains_need z - grains_head_wide ≡ z.grains * grain_wide = omega arith in
      record {
        is = ap (λ (n : ℕ). take n (drop grains_head_wide t.grains)) k
            ∙ sym (cut_flat grain_at grain_reals grain_wide z.grains (drop grains_head_wide t.grains) (λ i h. grain_read (drop (i * grain_wide) (drop grains_head_wide t.grains)) (inside z.grains grain_wide i (drop grains_head_wide t.grains) (omega arith) h)));
        many = grains_agree;
      }

  queues_held : Tabled z (queue_body z t.queue) (events_body z t.events) (decoded_by z t).queues
  queues_held =
      let w = queue_wide z.room in
      let v = events_wide z.room in
      let qs = (decoded_by z t).queues in
      let many : length qs ≡ z.cells = both_long (queue_at z.room) w v z.cells t.queue t.events in
      record {
        queue_is = sym (both_first (queue_at z.room) w v queue_nums z.cells t.queue t.events
            (λ i h. queue_nums_lem z.room (drop (i * w) t.queue) (drop (i * v) t.events) (counted_at z.room w z.cells t.queue i L.events h) (inside z.cells w i t.queue S.queue_long h)));
        events_is = sym (both_second (queue_at z.room) w v queue_reals z.cells t.queue t.events
            (λ i h. queue_reals_lem z.room (drop (i * w) t.queue) (drop (i * v) t.events) (counted_at z.room w z.cells t.queue i L.events h) (inside z.cells v i t.events S.events_long h)));
        many = many;
        full = all_of (Full z.room) none qs (λ i h. filled i (let e = cells_agree in omega arith));
      }
    where
      filled : (i : ℕ) → i < cells (decoded_by z t).box → Full z.room (get_or (decoded_by z t).queues i none)
      filled i h =
          full_of (cells (decoded_by z t).box) i (listed (decoded_by z t) i) (get_or (decoded_by z t).queues i none) (F.sound.queues i h)

  heap_held : Heaped z (order_body t.order) (decoded_by z t).sched
  heap_held = record {
    is = take-add 256 256 t.order;
    heap_long = F.sound.heap.inverse.heap_long;
    lookups_long = F.sound.heap.inverse.lookups_long;
    cells_is = refl;
  }

  -- THE TABLES HOLD THE STATE THAT THEY ARE READ AS
  pub held : Holds z (lists_body z t.lists) (grains_body z t.grains) (queue_body z t.queue) (events_body z t.events) (order_body t.order) (decoded_by z t)
  held = record {
    listed = lists_held;
    grained = grains_held;
    queued = record {
      ranged = record { grains_most = S.grains_most; cells_most = S.cells_most; room_some = (let h = S.room_least in omega arith); room_most = S.room_most };
      tables = queues_held;
      heap = heap_held;
      room_is = refl;
    };
  }
