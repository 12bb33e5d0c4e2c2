-- The stages of check 10 and of the whole check, as the code answers them; what a passed check 2 says; rows as they are lent. Assumes nothing.
use mathlib.Core.Path.{◌≡◌, refl, sym, ap, ◌∙◌}
use Prim.Native.Nat.{ℕ, ◌+◌, ◌*◌, ◌≤◌}
use native.Mathlib.Omega.{arith}
use mathlib.Core.List.{List}
use mathlib.Core.Bool.{Bool, true, false, ◌&&◌}
use lib.Dec.{leb}
use lib.ListN.{length, take, length-drop}
use lib.Seq.{length-take-le}
use lib.Ieee.{Float}
use borrow.Author.Tests.{leb-true, le-leb}
use Rattle.layout.specs.Widths.{lists_head_wide, home_room, member_room, home_wide, members_wide, home_from, queue_wide, order_wide}
use Rattle.model.specs.declared.refusal.Halt.{Halt}
use Rattle.model.specs.declared.refusal.Halt.TheVariants.{NotFinite, QueueFull, ListFull, AlreadyListed, OnlyCell}
use Rattle.model.specs.Refusals.{halt_number}
use Rattle.model.specs.Sizes.{most_grains, least_room, most_room, fewest_cells, most_cells, counts_ok, cells_ok, rated}
use Rattle.model.specs.declared.Place.{Place}
use Rattle.model.specs.State.{Row}
use Rattle.model.specs.Check.{linked, queued, halt}
use Rattle.halting.proofs.Bools.{and_l, and_r}
use Rattle.tables.specs.declared.Sizes.{Sizes}
use Rattle.tables.specs.Decode.{Tables, mark, sizes_of, clock_in, rows_of, queues_of, homes_part, members_part}
use Rattle.checks.specs.Check.{ranged, sized_by, sized, legible_by, standing, checked}
use Rattle.checks.specs.Inside.{Sized, Legible, Rowed}
use Rattle.tables.specs.Lengths.{lists_need, grains_need, queue_need, events_need, long}
use Rattle.checks.proofs.Chunks.{counts_taken, rows_taken, queues_taken}
use Rattle.checks.proofs.Same.{homes_in, members_in, settled_in, linked_in, queued_in, heaped_in, parts_are}

-- ---- 2
pub ranged_means : (z : Sizes) → ranged z ≡ true → (z.grains ≤ 256) × (9 ≤ z.cells) × (z.cells ≤ 256) × (16 ≤ z.room) × (z.room ≤ 256)
ranged_means z a =
    let counts = and_l (counts_ok z.room z.grains) (cells_ok z.cells) a in
    let cells = and_r (counts_ok z.room z.grains) (cells_ok z.cells) a in
    let rooms = and_r (leb z.grains most_grains) (leb least_room z.room && leb z.room most_room) counts in (
      leb-true _ _ (and_l (leb z.grains most_grains) (leb least_room z.room && leb z.room most_room) counts),
      leb-true _ _ (and_l (leb fewest_cells z.cells) (leb z.cells most_cells) cells),
      leb-true _ _ (and_r (leb fewest_cells z.cells) (leb z.cells most_cells) cells),
      leb-true _ _ (and_l (leb least_room z.room) (leb z.room most_room) rooms),
      leb-true _ _ (and_r (leb least_room z.room) (leb z.room most_room) rooms),
    )

-- with the counts as they are read
module _ (l : List ℕ) (g q e o : ℕ) {z : Sizes} (h : lists_head_wide ≤ length l) (s : z ≡ sizes_of l) where
  pub sized_no : ranged z ≡ false → false ≡ sized_by l g q e o
  unfolding sized_by
  sized_no f = rw (le-leb _ _ h, sym (ap ranged s) ∙ f)

  pub sized_more : {r : Bool} → ranged z ≡ true → r ≡ long z (length l) g q e o → r ≡ sized_by l g q e o
  unfolding sized_by
  sized_more f k = rw (le-leb _ _ h, sym (ap ranged s) ∙ f) (k ∙ ap (λ (y : Sizes). long y (length l) g q e o) s)

pub sized_means : (t : Tables) → sized t ≡ true → Sized (sizes_of t.lists) t
unfolding sized_by
sized_means t e =
    let z = sizes_of t.lists in
    let l = length t.lists in
    let r = and_r (leb lists_head_wide l) (ranged z && long z l (length t.grains) (length t.queue) (length t.events) (length t.order)) e in
    let a = ranged_means z (and_l (ranged z) (long z l (length t.grains) (length t.queue) (length t.events) (length t.order)) r) in
    let b = and_r (ranged z) (long z l (length t.grains) (length t.queue) (length t.events) (length t.order)) r in
    let lg = and_l (leb (lists_need z) l && leb (grains_need z) (length t.grains)) ((leb (queue_need z) (length t.queue) && leb (events_need z) (length t.events)) && leb order_wide (length t.order)) b in
    let qo = and_r (leb (lists_need z) l && leb (grains_need z) (length t.grains)) ((leb (queue_need z) (length t.queue) && leb (events_need z) (length t.events)) && leb order_wide (length t.order)) b in
    let qe = and_l (leb (queue_need z) (length t.queue) && leb (events_need z) (length t.events)) (leb order_wide (length t.order)) qo in
    record {
      sizes = refl;
      grains_most = a.0;
      cells_least = a.1;
      cells_most = a.2;
      room_least = a.3;
      room_most = a.4;
      lists_long = leb-true _ _ (and_l (leb (lists_need z) l) (leb (grains_need z) (length t.grains)) lg);
      grains_long = leb-true _ _ (and_r (leb (lists_need z) l) (leb (grains_need z) (length t.grains)) lg);
      queue_long = leb-true _ _ (and_l (leb (queue_need z) (length t.queue)) (leb (events_need z) (length t.events)) qe);
      events_long = leb-true _ _ (and_r (leb (queue_need z) (length t.queue)) (leb (events_need z) (length t.events)) qe);
      order_long = leb-true _ _ (and_r (leb (queue_need z) (length t.queue) && leb (events_need z) (length t.events)) (leb order_wide (length t.order)) qo);
    }

pub means_sized : (t : Tables) → Sized (sizes_of t.lists) t → sized t ≡ true
unfolding sized_by
means_sized t S =
    rw (
      le-leb lists_head_wide (length t.lists) (let h = S.lists_long in omega arith),
      le-leb _ _ S.grains_most,
      le-leb _ _ S.cells_least,
      le-leb _ _ S.cells_most,
      le-leb _ _ S.room_least,
      le-leb _ _ S.room_most,
      le-leb _ _ S.lists_long,
      le-leb _ _ S.grains_long,
      le-leb _ _ S.queue_long,
      le-leb _ _ S.events_long,
      le-leb _ _ S.order_long,
    )

-- ---- the rows of numbers and of events, in the parts of the tables that are as long as they are
module _ (z : Sizes) (t : Tables) (S : Sized z t) (L : Legible z t.lists t.queue) where
  pub homes_rowed : Rowed home_room home_wide z.grains (take (z.grains * home_wide) (homes_part t.lists))
  homes_rowed = record {
    counts = counts_taken home_room home_wide (omega arith) z.grains (homes_part t.lists) ∙ L.homes;
    whole = length-take-le _ _ (let h = S.lists_long in let e = length-drop lists_head_wide t.lists in omega arith);
  }

  pub members_rowed : Rowed member_room members_wide z.cells (take (z.cells * members_wide) (members_part z.grains t.lists))
  members_rowed = record {
    counts = counts_taken member_room members_wide (omega arith) z.cells (members_part z.grains t.lists) ∙ L.members;
    whole = length-take-le _ _ (let h = S.lists_long in let e = length-drop (lists_head_wide + home_from z.grains) t.lists in omega arith);
  }

  pub queue_rowed : Rowed z.room (queue_wide z.room) z.cells (take (queue_need z) t.queue)
  queue_rowed = record {
    counts = counts_taken z.room (queue_wide z.room) (omega arith) z.cells t.queue ∙ L.events;
    whole = length-take-le _ _ S.queue_long;
  }

-- ---- 10, up to the first test that fails
module _ (z : Sizes) (t : Tables) (S : Sized z t) where
  abbrev a : Bool
  a = legible_by z t.lists t.queue

  pub part_1 : a ≡ false → false ≡ standing t
  part_1 e = rw (sym (parts_are z t S), e)

  pub part_2 : a ≡ true → settled_in z t ≡ false → false ≡ standing t
  part_2 e f = rw (sym (parts_are z t S), e, f)

  pub part_3 : a ≡ true → settled_in z t ≡ true → linked_in z t ≡ false → false ≡ standing t
  part_3 e f g = rw (sym (parts_are z t S), e, f, g)

  pub part_4 : a ≡ true → settled_in z t ≡ true → linked_in z t ≡ true → queued_in z t ≡ false → false ≡ standing t
  part_4 e f g h = rw (sym (parts_are z t S), e, f, g, h)

  pub part_5 : {r : Bool} → a ≡ true → settled_in z t ≡ true → linked_in z t ≡ true → queued_in z t ≡ true → r ≡ heaped_in z t → r ≡ standing t
  part_5 e f g h i = rw (sym (parts_are z t S), e, f, g, h) i

-- with the rows as the code cuts them out
module _ (z : Sizes) (t : Tables) where
  pub linked_lent : {r : Bool} {h m : List ℕ} → h ≡ take (z.grains * home_wide) (homes_part t.lists) → m ≡ take (z.cells * members_wide) (members_part z.grains t.lists)
      → r ≡ linked z.grains z.cells (rows_of home_room z.grains h) (rows_of member_room z.cells m) → r ≡ linked_in z t
  linked_lent {m = m} a b e =
      e ∙ ap (λ (x : List (Row ℕ)). linked z.grains z.cells x (rows_of member_room z.cells m)) (ap (λ (l : List ℕ). rows_of home_room z.grains l) a ∙ rows_taken home_room z.grains (homes_part t.lists))
      ∙ ap (λ (x : List (Row ℕ)). linked z.grains z.cells (homes_in z t) x) (ap (λ (l : List ℕ). rows_of member_room z.cells l) b ∙ rows_taken member_room z.cells (members_part z.grains t.lists))

  pub queued_lent : {r : Bool} {c : Float} {m q : List ℕ} {k : ℕ} → c ≡ clock_in t.grains → m ≡ take (z.cells * members_wide) (members_part z.grains t.lists) → q ≡ take (queue_need z) t.queue → k ≡ events_need z
      → r ≡ queued c z.room z.cells (rows_of member_room z.cells m) (queues_of z.room z.cells q (take k t.events)) → r ≡ queued_in z t
  queued_lent {m = m} {q = q} {k = k} h a b d e =
      e ∙ ap (λ (x : Float). queued x z.room z.cells (rows_of member_room z.cells m) (queues_of z.room z.cells q (take k t.events))) h
      ∙ ap (λ (x : List (Row ℕ)). queued (clock_in t.grains) z.room z.cells x (queues_of z.room z.cells q (take k t.events))) (ap (λ (l : List ℕ). rows_of member_room z.cells l) a ∙ rows_taken member_room z.cells (members_part z.grains t.lists))
      ∙ ap (λ (x : List (Row Place)). queued (clock_in t.grains) z.room z.cells (members_in z t) x)
      (ap (λ (l : List ℕ). queues_of z.room z.cells l (take k t.events)) b ∙ ap (λ (j : ℕ). queues_of z.room z.cells (take (queue_need z) t.queue) (take j t.events)) d ∙ queues_taken z.room z.cells t.queue t.events)

-- the marks are the numbers of the halts
pub halt_marks : (h : Halt) → halt (halt_number h) ≡ true
halt_marks NotFinite = refl
halt_marks QueueFull = refl
halt_marks ListFull = refl
halt_marks AlreadyListed = refl
halt_marks OnlyCell = refl

-- ---- 2, the mark, 3, 10
module _ (rate : Float) (t : Tables) where
  pub check_2 : sized t ≡ false → 2 ≡ checked rate t
  unfolding checked
  check_2 e = rw e

  pub check_mark : sized t ≡ true → halt (mark t.lists) ≡ true → mark t.lists ≡ checked rate t
  unfolding checked
  check_mark e f = rw (e, f)

  pub check_3 : sized t ≡ true → halt (mark t.lists) ≡ false → rated rate ≡ false → 3 ≡ checked rate t
  unfolding checked
  check_3 e f g = rw (e, f, g)

  pub check_10 : sized t ≡ true → halt (mark t.lists) ≡ false → rated rate ≡ true → standing t ≡ false → 10 ≡ checked rate t
  unfolding checked
  check_10 e f g h = rw (e, f, g, h)

  pub check_0 : sized t ≡ true → halt (mark t.lists) ≡ false → rated rate ≡ true → standing t ≡ true → 0 ≡ checked rate t
  unfolding checked
  check_0 e f g h = rw (e, f, g, h)
