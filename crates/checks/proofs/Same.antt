-- Check 10 over the parts of the tables that the code reads is the test of the standing facts on the state that they are read as. Assumes nothing.
use mathlib.Core.Path.{◌≡◌, refl, sym, ap, ◌∙◌}
use Prim.Native.Nat.{ℕ, ◌+◌, ◌*◌, ◌≤◌, ◌<◌}
use native.Mathlib.Omega.{arith}
use mathlib.Core.List.{List}
use mathlib.Core.Bool.{Bool, true, false, not, ◌&&◌, ◌||◌}
use lib.Dec.{eqb, leb, ltb}
use lib.ListN.{length, get_or, take, drop, length-drop}
use lib.Seq.{length-take-le}
use lib.Ieee.{Float}
use borrow.Author.Tests.{eq-eqb, le-leb, ltb-true}
use Rattle.layout.specs.Widths.{grain_wide, home_room, member_room, home_wide, members_wide, queue_wide, events_wide, heap_wide}
use Rattle.halting.specs.Every.{every}
use Rattle.halting.proofs.Tests.{true_every}
use Rattle.halting.proofs.Bools.{and_l, and_r}
use Rattle.scheduler.specs.Head.{Head, earlier}
use Rattle.scheduler.specs.Heap.{time_in, parent}
use Rattle.scheduler.specs.Inside.{head_in}
use Rattle.model.specs.State.{Row, heads}
use Rattle.model.specs.Check.{settled, linked, queued, inverse, in_order, heaped}
use Rattle.model.specs.Check as model
use Rattle.model.proofs.Turns.{every_same}
use Rattle.tables.specs.declared.Sizes.{Sizes}
use Rattle.tables.specs.Decode.{Tables, mark, box_in, clock_in, decoded_by, homes_part, members_part, grains_part, grain_at, grains_of, row_at, rows_of, queue_at, queues_of, flags_fine}
use Rattle.checks.specs.Check.{counts_within, legible_by, standing}
use Rattle.checks.specs.Inside.{Sized, Legible}
use Rattle.checks.proofs.Cut.{cut_long, both_long}
use Rattle.checks.proofs.Order.{time_in_lem}
use Rattle.checks.proofs.Heads.{heads_in}

-- ---- what the tables hold, part by part, and the tests of the parts
module _ (z : Sizes) (t : Tables) where
  abbrev pub homes_in : List (Row ℕ)
  homes_in = rows_of home_room z.grains (homes_part t.lists)

  abbrev pub members_in : List (Row ℕ)
  members_in = rows_of member_room z.cells (members_part z.grains t.lists)

  abbrev pub settled_in : Bool
  settled_in = settled (mark t.lists) (clock_in t.grains) (box_in t.lists t.grains) z.cells (grains_of z.grains (grains_part t.grains))

  abbrev pub linked_in : Bool
  linked_in = linked z.grains z.cells homes_in members_in

  abbrev pub queued_in : Bool
  queued_in = queued (clock_in t.grains) z.room z.cells members_in (queues_of z.room z.cells t.queue t.events)

  abbrev pub heaped_in : Bool
  heaped_in = heaped (head_in t.events t.queue z.room) z.cells (take heap_wide t.order) (take heap_wide (drop heap_wide t.order))

  -- in the code's order
  abbrev pub parts_in : Bool
  parts_in = legible_by z t.lists t.queue && (settled_in && (linked_in && (queued_in && heaped_in)))

-- ---- heads of cells in range are read alike
module _ (room n : ℕ) (q : List ℕ) (e : List Float) (heap lookups : List ℕ) (some : 0 < room) (long : n * events_wide room ≤ length e) where
  abbrev heads' : ℕ → Head
  heads' = heads (queues_of room n q e)

  abbrev head' : ℕ → Head
  head' = head_in e q room

  ordered_is : inverse n heap lookups ≡ true → every (in_order heads' heap n) n 0 ≡ every (in_order head' heap n) n 0
  ordered_is v = every_same (in_order heads' heap n) (in_order head' heap n) n 0 (λ i a h. turn i h)
    where
      at : (i : ℕ) → i < n → time_in heads' heap n i ≡ time_in head' heap n i
      at i h =
          let b : get_or heap i 0 < n = ltb-true (get_or heap i 0) n (and_l (ltb (get_or heap i 0) n) _ (true_every _ n 0 v i (omega arith) (omega arith))) in
          time_in_lem heads' heap n i h ∙ heads_in room n q e (get_or heap i 0) some b long ∙ sym (time_in_lem head' heap n i h)

      turn : (i : ℕ) → i < 0 + n → in_order heads' heap n i ≡ in_order head' heap n i
      turn i h =
          ap (λ (x : Head). eqb i 0 || not (earlier x (time_in heads' heap n (parent i)))) (at i (omega arith))
          ∙ ap (λ (x : Head). eqb i 0 || not (earlier (time_in head' heap n i) x)) (at (parent i) (omega arith))

  heaped_is : heaped heads' n heap lookups ≡ heaped head' n heap lookups
  unfolding heaped
  heaped_is = on (inverse n heap lookups) refl
    where
      on : (b : Bool) → inverse n heap lookups ≡ b → ◌≡◌ {A = Bool} (b && (inverse n lookups heap && every (in_order heads' heap n) n 0)) (b && (inverse n lookups heap && every (in_order head' heap n) n 0))
      on true e = ap (λ (x : Bool). inverse n lookups heap && x) (ordered_is e)
      on false e = refl

-- ---- counts within their room
pub legible_means : (z : Sizes) (l q : List ℕ) → legible_by z l q ≡ true → Legible z l q
legible_means z l q e =
    let a = counts_within home_room home_wide z.grains (homes_part l) in
    let b = counts_within member_room members_wide z.cells (members_part z.grains l) in
    let c = counts_within z.room (queue_wide z.room) z.cells q in
    let f = and_l (flags_fine l) (a && (b && c)) e in
    let r = and_r (flags_fine l) (a && (b && c)) e in
    let r2 = and_r a (b && c) r in
    record {
      flags = f;
      homes = and_l a (b && c) r;
      members = and_l b c r2;
      events = and_r b c r2;
    }

-- ---- the state has the shape that the counts say
module _ (z : Sizes) (t : Tables) (S : Sized z t) where
  grains_many : length (grains_of z.grains (grains_part t.grains)) ≡ z.grains
  grains_many = cut_long grain_at grain_wide z.grains (grains_part t.grains)

  shaped_is : model.shaped (decoded_by z t) ≡ true
  shaped_is =
      let a = length-take-le heap_wide t.order (let k = S.order_long in omega arith) in
      let b = length-take-le heap_wide (drop heap_wide t.order) (let k = S.order_long in let m = length-drop heap_wide t.order in omega arith) in
      let h = cut_long (row_at home_room) home_wide z.grains (homes_part t.lists) in
      let m = cut_long (row_at member_room) members_wide z.cells (members_part z.grains t.lists) in
      let q = both_long (queue_at z.room) (queue_wide z.room) (events_wide z.room) z.cells t.queue t.events in
      rw (
        ap (λ (n : ℕ). leb n 256) grains_many ∙ le-leb z.grains 256 S.grains_most,
        le-leb 16 z.room S.room_least,
        le-leb z.room 256 S.room_most,
        eq-eqb _ _ (h ∙ sym grains_many),
        eq-eqb _ _ m,
        eq-eqb _ _ q,
        le-leb z.cells 256 S.cells_most,
        eq-eqb _ _ a,
        eq-eqb _ _ b,
      )

  abbrev heaped_by : (ℕ → Head) → Bool
  heaped_by h = heaped h z.cells (take heap_wide t.order) (take heap_wide (drop heap_wide t.order))

  -- with so many grains, and these heads
  abbrev joined : ℕ → (ℕ → Head) → Bool
  joined g h = settled_in z t && (linked g z.cells (homes_in z t) (members_in z t) && (queued_in z t && heaped_by h))

  model_is : model.standing (decoded_by z t) ≡ joined z.grains (head_in t.events t.queue z.room)
  unfolding model.standing
  model_is =
      let h = heads (queues_of z.room z.cells t.queue t.events) in
      ap (λ (b : Bool). b && joined (length (grains_of z.grains (grains_part t.grains))) h) shaped_is
      ∙ ap (λ (g : ℕ). joined g h) grains_many
      ∙ ap (λ (b : Bool). settled_in z t && (linked_in z t && (queued_in z t && b)))
      (heaped_is z.room z.cells t.queue t.events (take heap_wide t.order) (take heap_wide (drop heap_wide t.order)) (let r = S.room_least in omega arith) S.events_long)

  -- THE CODE'S TEST IS 01's
  pub parts_are : parts_in z t ≡ standing t
  unfolding standing
  parts_are =
      sym (ap (λ (y : Sizes). legible_by y t.lists t.queue && model.standing (decoded_by y t)) (sym S.sizes) ∙ ap (λ (b : Bool). legible_by z t.lists t.queue && b) model_is)
