-- An accepted start, from what its calls say: grains in and then the first events (fill), and the tables around the parts (begin). Assumes nothing.
use Prim.Native.Nat.{ℕ, ◌+◌, ◌-◌, ◌*◌, ◌≤◌}
use mathlib.Core.Path.{◌≡◌, refl, sym, ap, ◌∙◌, subst}
use mathlib.Core.List.{List, [], ◌++◌}
use native.Mathlib.Omega.{arith}
use lib.ListN.{length, replicate, drop, length-replicate}
use lib.Ieee.{Float}
use borrow.Rule.Slice.PartMut.{mid_of, put_mid}
use Rattle.layout.specs.Widths.{lists_head_wide, grains_head_wide, grain_wide, input_wide, members_wide, home_from, queue_wide, events_wide, order_wide}
use Rattle.order.specs.Numbers.{fzero}
use Rattle.chunks.specs.Flat.{flat}
use Rattle.std.specs.Prelude.{Result, Ok, Err, Option, MatchOption}
use Rattle.std.specs.Result.{IsErrAnd, result_err}
use Rattle.halting.specs.Out.{Out, then, each}
use Rattle.scheduler.specs.Heap.{start_heap}
use Rattle.model.specs.declared.Domain.{Domain}
use Rattle.model.specs.Grid.{cells}
use Rattle.model.specs.declared.refusal.Halt.{Halt}
use Rattle.model.specs.Refusals.{halt_number, number_of}
use Rattle.model.specs.State.{State, marked}
use Rattle.model.specs.Start.{clear, begin}
use Rattle.model.specs.Doing.{goes_in, init_cell, beginning}
use Rattle.model.proofs.Grid.{cells_max}
use Rattle.model.proofs.Performs as performs
use Rattle.cell.specs.declared.Grid.{Grid}
use Rattle.tables.specs.declared.Sizes.{Sizes}
use Rattle.tables.specs.Layout.{order_bytes, row_nums, grain_reals, queue_nums, queue_reals}
use Rattle.tables.specs.Holds.{Queued, Holds}
use Rattle.tables.specs.Decode.{Tables, tables}
use Rattle.tables.specs.declared.lengths.Lengths.{Lengths}
use Rattle.tables.specs.Lengths.{lengths_for}
use Rattle.checks.proofs.Cut.{cut_long}
use Rattle.checks.proofs.Needs.{Ends, ends_of}
use Rattle.acts.specs.declared.queue.Queues.{Queues}
use Rattle.acts.proofs.InTurn.{told_halt, told_next}
use Rattle.acts.proofs.Queues.{queue_long, events_long}
use Rattle.tables.proofs.HeapLaws.{heaped_long}
use Rattle.step.specs.declared.World.{World}
use Rattle.step.specs.Placed.{Placed}
use Rattle.step.specs.World.{Held, Says, Does}
use Rattle.tables.specs.Inputs.{input_at, inputs_of}
use Rattle.starting.specs.Grains.{InBoth, BothTold, Going}
use Rattle.tables.specs.Encode.{lists_head, grains_head, over, sizes_in, with_mark, encoded}
use Rattle.starting.specs.Cleared.{headed}
use Rattle.starting.specs.Begin.{Startable, Filling, Filled, Began}
use Rattle.tables.proofs.Over.{over_part, over_put, over_again, over_front, same_part}
use Rattle.starting.proofs.Zeros.{start_long, cleared_held}
use Rattle.starting.proofs.OnlyIn.{OnlyIn, all_only, in_along}

-- ---- grains in, then the first events
abbrev blank : World → State
blank w = clear w.domain w.sizes.room w.sizes.grains

abbrev all_go_in : World → List Float → Out State
all_go_in w inputs = each (goes_in (inputs_of w.sizes.grains inputs)) w.sizes.grains 0 (blank w)

-- as the step's functions have it
held_of : {w : World} {l : List ℕ} {t : List Float} {q : Queues} {s : State} → Filled w l t q.queue.now q.events.now q.order.now s → Held w l t q s
held_of f = record { listed = f.holds.listed; seen = record { at = f.at; grained = f.holds.grained; queued = f.holds.queued } }

filled_of : {w : World} {l : List ℕ} {t : List Float} {q : Queues} {s : State} → Held w l t q s → Filled w l t q.queue.now q.events.now q.order.now s
filled_of h = record { at = h.seen.at; holds = record { listed = h.listed; grained = h.seen.grained; queued = h.seen.queued } }

pub held_some : {w : World} {l : List ℕ} {t : List Float} {q : Queues} → (s : State) × Filled w l t q.queue.now q.events.now q.order.now s → (s : State) × Held w l t q s
held_some f = (f.0, held_of f.1)

-- what queues made of three tables leave is left in these
pub filled_by : {w : World} {l : List ℕ} {t : List Float} {q q' : Queues} {a : List ℕ} {b : List Float} {o : List ℕ} {r : ℕ} {act : State → Out State} → Does (Held w l t q) (Held w l t q') r act
    → a ≡ q'.queue.now → b ≡ q'.events.now → o ≡ q'.order.now → Does (Filled w l t q.queue.now q.events.now q.order.now) (Filled w l t a b o) r act
filled_by {q = q} {q'} d e f g = rw e rw f rw g (record { says = λ s p. let k = d.says s (held_of {q = q} p) in (k.0, filled_of {q = q'} k.1) })

module _ {w : World} (inputs : List Float) {l : List ℕ} {t : List Float} {q : List ℕ} {e : List Float} {o : List ℕ} (F : Filling w (length inputs) l t q e o) where
  fill_both : InBoth w l t (blank w)
  fill_both = record { lists = F.held.holds.listed; grains = F.held.holds.grained; box = F.held.at.0 }

  pub fill_going : Going w inputs l t
  fill_going = record { held = (blank w, fill_both); ranged = F.held.holds.queued.ranged; inputs_long = F.inputs_long }

  begin_is : begin w.domain w.sizes.room (inputs_of w.sizes.grains inputs) ≡ then (all_go_in w inputs) (λ s. each init_cell w.sizes.cells 0 s)
  unfolding beginning
  begin_is =
      performs.begin_is w.domain w.sizes.room (inputs_of w.sizes.grains inputs)
      ∙ ap (λ (n : ℕ). then (each (goes_in (inputs_of w.sizes.grains inputs)) n 0 (clear w.domain w.sizes.room n)) (λ s. each init_cell (cells w.domain) 0 s)) (cut_long input_at input_wide w.sizes.grains inputs)
      ∙ ap (λ (n : ℕ). then (all_go_in w inputs) (λ s. each init_cell n 0 s)) w.placed.cells_are

  module _ {l' : List ℕ} {t' : List Float} {r : ℕ} (told : (s : State) → InBoth w l t s → BothTold w l' t' r (each (goes_in (inputs_of w.sizes.grains inputs)) w.sizes.grains 0 s)) where
    all_in : Says (Filled w l' t' q e o) r (all_go_in w inputs)
    all_in =
        let d = told (blank w) fill_both in
        let u = (all_go_in w inputs).st in
        let k : OnlyIn (blank w) u = all_only (inputs_of w.sizes.grains inputs) w.sizes.grains 0 (blank w) in
        let p = F.held.holds.queued in (
          d.0,
          record {
            at = (d.1.box, in_along (λ (v : State). v.clock ≡ w.clock) (blank w) u k F.held.at.1);
            holds = record {
              listed = d.1.lists;
              grained = d.1.grains;
              queued = in_along (Queued w.sizes q e o) (blank w) u k (record { ranged = p.ranged; tables = p.tables; heap = p.heap; room_is = p.room_is });
            };
          },
        )

    -- some state is held when the events are scheduled
    pub fill-some : (s : State) × Filled w l' t' q e o s
    fill-some = ((all_go_in w inputs).st, all_in.1)

  pub fill_halts : {A : Type 0} {l' : List ℕ} {t' : List Float} (r : Result A Halt) (h : Halt) → IsErrAnd r (λ (x : Halt). x ≡ h)
      → ((s : State) → InBoth w l t s → BothTold w l' t' (halt_number h) (each (goes_in (inputs_of w.sizes.grains inputs)) w.sizes.grains 0 s))
      → Says (Filled w l' t' q e o) (number_of r) (begin w.domain w.sizes.room (inputs_of w.sizes.grains inputs))
  fill_halts {l' = l'} {t' = t'} r h b told =
      subst (λ (a : Out State). Says (Filled w l' t' q e o) (number_of r) a) (sym begin_is)
      (told_halt (Filled w l' t' q e o) (all_go_in w inputs) (λ s. each init_cell w.sizes.cells 0 s) r h b (all_in told))

-- the events of the cells
pub fill_on : {w : World} (inputs : List Float) {l l' : List ℕ} {t t' : List Float} {q q' : List ℕ} {e e' : List Float} {o o' : List ℕ} {r' : ℕ} (F : Filling w (length inputs) l t q e o)
    → ((s : State) → InBoth w l t s → BothTold w l' t' 0 (each (goes_in (inputs_of w.sizes.grains inputs)) w.sizes.grains 0 s))
    → Does (Filled w l' t' q e o) (Filled w l' t' q' e' o') r' (each init_cell w.sizes.cells 0)
    → Says (Filled w l' t' q' e' o') r' (begin w.domain w.sizes.room (inputs_of w.sizes.grains inputs))
fill_on {w} inputs {l' = l'} {t' = t'} {q = q} {q' = q'} {e = e} {e' = e'} {o = o} {o' = o'} {r'} F told d =
    let s = all_go_in w inputs in
    let before = all_in inputs F told in
    subst (λ (a : Out State). Says (Filled w l' t' q' e' o') r' a) (sym (begin_is inputs F))
    (told_next (Filled w l' t' q e o) (Filled w l' t' q' e' o') s (λ u. each init_cell w.sizes.cells 0 u) before (d.says s.st before.1))

-- ---- the mark, by the library's words
pub mark_is : {A : Type 0} (x : Result A Halt) (o : Option Halt) (r : ℕ) → o ≡ result_err x → MatchOption o (r ≡ 0) (λ (h : Halt). r ≡ halt_number h) → r ≡ number_of x
mark_is (Ok a) o r e m = subst (λ (o : Option Halt). MatchOption o (r ≡ 0) (λ (h : Halt). r ≡ halt_number h)) e m
mark_is (Err k) o r e m = subst (λ (o : Option Halt). MatchOption o (r ≡ 0) (λ (h : Halt). r ≡ halt_number h)) e m

-- ---- the tables around the parts
module _ {z : Sizes} {b : Domain} {g : Grid} {ni nl ng nq ne no : ℕ} (S : Startable z b g ni nl ng nq ne no) where
  pub few_cells : z.cells ≤ 256
  few_cells = subst (λ (n : ℕ). n ≤ 256) (sym S.cells_are) (cells_max b S.laid.box)

  -- what a world keeps of box and grid: `begun` asks it, and it follows
  pub placed_by : Placed z b g
  placed_by = record { laid = S.laid; cells_are = sym S.cells_are }

  pub ends : {n : Lengths} → n ≡ lengths_for z → Ends n nl ng nq ne
  ends e = ends_of z _ e S.lists_long S.grains_long S.queue_long S.events_long

module _ {z : Sizes} {b : Domain} {g : Grid} {ni : ℕ} (tab : Tables) (S : Startable z b g ni (length tab.lists) (length tab.grains) (length tab.queue) (length tab.events) (length tab.order)) where
  abbrev nl : ℕ
  nl = length tab.lists

  abbrev ng : ℕ
  ng = length tab.grains

  abbrev nq : ℕ
  nq = length tab.queue

  abbrev ne : ℕ
  ne = length tab.events

  abbrev no : ℕ
  no = length tab.order

  abbrev lists₀ : List ℕ
  lists₀ = over (lists_head 0 z b) (replicate nl 0)

  abbrev grains₀ : List Float
  grains₀ = over (grains_head b fzero) (replicate ng fzero)

  abbrev order₀ : List ℕ
  order₀ = over (order_bytes (start_heap z.cells)) (replicate no 0)

  abbrev lists_for : ℕ
  lists_for = lists_head_wide + home_from z.grains + z.cells * members_wide - lists_head_wide

  abbrev grains_for : ℕ
  grains_for = grains_head_wide + z.grains * grain_wide - grains_head_wide

  abbrev queue_for : ℕ
  queue_for = z.cells * (queue_wide z.room)

  abbrev events_for : ℕ
  events_for = z.cells * (events_wide z.room)

  order_full : length (order_bytes (start_heap z.cells)) ≡ order_wide
  order_full = start_long z.cells (few_cells S)

  lists_part : mid_of lists_head_wide lists_for lists₀ ≡ replicate (home_from z.grains + z.cells * members_wide) 0
  lists_part =
      let k : lists_for ≡ home_from z.grains + z.cells * members_wide = omega arith in
      over_part (lists_head 0 z b) (replicate nl 0) lists_head_wide lists_for refl ∙ same_part 0 nl lists_head_wide lists_for (let h = S.lists_long in omega arith) ∙ ap (λ (n : ℕ). replicate n 0) k

  grains_part_lem : mid_of grains_head_wide grains_for grains₀ ≡ replicate (z.grains * grain_wide) fzero
  grains_part_lem =
      let k : grains_for ≡ z.grains * grain_wide = omega arith in
      over_part (grains_head b fzero) (replicate ng fzero) grains_head_wide grains_for refl ∙ same_part fzero ng grains_head_wide grains_for (let h = S.grains_long in omega arith) ∙ ap (λ (n : ℕ). replicate n fzero) k

  queue_part_lem : mid_of 0 queue_for (replicate {A = ℕ} nq 0) ≡ replicate (z.cells * (queue_wide z.room)) 0
  queue_part_lem = let h = S.queue_long in same_part 0 nq 0 queue_for (omega arith)

  events_part_lem : mid_of 0 events_for (replicate ne fzero) ≡ replicate (z.cells * (events_wide z.room)) fzero
  events_part_lem = let h = S.events_long in same_part fzero ne 0 events_for (omega arith)

  order_part : mid_of 0 order_wide order₀ ≡ order_bytes (start_heap z.cells)
  order_part = over_front (order_bytes (start_heap z.cells)) (replicate no 0) order_wide order_full

  module _ {l : List ℕ} {t : List Float} {q : List ℕ} {e : List Float} {o : List ℕ} (H : tables l t q e o ≡ headed z b tab) where
    el : l ≡ lists₀
    el = ap (λ (u : Tables). u.lists) H

    et : t ≡ grains₀
    et = ap (λ (u : Tables). u.grains) H

    eq : q ≡ replicate nq 0
    eq = ap (λ (u : Tables). u.queue) H

    ee : e ≡ replicate ne fzero
    ee = ap (λ (u : Tables). u.events) H

    eo : o ≡ order₀
    eo = ap (λ (u : Tables). u.order) H

    abbrev L : List ℕ
    L = mid_of lists_head_wide lists_for l

    abbrev G : List Float
    G = mid_of grains_head_wide grains_for t

    abbrev Q : List ℕ
    Q = mid_of 0 queue_for q

    abbrev E : List Float
    E = mid_of 0 events_for e

    abbrev O : List ℕ
    O = mid_of 0 order_wide o

    part-l : L ≡ replicate (home_from z.grains + z.cells * members_wide) 0
    part-l = ap (mid_of lists_head_wide lists_for) el ∙ lists_part

    part-g : G ≡ replicate (z.grains * grain_wide) fzero
    part-g = ap (mid_of grains_head_wide grains_for) et ∙ grains_part_lem

    part-q : Q ≡ replicate (z.cells * (queue_wide z.room)) 0
    part-q = ap (mid_of 0 queue_for) eq ∙ queue_part_lem

    part-e : E ≡ replicate (z.cells * (events_wide z.room)) fzero
    part-e = ap (mid_of 0 events_for) ee ∙ events_part_lem

    part-o : O ≡ order_bytes (start_heap z.cells)
    part-o = ap (mid_of 0 order_wide) eo ∙ order_part

    -- the world of a start
    abbrev fresh : Placed z b g → World
    fresh P = record { sizes = z; domain = b; grid = g; clock = fzero; placed = P }

    world-held : (P : Placed z b g) (l : List ℕ) (t : List Float) (q : List ℕ) (e : List Float) (o : List ℕ) → Holds z l t q e o (clear b z.room z.grains) → Filled (fresh P) l t q e o (clear b z.room z.grains)
    unfolding clear
    world-held P l t q e o H = record { at = (refl, refl); holds = record { listed = H.listed; grained = H.grained; queued = H.queued } }

    module _ (P : Placed z b g) where
      pub begin-filling : Filling (fresh P) ni L G Q E O
      begin-filling = record {
        held = world-held P L G Q E O
            (cleared_held z b S.cells_are S.laid.box S.room_least S.room_most S.grains_most part-l part-g part-q part-e part-o);
        inputs_long = S.inputs_long;
      }

      -- the parts put back, and the mark
      module _ {l' : List ℕ} {t' : List Float} {q' : List ℕ} {e' : List Float} {o' : List ℕ} (kl : length l' ≡ length L) (kg : length t' ≡ length G)
          {r : ℕ} (a : Out State) (told : Says (Filled (fresh P) l' t' q' e' o') r a) where
        abbrev end : State
        end = marked a.num a.st

        sizes-end : z ≡ sizes_in end
        sizes-end =
            let h = told.1.holds in
            λ i. record { grains = (sym h.grained.many) i; cells = (sym h.queued.heap.cells_is) i; room = (sym h.queued.room_is) i }

        lists-end : with_mark r (put_mid lists_head_wide lists_for l l') ≡ over (lists_head a.num (sizes_in end) end.box ++ (flat row_nums end.homes ++ flat row_nums end.members)) (replicate nl 0)
        lists-end =
            ap (λ (m : List ℕ). with_mark r (put_mid lists_head_wide lists_for m l')) el
            ∙ ap (with_mark r) (over_put (lists_head 0 z b) l' (replicate nl 0) lists_head_wide lists_for refl (kl ∙ ap length part-l ∙ length-replicate (home_from z.grains + z.cells * members_wide) 0 ∙ (let k : home_from z.grains + z.cells * members_wide ≡ lists_for = omega arith in k)))
            ∙ λ i. over (lists_head (told.0 i) (sizes-end i) (sym told.1.at.0 i) ++ told.1.holds.listed.is i) (replicate nl 0)

        grains-end : put_mid grains_head_wide grains_for t t' ≡ over (grains_head end.box end.clock ++ flat grain_reals end.grains) (replicate ng fzero)
        grains-end =
            ap (λ (m : List Float). put_mid grains_head_wide grains_for m t') et
            ∙ over_put (grains_head b fzero) t' (replicate ng fzero) grains_head_wide grains_for refl (kg ∙ ap length part-g ∙ length-replicate (z.grains * grain_wide) fzero ∙ (let k : z.grains * grain_wide ≡ grains_for = omega arith in k))
            ∙ λ i. over (grains_head (sym told.1.at.0 i) (sym told.1.at.1 i) ++ told.1.holds.grained.is i) (replicate ng fzero)

        queue-end : q' ++ drop queue_for q ≡ over (flat queue_nums end.queues) (replicate nq 0)
        queue-end =
            ap (λ (m : List ℕ). q' ++ drop queue_for m) eq
            ∙ over_put [] q' (replicate nq 0) 0 queue_for refl (queue_long told.1.holds.queued.tables)
            ∙ ap (λ (m : List ℕ). over m (replicate nq 0)) told.1.holds.queued.tables.queue_is

        events-end : e' ++ drop events_for e ≡ over (flat queue_reals end.queues) (replicate ne fzero)
        events-end =
            ap (λ (m : List Float). e' ++ drop events_for m) ee
            ∙ over_put [] e' (replicate ne fzero) 0 events_for refl (events_long told.1.holds.queued.tables)
            ∙ ap (λ (m : List Float). over m (replicate ne fzero)) told.1.holds.queued.tables.events_is

        order-end : o' ++ drop order_wide o ≡ over (order_bytes end.sched) (replicate no 0)
        order-end =
            ap (λ (m : List ℕ). o' ++ drop order_wide m) eo
            ∙ over_again (order_bytes (start_heap z.cells)) o' (replicate no 0) order_wide order_full (heaped_long told.1.holds.queued.heap)
            ∙ ap (λ (m : List ℕ). over m (replicate no 0)) told.1.holds.queued.heap.is

        pub begun : Began a r tab (tables (with_mark r (put_mid lists_head_wide lists_for l l')) (put_mid grains_head_wide grains_for t t') (q' ++ drop queue_for q) (e' ++ drop events_for e) (o' ++ drop order_wide o))
        unfolding encoded
        begun = record { number = told.0; left = λ i. tables (lists-end i) (grains-end i) (queue-end i) (events-end i) (order-end i) }
