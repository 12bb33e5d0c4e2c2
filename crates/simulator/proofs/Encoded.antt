-- The tables that hold a sound state, over tables that are long enough: they pass check 2, they are read as that state, and another state of the same sizes over them leaves nothing of it. Assumes nothing.
use Prim.Native.Nat.{ℕ, ◌-◌, ◌*◌, ◌≤◌}
use mathlib.Core.Path.{◌≡◌, refl, sym, ap, ◌∙◌}
use mathlib.Core.Bool.{Bool, true, false, ◌&&◌}
use mathlib.Core.List.{List, ◌++◌}
use native.Mathlib.Omega.{arith}
use lib.ListN.{length, get_or, drop, length-append, length-drop}
use lib.Seq.{take_at}
use lib.Ieee.{Float}
use Rattle.layout.specs.Widths.{lists_head_wide, grains_head_wide, grain_wide, home_room, member_room, queue_wide, events_wide, order_wide}
use Rattle.chunks.specs.Flat.{flat}
use Rattle.chunks.proofs.Laws.{length_flat, row_long}
use Rattle.model.specs.Grid.{box_of}
use Rattle.model.specs.State.{State}
use Rattle.model.proofs.Sound.{Sound}
use Rattle.model.specs.Check as model
use Rattle.halting.proofs.Bools.{and_l, and_r}
use Rattle.model.proofs.Whole.{sound_sized}
use borrow.Author.Tests.{leb-true}
use lib.Dec.{leb}
use Rattle.tables.specs.declared.Sizes.{Sizes}
use Rattle.tables.specs.Layout.{grain_reals, row_nums, queue_nums, queue_reals, order_bytes}
use Rattle.tables.specs.Holds.{Holds}
use Rattle.acts.proofs.FromSound.{sound_held}
use Rattle.tables.specs.Decode.{Tables, is_set, sizes_of, decoded}
use Rattle.checks.specs.Check.{sized, legible, standing}
use Rattle.checks.specs.Inside.{Sized}
use Rattle.tables.specs.Lengths.{lists_need, grains_need, queue_need, events_need}
use Rattle.checks.proofs.Hold.{Hold}
use Rattle.checks.proofs.Holding.{side_rows}
use Rattle.checks.proofs.Stages.{means_sized}
use Rattle.tables.proofs.ListLaws.{lists_long as listed-long}
use Rattle.tables.proofs.Runs.{rows_nums_wide, rows_reals_wide}
use Rattle.checks.proofs.Back.{read_back}
use Rattle.checks.proofs.Again.{legible_held}
use Rattle.tables.specs.Encode.{over, flagged, lists_head, grains_head, sizes_in, encoded}
use Rattle.tables.proofs.Over.{over_again}

-- ---- what a state of these sizes needs of the tables
pub record Long (z : Sizes) (t : Tables) : Type 0 where
  pub lists : lists_need z ≤ length t.lists
  pub grains : grains_need z ≤ length t.grains
  pub queue : queue_need z ≤ length t.queue
  pub events : events_need z ≤ length t.events
  pub order : order_wide ≤ length t.order

over_long : {A : Type 0} (xs l : List A) (k : ℕ) → length xs ≡ k → k ≤ length l → length (over xs l) ≡ length l
over_long xs l k e h = let a = length-append xs (drop (length xs) l) in let d = length-drop (length xs) l in omega (arith, a, d, e)

flags_fit : (p q : Bool) → (leb (flagged p) 1 && leb (flagged q) 1) ≡ true
flags_fit true true = refl
flags_fit true false = refl
flags_fit false true = refl
flags_fit false false = refl

flag_back : (b : Bool) → is_set (flagged b) ≡ b
flag_back true = refl
flag_back false = refl

-- ---- a sound state
module _ (s : State) (K : Sound s) where
  pub holds : {l : List ℕ} {g : List Float} {q : List ℕ} {e : List Float} {o : List ℕ}
      → l ≡ flat row_nums s.homes ++ flat row_nums s.members → g ≡ flat grain_reals s.grains → q ≡ flat queue_nums s.queues → e ≡ flat queue_reals s.queues → o ≡ order_bytes s.sched
      → Holds (sizes_in s) l g q e o s
  holds l g q e o =
      let n = K.heap.cells in
      record {
        listed = record { is = l; homes = side_rows home_room s.homes refl (sym n) K.lists.homes; members = side_rows member_room s.members (sym n) refl K.lists.members };
        grained = record { is = g; many = refl };
        queued = sound_held {z = sizes_in s} s K refl (sym n) refl q e o;
      }

  H : Holds (sizes_in s) (flat row_nums s.homes ++ flat row_nums s.members) (flat grain_reals s.grains) (flat queue_nums s.queues) (flat queue_reals s.queues) (order_bytes s.sched) s
  H = holds refl refl refl refl refl

  -- how long each part is
  lists_many : length (flat row_nums s.homes ++ flat row_nums s.members) ≡ lists_need (sizes_in s) - 6
  lists_many = let l = listed-long H.listed in omega (arith, l)

  grains_many : length (flat grain_reals s.grains) ≡ grains_need (sizes_in s) - 3
  grains_many = let g : length (flat grain_reals s.grains) ≡ length s.grains * grain_wide = row_long grain_reals grain_wide (λ p. refl) (lib.Dec.lit< tt) s.grains refl in omega (arith, g)

  queue_many : length (flat queue_nums s.queues) ≡ queue_need (sizes_in s)
  queue_many = length_flat queue_nums (queue_wide s.room) s.queues (rows_nums_wide s.room s.queues H.queued.tables.full) ∙ ap (λ (n : ℕ). n * (queue_wide s.room)) H.queued.tables.many

  events_many : length (flat queue_reals s.queues) ≡ events_need (sizes_in s)
  events_many = length_flat queue_reals (events_wide s.room) s.queues (rows_reals_wide s.room s.queues H.queued.tables.full) ∙ ap (λ (n : ℕ). n * (events_wide s.room)) H.queued.tables.many

  order_many : length (order_bytes s.sched) ≡ order_wide
  order_many = let a = length-append s.sched.heap s.sched.lookups in let h = H.queued.heap.heap_long in let l = H.queued.heap.lookups_long in omega (arith, a, h, l)

  -- with the headers
  abbrev lists-front : List ℕ
  lists-front = lists_head s.mark (sizes_in s) s.box ++ (flat row_nums s.homes ++ flat row_nums s.members)

  abbrev grains-front : List Float
  grains-front = grains_head s.box s.clock ++ flat grain_reals s.grains

  pub lists_long : length lists-front ≡ lists_need (sizes_in s)
  lists_long = let l = lists_many in omega (arith, l)

  pub grains_long : length grains-front ≡ grains_need (sizes_in s)
  grains_long = let g = grains_many in omega (arith, g)

  module _ (t : Tables) (F : Long (sizes_in s) t) where
    held : Hold (sizes_in s) (encoded s t) s
    unfolding encoded
    held = record {
      sizes = refl;
      mark_is = refl;
      flags = flags_fit s.box.periodic0 s.box.periodic1;
      box_is = λ i. box_of s.box.lengths (flag_back s.box.periodic0 i) (flag_back s.box.periodic1 i);
      clock_is = refl;
      body = holds (take_at (flat row_nums s.homes ++ flat row_nums s.members) (drop (length lists-front) t.lists) (lists_need (sizes_in s) - lists_head_wide) lists_many)
          (take_at (flat grain_reals s.grains) (drop (length grains-front) t.grains) (grains_need (sizes_in s) - grains_head_wide) grains_many)
          (take_at (flat queue_nums s.queues) (drop (length (flat queue_nums s.queues)) t.queue) (queue_need (sizes_in s)) queue_many)
          (take_at (flat queue_reals s.queues) (drop (length (flat queue_reals s.queues)) t.events) (events_need (sizes_in s)) events_many)
          (take_at (order_bytes s.sched) (drop (length (order_bytes s.sched)) t.order) order_wide order_many);
    }

    -- READ AS THE STATE THAT THEY HOLD
    pub decoded-encoded : decoded (encoded s t) ≡ s
    decoded-encoded = read_back (sizes_in s) (encoded s t) s held

    pub encoded-mark : get_or (encoded s t).lists 0 0 ≡ s.mark
    unfolding encoded
    encoded-mark = refl

    pub encoded-legible : legible (encoded s t) ≡ true
    unfolding encoded
    encoded-legible = legible_held (sizes_in s) (encoded s t) s held

    pub encoded-standing : standing (encoded s t) ≡ model.standing s
    unfolding standing
    encoded-standing = ap (λ (b : Bool). b && model.standing (decoded (encoded s t))) encoded-legible ∙ ap model.standing decoded-encoded

    -- they pass check 2
    pub encoded-sized : sized (encoded s t) ≡ true
    encoded-sized = means_sized (encoded s t) S
      where
        few : (9 ≤ s.sched.cells) × (s.sched.cells ≤ 256)
        few =
            let r = and_r (model.counts s) (leb 9 s.sched.cells && leb s.sched.cells 256) (sound_sized s K) in
            (leb-true _ _ (and_l (leb 9 s.sched.cells) (leb s.sched.cells 256) r), leb-true _ _ (and_r (leb 9 s.sched.cells) (leb s.sched.cells 256) r))

        S : Sized (sizes_of (encoded s t).lists) (encoded s t)
        S = unfold encoded in record {
          sizes = refl;
          grains_most = K.few;
          cells_least = few.0;
          cells_most = few.1;
          room_least = K.room.0;
          room_most = K.room.1;
          lists_long = let e = over_long lists-front t.lists (lists_need (sizes_in s)) lists_long F.lists in let h = F.lists in omega (arith, e, h);
          grains_long = let e = over_long grains-front t.grains (grains_need (sizes_in s)) grains_long F.grains in let h = F.grains in omega (arith, e, h);
          queue_long = let e = over_long (flat queue_nums s.queues) t.queue (queue_need (sizes_in s)) queue_many F.queue in let h = F.queue in omega (arith, e, h);
          events_long = let e = over_long (flat queue_reals s.queues) t.events (events_need (sizes_in s)) events_many F.events in let h = F.events in omega (arith, e, h);
          order_long = let e = over_long (order_bytes s.sched) t.order order_wide order_many F.order in let h = F.order in omega (arith, e, h);
        }

-- ---- a state over another of the same sizes
pub encoded_again : (s u : State) (t : Tables) → Sound s → Sound u → sizes_in u ≡ sizes_in s → encoded u (encoded s t) ≡ encoded u t
unfolding encoded
encoded_again s u t K L e = λ i. record {
  lists = over_again (lists-front s K) (lists-front u L) t.lists (length (lists-front u L)) (lists_long s K ∙ ap lists_need (sym e) ∙ sym (lists_long u L)) refl i;
  grains = over_again (grains-front s K) (grains-front u L) t.grains (length (grains-front u L)) (grains_long s K ∙ ap grains_need (sym e) ∙ sym (grains_long u L)) refl i;
  queue = over_again (flat queue_nums s.queues) (flat queue_nums u.queues) t.queue (length (flat queue_nums u.queues)) (queue_many s K ∙ ap queue_need (sym e) ∙ sym (queue_many u L)) refl i;
  events = over_again (flat queue_reals s.queues) (flat queue_reals u.queues) t.events (length (flat queue_reals u.queues)) (events_many s K ∙ ap events_need (sym e) ∙ sym (events_many u L)) refl i;
  order = over_again (order_bytes s.sched) (order_bytes u.sched) t.order (length (order_bytes u.sched)) (order_many s K ∙ sym (order_many u L)) refl i;
}
