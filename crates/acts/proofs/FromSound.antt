-- Where `Queued` comes from: a sound state whose queues and heap the tables hold. Assumes nothing.
use mathlib.Core.Path.{◌≡◌, ◌∙◌, subst}
use Prim.Native.Nat.{ℕ}
use native.Mathlib.Omega.{arith}
use mathlib.Core.List.{List}
use lib.ListN.{length, get_or}
use lib.Ieee.{Float}
use Rattle.chunks.specs.Flat.{flat}
use Rattle.model.specs.State.{none, State, listed}
use Rattle.model.specs.Grid.{cells}
use Rattle.model.proofs.Sound.{Sound}
use Rattle.halting.proofs.All.{all_of}
use Rattle.tables.specs.declared.Sizes.{Sizes}
use Rattle.tables.specs.Layout.{queue_nums, queue_reals, order_bytes}
use Rattle.tables.specs.Holds.{Full, Ranged, Queued}
use Rattle.tables.proofs.Runs.{full_of}

module _ {z : Sizes} (s : State) (k : Sound s) (eg : length s.grains ≡ z.grains) (ec : cells s.box ≡ z.cells) (er : s.room ≡ z.room) where
  pub sound_ranged : Ranged z
  sound_ranged = record {
    grains_most = omega (arith, k.few);
    cells_most = omega (arith, k.heap.cells, k.heap.inverse.room);
    room_some = omega (arith, k.room.0);
    room_most = omega (arith, k.room.1);
  }

  pub sound_held : {nums : List ℕ} {reals : List Float} {order : List ℕ} → nums ≡ flat queue_nums s.queues → reals ≡ flat queue_reals s.queues → order ≡ order_bytes s.sched
      → Queued z nums reals order s
  sound_held en ef eo = record {
    ranged = sound_ranged;
    tables = record {
      queue_is = en;
      events_is = ef;
      many = k.long ∙ ec;
      full = all_of (Full z.room) none s.queues
          (λ c h. subst (λ (n : ℕ). Full n (get_or s.queues c none)) er (full_of (cells s.box) c (listed s c) (get_or s.queues c none) (k.queues c (omega (arith, k.long)))));
    };
    heap = record { is = eo; heap_long = k.heap.inverse.heap_long; lookups_long = k.heap.inverse.lookups_long; cells_is = k.heap.cells ∙ ec };
    room_is = er;
  }
