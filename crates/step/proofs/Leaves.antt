-- How the tables go on holding the state after each kind of act, and what they give of one cell and one grain. Assumes nothing.
use Prim.Native.Nat.{ℕ, ◌<◌}
use mathlib.Core.Path.{◌≡◌, subst}
use mathlib.Core.List.{List}
use native.Mathlib.Omega.{arith}
use lib.Ieee.{Float}
use Rattle.halting.specs.Out.{Out, then, each, each_of}
use Rattle.halting.specs.Every.{All}
use Rattle.halting.proofs.All.{all_at}
use Rattle.model.specs.Plans.{Plan}
use Rattle.model.specs.State.{State, Row, none, home, listed, grain}
use Rattle.model.specs.Acts.{put}
use Rattle.model.specs.Doing.{schedule_collision, schedule_by, boundaries}
use Rattle.model.specs.Rows.{Finder}
use Rattle.model.specs.Collision.{collision}
use Rattle.model.specs.Moves.{to_neighbour, out_of_cell}
use Rattle.model.specs.Walls.{wall}
use Rattle.tables.specs.declared.Sizes.{Sizes}
use Rattle.tables.specs.Holds.{Listed}
use Rattle.acts.specs.declared.queue.Queues.{Queues}
use Rattle.acts.specs.Tell.{At, InLists, ListsTold, InGrains, GrainsTold, InQueues, QueuesTold}
use Rattle.acts.proofs.Touch.{touch_then, touch_of, touch_each, OnlyGrains, OnlyLists, grains_along, lists_along}
use Rattle.acts.proofs.Frame.{OnlyQueues, queues_none, queues_both, put_only, queues_along}
use Rattle.step.specs.declared.World.{World}
use Rattle.step.specs.World.{Seen, Held, Listing, Does}

-- ---- what the scheduling leaves as it was
pub collisions_only : (c p : ℕ) (l : List ℕ) (s : State) → OnlyQueues s (each_of (schedule_collision c p) l s).st
collisions_only c p l s = touch_of OnlyQueues queues_none queues_both (schedule_collision c p) (λ q u. put_only c (collision u.box u.clock c p q (grain u p) (grain u q)) u) l s

bound_only : (f : Finder) (c p : ℕ) (s : State) → OnlyQueues s (each (schedule_by f c p) 2 0 s).st
bound_only f c p s = touch_each OnlyQueues queues_none queues_both (schedule_by f c p) (λ d u. put_only c (f d u.box u.clock c p (grain u p)) u) 2 0 s

pub bounds_only : (c p : ℕ) (s : State) → OnlyQueues s (boundaries c p s).st
unfolding boundaries
bounds_only c p s =
    touch_then OnlyQueues queues_none queues_both s (each (schedule_by to_neighbour c p) 2 0 s) (λ u. then (each (schedule_by out_of_cell c p) 2 0 u) (λ v. each (schedule_by wall c p) 2 0 v)) (bound_only to_neighbour c p s)
    (λ u. touch_then OnlyQueues queues_none queues_both u (each (schedule_by out_of_cell c p) 2 0 u) (λ v. each (schedule_by wall c p) 2 0 v) (bound_only out_of_cell c p u) (λ v. bound_only wall c p v))

pub stepped_only : (c p : ℕ) (l : List ℕ) (s : State) → OnlyQueues s (then (each_of (schedule_collision c p) l s) (boundaries c p)).st
stepped_only c p l s = touch_then OnlyQueues queues_none queues_both s (each_of (schedule_collision c p) l s) (boundaries c p) (collisions_only c p l s) (λ u. bounds_only c p u)

module _ {w : World} where
  -- ---- the queues change
  pub queues_do : {g : List Float} {q q₁ : Queues} {r : ℕ} (act : State → Out State) → ((s : State) → OnlyQueues s (act s).st)
      → ((s : State) → Seen w g q s → QueuesTold w.sizes q₁ r (act s)) → Does (Seen w g q) (Seen w g q₁) r act
  queues_do {g} act f t = record {
    says = λ s h. (
      (t s h).0,
      record {
        at = queues_along (At w.domain w.clock) s (act s).st (f s) h.at;
        grained = queues_along (InGrains w.sizes g) s (act s).st (f s) h.grained;
        queued = (t s h).1;
      },
    );
  }

  -- also beside the lists
  pub seen_do : {l : List ℕ} {g g₁ : List Float} {q q₁ : Queues} {r : ℕ} (act : State → Out State) → ((s : State) → InLists w.sizes l s → InLists w.sizes l (act s).st)
      → Does (Seen w g q) (Seen w g₁ q₁) r act → Does (Held w l g q) (Held w l g₁ q₁) r act
  seen_do act f d = record { says = λ s h. ((d.says s h.seen).0, record { listed = f s h.listed; seen = (d.says s h.seen).1 }) }

  pub held_do : {l : List ℕ} {g : List Float} {q q₁ : Queues} {r : ℕ} (act : State → Out State) → ((s : State) → OnlyQueues s (act s).st)
      → Does (Seen w g q) (Seen w g q₁) r act → Does (Held w l g q) (Held w l g q₁) r act
  held_do {l} act f d = seen_do act (λ s h. queues_along (InLists w.sizes l) s (act s).st (f s) h) d

  -- ---- the grains change
  pub grains_seen : {g g₁ : List Float} {q : Queues} {r : ℕ} (act : State → Out State) → ((s : State) → OnlyGrains s (act s).st)
      → ((s : State) → InGrains w.sizes g s → At w.domain w.clock s → GrainsTold w.sizes g₁ r (act s)) → Does (Seen w g q) (Seen w g₁ q) r act
  grains_seen {q = q} act f t = record {
    says = λ s h. (
      (t s h.grained h.at).0,
      record {
        at = grains_along (At w.domain w.clock) s (act s).st (f s) h.at;
        grained = (t s h.grained h.at).1;
        queued = grains_along (InQueues w.sizes q) s (act s).st (f s) (record { ranged = h.queued.ranged; tables = h.queued.tables; heap = h.queued.heap; room_is = h.queued.room_is });
      },
    );
  }

  pub grains_do : {l : List ℕ} {g g₁ : List Float} {q : Queues} {r : ℕ} (act : State → Out State) → ((s : State) → OnlyGrains s (act s).st)
      → ((s : State) → InGrains w.sizes g s → At w.domain w.clock s → GrainsTold w.sizes g₁ r (act s)) → Does (Held w l g q) (Held w l g₁ q) r act
  grains_do {l} act f t = seen_do act (λ s h. grains_along (InLists w.sizes l) s (act s).st (f s) h) (grains_seen act f t)

  -- ---- the lists change
  pub lists_do : {l l₁ : List ℕ} {g : List Float} {q : Queues} {r : ℕ} (P : State → Type 0) (act : State → Out State) → ((s : State) → OnlyLists s (act s).st)
      → ((s : State) → InLists w.sizes l s → P s → ListsTold w.sizes l₁ r (act s)) → Does (λ s. Held w l g q s × P s) (Held w l₁ g q) r act
  lists_do {g = g} {q = q} P act f t = record {
    says = λ s h. (
      (t s h.0.listed h.1).0,
      record {
        listed = (t s h.0.listed h.1).1;
        seen = record {
          at = lists_along (At w.domain w.clock) s (act s).st (f s) h.0.seen.at;
          grained = lists_along (InGrains w.sizes g) s (act s).st (f s) h.0.seen.grained;
          queued = lists_along (InQueues w.sizes q) s (act s).st (f s) (let k = h.0.seen.queued in record { ranged = k.ranged; tables = k.tables; heap = k.heap; room_is = k.room_is });
        };
      },
    );
  }

  -- ---- lists are read, queues change
  pub listing_do : {l : List ℕ} {g : List Float} {q q₁ : Queues} {r : ℕ} (act : State → Out State) → ((s : State) → OnlyQueues s (act s).st)
      → Does (Listing w.sizes l q) (Listing w.sizes l q₁) r act → Does (Held w l g q) (Held w l g q₁) r act
  listing_do {g = g} act f d = record {
    says = λ s h. let t = d.says s (record { listed = h.listed; queued = h.seen.queued }) in (
      t.0,
      record {
        listed = t.1.listed;
        seen = record {
          at = queues_along (At w.domain w.clock) s (act s).st (f s) h.seen.at;
          grained = queues_along (InGrains w.sizes g) s (act s).st (f s) h.seen.grained;
          queued = t.1.queued;
        };
      },
    );
  }

-- ---- the members of a cell are grains, the homes of a grain are cells; m is the part of the lists where they stand
module _ {z : Sizes} {l : List ℕ} (s : State) (h : Listed z l s.homes s.members) where
  pub members_below : {m : List ℕ} (c : ℕ) → c < z.cells → m ≡ listed s c → All (λ (q : ℕ). q < z.grains) m
  members_below c C e = rw e (all_at (λ (r : Row ℕ). All (λ (x : ℕ). x < z.grains) r.live) s.members c none h.members.below (omega (arith, h.members.many)))

  pub homes_below : {m : List ℕ} (p : ℕ) → p < z.grains → m ≡ home s p → All (λ (c : ℕ). c < z.cells) m
  homes_below p P e = rw e (all_at (λ (r : Row ℕ). All (λ (x : ℕ). x < z.cells) r.live) s.homes p none h.homes.below (omega (arith, h.homes.many)))

-- ---- what the scheduling of one kind found goes in
pub put_does : {w : World} {g : List Float} {q q₁ : Queues} {r : ℕ} (c : ℕ) (plan : Plan) (f : State → Plan) → ((s : State) → Seen w g q s → plan ≡ f s)
    → ((s : State) → InQueues w.sizes q s → QueuesTold w.sizes q₁ r (put c plan s)) → Does (Seen w g q) (Seen w g q₁) r (λ s. put c (f s) s)
put_does {w} {q₁ = q₁} {r = r} c plan f k t =
    queues_do (λ s. put c (f s) s) (λ s. put_only c (f s) s) (λ s h. subst (λ (p : Plan). QueuesTold w.sizes q₁ r (put c p s)) (k s h) (t s h.queued))

-- ---- grains and queues beside lists that are only read, as one
abbrev pub Beside : World → List ℕ → List Float × Queues → State → Type 0
Beside w l t s = Held w l t.0 t.1 s
