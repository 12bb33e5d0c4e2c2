-- What a step finds first in tables that hold a state in which 01's standing facts hold, and what it does. Assumes nothing.
use Prim.Native.Nat.{ℕ, ◌*◌, ◌<◌}
use mathlib.Core.Path.{◌≡◌, sym, ap, subst, ◌∙◌}
use mathlib.Core.Bool.{Bool, true}
use mathlib.Core.List.{List}
use native.Mathlib.Omega.{arith}
use lib.Ieee.{Float}
use lib.ListN.{length, get_or, get_or-append}
use Rattle.layout.specs.Widths.{queue_wide}
use Rattle.model.specs.declared.Place.{Place}
use Rattle.model.specs.declared.Event.{Event}
use Rattle.model.specs.declared.Event.TheVariants.{InterParticleCollision, MoveToNeighbour, MoveOutOfCell, WallReflection, Synchronisation}
use Rattle.model.specs.Grid.{cells}
use Rattle.model.specs.Events.{event_of}
use Rattle.model.specs.State.{State, listed, queue, has, requeued}
use Rattle.model.specs.Acts.{first, head, taken}
use Rattle.model.specs.Doing.{execution}
use Rattle.model.specs.Execute.{head_event, event}
use Rattle.model.proofs.Sound.{Named, Stands}
use Rattle.model.proofs.Stands.{stands}
use Rattle.model.proofs.Keeps.{head_held, first_in}
use Rattle.model.proofs.Plans.{cells_some}
use Rattle.model.proofs.Performs.{execute_is}
use Rattle.model.proofs.Steps.{first_some}
use Rattle.tables.specs.declared.Sizes.{Sizes}
use Rattle.tables.specs.Holds.{Holds}
use Rattle.acts.specs.declared.queue.Queues.{Queues}
use Rattle.acts.specs.Tell.{InQueues, Pair}
use Rattle.tables.proofs.HeapLaws.{heaped_long}
use Rattle.acts.proofs.Queues.{count_at}
use Rattle.acts.proofs.Frame.{taken_all}
use Rattle.step.specs.declared.World.{World}
use Rattle.step.specs.World.{Held, Steady, Says, Does, Apt, is_sync}

-- what its head asks for is there
apt-of : {z : Sizes} {l : List ℕ} {g : List Float} {q : List ℕ} {e : List Float} {o : List ℕ} (s : State) (h : Holds z l g q e o s) (st : Stands s) (n : cells s.box ≡ z.cells) (c : ℕ) (ev : Event) → c < z.cells
    → Named z.cells c (listed s c) ev → Apt z ev s
apt-of {z} s h st n c (InterParticleCollision i j x y v u k) C m = (in_range_lem i c C m.0, in_range_lem j c C m.1)
  where
    in_range_lem : (i c : ℕ) → c < z.cells → has i (listed s c) ≡ true → i < z.grains
    in_range_lem i c C t = let k = (st.sound.lists.members.each c (omega (arith, n))).below i t in omega (arith, h.grained.many)
apt-of s h st n c (MoveToNeighbour i x k) C m = ((let k = (st.sound.lists.members.each c (omega (arith, n))).below i m.0 in omega (arith, h.grained.many)), m.1)
apt-of s h st n c (MoveOutOfCell i x k) C m =
    let b = (st.sound.lists.members.each c (omega (arith, n))).below i m.0 in
    (omega (arith, h.grained.many), rw m.1 C, subst (λ (j : ℕ). Pair i j s) (sym m.1) (m.0, st.sound.lists.mutual' i c b (omega (arith, n)) ∙ m.0))
apt-of s h st n c (WallReflection i x v k) C m = ((let k = (st.sound.lists.members.each c (omega (arith, n))).below i m.0 in omega (arith, h.grained.many)), tt)
apt-of s h st n c Synchronisation C m = (omega arith, tt)

-- nothing of that is lost by taking the head
apt_taken : (z : Sizes) (s : State) (ev : Event) → Apt z ev s → Apt z ev (taken s)
unfolding taken requeued
apt_taken z s (InterParticleCollision i j x y v u k) a = a
apt_taken z s (MoveToNeighbour i x k) a = a
apt_taken z s (MoveOutOfCell i x k) a = a
apt_taken z s (WallReflection i x v k) a = a
apt_taken z s Synchronisation a = a

-- ---- the tables
module _ {w : World} {l : List ℕ} {g : List Float} {q : Queues} (s : State) (h : Steady w l g q s) where
  st : Stands s
  st = stands s h.fitted h.standing

  n : cells s.box ≡ w.sizes.cells
  n = ap cells h.box ∙ w.placed.cells_are

  pub order_some : 0 < length q.order.now
  order_some = let k = heaped_long h.holds.queued.heap in omega arith

  -- the heap's first byte is the root's cell
  pub root_is : get_or q.order.now 0 0 ≡ first s
  root_is = let k = h.holds.queued.heap.heap_long in ap (λ (t : List ℕ). get_or t 0 0) h.holds.queued.heap.is ∙ get_or-append s.sched.heap s.sched.lookups 0 0 (omega arith)

  pub root_in : get_or q.order.now 0 0 < w.sizes.cells
  root_in = let k = first_in s st.sound (cells_some s.box) in let r = root_is in omega (arith, n)

  pub root-some : 0 < get_or q.queue.now (get_or q.order.now 0 0 * (queue_wide w.sizes.room)) 0
  root-some = rw root_is (let k = count_at h.holds.queued.tables (first s) in let m = first_some s st in omega (arith, k))

  head-apt : Apt w.sizes (head_event s) s
  head-apt =
      let c = first s in
      let C = first_in s st.sound (cells_some s.box) in
      let v = st.sound.queues c C in
      apt-of s h.holds st n c (head_event s) (omega (arith, C, n)) (subst (λ (k : ℕ). Named k c (listed s c) (head_event s)) n (head_held s.clock (cells s.box) c (listed s c) (queue s c) (first_some s st) v.rising v.held).0.named)

  -- its head x is the event, and tells whether it is a synchronisation
  module _ (x : Place) (ev : Event) (i : x ≡ head s) (j : ev ≡ event_of x.kind x) where
    event_is : ev ≡ head_event s
    event_is = j ∙ ap (λ (y : Place). event_of y.kind y) i

    pub step_sync : {c : Bool} → c ≡ is_sync ev → c ≡ is_sync (head_event s)
    step_sync c = c ∙ ap is_sync event_is

  -- ---- the step: its head x is taken, and the world goes to its time
  module _ {w₁ : World} {q₁ : Queues} (x : Place) (ev : Event) (sizes : w₁.sizes ≡ w.sizes) (domain : w₁.domain ≡ w.domain) (clock : w₁.clock ≡ x.time) (i : x ≡ head s) (j : ev ≡ event_of x.kind x)
      (t : InQueues w.sizes q₁ (taken s)) where
    taken_held : Held w₁ l g q₁ (taken s)
    unfolding taken requeued
    taken_held =
        let v : Holds w₁.sizes l g q₁.queue.now q₁.events.now q₁.order.now (taken s) = subst (λ (z : Sizes). Holds z l g q₁.queue.now q₁.events.now q₁.order.now (taken s)) (sym sizes) (taken_all s h.holds t) in
        record { listed = v.listed; seen = record { at = (h.box ∙ sym domain, ap (λ (y : Place). y.time) (sym i) ∙ sym clock); grained = v.grained; queued = v.queued } }

    pub taken_ready : Held w₁ l g q₁ (taken s) × Apt w₁.sizes ev (taken s)
    taken_ready = (taken_held, subst (λ (f : Event). Apt w₁.sizes f (taken s)) (sym (event_is x ev i j)) (apt_taken w₁.sizes s (head_event s) (subst (λ (z : Sizes). Apt z (head_event s) s) (sym sizes) head-apt)))

    pub step_says : {Q : State → Type 0} {r : ℕ} (rate : Float) → Does (λ u. Held w₁ l g q₁ u × Apt w₁.sizes ev u) Q r (execution rate ev) → Says Q r (event rate s)
    unfolding event
    step_says {Q} {r} rate d = subst (Says Q r) (sym (execute_is rate (head_event s) (taken s))) (subst (λ (f : Event). Says Q r (execution rate f (taken s))) (event_is x ev i j) (d.says (taken s) taken_ready))
