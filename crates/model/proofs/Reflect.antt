-- The test of the standing facts passes exactly if they stand. Assumes nothing.
use Prim.Native.Nat.{ℕ, ◌+◌, ◌≤◌, ◌<◌}
use mathlib.Core.Path.{◌≡◌, refl, sym, subst, ◌∙◌}
use mathlib.Core.List.{List, [], ◌∷◌}
use mathlib.Core.Bool.{Bool, true, false, not, ◌&&◌}
use native.Mathlib.Omega.{arith}
use native.Mathlib.Decide.{ℕ_discrete}
use lib.Dec.{T, eqb, leb, ltb}
use lib.ListN.{length, get_or}
use lib.Ieee.{Float, binary64, le, fits}
use lib.Ieee.Scale.{finite}
use lib.Ieee.Bits.{is_true}
use borrow.Author.Tests.{ltb-true, leb-true, eqb-true, lt-ltb, le-leb, eq-eqb, ne_eqb, not-true}
use Rattle.model.specs.declared.Place.{Place}
use Rattle.model.specs.declared.Event.{Event}
use Rattle.model.specs.declared.Event.TheVariants.{InterParticleCollision, MoveToNeighbour, MoveOutOfCell, WallReflection, Synchronisation}
use Rattle.model.specs.Check as check
use Rattle.halting.specs.Every.{every, All}
use Rattle.halting.proofs.Tests.{every_true, true_every}
use Rattle.scheduler.specs.Head.{Head, earlier}
use Rattle.scheduler.specs.Heap.{time_at, time_in, parent}
use Rattle.scheduler.specs.Standing.{Ordered}
use Rattle.model.specs.Grid.{cells}
use Rattle.model.specs.Events.{event_of, fine_place}
use Rattle.model.specs.State.{Row, none, State, zero_g, grain, listed, queue, live_at, heads, has}
use Rattle.model.specs.Acts.{fine_grain}
use Rattle.model.specs.Sizes.{box_ok}
use Rattle.model.proofs.Stands as stands
use Rattle.model.specs.Standing.{Standing, Rising, Once, syncs}
use Rattle.model.proofs.Sound.{Named, Held, Queue, Numbers, Lists, Grain, Stands}
use Rattle.model.specs.Check.{Fitted, walk, settled, queued, heaped, standing}
use Rattle.halting.proofs.Bools.{differ, both_ways, and_l, and_r, or_case}
use Rattle.model.proofs.Lists.{all_has, has_all}
use Rattle.model.proofs.Queue.{T_of}
use Rattle.model.proofs.Turns.{every_all, every_walk}

-- ---- a test that says whether P
pub record Says (b : Bool) (P : Type 0) : Type 0 where
  pub means : b ≡ true → P
  pub holds : P → b ≡ true

says : (b : Bool) (P : Type 0) → (b ≡ true → P) → (P → b ≡ true) → Says b P
says b P f g = record { means = f; holds = g }

says_to : {b : Bool} {P Q : Type 0} → Says b P → (P → Q) → (Q → P) → Says b Q
says_to s f g = record { means = λ e. f (s.means e); holds = λ q. s.holds (g q) }

says_and : {a b : Bool} {P Q : Type 0} → Says a P → Says b Q → Says (a && b) (P × Q)
says_and {a} {b} s t = record { means = λ e. (s.means (and_l a b e), t.means (and_r a b e)); holds = λ p. rw (s.holds p.0, t.holds p.1) }

says_it : (b : Bool) → Says b (b ≡ true)
says_it b = says b (b ≡ true) (λ e. e) (λ e. e)

says_T : (b : Bool) → Says b (T b)
says_T b = says b (T b) (T_of b) (is_true b)

says_not : (b : Bool) → Says (not b) (b ≡ false)
says_not b = says (not b) (b ≡ false) (not-true b) (λ e. rw e)

says_le : (a b : ℕ) → Says (leb a b) (a ≤ b)
says_le a b = says (leb a b) (a ≤ b) (leb-true a b) (le-leb a b)

says_lt : (a b : ℕ) → Says (ltb a b) (a < b)
says_lt a b = says (ltb a b) (a < b) (ltb-true a b) (lt-ltb a b)

says_eq : (a b : ℕ) → Says (eqb a b) (a ≡ b)
says_eq a b = says (eqb a b) (a ≡ b) (eqb-true a b) (eq-eqb a b)

says_every : (p : ℕ → Bool) (P : ℕ → Type 0) (m : ℕ) → ((i : ℕ) → i < m → Says (p i) (P i)) → Says (every p m 0) ((i : ℕ) → i < m → P i)
says_every p P m k = record {
  means = λ e i h. (k i h).means (true_every p m 0 e i (omega arith) (omega arith));
  holds = λ f. every_true p m 0 (λ i a b. let h : i < m = omega arith in (k i h).holds (f i h));
}

says_all : {A : Type 0} (p : A → Bool) (P : A → Type 0) (l : List A) → ((x : A) → Says (p x) (P x)) → Says (check.all p l) (All P l)
says_all p P [] k = says true (Unit {0}) (λ e. tt) (λ e. refl)
says_all p P (x ∷ xs) k = says_and (k x) (says_all p P xs k)

-- ---- a queue
says_rising : (t : Float) (l : List Place) → Says (check.rising t l) (Rising t l)
says_rising t [] = says true (Unit {0}) (λ e. tt) (λ e. refl)
says_rising t (x ∷ xs) = says_and (says_T (le t x.time)) (says_rising x.time xs)

says_named : (n c : ℕ) (l : List ℕ) (e : Event) → Says (check.named n c l e) (Named n c l e)
says_named n c l (InterParticleCollision p q x y v w k) = says_to (says_and (says_it (has p l)) (says_and (says_it (has q l)) (says_not (eqb p q)))) (λ h. (h.0, h.1.0, h.1.1)) (λ h. (h.0, (h.1, h.2)))
says_named n c l (MoveToNeighbour p x k) = says_and (says_it (has p l)) (says_lt k n)
says_named n c l (MoveOutOfCell p x k) = says_and (says_it (has p l)) (says_eq k c)
says_named n c l (WallReflection p x v w) = says_to (says_it (has p l)) (λ h. (h, tt)) (λ h. h.0)
says_named n c l Synchronisation = says_to (says_eq c 0) (λ h. (h, tt)) (λ h. h.0)

-- all but that the time fits
abbrev Found : ℕ → ℕ → List ℕ → Place → Type 0
Found n c l e = ((1 ≤ e.kind) × (e.kind ≤ 5)) × ((fine_place e ≡ true) × Named n c l (event_of e.kind e))

says_held : (n c : ℕ) (l : List ℕ) (e : Place) → Says (check.held n c l e) (Found n c l e)
says_held n c l e = says_and (says_and (says_le 1 e.kind) (says_le e.kind 5)) (says_and (says_it (fine_place e)) (says_named n c l (event_of e.kind e)))

found_held : (n c : ℕ) (l : List ℕ) (es : List Place) → All (λ e. T (fits binary64 e.time)) es → All (Found n c l) es → All (Held n c l) es
found_held n c l [] f a = tt
found_held n c l (e ∷ es) f a = (record { kind = a.0.0; fine = a.0.1.0; fit = f.0; named = a.0.1.1 }, found_held n c l es f.1 a.1)

held_found : (n c : ℕ) (l : List ℕ) (es : List Place) → All (Held n c l) es → All (Found n c l) es
held_found n c l [] a = tt
held_found n c l (e ∷ es) a = ((a.0.kind, (a.0.fine, a.0.named)), held_found n c l es a.1)

says_queue : (t : Float) (room n c : ℕ) (l : List ℕ) (r : Row Place) → All (λ e. T (fits binary64 e.time)) r.live → Says (check.queue_ok t room n c l r) (Queue t room n c l r)
says_queue t room n c l r f =
    says_to (says_and (says_eq (length r.live + length r.spare) room) (says_and (says_rising t r.live) (says_all (check.held n c l) (Found n c l) r.live (says_held n c l))))
    (λ h. record { full = h.0; rising = h.1.0; held = found_held n c l r.live f h.1.1 })
    (λ q. (q.full, (q.rising, held_found n c l r.live q.held)))

-- ---- lists of numbers
says_once : (l : List ℕ) → Says (check.once l) (Once l)
says_once [] = says true (Unit {0}) (λ e. tt) (λ e. refl)
says_once (x ∷ xs) = says_and (says_not (has x xs)) (says_once xs)

says_numbers : (n k : ℕ) (r : Row ℕ) → Says (check.numbers n k r) (Numbers n k r)
says_numbers n k r =
    says_to (says_and (says_eq (length r.live + length r.spare) k) (says_and (says_all (λ x. ltb x n) (λ x. x < n) r.live (λ x. says_lt x n)) (says_once r.live)))
    (λ h. record { full = h.0; below = all_has (λ x. x < n) r.live h.1.0; once = h.1.1 })
    (λ q. (q.full, (has_all (λ x. x < n) r.live q.below, q.once)))

-- each of a list, by its number
says_each : {A : Type 0} (p : A → Bool) (P : A → Type 0) (d : A) (xs : List A) → ((x : A) → Says (p x) (P x)) → Says (check.all p xs) ((i : ℕ) → i < length xs → P (get_or xs i d))
says_each p P d xs k =
    subst (λ (b : Bool). Says b ((i : ℕ) → i < length xs → P (get_or xs i d))) (every_all p d xs refl) (says_every (λ i. p (get_or xs i d)) (λ i. P (get_or xs i d)) (length xs) (λ i h. k (get_or xs i d)))

says_walk : {A : Type 0} (p : ℕ → A → Bool) (P : ℕ → A → Type 0) (d : A) (xs : List A) → ((i : ℕ) → Says (p i (get_or xs i d)) (P i (get_or xs i d))) → Says (walk p 0 xs) ((i : ℕ) → i < length xs → P i (get_or xs i d))
says_walk p P d xs k =
    subst (λ (b : Bool). Says b ((i : ℕ) → i < length xs → P i (get_or xs i d))) (every_walk p d xs refl) (says_every (λ i. p i (get_or xs i d)) (λ i. P i (get_or xs i d)) (length xs) (λ i h. k i))

-- each that row i lists, lists i
abbrev Back : List (Row ℕ) → ℕ → Row ℕ → Type 0
Back os i r = All (λ c. has i (live_at os c) ≡ true) r.live

says_back : (rs os : List (Row ℕ)) → Says (walk (check.back_row os) 0 rs) ((i : ℕ) → i < length rs → Back os i (get_or rs i none))
says_back rs os = says_walk (check.back_row os) (Back os) none rs (λ i. says_all (λ c. has i (live_at os c)) (λ c. has i (live_at os c) ≡ true) (live_at rs i) (λ c. says_it (has i (live_at os c))))

abbrev Some : Row ℕ → Type 0
Some r = 1 ≤ length r.live

-- as many rows as grains and cells, which list each other, and each grain is in some cell
module _ (g n : ℕ) (hs ms : List (Row ℕ)) where
  abbrev Many : Type 0
  Many = (length hs ≡ g) × (length ms ≡ n)

  abbrev Joined : Type 0
  Joined = (((i : ℕ) → i < length hs → Numbers n 8 (get_or hs i none)) × ((c : ℕ) → c < length ms → Numbers g 32 (get_or ms c none))) ×
      ((((i : ℕ) → i < length hs → Back ms i (get_or hs i none)) × ((c : ℕ) → c < length ms → Back hs c (get_or ms c none))) × ((i : ℕ) → i < length hs → Some (get_or hs i none)))

  says_linked : Says (check.linked g n hs ms) Joined
  says_linked =
      says_and (says_and (says_each (check.numbers n 8) (Numbers n 8) none hs (says_numbers n 8)) (says_each (check.numbers g 32) (Numbers g 32) none ms (says_numbers g 32)))
      (says_and (says_and (says_back hs ms) (says_back ms hs)) (says_each check.housed Some none hs (λ r. says_le 1 (length r.live))))

  lists_of : Many → Joined → Lists g n hs ms
  lists_of m j = record {
    homes = record { long = m.0; each = λ i I. j.0.0 i (let e = m.0 in omega (arith, e)) };
    members = record { long = m.1; each = λ c C. j.0.1 c (let e = m.1 in omega (arith, e)) };
    mutual' = λ i c I C. both_ways (has c (live_at hs i)) (has i (live_at ms c)) (all_has (λ c. has i (live_at ms c) ≡ true) (live_at hs i) (j.1.0.0 i (let e = m.0 in omega (arith, e))) c)
        (all_has (λ i. has c (live_at hs i) ≡ true) (live_at ms c) (j.1.0.1 c (let e = m.1 in omega (arith, e))) i);
  }

  of_lists : Lists g n hs ms → ((i : ℕ) → i < g → Some (get_or hs i none)) → Joined
  of_lists q some =
      let h = q.homes.long in
      let m = q.members.long in (
        (λ i I. q.homes.each i (omega (arith, h)), λ c C. q.members.each c (omega (arith, m))),
        (
          (
            λ i I. has_all (λ c. has i (live_at ms c) ≡ true) (live_at hs i) (λ c e. let J : i < g = omega (arith, h) in sym (q.mutual' i c J ((q.homes.each i J).below c e)) ∙ e),
            λ c C. has_all (λ i. has c (live_at hs i) ≡ true) (live_at ms c) (λ i e. let D : c < n = omega (arith, m) in q.mutual' i c ((q.members.each c D).below i e) D ∙ e),
          ),
          λ i I. some i (omega (arith, h)),
        ),
      )

-- ---- the heap
abbrev Leads : ℕ → List ℕ → List ℕ → Type 0
Leads n a b = (i : ℕ) → i < n → (get_or a i 0 < n) × (get_or b (get_or a i 0) 0 ≡ i)

says_inverse : (n : ℕ) (a b : List ℕ) → Says (check.inverse n a b) (Leads n a b)
says_inverse n a b = says_every (λ i. ltb (get_or a i 0) n && eqb (get_or b (get_or a i 0) 0) i) (λ i. (get_or a i 0 < n) × (get_or b (get_or a i 0) 0 ≡ i)) n (λ i h. says_and (says_lt (get_or a i 0) n) (says_eq (get_or b (get_or a i 0) 0) i))

says_ordered : (h : ℕ → Head) (heap : List ℕ) (n : ℕ) → Says (every (check.in_order h heap n) n 0) ((i : ℕ) → 0 < i → i < n → earlier (time_in h heap n i) (time_in h heap n (parent i)) ≡ false)
says_ordered h heap n =
    says_to (says_every (check.in_order h heap n) (λ i. 0 < i → earlier (time_in h heap n i) (time_in h heap n (parent i)) ≡ false) n
    (λ i H. says (check.in_order h heap n i) (0 < i → earlier (time_in h heap n i) (time_in h heap n (parent i)) ≡ false)
    (λ e p. or_case (eqb i 0) (not (earlier (time_in h heap n i) (time_in h heap n (parent i)))) (earlier (time_in h heap n i) (time_in h heap n (parent i)) ≡ false) e (λ t. differ t (ne_eqb i 0 (λ z. omega arith))) (not-true _)) (λ f. into i f)))
    (λ f i p H. f i H p) (λ f i H p. f i p H)
  where
    into : (i : ℕ) → (0 < i → earlier (time_in h heap n i) (time_in h heap n (parent i)) ≡ false) → check.in_order h heap n i ≡ true
    into i f = elim (ℕ_discrete i 0) [ yes e ↦ rw (eq-eqb i 0 e) | no d ↦ rw (ne_eqb i 0 d, f (omega arith)) ]

says_heaped : (h : ℕ → Head) (n : ℕ) (a b : List ℕ) → Says (heaped h n a b) (Leads n a b × (Leads n b a × ((i : ℕ) → 0 < i → i < n → earlier (time_in h a n i) (time_in h a n (parent i)) ≡ false)))
unfolding heaped
says_heaped h n a b = says_and (says_inverse n a b) (says_and (says_inverse n b a) (says_ordered h a n))

-- ---- all
module _ (s : State) where
  abbrev n : ℕ
  n = s.sched.cells

  abbrev Settled : Type 0
  Settled = (s.mark ≡ 0) × (T (finite s.clock) × (((box_ok s.box ≡ true) × (cells s.box ≡ n)) × ((g : ℕ) → g < length s.grains → Grain s.clock (grain s g))))

  says_settled : Says (settled s.mark s.clock s.box n s.grains) Settled
  unfolding settled
  says_settled =
      says_and (says_eq s.mark 0) (says_and (says_T (finite s.clock)) (says_and (says_and (says_it (box_ok s.box)) (says_eq (cells s.box) n))
      (says_each (check.timely s.clock) (Grain s.clock) zero_g s.grains
      (λ p. says_to (says_and (says_it (fine_grain p)) (says_T (le p.time s.clock))) (λ w. record { fine = w.0; past = w.1 }) (λ w. (w.fine, w.past))))))

  abbrev Queued : Type 0
  Queued = ((c : ℕ) → c < length s.queues → Queue s.clock s.room n c (listed s c) (get_or s.queues c none)) × (syncs (queue s 0) ≡ 1)

  says_queued : Fitted s → Says (queued s.clock s.room n s.members s.queues) Queued
  unfolding queued
  says_queued f =
      says_and (says_walk (λ c r. check.queue_ok s.clock s.room n c (listed s c) r) (λ c r. Queue s.clock s.room n c (listed s c) r) none s.queues
      (λ c. says_queue s.clock s.room n c (listed s c) (get_or s.queues c none) (f.times c))) (says_eq (syncs (queue s 0)) 1)

  abbrev Shaped : Type 0
  Shaped = ((length s.grains ≤ 256) × ((16 ≤ s.room) × (s.room ≤ 256))) × (((length s.homes ≡ length s.grains) × ((length s.members ≡ n) × (length s.queues ≡ n)))
      × ((n ≤ 256) × ((length s.sched.heap ≡ 256) × (length s.sched.lookups ≡ 256))))

  says_shaped : Says (check.shaped s) Shaped
  says_shaped =
      says_and (says_and (says_le (length s.grains) 256) (says_and (says_le 16 s.room) (says_le s.room 256)))
      (says_and (says_and (says_eq (length s.homes) (length s.grains)) (says_and (says_eq (length s.members) n) (says_eq (length s.queues) n)))
      (says_and (says_le n 256) (says_and (says_eq (length s.sched.heap) 256) (says_eq (length s.sched.lookups) 256))))

  abbrev Tested : Type 0
  Tested = Shaped × (Settled × (Joined (length s.grains) n s.homes s.members × (Queued × (Leads n s.sched.heap s.sched.lookups ×
      (Leads n s.sched.lookups s.sched.heap × ((i : ℕ) → 0 < i → i < n → earlier (time_at (heads s.queues) s.sched i) (time_at (heads s.queues) s.sched (parent i)) ≡ false))))))

  tested_stands : Fitted s → Tested → Stands s
  unfolding Ordered
  tested_stands f h =
      let shape = h.0 in
      let e : n ≡ cells s.box = sym h.1.0.1.1.0.1 in
      let join = h.1.1.0 in
      let queues = h.1.1.1.0 in
      let there = h.1.1.1.1.0 in
      let back = h.1.1.1.1.1.0 in
      record {
        sound = record {
          box = h.1.0.1.1.0.0;
          room = shape.0.1;
          few = shape.0.0;
          clock = h.1.0.1.0;
          fit = f.clock;
          grains = h.1.0.1.1.1;
          lists = subst (λ (k : ℕ). Lists (length s.grains) k s.homes s.members) e (lists_of (length s.grains) n s.homes s.members (shape.1.0.0, shape.1.0.1.0) join);
          long = shape.1.0.1.1 ∙ e;
          queues = λ c C. subst (λ (k : ℕ). Queue s.clock s.room k c (listed s c) (get_or s.queues c none)) e (queues.0 c (let l = shape.1.0.1.1 in omega (arith, l, e)));
          heap = record {
            cells = e;
            ordered = h.1.1.1.1.1.1;
            inverse = record {
              room = shape.1.1.0;
              heap_long = shape.1.1.1.0;
              lookups_long = shape.1.1.1.1;
              heap_in = λ i I. (there i I).0;
              lookups_in = λ i I. (back i I).0;
              there = λ i I. (there i I).1;
              back = λ i I. (back i I).1;
            };
          };
        };
        free = h.1.0.0;
        housed = λ g G. join.1.1 g (let l = shape.1.0.0 in omega (arith, l));
        sync = queues.1;
      }

  stands_tested : Stands s → Tested
  unfolding Ordered
  stands_tested q =
      let k = q.sound in
      let e = k.heap.cells in
      let v = k.heap.inverse in (
        ((k.few, k.room), ((k.lists.homes.long, (k.lists.members.long ∙ sym e, k.long ∙ sym e)), (v.room, (v.heap_long, v.lookups_long)))),
        (
          (q.free, (k.clock, ((k.box, sym e), k.grains))),
          (
            of_lists (length s.grains) n s.homes s.members (subst (λ (m : ℕ). Lists (length s.grains) m s.homes s.members) (sym e) k.lists) q.housed,
            (
              (λ c C. subst (λ (m : ℕ). Queue s.clock s.room m c (listed s c) (get_or s.queues c none)) (sym e) (k.queues c (let l = k.long in omega (arith, l))), q.sync),
              (λ i I. (v.heap_in i I, v.there i I), (λ i I. (v.lookups_in i I, v.back i I), k.heap.ordered)),
            ),
          ),
        ),
      )

pub says_stands : (s : State) → Fitted s → Says (standing s) (Stands s)
unfolding standing
says_stands s f =
    says_to (says_and (says_shaped s) (says_and (says_settled s) (says_and (says_linked (length s.grains) s.sched.cells s.homes s.members)
    (says_and (says_queued s f) (says_heaped (heads s.queues) s.sched.cells s.sched.heap s.sched.lookups)))))
    (tested_stands s f) (stands_tested s)

-- THE TEST PASSES EXACTLY IF 01's STANDING FACTS HOLD
pub says_standing : (s : State) → Fitted s → Says (standing s) (Standing s)
says_standing s f = says_to (says_stands s f) (stands.standing s) (stands.stands s f)
