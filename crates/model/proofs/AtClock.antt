-- WHEN A RULE IS TRIED, THE GRAINS THAT IT IS ABOUT HAVE BEEN STEPPED TO THE CLOCK, in every row of acts that an event or a start does; and the try is of what the rule
-- finds there. Assumes nothing.
use Prim.Native.Nat.{ℕ, zero, suc, ◌+◌, ◌≤◌, ◌<◌}
use mathlib.Core.Path.{◌≡◌, refl, sym, ap, subst, ◌∙◌}
use mathlib.Core.List.{List, [], ◌∷◌}
use mathlib.Core.Bool.{true, or-true}
use native.Mathlib.Omega.{arith}
use native.Mathlib.Decide.{dec_le}
use lib.Dec.{eqb}
use lib.ListN.{length, get_or, replicate, length-set, length-replicate, get_or-replicate, get_or-eq_default}
use lib.Seq.{get_or-set_same}
use lib.Ieee.{Float}
use borrow.Author.Tests.{eq-eqb, eqb-true}
use Rattle.halting.proofs.Bools.{clash, or_case}
use Rattle.order.specs.Numbers.{fzero}
use Rattle.myvec.specs.declared.MyVec.{MyVec}
use Rattle.model.specs.declared.Domain.{Domain}
use Rattle.model.specs.declared.Particle.{Particle}
use Rattle.std.specs.Prelude.{Some, Ok}
use Rattle.model.specs.Plans.{Plan}
use Rattle.model.specs.declared.Event.{Event}
use Rattle.model.specs.declared.Event.TheVariants.{InterParticleCollision, MoveToNeighbour, MoveOutOfCell, WallReflection, Synchronisation}
use Rattle.model.specs.Grid.{cells}
use Rattle.model.specs.Stepping.{renewed, landed, at_zero, stepped}
use Rattle.model.specs.Collision.{collision}
use Rattle.model.specs.FromPToC.{cells_of_grain}
use Rattle.model.specs.State.{Row, none, State, zero_g, grain, home, listed, has, pushed, requeued}
use Rattle.model.specs.Acts.{store, put, cancelled, enter}
use Rattle.model.specs.Start.{clear}
use Rattle.model.specs.declared.Bound.{Bound}
use Rattle.model.specs.declared.Bound.TheVariants.{ToNeighbour, OutOfCell, Wall}
use Rattle.model.specs.Rows.{Rule, pair, bound, sync, finder, moving, trying, cancelling, entering, perform, Acts, ended, act, only, before, ◌⨟◌}
use Rattle.model.specs.Rows.{of_each, in_turn, stepping, colliding, finding, bounding, scheduling, reschedules, forgets, acts_of, goes, pairing, first_sync, initiates, start_acts, others}
use Rattle.model.specs.History.{AtClock, Honest}
use Rattle.model.proofs.Sound.{Sound, Named}
use Rattle.model.proofs.Cases.{store_case, put_case, enter_case}
use Rattle.model.proofs.Lists.{set_case, has_snoc}
use Rattle.model.proofs.Schedule.{has_others}
use Rattle.model.proofs.Renews.{reflects, collides}

-- ---- rows, done from a state: each act is honest where it is done, and the state that the row leaves, if all are done, has the fact Q
abbrev pub Honestly : Acts → State → (State → Type 0) → Type 0
Honestly ended s Q = Q s
Honestly (act a f) s Q = Honest a s × ((perform a s).num ≡ 0 → Honestly (f (perform a s).st) (perform a s).st Q)

-- a row after a row; a weaker fact
then_honest : (w : Acts) (g : State → Acts) (s : State) (P Q : State → Type 0) → Honestly w s P → ((u : State) → P u → Honestly (g u) u Q) → Honestly (before w g s) s Q
unfolding before
then_honest ended g s P Q e k = k s e
then_honest (act a f) g s P Q e k = (e.0, λ z. then_honest (f (perform a s).st) g (perform a s).st P Q (e.1 z) k)

honest_to : (w : Acts) (s : State) (P Q : State → Type 0) → Honestly w s P → ((u : State) → P u → Q u) → Honestly w s Q
honest_to ended s P Q e k = k s e
honest_to (act a f) s P Q e k = (e.0, λ z. honest_to (f (perform a s).st) (perform a s).st P Q (e.1 z) k)

-- what each turn of a loop keeps, the loop keeps
module _ (I : State → Type 0) (f : ℕ → State → Acts) where
  each_honest : (xs : List ℕ) → ((x : ℕ) (u : State) → has x xs ≡ true → I u → Honestly (f x u) u I) → (s : State) → I s → Honestly (of_each f xs s) s I
  unfolding of_each has
  each_honest [] k s i = i
  each_honest (x ∷ xs) k s i = then_honest (f x s) (of_each f xs) s I I (k x s (rw (eq-eqb x x refl)) i) (each_honest xs (λ y u h. k y u (rw h (or-true (eqb y x)))))

  turn_honest : (n : ℕ) → ((x : ℕ) (u : State) → x < n → I u → Honestly (f x u) u I) → (m c : ℕ) → c + m ≤ n → (s : State) → I s → Honestly (in_turn f m c s) s I
  unfolding in_turn
  turn_honest n k zero c h s i = i
  turn_honest n k (suc m) c h s i = then_honest (f c s) (in_turn f m (suc c)) s I I (k c s (omega arith) i) (turn_honest n k m (suc c) (omega arith))

-- ---- what acts carry from a state to a later one: the clock, how many grains there are, who is at the clock, and that lists hold no others
-- a cell lists only grains that there are
abbrev pub Ranges : State → Type 0
Ranges s = (c g : ℕ) → has g (listed s c) ≡ true → g < length s.grains

record Carried (s u : State) : Type 0 where
  clock : u.clock ≡ s.clock
  few : length u.grains ≡ length s.grains
  stays : (g : ℕ) → AtClock s g → AtClock u g
  ranges : Ranges s → Ranges u

carried_refl : (s : State) → Carried s s
carried_refl s = record { clock = refl; few = refl; stays = λ g a. a; ranges = λ r. r }

carried_on : (s u v : State) → Carried s u → Carried u v → Carried s v
carried_on s u v a b = record { clock = b.clock ∙ a.clock; few = b.few ∙ a.few; stays = λ g e. b.stays g (a.stays g e); ranges = λ r. b.ranges (a.ranges r) }

put_carried : (s : State) (c : ℕ) (x : Plan) → Carried s (put c x s).st
put_carried s c x = put_case (λ o. Carried s o.st) s c x (λ r. carried_refl s) (λ q h. record { clock = refl; few = refl; stays = λ g a. a; ranges = λ r. r })

cancel_carried : (s : State) (g c : ℕ) → Carried s (cancelled g c s)
unfolding cancelled requeued
cancel_carried s g c = record { clock = refl; few = refl; stays = λ g a. a; ranges = λ r. r }

-- a grain stored with the clock's time; it is at the clock then, if it is one
store_carried : (s : State) (g : ℕ) (p : Particle) → p.time ≡ s.clock → Carried s (store g p s).st
store_carried s g p t = store_case (λ o. Carried s o.st) s g p (carried_refl s) (λ f. record {
  clock = refl;
  few = length-set s.grains g p;
  stays = λ i a. set_case (λ x. x.time ≡ s.clock) zero_g s.grains g i p (λ e. t) a;
  ranges = λ r c i h. rw (length-set s.grains g p) (r c i h);
})

store_there : (s : State) (g : ℕ) (p : Particle) → p.time ≡ s.clock → g < length s.grains → (store g p s).num ≡ 0 → AtClock (store g p s).st g
store_there s g p t G = store_case (λ o. o.num ≡ 0 → AtClock o.st g) s g p (λ z. absurd (omega (arith, z))) (λ f z. ap (λ (x : Particle). x.time) (get_or-set_same s.grains g p zero_g G) ∙ t)

-- a grain that there is enters
enter_carried : (s : State) (g c : ℕ) → g < length s.grains → Carried s (enter g c s).st
enter_carried s g c G = enter_case (λ o. Carried s o.st) s g c (λ a. carried_refl s) (carried_refl s) (λ a b d. record {
  clock = refl;
  few = refl;
  stays = λ i a. a;
  ranges = λ r k i. set_case (λ w. has i w.live ≡ true → i < length s.grains) none s.members c k (pushed g (get_or s.members c none))
      (λ e h. or_case (has i (listed s c)) (eqb i g) (i < length s.grains) (sym (has_snoc i (listed s c) g) ∙ h) (r c i) (λ q. rw (eqb-true i g q) G)) (r k i);
})

-- a sound state's lists; a cell that there is not lists none
pub sound_ranges : (s : State) → Sound s → Ranges s
unfolding has
sound_ranges s sound c g h = elim (dec_le (cells s.box) c) [
  | yes o ↦ clash (sym (ap (λ (r : Row ℕ). has g r.live) (get_or-eq_default s.members none (let e = sound.lists.members.long in omega (arith, e)))) ∙ h)
  | no n ↦ (sound.lists.members.each c (omega arith)).below g h
]

-- ---- the rows of 01: each is honest and carries on what was carried from s
abbrev Carries : State → (State → Acts) → Type 0
Carries s w = (u : State) → Carried s u → Honestly (w u) u (Carried s)

-- tries, about grains that were at the clock in s
trying_honest : (s : State) (c : ℕ) (r : Rule) (x : Plan) (u : State) → Carried s u → Honest (trying c r x) u → Honestly (only (trying c r x) u) u (Carried s)
trying_honest s c r x u k h = (h, λ z. carried_on s u (put c x u).st k (put_carried u c x))

finding_honest : (s : State) (b : Bound) (c p d : ℕ) → AtClock s p → Carries s (finding b c p d)
finding_honest s b c p d a u k = trying_honest s c (bound b p d) (finder b d u.box u.clock c p (grain u p)) u k (refl, λ g e. subst (AtClock u) (eqb-true p g e) (k.stays p a))

colliding_honest : (s : State) (c p q : ℕ) → AtClock s p → AtClock s q → Carries s (colliding c p q)
colliding_honest s c p q a b u k = trying_honest s c (pair p q) (collision u.box u.clock c p q (grain u p) (grain u q)) u k (
  refl,
  λ g h.
      or_case (eqb p g) (eqb q g) (AtClock u g) h (λ e. subst (AtClock u) (eqb-true p g e) (k.stays p a)) (λ e. subst (AtClock u) (eqb-true q g e) (k.stays q b)),
)

bounding_honest : (s : State) (c p : ℕ) → AtClock s p → Carries s (bounding c p)
bounding_honest s c p a u k = then_honest _ _ u (Carried s) (Carried s) (loop ToNeighbour u k) (λ v k. then_honest _ _ v (Carried s) (Carried s) (loop OutOfCell v k) (loop Wall))
  where
    loop : (b : Bound) → Carries s (in_turn (finding b c p) 2 0)
    loop b = turn_honest (Carried s) (finding b c p) 2 (λ d v D k. finding_honest s b c p d a v k) 2 0 (omega arith)

-- grains that there are step: then they are at the clock
abbrev Stepped : List ℕ → State → State → Type 0
Stepped qs s u = Carried s u × ((q : ℕ) → has q qs ≡ true → AtClock u q)

stepping_honest : (qs : List ℕ) (s : State) → ((q : ℕ) → has q qs ≡ true → q < length s.grains) → Honestly (of_each stepping qs s) s (Stepped qs s)
unfolding of_each has
stepping_honest [] s r = (carried_refl s, λ q h. clash h)
stepping_honest (x ∷ xs) s r =
    then_honest (stepping x s) (of_each stepping xs) s (λ u. Carried s u × AtClock u x) (Stepped (x ∷ xs) s)
    (tt, λ z. (store_carried s x (stepped s.box s.clock (grain s x)) refl, store_there s x (stepped s.box s.clock (grain s x)) refl (r x (rw (eq-eqb x x refl))) z))
    (λ u i. honest_to (of_each stepping xs u) u (Stepped xs u) (Stepped (x ∷ xs) s) (stepping_honest xs u (λ q h. rw i.0.few (r q (rw h (or-true (eqb q x))))))
    (λ v j. (carried_on s u v i.0 j.0, λ q h. or_case (eqb q x) (has q xs) (AtClock v q) h (λ e. subst (AtClock v) (sym (eqb-true q x e)) (j.0.stays x i.1)) (j.1 q))))

scheduling_honest : (s : State) (p c : ℕ) → Ranges s → AtClock s p → Carries s (scheduling p c)
scheduling_honest s p c r a u k =
    let qs = others p (listed u c) in
    then_honest _ _ u (Stepped qs u) (Carried s) (stepping_honest qs u (λ q h. k.ranges r c q (has_others p q (listed u c) h).0))
    (λ v i. let l = carried_on s u v k i.0 in
    then_honest _ _ v (Carried v) (Carried s) (each_honest (Carried v) (colliding c p) qs (λ q w h. colliding_honest v c p q (l.stays p a) (i.1 q h) w) v (carried_refl v))
    (λ w j. bounding_honest s c p a w (carried_on s v w l j)))

again_honest : (s : State) (p : ℕ) → Ranges s → AtClock s p → Carries s (reschedules p)
again_honest s p r a u k = each_honest (Carried s) (scheduling p) (home u p) (λ c v h. scheduling_honest s p c r a v) u k

forget_honest : (s : State) (p : ℕ) → Carries s (forgets p)
forget_honest s p u k = each_honest (Carried s) (λ c. only (cancelling p c)) (home u p) (λ c v h k. (tt, λ z. carried_on s v _ k (cancel_carried v p c))) u k

-- ---- the five executions, of an event that names grains that its cell lists
abbrev pub Any : State → Type 0
Any s = Unit {0}

collision_honest : (s : State) (p q : ℕ) (x y : Particle) → Ranges s → p < length s.grains → q < length s.grains → x.time ≡ s.clock → y.time ≡ s.clock → Honestly (collides p x q y s) s Any
collision_honest s p q x y r P Q X Y =
    then_honest _ _ s (λ u. Carried s u × AtClock u p) Any (tt, λ z. (store_carried s p x X, store_there s p x X P z))
    (λ u i. then_honest _ _ u (λ v. Ranges v × AtClock v p × AtClock v q) Any (
      tt,
      λ z. let Y' : y.time ≡ u.clock = Y ∙ sym i.0.clock in
          let k = store_carried u q y Y' in
          (k.ranges (i.0.ranges r), k.stays p i.1, store_there u q y Y' (rw i.0.few Q) z),
    )
    (λ v i. then_honest _ _ v (Carried v) Any (forget_honest v p v (carried_refl v))
    (λ w k. then_honest _ _ w (Carried v) Any (forget_honest v q w k)
    (λ w k. then_honest _ _ w (Carried v) Any (again_honest v p i.0 i.1 w k)
    (λ w k. honest_to (reschedules q w) w (Carried v) Any (again_honest v q i.0 i.2 w k) (λ x k. tt))))))

wall_honest : (s : State) (p : ℕ) (x : Particle) → Ranges s → p < length s.grains → x.time ≡ s.clock → Honestly (reflects p x s) s Any
wall_honest s p x r P X =
    then_honest _ _ s (λ u. Ranges u × AtClock u p) Any (tt, λ z. ((store_carried s p x X).ranges r, store_there s p x X P z))
    (λ u i. then_honest _ _ u (Carried u) Any (forget_honest u p u (carried_refl u))
    (λ v k. honest_to (reschedules p v) v (Carried u) Any (again_honest u p i.0 i.1 v k) (λ x k. tt)))

neighbour_honest : (s : State) (p k : ℕ) (x : MyVec) → Ranges s → p < length s.grains → Honestly ((only (moving p x s.clock) ⨟ only (entering p k) ⨟ scheduling p k) s) s Any
neighbour_honest s p k x r P =
    let y = landed x s.clock (grain s p) in
    then_honest _ _ s (λ u. Carried s u × AtClock u p) Any (tt, λ z. (store_carried s p y refl, store_there s p y refl P z))
    (λ u i. let e = enter_carried u p k (rw i.0.few P) in
    then_honest _ _ u (λ v. Ranges v × AtClock v p) Any (tt, λ z. (e.ranges (i.0.ranges r), e.stays p i.1))
    (λ v i. honest_to (scheduling p k v) v (Carried v) Any (scheduling_honest v p k i.0 i.1 v (carried_refl v)) (λ x k. tt)))

pub acts_honest : (rate : Float) (e : Event) (n c : ℕ) (s : State) → Ranges s → Named n c (listed s c) e → Honestly (acts_of rate e s) s Any
acts_honest rate (InterParticleCollision p q x y v w k) n c s r m = collision_honest s p q (renewed x v s.clock k (grain s p)) (renewed y w s.clock k (grain s q)) r (r c p m.0) (r c q m.1) refl refl
acts_honest rate (MoveToNeighbour p x k) n c s r m = neighbour_honest s p k x r (r c p m.0)
acts_honest rate (MoveOutOfCell p x k) n c s r m = then_honest _ _ s Any Any (tt, λ z. tt) (λ u i. then_honest _ _ u Any Any (tt, λ z. tt) (λ v i. (tt, λ z. tt)))
acts_honest rate (WallReflection p x v w) n c s r m = wall_honest s p (renewed x v s.clock w (grain s p)) r (r c p m.0) refl
acts_honest rate Synchronisation n c s r m =
    then_honest _ _ s Any Any (turn_honest Any stepping (length s.grains) (λ g u G i. (tt, λ z. tt)) (length s.grains) 0 (omega arith) s tt) (λ u i. (((_, refl), λ g e. clash e), λ z. tt))

-- ---- a start: every grain is at the clock all along
module _ (s : State) (all : (g : ℕ) → AtClock s g) where
  pairing_honest : (c : ℕ) (l : List ℕ) → Carries s (pairing c l)
  unfolding pairing
  pairing_honest c [] u k = k
  pairing_honest c (p ∷ qs) u k = then_honest _ _ u (Carried s) (Carried s) (each_honest (Carried s) (colliding c p) qs (λ q v h. colliding_honest s c p q (all p) (all q) v) u k) (pairing_honest c qs)

  sync_honest : (c : ℕ) → Carries s (first_sync c)
  sync_honest zero u k = trying_honest s 0 sync (Ok (Some (record { time = fzero; event = Synchronisation }))) u k ((_, refl), λ g e. clash e)
  sync_honest (suc c) u k = k

  init_honest : (c : ℕ) → Carries s (initiates c)
  init_honest c u k =
      then_honest _ _ u (Carried s) (Carried s) (sync_honest c u k) (λ v k. then_honest _ _ v (Carried s) (Carried s) (pairing_honest c (listed v c) v k)
      (λ w k. each_honest (Carried s) (bounding c) (listed w c) (λ p x h. bounding_honest s c p (all p) x) w k))

  goes_honest : s.clock ≡ fzero → (gs : List Particle) → length gs ≤ length s.grains → (i : ℕ) → i < length gs → Carries s (goes gs i)
  goes_honest t gs few i I u k =
      let p = get_or gs i zero_g in
      then_honest _ _ u (Carried s) (Carried s) (tt, λ z. carried_on s u _ k (store_carried u i (at_zero p) (sym (k.clock ∙ t))))
      (λ v k. each_honest (Carried s) (λ c. only (entering i c)) (cells_of_grain v.box p) (λ c w h k. (tt, λ z. carried_on s w _ k (enter_carried w i c (let e = k.few in omega (arith, e))))) v k)

clear_at : (b : Domain) (room n g : ℕ) → AtClock (clear b room n) g
unfolding clear
clear_at b room n g = elim (dec_le n g) [
  | yes o ↦ ap (λ (p : Particle). p.time) (get_or-eq_default (replicate n zero_g) zero_g (let e = length-replicate n zero_g in omega (arith, e)))
  | no h ↦ ap (λ (p : Particle). p.time) (get_or-replicate n g zero_g zero_g (omega arith))
]

pub start_honest : (b : Domain) (room : ℕ) (gs : List Particle) → Honestly (start_acts b gs (clear b room (length gs))) (clear b room (length gs)) Any
start_honest b room gs =
    let s = clear b room (length gs) in
    let all = clear_at b room (length gs) in
    let t : s.clock ≡ fzero = unfold clear in refl in
    let few : length gs ≤ length s.grains = unfold clear in let e = length-replicate (length gs) zero_g in omega (arith, e) in
    then_honest _ _ s (Carried s) Any (turn_honest (Carried s) (goes gs) (length gs) (λ i u I. goes_honest s all t gs few i I u) (length gs) 0 (omega arith) s (carried_refl s))
    (λ u k. honest_to (in_turn initiates (cells b) 0 u) u (Carried s) Any (turn_honest (Carried s) initiates (cells b) (λ c v C. init_honest s all c v) (cells b) 0 (omega arith) u k) (λ v k. tt))
