-- What is scheduled is watched: the rows of moves and tries, and after schedule_events of a grain every rule about it that concerns the cell. Assumes nothing.
use Prim.Native.Nat.{ℕ, zero, suc, ◌+◌, ◌≤◌, ◌<◌}
use mathlib.Core.Path.{◌≡◌, refl, sym, ap, ◌∙◌}
use mathlib.Core.List.{List, [], ◌∷◌}
use mathlib.Core.Bool.{Bool, true, false, ◌&&◌, ◌||◌, cond, or-true}
use native.Mathlib.Omega.{arith}
use native.Mathlib.Decide.{ℕ_discrete}
use lib.Dec.{eqb}
use lib.Ieee.{Float, le}
use borrow.Author.Tests.{eqb-true, eq-eqb}
use Rattle.order.specs.Numbers.{fzero}
use Rattle.myvec.specs.Vec.{vsub}
use Rattle.halting.specs.Out.{Out, next}
use Rattle.halting.proofs.Bools.{clash, differ, or_case}
use Rattle.model.specs.declared.Domain.{Domain}
use Rattle.model.specs.declared.Particle.{Particle}
use Rattle.model.specs.declared.Event.{Event}
use Rattle.model.specs.declared.Event.TheVariants.{MoveToNeighbour, MoveOutOfCell, WallReflection}
use Rattle.std.specs.Prelude.{Some, None, Ok, Err}
use Rattle.model.specs.Plans.{Contact, Plan}
use Rattle.model.specs.Events.{place_of}
use Rattle.model.specs.State.{State, Row, live_at, grain, home, listed, has, requeued}
use Rattle.model.specs.Stepping.{due}
use Rattle.model.specs.Periodic as Periodic
use Rattle.model.specs.Collision.{reach, collide, planned, collision, struck}
use Rattle.model.specs.Moves.{later, shut, to_neighbour, out_of_cell}
use Rattle.model.specs.Walls.{no_wall, wall}
use Rattle.model.specs.declared.Bound.{Bound}
use Rattle.model.specs.declared.Bound.TheVariants.{ToNeighbour, OutOfCell, Wall}
use Rattle.model.specs.Rows.{Rule, pair, bound, sync, about, Act, moving, turning, trying, cancelling, entering, leaving, perform, Acts, ended, act, doing, only, ◌⨟◌, of_each, in_turn, finder, stepping, colliding, finding, bounding, scheduling, reschedules, pairing, first_sync, initiates, others}
use Rattle.model.specs.History.{History, row_done}
use Rattle.model.specs.Missing.{same_rule, Concerns}
use Rattle.model.proofs.Cases.{on_test, store_case, insert_case}
use Rattle.model.proofs.Lists.{eqb_sym}
use Rattle.model.proofs.Performs.{is_one}
use Rattle.model.proofs.Told.{then_whole, one_told, Every, every_before, every_each, every_turn}
use Rattle.model.proofs.Tries.{Fits, Kept, Spares, tried_now, row_spares}

-- ---- what the rules find fits them
planned_fits : (t : Float) (h : Contact) (e : Float → Event) (r : Rule) → ((dt : Float) → Fits r (due t dt (e dt))) → Fits r (planned h t e)
planned_fits t (Ok None) e r f = tt
planned_fits t (Ok (Some dt)) e r f = f dt
planned_fits t (Err _) e r f = tt

pub collision_fits : (b : Domain) (t : Float) (c p q : ℕ) (x y : Particle) → Fits (pair p q) (collision b t c p q x y)
unfolding collision
collision_fits b t c p q x y = planned_fits t (collide (reach x y) (Periodic.apart b c (vsub y.pos x.pos)) (vsub y.vel x.vel)) (struck b c p q x y) (pair p q) (λ dt. (refl, λ g. refl))

later_fits : (r : Rule) (t dt : Float) (e : Event) → Fits r (due t dt e) → Fits r (later t dt e)
unfolding later
later_fits r t dt e f = on_test (Fits r) (le dt fzero) (Ok None) (due t dt e) (λ h. tt) (λ h. f)

pub bound_fits : (b : Bound) (d : ℕ) (box : Domain) (t : Float) (c p : ℕ) (x : Particle) → Fits (bound b p d) (finder b d box t c p x)
unfolding to_neighbour out_of_cell wall
bound_fits ToNeighbour d box t c p x = on_test (Fits (bound ToNeighbour p d)) (shut d box c x) (Ok None) _ (λ h. tt) (λ h. later_fits (bound ToNeighbour p d) t _ (MoveToNeighbour p _ _) (refl, λ g. refl))
bound_fits OutOfCell d box t c p x = on_test (Fits (bound OutOfCell p d)) (shut d box c x) (Ok None) _ (λ h. tt) (λ h. later_fits (bound OutOfCell p d) t _ (MoveOutOfCell p _ _) (refl, λ g. refl))
bound_fits Wall d box t c p x = on_test (Fits (bound Wall p d)) (no_wall d box c x) (Ok None) _ (λ h. tt) (λ h. later_fits (bound Wall p d) t _ (WallReflection p _ _ _) (refl, λ g. refl))

-- ---- rows of moves and tries
abbrev pub Mild : Act → Type 0
Mild (moving i x t) = Unit {0}
Mild (turning i p) = ⊥
Mild (trying k o x) = Fits o x
Mild (cancelling i k) = ⊥
Mild (entering i k) = ⊥
Mild (leaving i k) = ⊥

pub mild_bound : (c p : ℕ) (s : State) → Every Mild (bounding c p s)
mild_bound c p s =
    every_before Mild _ _ s (every_turn Mild (finding ToNeighbour c p) 2 0 s (one' ToNeighbour))
    (λ u. every_before Mild _ _ u (every_turn Mild (finding OutOfCell c p) 2 0 u (one' OutOfCell)) (λ v. every_turn Mild (finding Wall c p) 2 0 v (one' Wall)))
  where
    one' : (b : Bound) (d : ℕ) (u : State) → Every Mild (finding b c p d u)
    one' b d u = (bound_fits b d u.box u.clock c p (grain u p), λ v. tt)

mild_collide : (c p q : ℕ) (s : State) → Every Mild (colliding c p q s)
mild_collide c p q s = (collision_fits s.box s.clock c p q (grain s p) (grain s q), λ v. tt)

pub mild_step : (g : ℕ) (s : State) → Every Mild (stepping g s)
mild_step g s = (tt, λ v. tt)

pub mild_schedule : (p c : ℕ) (s : State) → Every Mild (scheduling p c s)
mild_schedule p c s = every_before Mild _ _ s (every_each Mild stepping _ s mild_step) (λ u. every_before Mild _ _ u (every_each Mild (colliding c p) _ u (mild_collide c p)) (mild_bound c p))

pub mild_again : (p : ℕ) (s : State) → Every Mild (reschedules p s)
mild_again p s = every_each Mild (scheduling p) (home s p) s (mild_schedule p)

pub mild_pairs : (c : ℕ) (l : List ℕ) (s : State) → Every Mild (pairing c l s)
unfolding pairing
mild_pairs c [] s = tt
mild_pairs c (p ∷ qs) s = every_before Mild _ _ s (every_each Mild (colliding c p) qs s (mild_collide c p)) (mild_pairs c qs)

pub mild_sync : (c : ℕ) (s : State) → Every Mild (first_sync c s)
mild_sync zero s = ((refl, λ g. refl), λ u. tt)
mild_sync (suc c) s = tt

pub mild_init : (c : ℕ) (s : State) → Every Mild (initiates c s)
mild_init c s = every_before Mild _ _ s (mild_sync c s) (λ u. every_before Mild _ _ u (mild_pairs c (listed u c) u) (λ w. every_each Mild (bounding c) (listed w c) w (mild_bound c)))

pub every_to : (P Q : Act → Type 0) → ((a : Act) → P a → Q a) → (w : Acts) → Every P w → Every Q w
every_to P Q f ended e = tt
every_to P Q f (act a g) e = (f a e.0, λ u. every_to P Q f (g u) (e.1 u))

pub mild_spares : (c : ℕ) (r : Rule) (a : Act) → Mild a → Spares c r a
mild_spares c r (moving i x t) m = tt
mild_spares c r (turning i p) m = absurd m
mild_spares c r (trying k o x) m = m
mild_spares c r (cancelling i k) m = absurd m
mild_spares c r (entering i k) m = absurd m
mild_spares c r (leaving i k) m = absurd m

pub row_mild : (c : ℕ) (r : Rule) (w : Acts) (s : State) (h : History) → Every Mild w → Kept h c r → Kept (row_done w s h) c r
row_mild c r w s h m = row_spares c r w s h (every_to Mild (Spares c r) (mild_spares c r) w m)

-- they leave the lists
abbrev pub SameLists : State → State → Type 0
SameLists s u = (u.members ≡ s.members) × (u.homes ≡ s.homes)

pub act_lists : (a : Act) (s : State) → Mild a → SameLists s (perform a s).st
act_lists (moving i x t) s m = store_case (λ o. SameLists s o.st) s i _ (refl, refl) (λ f. (refl, refl))
act_lists (turning i p) s m = absurd m
act_lists (trying k o (Ok None)) s m = (refl, refl)
act_lists (trying k o (Err _)) s m = (refl, refl)
act_lists (trying k o (Ok (Some e))) s m = insert_case (λ o. SameLists s o.st) s k (place_of e) (refl, refl) (λ r. (refl, refl)) (λ f r. unfold requeued in (refl, refl))
act_lists (cancelling i k) s m = absurd m
act_lists (entering i k) s m = absurd m
act_lists (leaving i k) s m = absurd m

pub lists_on : (s u v : State) → SameLists s u → SameLists u v → SameLists s v
lists_on s u v a b = (b.0 ∙ a.0, b.1 ∙ a.1)

pub row_lists : (w : Acts) (s : State) → Every Mild w → SameLists s (doing w s).st
unfolding doing
row_lists ended s e = (refl, refl)
row_lists (act a f) s e = by (perform a s).num (row_lists (f (perform a s).st) (perform a s).st (e.1 (perform a s).st))
  where
    by : (r : ℕ) → let u = (perform a s).st in SameLists u (doing (f u) u).st → SameLists s (next r u (λ v. doing (f v) v)).st
    by zero i = lists_on s (perform a s).st (doing (f (perform a s).st) (perform a s).st).st (act_lists a s e.0) i
    by (suc r) i = act_lists a s e.0

-- ---- loops: what a turn makes, and mild rows keep, the loop makes for every turn
module _ (f : ℕ → State → Acts) (R : State → Type 0) (Q : ℕ → History → Type 0)
    (mild : (x : ℕ) (u : State) → Every Mild (f x u))
    (rests : (w : Acts) (u : State) → Every Mild w → R u → R (doing w u).st)
    (lasts : (x : ℕ) (w : Acts) (u : State) (h : History) → Every Mild w → Q x h → Q x (row_done w u h))
    (makes : (x : ℕ) (u : State) (h : History) → R u → (doing (f x u) u).num ≡ 0 → Q x (row_done (f x u) u h)) where
  pub each_makes : (xs : List ℕ) (s : State) (h : History) → R s → (doing (of_each f xs s) s).num ≡ 0 → (x : ℕ) → has x xs ≡ true → Q x (row_done (of_each f xs s) s h)
  unfolding of_each has
  each_makes [] s h i z x m = clash m
  each_makes (y ∷ ys) s h i z x m =
      let t = then_whole (f y s) (of_each f ys) s h z in
      let u = (doing (f y s) s).st in
      rw t.told (or_case (eqb x y) (has x ys) (Q x (row_done (of_each f ys u) u (row_done (f y s) s h))) m
      (λ e. rw (eqb-true x y e) (lasts y (of_each f ys u) u (row_done (f y s) s h) (every_each Mild f ys u mild) (makes y s h i t.first)))
      (λ n. each_makes ys u (row_done (f y s) s h) (rests (f y s) s (mild y s) i) t.second x n))

  pub turn_makes : (m c : ℕ) (s : State) (h : History) → R s → (doing (in_turn f m c s) s).num ≡ 0 → (x : ℕ) → c ≤ x → x < c + m → Q x (row_done (in_turn f m c s) s h)
  unfolding in_turn
  turn_makes zero c s h i z x a b = absurd (omega arith)
  turn_makes (suc m) c s h i z x a b =
      let t = then_whole (f c s) (in_turn f m (suc c)) s h z in
      let u = (doing (f c s) s).st in
      rw t.told (elim (ℕ_discrete x c) [
        | yes e ↦ rw e (lasts c (in_turn f m (suc c) u) u (row_done (f c s) s h) (every_turn Mild f m (suc c) u mild) (makes c s h i t.first))
        | no n ↦ turn_makes m (suc c) u (row_done (f c s) s h) (rests (f c s) s (mild c s) i) t.second x (omega arith) (omega arith)
      ])

-- ---- schedule_events of p in cell c: every rule about p that concerns the cell is watched from then on
has_in : (p q : ℕ) (l : List ℕ) → has q l ≡ true → eqb p q ≡ false → has q (others p l) ≡ true
unfolding has others
has_in p q [] h d = h
has_in p q (x ∷ xs) h d = by (eqb p x) refl (has_in p q xs)
  where
    by : (b : Bool) → eqb p x ≡ b → (has q xs ≡ true → eqb p q ≡ false → has q (others p xs) ≡ true) → has q (cond b (others p xs) (x ∷ others p xs)) ≡ true
    by true e i = or_case (eqb q x) (has q xs) (has q (others p xs) ≡ true) h (λ k. differ (ap (λ (y : ℕ). eqb p y) (eqb-true q x k) ∙ e) d) (λ k. i k d)
    by false e i = or_case (eqb q x) (has q xs) ((eqb q x || has q (others p xs)) ≡ true) h (λ k. rw k) (λ k. rw (i k d) (or-true (eqb q x)))

-- one try, done
only_tried : (k : ℕ) (o : Rule) (x : Plan) (s : State) (h : History) (r : Rule) → same_rule r o ≡ true → Fits o x → (doing (only (trying k o x) s) s).num ≡ 0 → Kept (row_done (only (trying k o x) s) s h) k r
only_tried k o x s h r e f z =
    let d : (perform (trying k o x) s).num ≡ 0 = ap (λ (w : Out State). w.num) (sym ((is_one (trying k o x)).same s)) ∙ z in
    rw (one_told (trying k o x) s h d) (tried_now k o x s h k r (rw (eq-eqb k k refl, e)) f d)

abbrev pub Any : State → Type 0
Any s = Unit {0}

-- the bounds of p, in both directions
pub bounds_made : (c p : ℕ) (s : State) (h : History) → (doing (bounding c p s) s).num ≡ 0 → (b : Bound) (d : ℕ) → d < 2 → Kept (row_done (bounding c p s) s h) c (bound b p d)
bounds_made c p s h z b d D =
    let t = then_whole (in_turn (finding ToNeighbour c p) 2 0 s) (in_turn (finding OutOfCell c p) 2 0 ⨟ in_turn (finding Wall c p) 2 0) s h z in
    let u = (doing (in_turn (finding ToNeighbour c p) 2 0 s) s).st in
    let h1 = row_done (in_turn (finding ToNeighbour c p) 2 0 s) s h in
    let v = then_whole (in_turn (finding OutOfCell c p) 2 0 u) (in_turn (finding Wall c p) 2 0) u h1 t.second in
    let w = (doing (in_turn (finding OutOfCell c p) 2 0 u) u).st in
    let h2 = row_done (in_turn (finding OutOfCell c p) 2 0 u) u h1 in
    rw (t.told, v.told) (pick b (row_done (in_turn (finding Wall c p) 2 0 w) w h2)
    (row_mild c (bound ToNeighbour p d) (in_turn (finding Wall c p) 2 0 w) w h2 (rows Wall w) (row_mild c (bound ToNeighbour p d) (in_turn (finding OutOfCell c p) 2 0 u) u h1 (rows OutOfCell u) (loop ToNeighbour s h t.first)))
    (row_mild c (bound OutOfCell p d) (in_turn (finding Wall c p) 2 0 w) w h2 (rows Wall w) (loop OutOfCell u h1 v.first))
    (loop Wall w h2 v.second))
  where
    rows : (b : Bound) (u : State) → Every Mild (in_turn (finding b c p) 2 0 u)
    rows b u = every_turn Mild (finding b c p) 2 0 u (λ e v. (bound_fits b e v.box v.clock c p (grain v p), λ x. tt))

    loop : (b : Bound) (u : State) (k : History) → (doing (in_turn (finding b c p) 2 0 u) u).num ≡ 0 → Kept (row_done (in_turn (finding b c p) 2 0 u) u k) c (bound b p d)
    loop b u k y =
        turn_makes (finding b c p) Any (λ e l. Kept l c (bound b p e)) (λ e v. (bound_fits b e v.box v.clock c p (grain v p), λ x. tt)) (λ w v m i. tt) (λ e w v l m. row_mild c (bound b p e) w v l m)
        (λ e v l i q. only_tried c (bound b p e) (finder b e v.box v.clock c p (grain v p)) v l (bound b p e) (self b p e) (bound_fits b e v.box v.clock c p (grain v p)) q)
        2 0 u k tt y d (omega arith) (omega arith)
      where
        self : (b : Bound) (p e : ℕ) → same_rule (bound b p e) (bound b p e) ≡ true
        self ToNeighbour p e = rw (eq-eqb p p refl, eq-eqb e e refl)
        self OutOfCell p e = rw (eq-eqb p p refl, eq-eqb e e refl)
        self Wall p e = rw (eq-eqb p p refl, eq-eqb e e refl)

    pick : (b : Bound) (k : History) → Kept k c (bound ToNeighbour p d) → Kept k c (bound OutOfCell p d) → Kept k c (bound Wall p d) → Kept k c (bound b p d)
    pick ToNeighbour k x y z = x
    pick OutOfCell k x y z = y
    pick Wall k x y z = z

-- every rule about p that concerns cell c
abbrev pub About : State → ℕ → ℕ → History → Type 0
About s c p h = (r : Rule) → Concerns s c r → about r p ≡ true → Kept h c r

pub same_concerns : (s u : State) (c : ℕ) (r : Rule) → u.members ≡ s.members → Concerns u c r → Concerns s c r
same_concerns s u c (pair p q) e k = (ap (λ (m : List (Row ℕ)). has p (live_at m c)) (sym e) ∙ k.0, ap (λ (m : List (Row ℕ)). has q (live_at m c)) (sym e) ∙ k.1, k.2)
same_concerns s u c (bound b p d) e k = (ap (λ (m : List (Row ℕ)). has p (live_at m c)) (sym e) ∙ k.0, k.1)
same_concerns s u c sync e k = k

pub collisions_made : (c p : ℕ) (qs : List ℕ) (s : State) (h : History) → (doing (of_each (colliding c p) qs s) s).num ≡ 0 → (q : ℕ) → has q qs ≡ true → (r : Rule) → same_rule r (pair p q) ≡ true → Kept (row_done (of_each (colliding c p) qs s) s h) c r
collisions_made c p qs s h z =
    each_makes (colliding c p) Any (λ q l. (r : Rule) → same_rule r (pair p q) ≡ true → Kept l c r) (mild_collide c p) (λ w u m i. tt) (λ q w u l m k r e. row_mild c r w u l m (k r e))
    (λ q u l i y r e. only_tried c (pair p q) (collision u.box u.clock c p q (grain u p) (grain u q)) u l r e (collision_fits u.box u.clock c p q (grain u p) (grain u q)) y)
    qs s h tt z

-- a pair of which one is p: the other, and that it is the pair of p with it
pub schedule_made : (p c : ℕ) (s : State) (h : History) → (doing (scheduling p c s) s).num ≡ 0 → About s c p (row_done (scheduling p c s) s h)
schedule_made p c s h z =
    let qs = others p (listed s c) in
    let t = then_whole (of_each stepping qs s) (of_each (colliding c p) qs ⨟ bounding c p) s h z in
    let u = (doing (of_each stepping qs s) s).st in
    let h1 = row_done (of_each stepping qs s) s h in
    let v = then_whole (of_each (colliding c p) qs u) (bounding c p) u h1 t.second in
    let w = (doing (of_each (colliding c p) qs u) u).st in
    let h2 = row_done (of_each (colliding c p) qs u) u h1 in
    rw (t.told, v.told) (by w h2 (λ q m r e. row_mild c r (bounding c p w) w h2 (mild_bound c p w) (collisions_made c p qs u h1 v.first q m r e)) (bounds_made c p w h2 v.second))
  where
    by : (w : State) (k : History) → ((q : ℕ) → has q (others p (listed s c)) ≡ true → (r : Rule) → same_rule r (pair p q) ≡ true → Kept (row_done (bounding c p w) w k) c r)
        → ((b : Bound) (d : ℕ) → d < 2 → Kept (row_done (bounding c p w) w k) c (bound b p d)) → About s c p (row_done (bounding c p w) w k)
    by w k f g (pair i j) m e =
        or_case (eqb i p) (eqb j p) (Kept (row_done (bounding c p w) w k) c (pair i j)) e
        (λ x. let q = eqb-true i p x in f j (has_in p j (listed s c) m.1 (rw (← q) m.2)) (pair i j) (rw (x, eq-eqb j j refl)))
        (λ x. let q = eqb-true j p x in f i (has_in p i (listed s c) m.0 (eqb_sym p i ∙ (rw (← q) m.2))) (pair i j) (rw (x, eq-eqb i i refl) (or-true (eqb i p && eqb j i))))
    by w k f g (bound b i d) m e = rw (eqb-true i p e) (g b d m.1)
    by w k f g sync m e = clash e

-- in all its cells
pub again_made : (p : ℕ) (s : State) (h : History) → (doing (reschedules p s) s).num ≡ 0 → (c : ℕ) → has c (home s p) ≡ true → About s c p (row_done (reschedules p s) s h)
again_made p s h z =
    each_makes (scheduling p) (SameLists s) (λ c l. About s c p l) (mild_schedule p) (λ w u m i. lists_on s u (doing w u).st i (row_lists w u m)) (λ c w u l m k r o e. row_mild c r w u l m (k r o e))
    (λ c u l i y r o e. schedule_made p c u l y r (same_concerns u s c r (sym i.0) o) e)
    (home s p) s h (refl, refl) z
