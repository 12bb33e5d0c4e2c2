-- Every execution, and a start, is a row of acts in 01's order, done one after another, up to the first that is refused: what each did, did the acts before it
-- and nothing of the refused one. Assumes nothing.
use Prim.Native.Nat.{ℕ, zero, suc, ◌≤◌}
use mathlib.Core.Path.{◌≡◌, refl, sym, ap, subst, ◌∙◌}
use mathlib.Core.List.{List, [], ◌∷◌, ◌++◌}
use native.Mathlib.Omega.{arith}
use lib.ListN.{length, get_or}
use lib.Ieee.{Float, binary64, add, sub}
use Rattle.model.specs.declared.Domain.{Domain}
use Rattle.model.specs.declared.Particle.{Particle}
use Rattle.model.specs.declared.Event.{Event}
use Rattle.model.specs.declared.Event.TheVariants.{InterParticleCollision, MoveToNeighbour, MoveOutOfCell, WallReflection, Synchronisation}
use Rattle.model.specs.declared.Place.{Place}
use Rattle.std.specs.Prelude.{Some, None, Ok, Err}
use Rattle.halting.specs.Out.{Out, out, next, then, each, each_of}
use Rattle.order.specs.Numbers.{fzero}
use Rattle.model.specs.Stepping.{renewed, landed, new_pos}
use Rattle.model.specs.Collision.{collision}
use Rattle.model.specs.Grid.{cells}
use Rattle.model.specs.FromPToC.{cells_of_grain}
use Rattle.model.specs.Events.{place_of}
use Rattle.model.specs.State.{State, zero_g, grain, home, listed}
use Rattle.model.specs.Acts.{store, insert, inserted, enter, entered, leave, gone}
use Rattle.model.specs.Doing.{step_grain, schedule_collision, schedule_by, boundaries, schedule_with, schedule_events, again, forget, do_collision, do_neighbour, do_out, do_wall, do_sync, execution, beginning, goes_in, pairs, sync_in, init_cell}
use Rattle.model.specs.Execute.{execute}
use Rattle.model.specs.Start.{clear, begin}
use Rattle.model.specs.declared.Bound.{Bound}
use Rattle.model.specs.declared.Bound.TheVariants.{ToNeighbour, OutOfCell, Wall}
use Rattle.model.specs.Rows.{pair, finder, Act, moving, turning, trying, cancelling, entering, leaving, perform, Acts, ended, act, doing, only, before, ◌⨟◌}
use Rattle.model.specs.Rows.{of_each, in_turn, others, stepping, colliding, finding, bounding, scheduling, reschedules, forgets, syncing, acts_of, goes, pairing, first_sync, initiates, start_acts}
use Rattle.model.proofs.Cases.{store_case, insert_case, enter_case, leave_case}

-- these acts, one after another, were done and led from s to u
abbrev pub Does : List Act → State → State → Type 0
Does [] s u = s ≡ u
Does (a ∷ xs) s u = ((perform a s).num ≡ 0) × Does xs (perform a s).st u

-- the outcome is done, or there is an act that this state refuses by this number and that leaves it as it is
abbrev pub Refuses : ℕ → State → Type 0
Refuses zero u = Unit {0}
Refuses (suc r) u = (a : Act) × (perform a u ≡ out (suc r) u)

pub record Acted (s : State) (o : Out State) : Type 0 where
  pub acts : List Act
  pub did : Does acts s o.st
  pub refuses : Refuses o.num o.st

-- ---- an act refused leaves its state as it is, and gives a number from 5 to 9
abbrev pub Same : State → Out State → Type 0
Same s o = (o.num ≡ 0 → ⊥) → (o ≡ out o.num s) × (5 ≤ o.num) × (o.num ≤ 9)

same_done : (s u : State) → Same s (out 0 u)
same_done s u n = absurd (n refl)

same_at : (s : State) (r : ℕ) → 5 ≤ r → r ≤ 9 → Same s (out r s)
same_at s r h k n = (refl, h, k)

insert_same : (c : ℕ) (e : Place) (s : State) → Same s (insert c e s)
insert_same c e s = insert_case (Same s) s c e (same_at s 5 (omega arith) (omega arith)) (λ r. same_at s 6 (omega arith) (omega arith)) (λ f r. same_done s (inserted c e s))

store_same : (g : ℕ) (p : Particle) (s : State) → Same s (store g p s)
store_same g p s = store_case (Same s) s g p (same_at s 5 (omega arith) (omega arith)) (λ f. same_done s _)

enter_same : (g c : ℕ) (s : State) → Same s (enter g c s)
enter_same g c s = enter_case (Same s) s g c (λ a. same_at s 8 (omega arith) (omega arith)) (same_at s 7 (omega arith) (omega arith)) (λ a b d. same_done s (entered g c s))

leave_same : (g c : ℕ) (s : State) → Same s (leave g c s)
leave_same g c s = leave_case (Same s) s g c (same_at s 9 (omega arith) (omega arith)) (λ a. same_done s (gone g c s))

pub act_same : (a : Act) (s : State) → Same s (perform a s)
act_same (moving g x t) s = store_same g (landed x t (grain s g)) s
act_same (turning g p) s = store_same g p s
act_same (trying c r (Ok None)) s = same_done s s
act_same (trying c r (Ok (Some e))) s = insert_same c (place_of e) s
act_same (trying c r (Err _)) s = same_at s 5 (omega arith) (omega arith)
act_same (cancelling g c) s = same_done s _
act_same (entering g c) s = enter_same g c s
act_same (leaving g c) s = leave_same g c s

-- ---- acts done one after another
does_on : (xs bs : List Act) (s u v : State) → Does xs s u → Does bs u v → Does (xs ++ bs) s v
does_on [] bs s u v d e = subst (λ (x : State). Does bs x v) (sym d) e
does_on (a ∷ xs) bs s u v d e = (d.0, does_on xs bs (perform a s).st u v d.1 e)

none : (s : State) → Acted s (out 0 s)
none s = record { acts = []; did = refl; refuses = tt }

one : (a : Act) (s : State) → Acted s (perform a s)
one a s = by (perform a s).num refl
  where
    suc-not : (r : ℕ) → suc r ≡ 0 → ⊥
    suc-not r e = omega (arith, e)

    by : (r : ℕ) → (perform a s).num ≡ r → Acted s (perform a s)
    by zero e = record { acts = a ∷ []; did = (e, refl); refuses = rw e tt }
    by (suc r) e =
        let q : perform a s ≡ out (suc r) s = (act_same a s (λ z. suc-not r (sym e ∙ z))).0 ∙ ap (λ (k : ℕ). out k s) e in
        subst (Acted s) (sym q) (record { acts = []; did = refl; refuses = (a, q) })

next_acted : (s : State) (r : ℕ) (u : State) (k : State → Out State) (xs : List Act) → Does xs s u → Refuses r u → ((w : State) → Acted w (k w)) → Acted s (next r u k)
next_acted s zero u k xs d e f = let q = f u in record { acts = xs ++ q.acts; did = does_on xs q.acts s u (k u).st d q.did; refuses = q.refuses }
next_acted s (suc r) u k xs d e f = record { acts = xs; did = d; refuses = e }

follow : (s : State) (o : Out State) (k : State → Out State) → Acted s o → ((w : State) → Acted w (k w)) → Acted s (then o k)
follow s o k a f = next_acted s o.num o.st k a.acts a.did a.refuses f

-- ---- doing a row of acts is what the inner functions do
pub record Is (f : State → Out State) (g : State → Acts) : Type 0 where
  pub same : (s : State) → doing (g s) s ≡ f s

next_ended : (r : ℕ) (u : State) → next r u (λ w. out 0 w) ≡ out r u
next_ended zero u = refl
next_ended (suc r) u = refl

next_then : (r : ℕ) (u : State) (f g : State → Out State) → next r u (λ w. then (f w) g) ≡ then (next r u f) g
next_then zero u f g = refl
next_then (suc r) u f g = refl

before_is : (w : Acts) (g : State → Acts) (s : State) → doing (before w g s) s ≡ then (doing w s) (λ u. doing (g u) u)
unfolding doing before
before_is ended g s = refl
before_is (act a f) g s = (λ i. then (perform a s) (λ u. before_is (f u) g u i)) ∙ next_then (perform a s).num (perform a s).st (λ u. doing (f u) u) (λ u. doing (g u) u)

pub is_one : (a : Act) → Is (perform a) (only a)
is_one a = record { same = λ s. unfold doing in next_ended (perform a s).num (perform a s).st }

is_then : {f g : State → Out State} {v w : State → Acts} → Is f v → Is g w → Is (λ s. then (f s) g) (v ⨟ w)
is_then {v = v} {w = w} p q = record { same = λ s. before_is (v s) w s ∙ (λ i. then (p.same s i) (λ u. q.same u i)) }

is_each : {f : ℕ → State → Out State} {g : ℕ → State → Acts} → ((x : ℕ) → Is (f x) (g x)) → (xs : List ℕ) → Is (each_of f xs) (of_each g xs)
unfolding each_of of_each doing
is_each p [] = record { same = λ s. refl }
is_each p (x ∷ xs) = record { same = λ s. (is_then (p x) (is_each p xs)).same s }

is_turns : {f : ℕ → State → Out State} {g : ℕ → State → Acts} → ((x : ℕ) → Is (f x) (g x)) → (m c : ℕ) → Is (each f m c) (in_turn g m c)
unfolding each in_turn doing
is_turns p zero c = record { same = λ s. refl }
is_turns p (suc m) c = record { same = λ s. (is_then (p c) (is_turns p m (suc c))).same s }

step_is : (g : ℕ) → Is (step_grain g) (stepping g)
step_is g = record { same = λ s. unfold step_grain in (is_one (moving g (new_pos s.box (grain s g).pos (grain s g).vel (sub binary64 s.clock (grain s g).time)) s.clock)).same s }

collide_is : (c p q : ℕ) → Is (schedule_collision c p q) (colliding c p q)
collide_is c p q = record { same = λ s. (is_one (trying c (pair p q) (collision s.box s.clock c p q (grain s p) (grain s q)))).same s }

find_is : (b : Bound) (c p d : ℕ) → Is (schedule_by (finder b) c p d) (finding b c p d)
find_is b c p d = record { same = λ s. (is_one (trying c _ (finder b d s.box s.clock c p (grain s p)))).same s }

boundaries_is : (c p : ℕ) → Is (boundaries c p) (bounding c p)
boundaries_is c p = record { same = λ s. unfold boundaries in (is_then (is_turns (find_is ToNeighbour c p) 2 0) (is_then (is_turns (find_is OutOfCell c p) 2 0) (is_turns (find_is Wall c p) 2 0))).same s }

schedule_is : (p c : ℕ) → Is (schedule_events p c) (scheduling p c)
schedule_is p c = record { same = λ s. unfold schedule_events schedule_with in (is_then (is_each step_is (others p (listed s c))) (is_then (is_each (collide_is c p) (others p (listed s c))) (boundaries_is c p))).same s }

pub again_is : (p : ℕ) → Is (again p) (reschedules p)
again_is p = record { same = λ s. unfold again in (is_each (schedule_is p) (home s p)).same s }

pub forget_is : (p : ℕ) → Is (forget p) (forgets p)
forget_is p = record { same = λ s. unfold forget in (is_each (λ c. is_one (cancelling p c)) (home s p)).same s }

-- EXECUTING AN EVENT, BY ITS ROW OF ACTS, IS WHAT THE INNER FUNCTIONS DO
pub execute_is : (rate : Float) (e : Event) (s : State) → execute rate e s ≡ execution rate e s
unfolding do_collision do_neighbour do_out do_wall do_sync
execute_is rate (InterParticleCollision p q x y v w k) s =
    (is_then (is_one (turning p (renewed x v s.clock k (grain s p)))) (is_then (is_one (turning q (renewed y w s.clock k (grain s q))))
    (is_then (forget_is p) (is_then (forget_is q) (is_then (again_is p) (again_is q)))))).same s
execute_is rate (MoveToNeighbour p x k) s = (is_then (is_one (moving p x s.clock)) (is_then (is_one (entering p k)) (schedule_is p k))).same s
execute_is rate (MoveOutOfCell p x k) s = (is_then (is_one (moving p x s.clock)) (is_then (is_one (cancelling p k)) (is_one (leaving p k)))).same s
execute_is rate (WallReflection p x v w) s = (is_then (is_one (turning p (renewed x v s.clock w (grain s p)))) (is_then (forget_is p) (again_is p))).same s
execute_is rate Synchronisation s = (is_then (is_turns step_is (length s.grains) 0) (is_one (syncing (add binary64 s.clock rate)))).same s

goes_is : (gs : List Particle) (i : ℕ) → Is (goes_in gs i) (goes gs i)
goes_is gs i = record { same = λ s. unfold goes_in in (is_then (is_one (turning i _)) (record { same = λ u. (is_each (λ c. is_one (entering i c)) (cells_of_grain u.box (get_or gs i zero_g))).same u })).same s }

pairs_is : (c : ℕ) (l : List ℕ) → Is (pairs c l) (pairing c l)
unfolding pairs pairing doing
pairs_is c [] = record { same = λ s. refl }
pairs_is c (p ∷ qs) = record { same = λ s. (is_then (is_each (collide_is c p) qs) (pairs_is c qs)).same s }

sync_is : (c : ℕ) → Is (sync_in c) (first_sync c)
sync_is zero = record { same = λ s. (is_one (syncing fzero)).same s }
sync_is (suc c) = record { same = λ s. unfold doing in refl }

init_is : (c : ℕ) → Is (init_cell c) (initiates c)
init_is c = record {
  same = λ s. unfold init_cell in
      (is_then (sync_is c) (is_then (record { same = λ u. (pairs_is c (listed u c)).same u }) (record { same = λ w. (is_each (boundaries_is c) (listed w c)).same w }))).same s;
}

-- A START, BY ITS ROW OF ACTS from the state with every place cleared, IS WHAT THE INNER FUNCTIONS DO
pub begin_is : (b : Domain) (room : ℕ) (gs : List Particle) → begin b room gs ≡ beginning b room gs
unfolding begin beginning
begin_is b room gs = (is_then (is_turns (goes_is gs) (length gs) 0) (is_turns init_is (cells b) 0)).same (clear b room (length gs))

-- a start's first part so, and its second by its row
pub begin_parts : (b : Domain) (room : ℕ) (gs : List Particle) → begin b room gs ≡ then (each (goes_in gs) (length gs) 0 (clear b room (length gs))) (λ u. doing (in_turn initiates (cells b) 0 u) u)
unfolding begin
begin_parts b room gs =
    let s = clear b room (length gs) in
    before_is (in_turn (goes gs) (length gs) 0 s) (in_turn initiates (cells b) 0) s ∙ ap (λ (o : Out State). then o (λ u. doing (in_turn initiates (cells b) 0 u) u)) ((is_turns (goes_is gs) (length gs) 0).same s)

-- ---- so each did acts, up to one that is refused
doing_acted : (w : Acts) (s : State) → Acted s (doing w s)
unfolding doing
doing_acted ended s = none s
doing_acted (act a f) s = follow s (perform a s) (λ u. doing (f u) u) (one a s) (λ u. doing_acted (f u) u)

pub execute_acted : (rate : Float) (e : Event) (s : State) → Acted s (execute rate e s)
execute_acted rate e s = doing_acted (acts_of rate e s) s

pub begin_acted : (b : Domain) (room : ℕ) (gs : List Particle) → Acted (clear b room (length gs)) (begin b room gs)
unfolding begin
begin_acted b room gs = let s = clear b room (length gs) in doing_acted (start_acts b gs s) s
