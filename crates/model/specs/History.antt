-- The history of acts: every act done since an accepted start, newest first, as 01's rules give them, the taking of a head among them; and what can be read off it.
-- Acts are numbered from 1 in the order in which they were done. Assumes nothing: these are definitions.
use Rattle.std.specs.Prelude.{ℕ, zero, suc, ◌<◌, ◌≡◌, List, [], ◌∷◌, Bool, true, false, cond, eqb, length, drop, Float, Some, None, Ok, Err}
use Rattle.std.specs.Float.Ieee.{le}
use Rattle.halting.specs.Out.{out}
use Rattle.halting.specs.Every.{All}
use Rattle.myvec.specs.declared.MyVec.{MyVec}
use Rattle.model.specs.declared.Domain.{Domain}
use Rattle.model.specs.declared.Particle.{Particle}
use Rattle.model.specs.declared.Place.{Place}
use Rattle.model.specs.Plans.{Plan}
use Rattle.model.specs.Grid.{cells}
use Rattle.model.specs.declared.Event.TheVariants.{Synchronisation}
use Rattle.model.specs.Events.{zero_v, place_of, event_of, names}
use Rattle.model.specs.State.{State, grain}
use Rattle.model.specs.Acts.{first, taken}
use Rattle.model.specs.Execute.{head_event}
use Rattle.model.specs.Collision.{collision}
use Rattle.model.specs.Rows.{finder, Rule, pair, bound, sync, about, Act, moving, turning, trying, cancelling, entering, leaving, perform, Acts, ended, act, acts_of, start_acts}
use Rattle.model.specs.Start.{clear}
use Rattle.model.specs.Check.{run_all}
use Rattle.model.specs.Reached.{Call, Reached, steps}

-- ---- 1. the history
-- an act, or the head of a cell's list taken out (with the heap's update and the clock)
pub data Deed : Type 0 where
  did : Act → Deed
  took : ℕ → Deed

abbrev pub History : Type 0
History = List Deed

-- an act goes onto the history if it was done, and the row goes on; it ends at the first that is refused
abbrev pub onto : ℕ → Act → (History → History) → History → History
onto zero a k h = k (did a ∷ h)
onto (suc r) a k h = h

unfoldable pub row_done : Acts → State → History → History
row_done ended s h = h
row_done (act a f) s h = let u = (perform a s).st in onto (perform a s).num a (row_done (f u) u) h

-- a step takes the head out and does its event's acts; n steps; the steps that a run counts; a start
unfoldable pub step_done : Float → State → History → History
step_done rate s h = row_done (acts_of rate (head_event s) (taken s)) (taken s) (took (first s) ∷ h)

unfoldable pub steps_done : Float → ℕ → State → History → History
steps_done rate zero s h = h
steps_done rate (suc n) s h = step_done rate (steps rate n s) (steps_done rate n s h)

unfoldable pub calls_done : List Call → State → History → History
calls_done [] s h = h
calls_done (k ∷ ks) s h = let r = run_all k.rate k.budget s in calls_done ks r.state (steps_done k.rate r.count s h)

unfoldable pub start_done : Domain → ℕ → List Particle → History
start_done b room gs = let s = clear b room (length gs) in row_done (start_acts b gs s) s []

-- of a reached state: its start, then its runs
abbrev pub history : (s : State) → Reached s → History
history s r = calls_done r.calls r.begun (start_done r.box r.room r.grains)

-- ---- 2. when something was last done: its number, 0 if never
unfoldable pub latest : (Deed → Bool) → History → ℕ
latest t [] = 0
latest t (d ∷ h) = cond (t d) (suc (length h)) (latest t h)

-- and what it gave, or a if never
unfoldable pub last_of : {A : Type 0} → A → (Deed → A) → (Deed → Bool) → History → A
last_of a f t [] = a
last_of a f t (d ∷ h) = cond (t d) (f d) (last_of a f t h)

-- this deed gave grain g a velocity, and which
abbrev pub turns : ℕ → Deed → Bool
turns g (did (moving i x t)) = false
turns g (did (turning i p)) = eqb i g
turns g (did (trying k r x)) = false
turns g (did (cancelling i k)) = false
turns g (did (entering i k)) = false
turns g (did (leaving i k)) = false
turns g (took k) = false

abbrev pub velocity_of : Deed → MyVec
velocity_of (did (moving i x t)) = zero_v
velocity_of (did (turning i p)) = p.vel
velocity_of (did (trying k r x)) = zero_v
velocity_of (did (cancelling i k)) = zero_v
velocity_of (did (entering i k)) = zero_v
velocity_of (did (leaving i k)) = zero_v
velocity_of (took k) = zero_v

abbrev pub turned : History → ℕ → ℕ
turned h g = latest (turns g) h

-- ---- 3. the pending events of each cell, from the history alone, each beside the number of the act that put it in
pub record Dated : Type 0 where
  pub event : Place
  pub by : ℕ

abbrev pub dated_at : Place → ℕ → Dated
dated_at e n = record { event = e; by = n }

abbrev pub named_by : Dated → ℕ → Bool
named_by d g = names (event_of d.event.kind d.event) g

unfoldable pub dated_places : List Dated → List Place
dated_places [] = []
dated_places (d ∷ l) = d.event ∷ dated_places l

unfoldable pub insert_dated : Dated → List Dated → List Dated
insert_dated d [] = d ∷ []
insert_dated d (x ∷ xs) = cond (le x.event.time d.event.time) (x ∷ insert_dated d xs) (d ∷ x ∷ xs)

unfoldable pub keep_dated : ℕ → List Dated → List Dated
keep_dated g [] = []
keep_dated g (x ∷ xs) = cond (named_by x g) (keep_dated g xs) (x ∷ keep_dated g xs)

-- what deed number n makes of cell c's events
abbrev pub put_in : ℕ → Plan → ℕ → ℕ → List Dated → List Dated
put_in k (Ok None) n c l = l
put_in k (Ok (Some e)) n c l = cond (eqb k c) (insert_dated (dated_at (place_of e) n) l) l
put_in k (Err _) n c l = l

abbrev pub change : Deed → ℕ → ℕ → List Dated → List Dated
change (did (moving i x t)) n c l = l
change (did (turning i p)) n c l = l
change (did (trying k r x)) n c l = put_in k x n c l
change (did (cancelling i k)) n c l = cond (eqb k c) (keep_dated i l) l
change (did (entering i k)) n c l = l
change (did (leaving i k)) n c l = l
change (took k) n c l = cond (eqb k c) (drop 1 l) l

unfoldable pub dated : History → ℕ → List Dated
dated [] c = []
dated (d ∷ h) c = change d (suc (length h)) c (dated h c)

-- ---- 4. what makes a history true: each deed was done where the one before it left off, and each try is of what its rule finds there,
-- the grains that the rule is about having been stepped to the clock; of a synchronisation, that it is one
abbrev pub Sought : Rule → ℕ → State → Plan → Type 0
Sought (pair p q) c s x = x ≡ collision s.box s.clock c p q (grain s p) (grain s q)
Sought (bound b p d) c s x = x ≡ finder b d s.box s.clock c p (grain s p)
Sought sync c s x = (t : Float) × (x ≡ Ok (Some (record { time = t; event = Synchronisation })))

-- a grain has been stepped to the clock: its own time is the clock's
abbrev pub AtClock : State → ℕ → Type 0
AtClock s g = (grain s g).time ≡ s.clock

abbrev pub Honest : Act → State → Type 0
Honest (moving i x t) s = Unit {0}
Honest (turning i p) s = Unit {0}
Honest (trying c r x) s = Sought r c s x × ((g : ℕ) → about r g ≡ true → AtClock s g)
Honest (cancelling i k) s = Unit {0}
Honest (entering i k) s = Unit {0}
Honest (leaving i k) s = Unit {0}

abbrev pub Led : History → State → State → Type 0
Led [] s u = s ≡ u
Led (did a ∷ h) s u = (w : State) × Led h s w × Honest a w × (perform a w ≡ out 0 u)
Led (took k ∷ h) s u = (w : State) × Led h s w × (first w ≡ k) × (taken w ≡ u)

-- the velocity that the last turn gave
abbrev pub given : History → ℕ → MyVec
given h g = last_of zero_v velocity_of (turns g) h

-- ---- 5. NO EVENT FROM AN OLD VELOCITY (T-13): each pending event was put in after the last change of velocity of every grain that it names
abbrev pub Later : History → Dated → Type 0
Later h d = (g : ℕ) → named_by d g ≡ true → turned h g < d.by

abbrev pub NoneOld : History → State → Type 0
NoneOld h s = (c : ℕ) → c < cells s.box → All (Later h) (dated h c)
