-- A GRAIN KEEPS ITS RADIUS FOR LIFE (02, T-04): every event and every step of any state keep every radius (`execute_keeps_radius`, `step_keeps_radius`); so in every state that an accepted start and any runs reach
-- a grain has the radius that the start stored (`radius_for_life`), which is the one that it brought where the start did not halt (`radius_given`), from 0.25 to 0.5. Assumes nothing.
use Prim.Native.Nat.{ℕ, zero, suc, ◌<◌}
use mathlib.Core.Path.{◌≡◌, refl, sym, ap, subst, ◌∙◌}
use mathlib.Core.List.{List, [], ◌∷◌}
use mathlib.Core.Bool.{true}
use native.Mathlib.Omega.{arith}
use native.Mathlib.Decide.{ℕ_discrete}
use lib.ListN.{length, get_or, length-set}
use lib.Seq.{get_or-set_same, get_or-set_other}
use lib.Ieee.{Float}
use Rattle.halting.specs.Out.{Out, each, each_of}
use Rattle.halting.proofs.Laws.{then_keeps}
use Rattle.model.specs.declared.Domain.{Domain}
use Rattle.model.specs.declared.Particle.{Particle}
use Rattle.model.specs.declared.Event.{Event}
use Rattle.model.specs.declared.Event.TheVariants.{InterParticleCollision, MoveToNeighbour, MoveOutOfCell, WallReflection, Synchronisation}
use Rattle.model.specs.Constants.{least_radius, greatest_radius}
use Rattle.model.specs.Sizes.{within, box_ok}
use Rattle.model.specs.Grid.{cells}
use Rattle.model.specs.Stepping.{at_zero}
use Rattle.model.specs.FromPToC.{cells_of_grain}
use Rattle.model.specs.State.{State, zero_g, grain}
use Rattle.model.specs.Acts.{store, enter, taken}
use Rattle.model.specs.Rows.{doing, in_turn, ◌⨟◌, forgets, reschedules, acts_of, initiates}
use Rattle.model.specs.Execute.{Stepped, done, synchronised, halted, execute, head_event, step}
use Rattle.model.specs.Run.{Ran, run_from, onward}
use Rattle.model.specs.Doing.{goes_in}
use Rattle.model.specs.Start.{clear, begin}
use Rattle.model.specs.Check.{run_all, refusal}
use Rattle.model.specs.Reached.{Call, after, Reached}
use Rattle.model.proofs.Cases.{store_case, enter_case}
use Rattle.model.proofs.Frame.{of_sound}
use Rattle.model.proofs.Told.{Every, every_before, every_turn}
use Rattle.model.proofs.Velocities.{Calm, calm_both, calm_forget, calm_again, calm_init, acts_calm, Gives, row_gives, row_calm, step_keeps}
use Rattle.model.proofs.Performs.{begin_parts}
use Rattle.model.proofs.Refusals.{run_case}
use Rattle.model.proofs.Born.{size_ok}
use Rattle.model.proofs.Starts.{each_upto, given, first_good, clear_few}
use Rattle.model.proofs.Halts.{accepted, reached_halted}

abbrev radius : Particle → Float
radius p = p.rad

abbrev radius_in : State → ℕ → Float
radius_in s g = (grain s g).rad

-- ---- every event gives the grains that it turns the radii that they have
event_gives : (rate : Float) (e : Event) (s : State) (g : ℕ) → Every (Gives radius g (radius_in s g)) (acts_of rate e s)
event_gives rate (InterParticleCollision p q x y v w k) s g =
    let G = Gives radius g (radius_in s g) in
    every_before G _ _ s (ap (radius_in s), λ u. tt) (λ u. every_before G _ _ u (ap (radius_in s), λ t. tt)
    (λ u. row_calm radius g (radius_in s g) ((forgets p ⨟ forgets q ⨟ reschedules p ⨟ reschedules q) u) (every_before (Calm g) _ _ u (calm_forget g p u) (λ t. every_before (Calm g) _ _ t (calm_forget g q t) (calm_both g p q)))))
event_gives rate (MoveToNeighbour p x k) s g = row_calm radius g (radius_in s g) (acts_of rate (MoveToNeighbour p x k) s) (acts_calm g rate (MoveToNeighbour p x k) s refl)
event_gives rate (MoveOutOfCell p x k) s g = row_calm radius g (radius_in s g) (acts_of rate (MoveOutOfCell p x k) s) (acts_calm g rate (MoveOutOfCell p x k) s refl)
event_gives rate (WallReflection p x v w) s g =
    every_before (Gives radius g (radius_in s g)) _ _ s (ap (radius_in s), λ u. tt)
    (λ u. row_calm radius g (radius_in s g) ((forgets p ⨟ reschedules p) u) (every_before (Calm g) _ _ u (calm_forget g p u) (calm_again g p)))
event_gives rate Synchronisation s g = row_calm radius g (radius_in s g) (acts_of rate Synchronisation s) (acts_calm g rate Synchronisation s refl)

-- SO AN EVENT KEEPS EVERY RADIUS, those of the grains that it stores too, and so does a step, of any state, halted or not
pub execute_keeps_radius : (rate : Float) (e : Event) (s : State) (g : ℕ) → (grain (execute rate e s).st g).rad ≡ (grain s g).rad
execute_keeps_radius rate e s g = row_gives radius (λ x t p. refl) g (radius_in s g) (acts_of rate e s) s (event_gives rate e s g) refl

pub step_keeps_radius : (rate : Float) (s : State) (g : ℕ) → (grain (step rate s).state g).rad ≡ (grain s g).rad
step_keeps_radius rate s g = step_keeps radius rate s g (execute_keeps_radius rate (head_event s) (taken s) g)

-- so does a run, whatever its budget, and so do runs
run_keeps_radius : (rate : Float) (b d : ℕ) (s : State) (g : ℕ) → radius_in (run_from rate b d s).state g ≡ radius_in s g
unfolding run_from
run_keeps_radius rate zero d s g = refl
run_keeps_radius rate (suc b) d s g = by (step rate s).how (step_keeps_radius rate s g) (run_keeps_radius rate b (suc d) (step rate s).state g)
  where
    by : (h : Stepped) → let u = (step rate s).state in radius_in u g ≡ radius_in s g → radius_in (run_from rate b (suc d) u).state g ≡ radius_in u g → radius_in (onward h u d (run_from rate b)).state g ≡ radius_in s g
    by done i j = j ∙ i
    by synchronised i j = i
    by (halted n) i j = i

after_keeps_radius : (ks : List Call) (s : State) (g : ℕ) → radius_in (after ks s) g ≡ radius_in s g
unfolding after
after_keeps_radius [] s g = refl
after_keeps_radius (k ∷ ks) s g =
    after_keeps_radius ks (run_all k.rate k.budget s).state g
    ∙ run_case (λ f. radius_in (f k.budget).state g ≡ radius_in s g) k.rate s refl (λ h. refl) refl refl (λ h R t. run_keeps_radius k.rate k.budget 0 s g)

-- IN EVERY REACHED STATE, HALTED OR NOT, A GRAIN HAS THE RADIUS THAT THE START STORED
pub radius_for_life : (s : State) (r : Reached s) (g : ℕ) → (grain s g).rad ≡ (grain r.begun g).rad
radius_for_life s r g =
    subst (λ (u : State). radius_in u g ≡ radius_in r.begun g) r.there (after_keeps_radius r.calls r.begun g)

-- ---- a start stores the radius that a grain brings
module _ (b : Domain) (room : ℕ) (gs : List Particle) (box : box_ok b ≡ true) where
  abbrev brought : ℕ → Float
  brought g = (given gs g).rad

  -- the first k grains have theirs, and are stored
  abbrev Have : ℕ → State → Type 0
  Have k u = (g : ℕ) → g < k → radius_in u g ≡ brought g

  abbrev Stored : ℕ → State → Type 0
  Stored k u = (length u.grains ≡ length gs) × Have k u

  store_one : (i : ℕ) (u : State) → i < length gs → Stored i u → (store i (at_zero (given gs i)) u).num ≡ 0 → Stored (suc i) (store i (at_zero (given gs i)) u).st
  store_one i u I h =
      let x = at_zero (given gs i) in
      store_case (λ o. o.num ≡ 0 → Stored (suc i) o.st) u i x (λ z. absurd (omega (arith, z)))
      (λ f z. (
        length-set u.grains i x ∙ h.0,
        λ g G. elim (ℕ_discrete g i) [
          | yes e ↦ rw e (ap (λ (p : Particle). p.rad) (get_or-set_same u.grains i x zero_g (rw h.0 I)))
          | no n ↦ ap (λ (p : Particle). p.rad) (get_or-set_other u.grains i g x zero_g n) ∙ h.1 g (omega arith)
        ],
      ))

  enter_keeps : (k i c : ℕ) (u : State) → Stored k u → Stored k (enter i c u).st
  enter_keeps k i c u h = enter_case (λ o. Stored k o.st) u i c (λ a. h) h (λ a d e. h)

  goes_one : (i : ℕ) (u : State) → i < length gs → Stored i u → (goes_in gs i u).num ≡ 0 → Stored (suc i) (goes_in gs i u).st
  unfolding goes_in
  goes_one i u I h =
      then_keeps (Stored (suc i)) (Stored (suc i)) (store i (at_zero (given gs i)) u) (λ w. each_of (λ c. enter i c) (cells_of_grain w.box (given gs i)) w) (store_one i u I h)
      (λ w k z. of_sound (Stored (suc i)) (λ c. enter i c) (cells_of_grain w.box (given gs i)) (λ c v m l. enter_keeps (suc i) i c v l) w k)

  begin_stores : (begin b room gs).num ≡ 0 → Have (length gs) (begin b room gs).st
  begin_stores = subst (λ (o : Out State). o.num ≡ 0 → Have (length gs) o.st) (sym (begin_parts b room gs))
      (then_keeps (Stored (length gs)) (Have (length gs)) (each (goes_in gs) (length gs) 0 (clear b room (length gs))) (λ u. doing (in_turn initiates (cells b) 0 u) u)
      (λ z. subst (λ (k : ℕ). Stored k (each (goes_in gs) (length gs) 0 (clear b room (length gs))).st) (omega arith)
      (each_upto (goes_in gs) Stored (length gs) (λ i u I h y. goes_one i u I h y) (length gs) 0 (clear b room (length gs)) (omega arith) (clear_few b room gs box, λ g G. absurd (omega arith)) z))
      (λ u h z g G. row_gives radius (λ x t p. refl) g (brought g) (in_turn initiates (cells b) 0 u) u (row_calm radius g (brought g) (in_turn initiates (cells b) 0 u) (every_turn (Calm g) initiates (cells b) 0 u (calm_init g))) (h.1 g G)))

-- WHERE THE START DID NOT HALT, EVERY REACHED STATE HAS EACH GRAIN WITH THE RADIUS THAT IT BROUGHT
pub radius_given : (s : State) (r : Reached s) → r.begun.mark ≡ 0 → (g : ℕ) → g < length r.grains → (grain s g).rad ≡ (get_or r.grains g zero_g).rad
radius_given s r m g G =
    let a = accepted r.box r.room r.grains r.begun r.accepted in
    radius_for_life s r g
    ∙ ap (λ (u : State). radius_in u g) a.is
    ∙ begin_stores r.box r.room r.grains a.box (ap (λ (u : State). u.mark) (sym a.is) ∙ m) g G

-- which is from 0.25 to 0.5
pub radius_in_range : (s : State) (r : Reached s) → r.begun.mark ≡ 0 → (g : ℕ) → g < length r.grains → within least_radius greatest_radius (grain s g).rad ≡ true
radius_in_range s r m g G =
    let a = accepted r.box r.room r.grains r.begun r.accepted in
    ap (within least_radius greatest_radius) (radius_given s r m g G) ∙ size_ok r.box (get_or r.grains g zero_g) (first_good r.box r.grains a.good g G)

-- a reached state that is not halted comes from a start that did not halt
after_same : (ks : List Call) (s : State) → ((rate : Float) (b : ℕ) → run_all rate b s ≡ refusal s.mark s) → after ks s ≡ s
unfolding after
after_same [] s h = refl
after_same (k ∷ ks) s h = ap (after ks) (ap (λ (x : Ran). x.state) (h k.rate k.budget)) ∙ after_same ks s h

pub begun_unhalted : (s : State) (r : Reached s) → s.mark ≡ 0 → r.begun.mark ≡ 0
begun_unhalted s r m = elim (ℕ_discrete r.begun.mark 0) [
  | yes z ↦ z
  | no n ↦
      let b : Reached r.begun = record { box = r.box; fits = r.fits; room = r.room; grains = r.grains; begun = r.begun; accepted = r.accepted; calls = []; there = unfold after in refl } in
      ap (λ (u : State). u.mark) (sym (after_same r.calls r.begun (reached_halted r.begun b n)) ∙ r.there) ∙ m
]
