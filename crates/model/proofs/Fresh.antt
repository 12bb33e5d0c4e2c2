-- A start never gives 8 or 9: from_p_to_c names no cell twice, so each grain enters cells that do not list it yet, and no grain leaves one. Assumes nothing.
use Prim.Native.Nat.{ℕ, zero, suc, ◌+◌, ◌≤◌, ◌<◌}
use mathlib.Core.Path.{◌≡◌, refl, sym, ap, subst, ◌∙◌}
use mathlib.Core.List.{List, [], ◌∷◌}
use mathlib.Core.Bool.{true, false, ◌||◌, or-true}
use native.Mathlib.Omega.{arith}
use lib.Dec.{eqb}
use lib.ListN.{length, get_or}
use borrow.Author.Tests.{eq-eqb}
use Rattle.model.specs.declared.Domain.{Domain}
use Rattle.model.specs.declared.Particle.{Particle}
use Rattle.model.specs.declared.Place.{Place}
use Rattle.std.specs.Prelude.{Some, None, Ok, Err}
use Rattle.model.specs.Plans.{Plan}
use Rattle.halting.specs.Out.{Out, next, then, each, each_of}
use Rattle.order.specs.Numbers.{fzero}
use Rattle.model.specs.Stepping.{at_zero}
use Rattle.model.specs.Collision.{collision}
use Rattle.model.specs.Moves.{to_neighbour, out_of_cell}
use Rattle.model.specs.Walls.{wall}
use Rattle.model.specs.Grid.{cells}
use Rattle.model.specs.FromPToC.{cells_of_grain}
use Rattle.model.specs.Events.{place_of}
use Rattle.model.specs.State.{Row, State, grain, home, listed, live_at, has, none, pushed}
use Rattle.model.specs.Acts.{store, insert, put, enter, entered}
use Rattle.model.specs.Doing.{schedule_collision, schedule_by, boundaries, sync_at, beginning, goes_in, pairs, sync_in, init_cell}
use Rattle.model.specs.Rows.{Finder}
use Rattle.model.specs.Sizes.{box_ok, grain_ok}
use Rattle.model.specs.Start.{clear, begin}
use Rattle.model.specs.Standing.{Once}
use Rattle.model.proofs.Sound.{Sound}
use Rattle.model.specs.Check.{Fits}
use Rattle.halting.proofs.Bools.{clash}
use Rattle.model.proofs.Lists.{eqb_sym, live_other, has_entered}
use Rattle.model.proofs.Cases.{store_case, insert_case, enter_case}
use Rattle.model.proofs.Frame.{Goes, near_refl, goes_on, keeps_goes, enter_goes, of_sound}
use Rattle.halting.proofs.Laws.{then_sound}
use Rattle.model.proofs.Placed.{Placed}
use Rattle.model.proofs.Born.{born}
use Rattle.model.proofs.Cleared.{empty_live, clear_sound}
use Rattle.model.proofs.Starts.{bare, given, clear_box, clear_few, stored, goes_in_goes, different}
use Rattle.model.proofs.Performs.{begin_is}

-- a number that is neither 8 nor 9
pub record Fair (r : ℕ) : Type 0 where
  pub not_8 : r ≡ 8 → ⊥
  pub not_9 : r ≡ 9 → ⊥

fair : (r : ℕ) → r ≤ 7 → Fair r
fair r h = record { not_8 = λ e. omega (arith, e); not_9 = λ e. omega (arith, e) }

next_fair : (r : ℕ) (u : State) (k : State → Out State) → Fair r → (r ≡ 0 → Fair (k u).num) → Fair (next r u k).num
next_fair zero u k f g = g refl
next_fair (suc r) u k f g = f

then_fair : (o : Out State) (k : State → Out State) → Fair o.num → (o.num ≡ 0 → Fair (k o.st).num) → Fair (then o k).num
then_fair o k f g = next_fair o.num o.st k f g

each_fair : (act : ℕ → State → Out State) → ((i : ℕ) (u : State) → Fair (act i u).num) → (m c : ℕ) (u : State) → Fair (each act m c u).num
unfolding each
each_fair act f zero c u = fair 0 (omega arith)
each_fair act f (suc m) c u = then_fair (act c u) (each act m (suc c)) (f c u) (λ z. each_fair act f m (suc c) (act c u).st)

of_fair : (act : ℕ → State → Out State) → ((i : ℕ) (u : State) → Fair (act i u).num) → (l : List ℕ) (u : State) → Fair (each_of act l u).num
unfolding each_of
of_fair act f [] u = fair 0 (omega arith)
of_fair act f (x ∷ xs) u = then_fair (act x u) (each_of act xs) (f x u) (λ z. of_fair act f xs (act x u).st)

-- ---- insertions and storing: 5 or 6
insert_fair : (c : ℕ) (e : Place) (u : State) → Fair (insert c e u).num
insert_fair c e u = insert_case (λ o. Fair o.num) u c e (fair 5 (omega arith)) (λ r. fair 6 (omega arith)) (λ f r. fair 0 (omega arith))

put_fair : (c : ℕ) (x : Plan) (u : State) → Fair (put c x u).num
put_fair c (Ok None) u = fair 0 (omega arith)
put_fair c (Ok (Some e)) u = insert_fair c (place_of e) u
put_fair c (Err _) u = fair 5 (omega arith)

store_fair : (g : ℕ) (p : Particle) (u : State) → Fair (store g p u).num
store_fair g p u = store_case (λ o. Fair o.num) u g p (fair 5 (omega arith)) (λ f. fair 0 (omega arith))

by_fair : (f : Finder) (c p d : ℕ) (u : State) → Fair (schedule_by f c p d u).num
by_fair f c p d u = put_fair c (f d u.box u.clock c p (grain u p)) u

collide_fair : (c p q : ℕ) (u : State) → Fair (schedule_collision c p q u).num
collide_fair c p q u = put_fair c (collision u.box u.clock c p q (grain u p) (grain u q)) u

boundaries_fair : (c p : ℕ) (u : State) → Fair (boundaries c p u).num
unfolding boundaries
boundaries_fair c p u =
    then_fair (each (schedule_by to_neighbour c p) 2 0 u) _ (each_fair (schedule_by to_neighbour c p) (by_fair to_neighbour c p) 2 0 u)
    (λ z. then_fair (each (schedule_by out_of_cell c p) 2 0 _) _ (each_fair (schedule_by out_of_cell c p) (by_fair out_of_cell c p) 2 0 _) (λ z. each_fair (schedule_by wall c p) (by_fair wall c p) 2 0 _))

pairs_fair : (c : ℕ) (l : List ℕ) (u : State) → Fair (pairs c l u).num
unfolding pairs
pairs_fair c [] u = fair 0 (omega arith)
pairs_fair c (p ∷ qs) u = then_fair (each_of (λ q. schedule_collision c p q) qs u) (pairs c qs) (of_fair (λ q. schedule_collision c p q) (collide_fair c p) qs u) (λ z. pairs_fair c qs _)

sync_fair : (c : ℕ) (u : State) → Fair (sync_in c u).num
sync_fair zero u = insert_fair 0 (sync_at fzero) u
sync_fair (suc c) u = fair 0 (omega arith)

rest_fair : (c : ℕ) (u : State) → Fair (then (pairs c (listed u c) u) (λ w. each_of (λ p. boundaries c p) (listed w c) w)).num
rest_fair c u =
    let w = (pairs c (listed u c) u).st in
    then_fair (pairs c (listed u c) u) (λ w. each_of (λ p. boundaries c p) (listed w c) w) (pairs_fair c (listed u c) u) (λ z. of_fair (λ p. boundaries c p) (boundaries_fair c) (listed w c) w)

init_fair : (c : ℕ) (u : State) → Fair (init_cell c u).num
unfolding init_cell
init_fair c u = then_fair (sync_in c u) _ (sync_fair c u) (λ z. rest_fair c (sync_in c u).st)

-- ---- an entry: 8 only if the cell lists the grain
enter_fair : (g c : ℕ) (u : State) → has g (listed u c) ≡ false → Fair (enter g c u).num
enter_fair g c u new = enter_case (λ o. Fair o.num) u g c (λ a. clash (sym new ∙ a)) (fair 7 (omega arith)) (λ a b d. fair 0 (omega arith))

-- done, the grain's list is one longer; the others' lists stay
enter_home : (g c : ℕ) (u : State) → Sound u → g < length u.grains → (enter g c u).num ≡ 0 → (x : ℕ) → has x (home (enter g c u).st g) ≡ (has x (home u g) || eqb x c)
enter_home g c u sound G = enter_case Then u g c (λ a z. absurd (omega (arith, z))) (λ z. absurd (omega (arith, z))) (λ a b d z x. done' x)
  where
    Then : Out State → Type 0
    Then o = o.num ≡ 0 → (x : ℕ) → has x (home o.st g) ≡ (has x (home u g) || eqb x c)

    done' : (x : ℕ) → has x (home (entered g c u) g) ≡ (has x (home u g) || eqb x c)
    done' x = has_entered (length u.grains) (cells u.box) 8 u.homes sound.lists.homes g c G g x ∙ rw (eq-eqb g g refl)

enter_other : (g c : ℕ) (u : State) (j : ℕ) → (j ≡ g → ⊥) → home (enter g c u).st j ≡ home u j
enter_other g c u j d = enter_case (λ o. home o.st j ≡ home u j) u g c (λ a. refl) refl (λ a b e. live_other u.homes g j (pushed c (get_or u.homes g none)) d)

store_homes : (g : ℕ) (p : Particle) (u : State) → (store g p u).st.homes ≡ u.homes
store_homes g p u = store_case (λ o. o.st.homes ≡ u.homes) u g p refl (λ f. refl)

-- ---- a grain goes in
module _ (b : Domain) (room : ℕ) (gs : List Particle) (box : box_ok b ≡ true) where
  entries_fair : (i : ℕ) → i < length gs → (cs : List ℕ) (u : State) → Goes (bare b room gs) u → Once cs → ((c : ℕ) → has c cs ≡ true → c < cells b) → ((c : ℕ) → has c cs ≡ true → has c (home u i) ≡ false)
      → Fair (each_of (λ c. enter i c) cs u).num
  unfolding each_of has
  entries_fair i I [] u g o C new = fair 0 (omega arith)
  entries_fair i I (c ∷ cs) u g o C new =
      let e : u.box ≡ b = g.near.box ∙ clear_box b room gs box in
      let l : length u.grains ≡ length gs = g.near.few ∙ clear_few b room gs box in
      let I' : i < length u.grains = rw l I in
      let K : c < cells u.box = rw e (C c (rw (eq-eqb c c refl))) in
      then_fair (enter i c u) (each_of (λ c. enter i c) cs) (enter_fair i c u (sym (g.sound.lists.mutual' i c I' K) ∙ new c (rw (eq-eqb c c refl))))
      (λ z. entries_fair i I cs (enter i c u).st (goes_on (bare b room gs) u _ g (enter_goes u i c g.sound I' K)) o.1 (λ d h. C d (rw h (or-true (eqb d c))))
      (λ d h. enter_home i c u g.sound I' z d ∙ (rw (new d (rw h (or-true (eqb d c))))) ∙ eqb-flip d c (different c d cs o.0 h)))
    where
      eqb-flip : (d c : ℕ) → eqb c d ≡ false → eqb d c ≡ false
      eqb-flip d c e = eqb_sym d c ∙ e

  abbrev Accepted : Type 0
  Accepted = (i : ℕ) → i < length gs → Placed 4 (cells b) (cells_of_grain b (given gs i))

  goes_in_fair : Accepted → (i : ℕ) (u : State) → i < length gs → Goes (bare b room gs) u → home u i ≡ [] → Fair (goes_in gs i u).num
  unfolding goes_in has
  goes_in_fair placed i u I g none' =
      then_fair (store i (at_zero (given gs i)) u) _ (store_fair i (at_zero (given gs i)) u)
      (λ z.
      let w = (store i (at_zero (given gs i)) u).st in
      let k = goes_on (bare b room gs) u w g (keeps_goes u w (stored b room gs box i u g I)) in
      let e : w.box ≡ b = k.near.box ∙ clear_box b room gs box in
      let h : home w i ≡ [] = ap (λ (r : List (Row ℕ)). live_at r i) (store_homes i (at_zero (given gs i)) u) ∙ none' in
      entries_fair i I (cells_of_grain w.box (given gs i)) w k (subst (λ (d : Domain). Once (cells_of_grain d (given gs i))) (sym e) (placed i I).once)
      (λ c t. (placed i I).below c (subst (λ (d : Domain). has c (cells_of_grain d (given gs i)) ≡ true) e t)) (λ c t. ap (has c) h))

  goes_in_other : (i : ℕ) (u : State) (j : ℕ) → (j ≡ i → ⊥) → home (goes_in gs i u).st j ≡ home u j
  unfolding goes_in
  goes_in_other i u j d =
      then_sound (λ v. home v j ≡ home u j) (store i (at_zero (given gs i)) u) _
      (ap (λ (r : List (Row ℕ)). live_at r j) (store_homes i (at_zero (given gs i)) u))
      (λ v e. of_sound (λ w. home w j ≡ home u j) (λ c. enter i c) (cells_of_grain v.box (given gs i)) (λ c w h k. enter_other i c w j d ∙ k) v e)

  all_fair : Accepted → (m i : ℕ) (u : State) → i + m ≤ length gs → Goes (bare b room gs) u → ((j : ℕ) → i ≤ j → home u j ≡ []) → Fair (each (goes_in gs) m i u).num
  unfolding each
  all_fair placed zero i u h g empty = fair 0 (omega arith)
  all_fair placed (suc m) i u h g empty =
      let I : i < length gs = omega arith in
      then_fair (goes_in gs i u) (each (goes_in gs) m (suc i)) (goes_in_fair placed i u I g (empty i (omega arith)))
      (λ z. all_fair placed m (suc i) (goes_in gs i u).st (omega arith) (goes_in_goes b room gs box i u I g) (λ j J. goes_in_other i u j (λ e. omega (arith, e)) ∙ empty j (omega arith)))

  clear_homes : (j : ℕ) → home (bare b room gs) j ≡ []
  unfolding clear
  clear_homes j = empty_live (length gs) {A = ℕ} 8 0 j

  pub begin_fair : Fits b → 16 ≤ room → room ≤ 256 → length gs ≤ 256 → ((i : ℕ) → i < length gs → grain_ok b (given gs i) ≡ true) → Fair (begin b room gs).num
  unfolding beginning
  begin_fair f lo hi few ok =
      subst (λ (o : Out State). Fair o.num) (sym (begin_is b room gs)) (then_fair (each (goes_in gs) (length gs) 0 (bare b room gs)) _
      (all_fair (λ i I. born b (given gs i) f box (ok i I)) (length gs) 0 (bare b room gs) (omega arith) (record { sound = clear_sound b room (length gs) box lo hi few; near = near_refl (bare b room gs) }) (λ j J. clear_homes j))
      (λ z. each_fair init_cell init_fair (cells b) 0 _))
