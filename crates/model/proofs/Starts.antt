-- A start that is accepted and does not halt gives the standing facts. Assumes nothing.
use Prim.Native.Nat.{ℕ, zero, suc, ◌+◌, ◌≤◌, ◌<◌}
use mathlib.Core.Path.{◌≡◌, refl, sym, ap, subst, ◌∙◌}
use mathlib.Core.List.{List, [], ◌∷◌}
use mathlib.Core.Bool.{Bool, true, false, ◌&&◌, or-true}
use native.Mathlib.Omega.{arith}
use native.Mathlib.Decide.{ℕ_discrete}
use native.Mathlib.Nat.{add-suc, add-zero, suc-add}
use lib.Dec.{eqb, leb}
use lib.ListN.{length, get_or, length-replicate}
use borrow.Author.Tests.{eq-eqb, eqb-true, ne_eqb, leb-true}
use Rattle.model.specs.declared.Domain.{Domain}
use Rattle.model.specs.declared.Particle.{Particle}
use Rattle.halting.specs.Out.{Out, out, next, then, each, each_of}
use Rattle.halting.proofs.Laws.{then_sound, each_sound, then_keeps}
use Rattle.order.specs.Numbers.{fzero}
use Rattle.model.specs.Grid.{cells}
use Rattle.model.specs.Events.{zero_p}
use Rattle.model.specs.FromPToC.{cells_of_grain}
use Rattle.model.specs.State.{State, zero_g, home, listed, queue, has, marked}
use Rattle.model.specs.Acts.{store, insert, enter}
use Rattle.model.specs.Doing.{schedule_collision, boundaries, sync_at, goes_in, pairs, init_cell, beginning}
use Rattle.model.specs.Stepping.{at_zero}
use Rattle.model.specs.Sizes.{box_ok, counts_ok, grain_ok, first_bad}
use Rattle.model.specs.Start.{Begun, clear, begin, refused, started, started_at, start}
use Rattle.model.specs.Standing.{Once, syncs}
use Rattle.model.proofs.Sound.{Sound, Stands}
use Rattle.halting.proofs.Bools.{clash, and_l, and_r}
use Rattle.model.proofs.Cases.{on_test}
use Rattle.model.proofs.Keeps.{Apt}
use Rattle.model.proofs.Plans.{cells_some}
use Rattle.model.proofs.Frame.{Near, Keeps, Goes, near_refl, near_trans, keeps_refl, keeps_on, goes_on, keeps_goes, store_keeps, In, in_frame, in_cell, enter_goes, enter_in, of_sound}
use Rattle.model.proofs.Schedule.{then_both, collide_keeps, boundaries_keeps}
use Rattle.model.proofs.Steps.{Ends, insert_ends}
use Rattle.model.proofs.Grid.{cells_under}
use Rattle.model.proofs.Cleared.{empty_live, zero_le, zero_fits, clear_sound}
use Rattle.model.proofs.Born.{born}
use Rattle.model.proofs.Performs.{begin_is}
use Rattle.model.specs.Check.{Fits}

-- ---- grains go in
-- a loop whose fact grows with its count
pub each_upto : {S : Type 0} (act : ℕ → S → Out S) (P : ℕ → S → Type 0) (top : ℕ) → ((c : ℕ) (s : S) → c < top → P c s → (act c s).num ≡ 0 → P (suc c) (act c s).st)
    → (m c : ℕ) (s : S) → c + m ≤ top → P c s → (each act m c s).num ≡ 0 → P (c + m) (each act m c s).st
unfolding each
each_upto act P top k zero c s h p z = rw (add-zero c) p
each_upto {S} act P top k (suc m) c s h p z =
    subst (λ (n : ℕ). P n (each act (suc m) c s).st) (suc-add c m ∙ sym (add-suc c m))
    (then_keeps (P (suc c)) (P (suc c + m)) (act c s) (each act m (suc c)) (k c s (omega arith) p) (λ (u : S) (q : P (suc c) u). each_upto act P top k m (suc c) u (omega arith) q) z)

-- the state that they go into, and one of them
abbrev pub bare : Domain → ℕ → List Particle → State
bare b room gs = clear b room (length gs)

abbrev pub given : List Particle → ℕ → Particle
given gs i = get_or gs i zero_g

module _ (b : Domain) (room : ℕ) (gs : List Particle) (box : box_ok b ≡ true) where
  pub clear_box : (bare b room gs).box ≡ b
  unfolding clear
  clear_box = refl

  pub clear_clock : (bare b room gs).clock ≡ fzero
  unfolding clear
  clear_clock = refl

  pub clear_few : length (bare b room gs).grains ≡ length gs
  unfolding clear
  clear_few = length-replicate (length gs) zero_g

  entries : (i : ℕ) (u : State) → Goes (bare b room gs) u → i < length gs → (cs : List ℕ) → ((c : ℕ) → has c cs ≡ true → c < cells b) → Goes u (each_of (λ c. enter i c) cs u).st
  entries i u g I cs C =
      of_sound (Goes u) (λ c. enter i c) cs
      (λ c w h k.
      let e : w.box ≡ b = k.near.box ∙ g.near.box ∙ clear_box in
      let l : length w.grains ≡ length gs = k.near.few ∙ g.near.few ∙ clear_few in
      goes_on u w _ k (enter_goes w i c k.sound (rw l I) (rw e (C c h))))
      u (record { sound = g.sound; near = near_refl u })

  pub stored : (i : ℕ) (u : State) → Goes (bare b room gs) u → i < length gs → Keeps u (store i (at_zero (given gs i)) u).st
  stored i u g I =
      let l : length u.grains ≡ length gs = g.near.few ∙ clear_few in
      store_keeps u i (at_zero (given gs i)) g.sound (rw l I) (rw (g.near.clock ∙ clear_clock) zero_le)

  pub goes_in_goes : (i : ℕ) (u : State) → i < length gs → Goes (bare b room gs) u → Goes (bare b room gs) (goes_in gs i u).st
  unfolding goes_in
  goes_in_goes i u I g =
      then_sound (Goes (bare b room gs)) (store i (at_zero (given gs i)) u) _ (goes_on (bare b room gs) u _ g (keeps_goes u _ (stored i u g I)))
      (λ w k. goes_on (bare b room gs) w _ k (entries i w k I (cells_of_grain w.box (given gs i)) (λ c h. cells_under b (given gs i) box c (subst (λ (d : Domain). has c (cells_of_grain d (given gs i)) ≡ true) (k.near.box ∙ clear_box) h))))

  -- a grain that went in has a cell, where from_p_to_c gives one
  has_some : (c : ℕ) (l : List ℕ) → has c l ≡ true → 1 ≤ length l
  unfolding has
  has_some c [] h = clash h
  has_some c (x ∷ xs) h = omega arith

  entered_some : (i : ℕ) (u : State) → Goes (bare b room gs) u → i < length gs → (cs : List ℕ) → ((c : ℕ) → has c cs ≡ true → c < cells b) → 1 ≤ length cs
      → (each_of (λ c. enter i c) cs u).num ≡ 0 → 1 ≤ length (home (each_of (λ c. enter i c) cs u).st i)
  unfolding each_of has
  entered_some i u g I [] C some z = absurd (omega arith)
  entered_some i u g I (c ∷ cs) C some z =
      let e : u.box ≡ b = g.near.box ∙ clear_box in
      let l : length u.grains ≡ length gs = g.near.few ∙ clear_few in
      let I' : i < length u.grains = rw l I in
      let K : c < cells u.box = rw e (C c (rw (eq-eqb c c refl))) in
      then_keeps (λ v. Goes u v × In i c v) (λ v. 1 ≤ length (home v i)) (enter i c u) (each_of (λ c. enter i c) cs)
      (λ y. (enter_goes u i c g.sound I' K, enter_in u i c g.sound I' K y))
      (λ v p y.
      let h = p.1 in
      let q : has c (home v i) ≡ true = p.0.sound.lists.mutual' i c h.grain h.cell ∙ h.there in
      (entries i v (goes_on (bare b room gs) u v g p.0) I cs (λ d x. C d (rw x (or-true (eqb d c))))).near.housed i (has_some c (home v i) q))
      z

  abbrev pub Reaches : Type 0
  Reaches = (i : ℕ) → i < length gs → 1 ≤ length (cells_of_grain b (given gs i))

  goes_in_some : Reaches → (i : ℕ) (u : State) → i < length gs → Goes (bare b room gs) u → (goes_in gs i u).num ≡ 0 → 1 ≤ length (home (goes_in gs i u).st i)
  unfolding goes_in
  goes_in_some some i u I g =
      then_keeps (Goes (bare b room gs)) (λ v. 1 ≤ length (home v i)) (store i (at_zero (given gs i)) u) _
      (λ z. goes_on (bare b room gs) u _ g (keeps_goes u _ (stored i u g I)))
      (λ w k. let e : w.box ≡ b = k.near.box ∙ clear_box in
      entered_some i w k I (cells_of_grain w.box (given gs i)) (λ c h. cells_under b (given gs i) box c (subst (λ (d : Domain). has c (cells_of_grain d (given gs i)) ≡ true) e h)) (rw e (some i I)))

  -- as each went in, so far
  pub record Inside (i : ℕ) (u : State) : Type 0 where
    pub goes : Goes (bare b room gs) u
    pub some : (g : ℕ) → g < i → 1 ≤ length (home u g)

  goes_in_near : (i : ℕ) (u : State) → i < length gs → Goes (bare b room gs) u → Near u (goes_in gs i u).st
  unfolding goes_in
  goes_in_near i u I g =
      then_both (λ v. Near u v) (λ v. Goes u v) (store i (at_zero (given gs i)) u) _ (stored i u g I).frame.near (λ z. keeps_goes u _ (stored i u g I))
      (λ w n k. near_trans u w _ n (entries i w (goes_on (bare b room gs) u w g k) I (cells_of_grain w.box (given gs i))
      (λ c h. cells_under b (given gs i) box c (subst (λ (d : Domain). has c (cells_of_grain d (given gs i)) ≡ true) (k.near.box ∙ g.near.box ∙ clear_box) h))).near)

  pub all_inside : Reaches → Sound (bare b room gs) → (each (goes_in gs) (length gs) 0 (bare b room gs)).num ≡ 0 → Inside (length gs) (each (goes_in gs) (length gs) 0 (bare b room gs)).st
  all_inside some sound z =
      subst (λ (k : ℕ). Inside k (each (goes_in gs) (length gs) 0 (bare b room gs)).st) (omega arith)
      (each_upto (goes_in gs) Inside (length gs)
      (λ i u I p y. record {
        goes = goes_in_goes i u I p.goes;
        some = λ g G. elim (ℕ_discrete g i) [
          | yes e ↦ rw e (goes_in_some some i u I p.goes y)
          | no d ↦ (goes_in_near i u I p.goes).housed g (p.some g (omega arith))
        ];
      })
      (length gs) 0 (bare b room gs) (omega arith) (record { goes = record { sound = sound; near = near_refl (bare b room gs) }; some = λ g G. absurd (omega arith) }) z)

-- ---- init_events
pub different : (p q : ℕ) (l : List ℕ) → has p l ≡ false → has q l ≡ true → eqb p q ≡ false
different p q l a h = elim (ℕ_discrete p q) [
  | yes e ↦ clash (sym a ∙ ap (λ (x : ℕ). has x l) e ∙ h)
  | no d ↦ ne_eqb p q d
]

pub pairs_keeps : (c : ℕ) (l : List ℕ) (s : State) → Sound s → Once l → ((p : ℕ) → has p l ≡ true → In p c s) → Keeps s (pairs c l s).st
unfolding pairs has
pairs_keeps c [] s sound o i = keeps_refl s sound
pairs_keeps c (p ∷ qs) s sound o i =
    then_sound (Keeps s) (each_of (λ q. schedule_collision c p q) qs s) (pairs c qs)
    (of_sound (Keeps s) (λ q. schedule_collision c p q) qs
    (λ q u h k. keeps_on s u _ k (collide_keeps u c p q k.sound (in_frame p c s u k.frame (i p (rw (eq-eqb p p refl)))) (in_frame q c s u k.frame (i q (rw h (or-true (eqb q p))))) (different p q qs o.0 h)))
    s (keeps_refl s sound))
    (λ u k. keeps_on s u _ k (pairs_keeps c qs u k.sound o.1 (λ q h. in_frame q c s u k.frame (i q (rw h (or-true (eqb q p)))))))

-- all but the synchronisation, in one cell
abbrev rest_of : ℕ → State → Out State
rest_of c u = then (pairs c (listed u c) u) (λ w. each_of (λ p. boundaries c p) (listed w c) w)

pub rest_keeps : (c : ℕ) (s : State) → Sound s → c < cells s.box → Keeps s (rest_of c s).st
rest_keeps c s sound C =
    then_sound (Keeps s) (pairs c (listed s c) s) (λ w. each_of (λ p. boundaries c p) (listed w c) w)
    (pairs_keeps c (listed s c) s sound (sound.lists.members.each c C).once (λ p h. in_cell p c s sound C h))
    (λ w k.
    let K : c < cells w.box = rw k.frame.near.box C in
    keeps_on s w _ k (of_sound (Keeps w) (λ p. boundaries c p) (listed w c) (λ p u h l. keeps_on w u _ l (boundaries_keeps c p u l.sound (in_frame p c w u l.frame (in_cell p c w k.sound K h)))) w (keeps_refl w k.sound)))

pub later_keeps : (c : ℕ) (s : State) → Sound s → suc c < cells s.box → Keeps s (init_cell (suc c) s).st
unfolding init_cell
later_keeps c s sound C = rest_keeps (suc c) s sound C

-- the first synchronisation, at 0
sync_apt : (s : State) → s.clock ≡ fzero → Apt (cells s.box) 0 (listed s 0) s.clock (sync_at fzero)
sync_apt s e = record { kind = (omega arith, omega arith); fit = zero_fits; named = (refl, tt); ahead = λ k. rw e zero_le }

-- after an end, what keeps
next_ends : (k : ℕ) (s : State) (r : ℕ) (u : State) (f : State → Out State) → Ends k s (out r u) → ((w : State) → Ends k s (out 0 w) → Keeps w (f w).st) → Ends k s (next r u f)
next_ends k s zero u f a b =
    let q = b u a in
    record {
      sound = q.sound;
      clock = q.frame.near.clock ∙ a.clock;
      box = q.frame.near.box ∙ a.box;
      mark = q.frame.near.mark ∙ a.mark;
      few = q.frame.near.few ∙ a.few;
      housed = λ g h. q.frame.near.housed g (a.housed g h);
      calm = λ z. q.frame.near.calm ∙ a.calm refl;
    }
next_ends k s (suc r) u f a b = a

then_ends : (k : ℕ) (s : State) (o : Out State) (f : State → Out State) → Ends k s o → ((w : State) → Ends k s (out 0 w) → Keeps w (f w).st) → Ends k s (then o f)
then_ends k s o f a b = next_ends k s o.num o.st f a b

first_ends : (s : State) → Sound s → s.clock ≡ fzero → Ends 1 s (init_cell 0 s)
unfolding init_cell
first_ends s sound e =
    then_ends 1 s (insert 0 (sync_at fzero) s) (rest_of 0) (insert_ends s (sync_at fzero) sound (sync_apt s e)) (λ w a. rest_keeps 0 w a.sound (cells_some w.box))

-- the cells from 1 on
rest_of_lem : (m c : ℕ) (s : State) → Sound s → suc c + m ≤ cells s.box → Keeps s (each init_cell m (suc c) s).st
unfolding each
rest_of_lem zero c s sound h = keeps_refl s sound
rest_of_lem (suc m) c s sound h =
    then_sound (Keeps s) (init_cell (suc c) s) (each init_cell m (suc (suc c))) (later_keeps c s sound (omega arith))
    (λ u k. keeps_on s u _ k (rest_of_lem m (suc c) u k.sound (rw k.frame.near.box (omega arith))))

init_ends : (m : ℕ) (s : State) → Sound s → s.clock ≡ fzero → m ≡ cells s.box → 0 < m → Ends 1 s (each init_cell m 0 s)
unfolding each
init_ends zero s sound e q h = absurd (omega arith)
init_ends (suc m) s sound e q h =
    then_ends 1 s (init_cell 0 s) (each init_cell m 1) (first_ends s sound e) (λ w a. rest_of_lem m 0 w a.sound (rw a.box (omega (arith, q))))

-- A START THAT IS ACCEPTED AND DOES NOT HALT GIVES THE STANDING FACTS
module _ (b : Domain) (room : ℕ) (gs : List Particle) (box : box_ok b ≡ true) (r : 16 ≤ room) (r' : room ≤ 256) (few : length gs ≤ 256) where
  pub cleared : Sound (clear b room (length gs))
  cleared = clear_sound b room (length gs) box r r' few

  clear_syncs : syncs (queue (clear b room (length gs)) 0) ≡ 0
  unfolding clear syncs
  clear_syncs = ap syncs (empty_live (cells b) room zero_p 0)

  clear_mark : (clear b room (length gs)).mark ≡ 0
  unfolding clear
  clear_mark = refl

  inits : (u : State) → Inside b room gs box (length gs) u → (each init_cell (cells b) 0 u).num ≡ 0 → Stands (each init_cell (cells b) 0 u).st
  inits u p z =
      let n = p.goes.near in
      let e = init_ends (cells b) u p.goes.sound (n.clock ∙ clear_clock b room gs box) (sym (ap cells (n.box ∙ clear_box b room gs box))) (cells_some b) in
      record {
        sound = e.sound;
        free = e.mark ∙ n.mark ∙ clear_mark;
        housed = λ g G. e.housed g (p.some g (rw (e.few ∙ n.few ∙ clear_few b room gs box) at G));
        sync = e.calm z ∙ rw (n.calm ∙ clear_syncs);
      }

  pub begin_stands : Reaches b room gs box → (begin b room gs).num ≡ 0 → Stands (begin b room gs).st
  begin_stands some = subst (λ (o : Out State). o.num ≡ 0 → Stands o.st) (sym (begin_is b room gs)) (unfold beginning in
      then_keeps (Inside b room gs box (length gs)) Stands (each (goes_in gs) (length gs) 0 (clear b room (length gs))) (λ s. each init_cell (cells b) 0 s) (all_inside b room gs box some cleared) inits)

  -- halted or not, it is sound
  pub begin_sound : Sound (begin b room gs).st
  unfolding beginning
  begin_sound =
      subst (λ (o : Out State). Sound o.st) (sym (begin_is b room gs)) (then-sound-goes (each (goes_in gs) (length gs) 0 (clear b room (length gs)))
      (each_sound (goes_in gs) (Goes (clear b room (length gs))) (length gs) (λ i u I g. goes_in_goes b room gs box i u I g) (length gs) 0 (clear b room (length gs)) (omega arith) (record { sound = cleared; near = near_refl (clear b room (length gs)) })))
    where
      then-sound-goes : (o : Out State) → Goes (clear b room (length gs)) o.st → Sound (then o (λ s. each init_cell (cells b) 0 s)).st
      then-sound-goes o g = by o.num o.st g
        where
          by : (k : ℕ) (u : State) → Goes (clear b room (length gs)) u → Sound (next k u (λ s. each init_cell (cells b) 0 s)).st
          by zero u g = (init_ends (cells b) u g.sound (g.near.clock ∙ clear_clock b room gs box) (sym (ap cells (g.near.box ∙ clear_box b room gs box))) (cells_some b)).sound
          by (suc k) u g = g.sound

-- ---- the public start
marked_sound : (r : ℕ) (u : State) → Sound u → Sound (marked r u)
marked_sound r u h = record { box = h.box; room = h.room; few = h.few; clock = h.clock; fit = h.fit; grains = h.grains; lists = h.lists; long = h.long; queues = h.queues; heap = h.heap }

marked_stands : (r : ℕ) (u : State) → r ≡ 0 → Stands u → Stands (marked r u)
marked_stands r u e st = record { sound = marked_sound r u st.sound; free = e; housed = st.housed; sync = st.sync }

pub first_good : (b : Domain) (gs : List Particle) → first_bad b gs ≡ length gs → (i : ℕ) → i < length gs → grain_ok b (get_or gs i zero_g) ≡ true
unfolding first_bad
first_good b [] e i h = absurd (omega arith)
first_good b (p ∷ ps) e i h = by (grain_ok b p) refl i h (first_good b ps)
  where
    by : (x : Bool) → grain_ok b p ≡ x → (i : ℕ) → i < suc (length ps) → (first_bad b ps ≡ length ps → (i : ℕ) → i < length ps → grain_ok b (get_or ps i zero_g) ≡ true) → grain_ok b (get_or (p ∷ ps) i zero_g) ≡ true
    by true q zero h k = q
    by true q (suc i) h k = k (let z : suc (first_bad b ps) ≡ suc (length ps) = rw q at e in omega (arith, z)) i (omega arith)
    by false q i h k = absurd (let z : 0 ≡ suc (length ps) = rw q at e in omega (arith, z))

-- sound if it began; standing if it did not halt
abbrev pub WellBegun : Begun → Type 0
WellBegun (refused r i) = Unit {0}
WellBegun (started s) = Sound s × (s.mark ≡ 0 → Stands s)

-- whatever it is given: the lengths are 64-bit floats, as every owned float is
pub start_stands : (b : Domain) (room : ℕ) (gs : List Particle) → Fits b → WellBegun (start b room gs)
unfolding start
start_stands b room gs f =
    on_test WellBegun (box_ok b) _ (refused 1 0)
    (λ box. on_test WellBegun (counts_ok room (length gs)) _ (refused 2 0)
    (λ c.
    let few : length gs ≤ 256 = leb-true _ _ (and_l (leb (length gs) 256) _ c) in
    let rooms = and_r (leb (length gs) 256) (leb 16 room && leb room 256) c in
    let lo : 16 ≤ room = leb-true _ _ (and_l (leb 16 room) (leb room 256) rooms) in
    let hi : room ≤ 256 = leb-true _ _ (and_r (leb 16 room) (leb room 256) rooms) in
    on_test WellBegun (eqb (first_bad b gs) (length gs)) (started_at (begin b room gs)) (refused 4 (first_bad b gs))
    (λ g. (
      marked_sound (begin b room gs).num (begin b room gs).st (begin_sound b room gs box lo hi few),
      λ z. marked_stands (begin b room gs).num (begin b room gs).st z (begin_stands b room gs box lo hi few (λ i I. (born b (get_or gs i zero_g) f box (first_good b gs (eqb-true _ _ g) i I)).some) z),
    ))
    (λ g. tt))
    (λ c. tt))
    (λ box. tt)
