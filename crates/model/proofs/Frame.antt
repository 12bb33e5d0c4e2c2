-- What each act leaves as it was. `Near`: what every act leaves; `Frame`: the lists too. Assumes nothing.
use Prim.Native.Nat.{ℕ, suc, ◌+◌, ◌≤◌, ◌<◌}
use mathlib.Core.Path.{◌≡◌, refl, sym, ap, subst, ◌∙◌}
use mathlib.Core.List.{List, [], ◌∷◌, ◌++◌}
use mathlib.Core.Bool.{Bool, true, false, or-true}
use native.Mathlib.Omega.{arith}
use native.Mathlib.Decide.{ℕ_discrete}
use lib.Dec.{T, eqb}
use lib.ListN.{length, get_or, set, drop, replicate, length-set}
use lib.Ieee.{le}
use borrow.Author.Tests.{eq-eqb}
use Rattle.model.specs.declared.Particle.{Particle}
use Rattle.model.specs.declared.Place.{Place}
use Rattle.std.specs.Prelude.{Some, None, Ok, Err}
use Rattle.model.specs.Plans.{Plan}
use Rattle.model.specs.declared.Event.{Event}
use Rattle.model.specs.declared.Event.TheVariants.{InterParticleCollision, MoveToNeighbour, MoveOutOfCell, WallReflection, Synchronisation}
use Rattle.halting.specs.Out.{Out, each_of}
use Rattle.halting.proofs.Laws.{then_sound}
use Rattle.order.proofs.Order.{le_refl}
use Rattle.order.proofs.Clock.{finite_no_nan}
use Rattle.model.specs.Grid.{cells}
use Rattle.model.specs.Events.{insert_by, keep_by, gone_by, names, event_of, place_of, zero_p}
use Rattle.model.specs.State.{Row, row, none, State, home, listed, queue, live_at, has, pushed, pulled, requeued, with_grains}
use Rattle.model.specs.Acts.{store, insert, inserted, put, cancelled, enter, entered, leave, gone, queue_row}
use Rattle.halting.specs.Every.{All}
use Rattle.model.specs.Standing.{syncs, one_if}
use Rattle.model.proofs.Sound.{Sound}
use Rattle.halting.proofs.Bools.{clash}
use Rattle.model.proofs.Lists.{live_same, live_other, length_snoc, length_but, has_entered}
use Rattle.model.proofs.Inserts.{inserted_at}
use Rattle.model.proofs.Queue.{kept_names}
use Rattle.model.proofs.Cases.{store_case, insert_case, enter_case, leave_case}
use Rattle.model.proofs.Keeps.{Apt, store_sound, insert_sound, cancelled_sound, enter_sound, leave_sound}
use Rattle.model.proofs.Plans.{AptPlan}

-- what an act keeps at each of a list, the loop keeps
pub of_sound : {S : Type 0} (P : S → Type 0) (act : ℕ → S → Out S) (xs : List ℕ) → ((x : ℕ) (s : S) → has x xs ≡ true → P s → P (act x s).st) → (s : S) → P s → P (each_of act xs s).st
unfolding each_of has
of_sound P act [] k s p = p
of_sound P act (x ∷ xs) k s p =
    then_sound P (act x s) (each_of act xs) (k x s (rw (eq-eqb x x refl)) p)
    (λ u q. of_sound P act xs (λ y t h. k y t (rw h (or-true (eqb y x)))) u q)

pub record Near (s u : State) : Type 0 where
  pub box : u.box ≡ s.box
  pub clock : u.clock ≡ s.clock
  pub mark : u.mark ≡ s.mark
  pub room : u.room ≡ s.room
  pub few : length u.grains ≡ length s.grains
  pub calm : syncs (queue u 0) ≡ syncs (queue s 0)
  pub housed : (g : ℕ) → 1 ≤ length (home s g) → 1 ≤ length (home u g)

pub record Frame (s u : State) : Type 0 where
  pub near : Near s u
  pub homes : u.homes ≡ s.homes
  pub members : u.members ≡ s.members

pub near_refl : (s : State) → Near s s
near_refl s = record { box = refl; clock = refl; mark = refl; room = refl; few = refl; calm = refl; housed = λ g h. h }

pub near_trans : (s u v : State) → Near s u → Near u v → Near s v
near_trans s u v a b = record {
  box = b.box ∙ a.box;
  clock = b.clock ∙ a.clock;
  mark = b.mark ∙ a.mark;
  room = b.room ∙ a.room;
  few = b.few ∙ a.few;
  calm = b.calm ∙ a.calm;
  housed = λ g h. b.housed g (a.housed g h);
}

pub frame_refl : (s : State) → Frame s s
frame_refl s = record { near = near_refl s; homes = refl; members = refl }

pub frame_trans : (s u v : State) → Frame s u → Frame u v → Frame s v
frame_trans s u v a b = record { near = near_trans s u v a.near b.near; homes = b.homes ∙ a.homes; members = b.members ∙ a.members }

-- sound, and the lists as they were; sound, and near
pub record Keeps (s u : State) : Type 0 where
  pub sound : Sound u
  pub frame : Frame s u

pub record Goes (s u : State) : Type 0 where
  pub sound : Sound u
  pub near : Near s u

pub keeps_refl : (s : State) → Sound s → Keeps s s
keeps_refl s h = record { sound = h; frame = frame_refl s }

pub keeps_on : (s u v : State) → Keeps s u → Keeps u v → Keeps s v
keeps_on s u v a b = record { sound = b.sound; frame = frame_trans s u v a.frame b.frame }

pub goes_on : (s u v : State) → Goes s u → Goes u v → Goes s v
goes_on s u v a b = record { sound = b.sound; near = near_trans s u v a.near b.near }

pub keeps_goes : (s u : State) → Keeps s u → Goes s u
keeps_goes s u a = record { sound = a.sound; near = a.frame.near }

-- ---- synchronisations in a queue
one_if_named : (e : Event) (g : ℕ) → names e g ≡ true → one_if e ≡ 0
one_if_named (InterParticleCollision p q x y v w k) g h = refl
one_if_named (MoveToNeighbour p x k) g h = refl
one_if_named (MoveOutOfCell p x k) g h = refl
one_if_named (WallReflection p x v w) g h = refl
one_if_named Synchronisation g h = clash h

syncs_mid : (e : Place) (bs xs : List Place) → syncs (bs ++ e ∷ xs) ≡ one_if (event_of e.kind e) + syncs (bs ++ xs)
unfolding syncs
syncs_mid e [] xs = refl
syncs_mid e (b ∷ bs) xs = let h = syncs_mid e bs xs in omega (arith, h)

pub syncs_insert : (e : Place) (l : List Place) → syncs (insert_by e l) ≡ one_if (event_of e.kind e) + syncs l
syncs_insert e l = let i = inserted_at e l in ap syncs i.is ∙ syncs_mid e i.before i.after ∙ ap (λ (m : List Place). one_if (event_of e.kind e) + syncs m) (sym i.was)

pub syncs_keep : (g : ℕ) (l : List Place) → syncs (keep_by g l) ≡ syncs l
unfolding keep_by syncs
syncs_keep g [] = refl
syncs_keep g (x ∷ xs) = by (names (event_of x.kind x) g) refl (syncs_keep g xs)
  where
    by : (b : Bool) → names (event_of x.kind x) g ≡ b → syncs (keep_by g xs) ≡ syncs xs → syncs (keep_by g (x ∷ xs)) ≡ one_if (event_of x.kind x) + syncs xs
    by true q ih = rw (q, ih, one_if_named (event_of x.kind x) g q) (omega arith)
    by false q ih = rw (q, ih)

-- ---- a new queue that has as many
pub requeued_frame : (s : State) (c : ℕ) (r : Row Place) → c < length s.queues → (c ≡ 0 → syncs r.live ≡ syncs (queue s 0)) → Frame s (requeued c r s)
unfolding requeued
requeued_frame s c r C h = record {
  near = record {
    box = refl;
    clock = refl;
    mark = refl;
    room = refl;
    few = refl;
    housed = λ g k. k;
    calm = elim (ℕ_discrete 0 c) [
      | yes e ↦ ap syncs (ap (λ (k : ℕ). live_at (set s.queues c r) k) e ∙ live_same s.queues c r C) ∙ h (sym e)
      | no d ↦ ap syncs (live_other s.queues c 0 r d)
    ];
  };
  homes = refl;
  members = refl;
}

pub same_clock : (s : State) → Sound s → T (le s.clock s.clock)
same_clock s sound = le_refl s.clock (finite_no_nan s.clock sound.clock)

-- ---- the acts that leave the lists
pub store_keeps : (s : State) (g : ℕ) (p : Particle) → Sound s → g < length s.grains → T (le p.time s.clock) → Keeps s (store g p s).st
store_keeps s g p sound G h = record { sound = store_sound s g p sound G h; frame = store_case (λ o. Frame s o.st) s g p (frame_refl s) (λ f. done') }
  where
    done' : Frame s (with_grains (set s.grains g p) s)
    done' = record { near = record { box = refl; clock = refl; mark = refl; room = refl; few = length-set s.grains g p; calm = refl; housed = λ i k. k }; homes = refl; members = refl }

pub insert_keeps : (s : State) (c : ℕ) (e : Place) → Sound s → c < cells s.box → Apt (cells s.box) c (listed s c) s.clock e → one_if (event_of e.kind e) ≡ 0 → Keeps s (insert c e s).st
insert_keeps s c e sound C a z = record {
  sound = insert_sound s c e sound C a;
  frame = insert_case (λ o. Frame s o.st) s c e (frame_refl s) (λ r. frame_refl s) (λ f r. done');
}
  where
    done' : Frame s (inserted c e s)
    done' = requeued_frame s c (row (insert_by e (queue s c)) (drop 1 (queue_row s c).spare)) (omega (arith, sound.long)) (λ w. syncs_insert e (queue s c) ∙ rw (z, w) (omega arith))

pub put_keeps : (s : State) (c : ℕ) (x : Plan) → Sound s → c < cells s.box → AptPlan (cells s.box) c (listed s c) s.clock x → Keeps s (put c x s).st
put_keeps s c (Ok None) sound C a = keeps_refl s sound
put_keeps s c (Err _) sound C a = keeps_refl s sound
put_keeps s c (Ok (Some e)) sound C a = insert_keeps s c (place_of e) sound C a.0 a.1

pub cancelled_keeps : (s : State) (g c : ℕ) → Sound s → c < cells s.box → Keeps s (cancelled g c s)
cancelled_keeps s g c sound C = record {
  sound = cancelled_sound s g c sound C;
  frame = unfold cancelled in
      requeued_frame s c (row (keep_by g (queue s c)) (replicate (gone_by g (queue s c)) zero_p ++ (queue_row s c).spare)) (omega (arith, sound.long)) (λ w. syncs_keep g (queue s c) ∙ (rw w));
}

-- what is left in the cell does not name the grain
pub cancelled_free : (s : State) (g c : ℕ) → Sound s → c < cells s.box → All (λ e. names (event_of e.kind e) g ≡ false) (queue (cancelled g c s) c)
unfolding cancelled requeued
cancelled_free s g c sound C =
    subst (λ (l : List Place). All (λ e. names (event_of e.kind e) g ≡ false) l)
    (sym (live_same s.queues c (row (keep_by g (queue s c)) (replicate (gone_by g (queue s c)) zero_p ++ (queue_row s c).spare)) (omega (arith, sound.long)))) (kept_names g (queue s c))

-- ---- a grain that its cell lists
pub record In (p c : ℕ) (s : State) : Type 0 where
  pub grain : p < length s.grains
  pub cell : c < cells s.box
  pub there : has p (listed s c) ≡ true

pub in_frame : (p c : ℕ) (s u : State) → Frame s u → In p c s → In p c u
in_frame p c s u f i = record { grain = rw f.near.few i.grain; cell = rw f.near.box i.cell; there = ap (λ (m : List (Row ℕ)). has p (live_at m c)) f.members ∙ i.there }

pub in_home : (p c : ℕ) (s : State) → Sound s → p < length s.grains → has c (home s p) ≡ true → In p c s
in_home p c s sound P h =
    let C = (sound.lists.homes.each p P).below c h in
    record { grain = P; cell = C; there = sym (sound.lists.mutual' p c P C) ∙ h }

pub in_cell : (q c : ℕ) (s : State) → Sound s → c < cells s.box → has q (listed s c) ≡ true → In q c s
in_cell q c s sound C h = record { grain = (sound.lists.members.each c C).below q h; cell = C; there = h }

-- ---- the acts that change them
longer : (s : State) (g c : ℕ) → Sound s → g < length s.grains → (i : ℕ) → 1 ≤ length (home s i) → 1 ≤ length (home (entered g c s) i)
longer s g c sound G i h = elim (ℕ_discrete i g) [
  | yes e ↦
      let w : live_at (set s.homes g (pushed c (get_or s.homes g none))) i ≡ live_at s.homes g ++ c ∷ [] = ap (λ (k : ℕ). live_at (set s.homes g (pushed c (get_or s.homes g none))) k) e ∙ live_same s.homes g (pushed c (get_or s.homes g none)) (omega (arith, sound.lists.homes.long)) in
      let l : length (home (entered g c s) i) ≡ suc (length (home s g)) = ap length w ∙ length_snoc (home s g) c in
      omega (arith, l)
  | no d ↦ let w : length (home (entered g c s) i) ≡ length (home s i) = ap length (live_other s.homes g i (pushed c (get_or s.homes g none)) d) in omega (arith, w)
]

pub enter_goes : (s : State) (g c : ℕ) → Sound s → g < length s.grains → c < cells s.box → Goes s (enter g c s).st
enter_goes s g c sound G C = record {
  sound = enter_sound s g c sound G C;
  near = enter_case (λ o. Near s o.st) s g c (λ a. near_refl s) (near_refl s) (λ a b d. done');
}
  where
    done' : Near s (entered g c s)
    done' = record { box = refl; clock = refl; mark = refl; room = refl; few = refl; calm = refl; housed = longer s g c sound G }

-- done, the cell lists the grain
pub enter_in : (s : State) (g c : ℕ) → Sound s → g < length s.grains → c < cells s.box → (enter g c s).num ≡ 0 → In g c (enter g c s).st
enter_in s g c sound G C = enter_case (λ o. o.num ≡ 0 → In g c o.st) s g c (λ a z. absurd (omega arith)) (λ z. absurd (omega arith)) (λ a b d z. done')
  where
    done' : In g c (entered g c s)
    done' = record { grain = G; cell = C; there = has_entered (cells s.box) (length s.grains) 32 s.members sound.lists.members c g C c g ∙ rw (eq-eqb c c refl, eq-eqb g g refl) (or-true (has g (listed s c))) }

shorter : (s : State) (g c : ℕ) → Sound s → g < length s.grains → has c (home s g) ≡ true → 1 < length (home s g) → (i : ℕ) → 1 ≤ length (home s i) → 1 ≤ length (home (gone g c s) i)
shorter s g c sound G t k i h = elim (ℕ_discrete i g) [
  | yes e ↦
      let w : length (home (gone g c s) i) ≡ length (pulled c (get_or s.homes g none)).live = ap length (ap (λ (k : ℕ). live_at (set s.homes g (pulled c (get_or s.homes g none))) k) e ∙ live_same s.homes g (pulled c (get_or s.homes g none)) (omega (arith, sound.lists.homes.long))) in
      let l : suc (length (pulled c (get_or s.homes g none)).live) ≡ length (home s g) = length_but c (home s g) t in
      omega (arith, w, l)
  | no d ↦ let w : length (home (gone g c s) i) ≡ length (home s i) = ap length (live_other s.homes g i (pulled c (get_or s.homes g none)) d) in omega (arith, w)
]

pub leave_goes : (s : State) (g c : ℕ) → Sound s → In g c s → All (λ e. names (event_of e.kind e) g ≡ false) (queue s c) → Goes s (leave g c s).st
leave_goes s g c sound i free = record {
  sound = leave_sound s g c sound i.grain i.cell i.there free;
  near = leave_case (λ o. Near s o.st) s g c (near_refl s) done';
}
  where
    done' : 1 < length (home s g) → Near s (gone g c s)
    done' k = record { box = refl; clock = refl; mark = refl; room = refl; few = refl; calm = refl; housed = shorter s g c sound i.grain (sound.lists.mutual' g c i.grain i.cell ∙ i.there) k }
