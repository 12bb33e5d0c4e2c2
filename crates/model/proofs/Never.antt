-- WHAT CANNOT HAPPEN: 8 or 9 at a start; 6 at a synchronisation; a run that finds no first event; a first run that is spent. Assumes nothing.
use Prim.Native.Nat.{ℕ, zero, suc, ◌+◌, ◌≤◌, ◌<◌}
use mathlib.Core.Path.{◌≡◌, refl, sym, ap, subst, ◌∙◌}
use mathlib.Core.Logic.{◌⊎◌, inl, inr}
use mathlib.Core.List.{List, [], ◌∷◌}
use mathlib.Core.Bool.{false, ◌&&◌}
use native.Mathlib.Omega.{arith}
use native.Mathlib.Decide.{ℕ_discrete}
use lib.Dec.{leb}
use lib.ListN.{length, get_or, set, drop, replicate, length-set, length-replicate}
use lib.Ieee.{Float, binary64, add}
use borrow.Author.Tests.{leb-true}
use Rattle.std.specs.Prelude.{Some}
use Rattle.scheduler.specs.Heap.{numbered, start_heap}
use Rattle.order.specs.Numbers.{fzero}
use Rattle.scheduler.specs.Head.{earlier}
use Rattle.order.proofs.Compare.{lt_irrefl}
use Rattle.model.specs.declared.Domain.{Domain}
use Rattle.model.specs.declared.Particle.{Particle}
use Rattle.model.specs.declared.Place.{Place}
use Rattle.model.specs.declared.Event.{Event}
use Rattle.model.specs.declared.Event.TheVariants.{Synchronisation}
use Rattle.halting.specs.Out.{Out, next, each}
use Rattle.halting.proofs.Laws.{then_sound, each_sound, then_keeps}
use Rattle.model.specs.Grid.{cells}
use Rattle.model.specs.Stepping.{stepped}
use Rattle.model.specs.Events.{event_of, head_time, head_place, insert_by, zero_p}
use Rattle.model.specs.State.{Row, row, none, State, grain, listed, queue, heads, live_at, requeued}
use Rattle.model.specs.Acts.{queue_row, store, insert, inserted, enter, first, head, taken}
use Rattle.model.specs.Doing.{step_grain, do_sync, sync_at, beginning, goes_in, init_cell}
use Rattle.model.specs.Execute.{Stepped, done, halted, finish, execute, head_event, event, step}
use Rattle.model.specs.Run.{spent, refused, Ran, onward, run_from}
use Rattle.model.specs.Start.{clear, begin, started, start}
use Rattle.model.specs.Standing.{Standing}
use Rattle.model.proofs.Sound.{Named, Stands}
use Rattle.model.specs.Check.{Fits, Fitted, run_all}
use Rattle.halting.proofs.Bools.{clash, and_l, and_r}
use Rattle.model.proofs.Lists.{live_same, live_other}
use Rattle.model.proofs.Frame.{of_sound}
use Rattle.model.proofs.Cases.{store_case, insert_case, enter_case}
use Rattle.model.proofs.Plans.{cells_some}
use Rattle.model.proofs.Steps.{first_some, head_ok}
use Rattle.model.proofs.Stands.{stands}
use Rattle.model.proofs.Starts.{first_good}
use Rattle.model.proofs.Cleared.{empty_live}
use Rattle.model.proofs.Fresh.{begin_fair}
use Rattle.model.proofs.Roots.{Rooted, updated_root, head_later, rest_root}
use Rattle.model.proofs.Reached.{halted_mark}
use Rattle.model.proofs.Refusals.{run_case}
use Rattle.model.proofs.Halts.{accepted, start_halts, in_range_lem}
use Rattle.model.proofs.Performs.{execute_is, begin_is}

-- ---- 1. a start gives neither 8 nor 9
pub no_8_or_9_at_start : (b : Domain) (room : ℕ) (gs : List Particle) (s : State) → Fits b → start b room gs ≡ started s → (s.mark ≡ 8 → ⊥) × (s.mark ≡ 9 → ⊥)
no_8_or_9_at_start b room gs s f e =
    let a = accepted b room gs s e in
    let rooms = and_r (leb (length gs) 256) (leb 16 room && leb room 256) a.counts in
    let q = begin_fair b room gs a.box f (leb-true _ _ (and_l (leb 16 room) (leb room 256) rooms)) (leb-true _ _ (and_r (leb 16 room) (leb room 256) rooms)) (leb-true _ _ (and_l (leb (length gs) 256) _ a.counts)) (first_good b gs a.good) in
    let m : s.mark ≡ (begin b room gs).num = ap (λ (u : State). u.mark) a.is in
    (λ z. q.not_8 (sym m ∙ z), λ z. q.not_9 (sym m ∙ z))

-- ---- 2. a synchronisation is not refused by 6: its own place was just freed. It may be by 5, and by nothing else
abbrev Five : ℕ → Type 0
Five r = (r ≡ 0) ⊎ (r ≡ 5)

next_five : (P : State → Type 0) (r : ℕ) (u : State) (k : State → Out State) → Five r → P u → ((w : State) → P w → Five (k w).num) → Five (next r u k).num
next_five P zero u k f p g = g u p
next_five P (suc r) u k f p g = f

-- as many events in cell 0 as before, and one place free
pub record Free (u : State) : Type 0 where
  pub free : length (queue u 0) < u.room

store_five : (g : ℕ) (p : Particle) (u : State) → Free u → Five (store g p u).num × Free (store g p u).st
store_five g p u r = store_case (λ o. Five o.num × Free o.st) u g p (inr refl, r) (λ f. (inl refl, record { free = r.free }))

each_five : (m c : ℕ) (u : State) → Free u → Five (each step_grain m c u).num × Free (each step_grain m c u).st
unfolding each
each_five zero c u r = (inl refl, r)
each_five (suc m) c u r =
    let q : Five (step_grain c u).num × Free (step_grain c u).st = unfold step_grain in store_five c (stepped u.box u.clock (grain u c)) u r in (
      next_five Free (step_grain c u).num (step_grain c u).st (each step_grain m (suc c)) q.0 q.1 (λ w k. (each_five m (suc c) w k).0),
      then_sound Free (step_grain c u) (each step_grain m (suc c)) q.1 (λ w k. (each_five m (suc c) w k).1),
    )

insert_five : (e : Place) (u : State) → Free u → Five (insert 0 e u).num
insert_five e u r = insert_case (λ o. Five o.num) u 0 e (inr refl) (λ w. absurd (let q = r.free in omega (arith, q, w))) (λ f w. inl refl)

sync_five : (rate : Float) (u : State) → Free u → Five (do_sync rate u).num
unfolding do_sync
sync_five rate u r =
    let q = each_five (length u.grains) 0 u r in
    next_five Free (each step_grain (length u.grains) 0 u).num (each step_grain (length u.grains) 0 u).st (λ w. insert 0 (sync_at (add binary64 u.clock rate)) w) q.0 q.1
    (λ w k. insert_five (sync_at (add binary64 u.clock rate)) w k)

drop_short : (l : List Place) (sp k : ℕ) → 0 < length l → length l + sp ≡ k → length (drop 1 l) < k
drop_short [] sp k h e = absurd (omega arith)
drop_short (x ∷ xs) sp k h e = omega (arith, e)

module _ (s : State) (st : Stands s) (sync : head_event s ≡ Synchronisation) where
  in_cell_0 : first s ≡ 0
  in_cell_0 = let n : Named (cells s.box) (first s) (listed s (first s)) Synchronisation = subst (Named (cells s.box) (first s) (listed s (first s))) sync (head_ok s st).named in n.0

  taken_free : Free (taken s)
  unfolding taken requeued
  taken_free = record { free = subst (λ (l : List Place). length l < s.room) (sym here) (drop_short (queue s 0) (length (get_or s.queues 0 none).spare) s.room some (st.sound.queues 0 (cells_some s.box)).full) }
    where
      new : Row Place
      new = row (drop 1 (queue s (first s))) (zero_p ∷ (queue_row s (first s)).spare)

      here : live_at (set s.queues (first s) new) 0 ≡ drop 1 (queue s 0)
      here =
          ap (λ (k : ℕ). live_at (set s.queues (first s) new) k) (sym in_cell_0) ∙ live_same s.queues (first s) new (let w = cells_some s.box in omega (arith, in_cell_0, st.sound.long)) ∙
          ap (λ (k : ℕ). drop 1 (queue s k)) in_cell_0

      some : 0 < length (queue s 0)
      some = subst (λ (k : ℕ). 0 < length (queue s k)) in_cell_0 (first_some s st)

  event_five : (rate : Float) → Five (event rate s).num
  event_five rate = unfold event in subst (λ (e : Event). Five (execute rate e (taken s)).num) (sym sync) (rw (execute_is rate Synchronisation (taken s)) (sync_five rate (taken s) taken_free))

pub no_6_at_a_synchronisation : (rate : Float) (s : State) → Fitted s → Standing s → head_event s ≡ Synchronisation → (r : ℕ) → (step rate s).how ≡ halted r → r ≡ 5
no_6_at_a_synchronisation rate s f h sync r e =
    let m = halted_mark rate s r e in
    elim (event_five s (stands s f h) sync rate) [
      | inl z ↦ absurd (let p = m.1 in let q = m.2 in omega (arith, p, q, z))
      | inr z ↦ sym m.2 ∙ z
    ]

-- ---- 3. there always is a first event
pub a_first_event : (s : State) → Fitted s → Standing s → 0 < length (queue s (first s))
a_first_event s f h = first_some s (stands s f h)

-- ---- 4. after a start it is the synchronisation at 0, in cell 0
-- all cleared but grains and lists
record Bare (n : ℕ) (u : State) : Type 0 where
  long : length u.queues ≡ n
  clock : u.clock ≡ fzero
  root : first u ≡ 0
  empty : (c : ℕ) → queue u c ≡ []

set_zero : (l : List ℕ) (i : ℕ) → get_or l 0 0 ≡ 0 → get_or (set l i i) 0 0 ≡ 0
set_zero [] i z = z
set_zero (x ∷ xs) zero z = refl
set_zero (x ∷ xs) (suc i) z = z

numbered_zero : (n : ℕ) (l : List ℕ) → get_or l 0 0 ≡ 0 → get_or (numbered n l) 0 0 ≡ 0
unfolding numbered
numbered_zero zero l z = z
numbered_zero (suc n) l z = set_zero (numbered n l) n (numbered_zero n l z)

clear_bare : (b : Domain) (room n : ℕ) → Bare (cells b) (clear b room n)
unfolding clear start_heap
clear_bare b room n = record { long = length-replicate (cells b) _; clock = refl; root = numbered_zero (cells b) (replicate 256 0) refl; empty = empty_live (cells b) room zero_p }

store_bare : (k g : ℕ) (p : Particle) (u : State) → Bare k u → Bare k (store g p u).st
store_bare k g p u r = store_case (λ o. Bare k o.st) u g p r (λ f. record { long = r.long; clock = r.clock; root = r.root; empty = r.empty })

enter_bare : (k g c : ℕ) (u : State) → Bare k u → Bare k (enter g c u).st
enter_bare k g c u r = enter_case (λ o. Bare k o.st) u g c (λ a. r) r (λ a b d. record { long = r.long; clock = r.clock; root = r.root; empty = r.empty })

goes_in_bare : (k : ℕ) (gs : List Particle) (i : ℕ) (u : State) → Bare k u → Bare k (goes_in gs i u).st
unfolding goes_in
goes_in_bare k gs i u r = then_sound (Bare k) (store i _ u) _ (store_bare k i _ u r) (λ w q. of_sound (Bare k) (λ c. enter i c) _ (λ c v h p. enter_bare k i c v p) w q)

sync_rooted : (n : ℕ) (u : State) → 0 < n → Bare n u → Rooted n (inserted 0 (sync_at fzero) u)
unfolding requeued
sync_rooted n u N r = record {
  long = length-set u.queues 0 new ∙ r.long;
  clock = r.clock;
  root = updated_root (heads (set u.queues 0 new)) heads-late u.sched 0 (heads u.queues 0) (head_time (insert_by (sync_at fzero) (queue u 0))) (unfold heads in head_later (sync_at fzero) (queue u 0)) r.root;
  head = ap head_place here;
  late = late;
}
  where
    new : Row Place
    new = row (insert_by (sync_at fzero) (queue u 0)) (drop 1 (queue_row u 0).spare)

    here : live_at (set u.queues 0 new) 0 ≡ sync_at fzero ∷ []
    here = live_same u.queues 0 new (omega (arith, r.long)) ∙ (rw (r.empty 0) (unfold insert_by in refl))

    late : (k : ℕ) → earlier (head_time (live_at (set u.queues 0 new) k)) (Some fzero) ≡ false
    late k = elim (ℕ_discrete k 0) [
      | yes z ↦ ap (λ (j : ℕ). earlier (head_time (live_at (set u.queues 0 new) j)) (Some fzero)) z ∙ ap (λ (l : List Place). earlier (head_time l) (Some fzero)) here ∙ lt_irrefl fzero
      | no d ↦ ap (λ (l : List Place). earlier (head_time l) (Some fzero)) (live_other u.queues 0 k new d ∙ r.empty k)
    ]

    heads-late : (k : ℕ) → earlier (heads (set u.queues 0 new) k) (heads (set u.queues 0 new) 0) ≡ false
    heads-late k = unfold heads in ap (λ (l : List Place). earlier (head_time (live_at (set u.queues 0 new) k)) (head_time l)) here ∙ late k

insert_rooted : (n : ℕ) (u : State) → 0 < n → Bare n u → (insert 0 (sync_at fzero) u).num ≡ 0 → Rooted n (insert 0 (sync_at fzero) u).st
insert_rooted n u N r = insert_case (λ o. o.num ≡ 0 → Rooted n o.st) u 0 (sync_at fzero) (λ z. absurd (omega (arith, z))) (λ w z. absurd (omega (arith, z))) (λ f w z. sync_rooted n u N r)

cell_0_rooted : (n : ℕ) (u : State) → 0 < n → Bare n u → (init_cell 0 u).num ≡ 0 → Rooted n (init_cell 0 u).st
unfolding init_cell
cell_0_rooted n u N r = then_keeps (Rooted n) (Rooted n) (insert 0 (sync_at fzero) u) _ (insert_rooted n u N r) (λ w q z. rest_root n 0 N w q)

cells_rooted : (n m c : ℕ) (u : State) → suc c + m ≤ n → Rooted n u → Rooted n (each init_cell m (suc c) u).st
unfolding each init_cell
cells_rooted n zero c u h r = r
cells_rooted n (suc m) c u h r =
    then_sound (Rooted n) (init_cell (suc c) u) (each init_cell m (suc (suc c))) (rest_root n (suc c) (omega arith) u r) (λ w q. cells_rooted n m (suc c) w (omega arith) q)

init_rooted : (n m : ℕ) (u : State) → m ≡ n → 0 < n → Bare n u → (each init_cell m 0 u).num ≡ 0 → Rooted n (each init_cell m 0 u).st
unfolding each
init_rooted n zero u e N r = absurd (omega (arith, e))
init_rooted n (suc m) u e N r =
    then_keeps (Rooted n) (Rooted n) (init_cell 0 u) (each init_cell m 1) (cell_0_rooted n u N r) (λ w q z. cells_rooted n m 0 w (omega (arith, e)) q)

begin_rooted : (b : Domain) (room : ℕ) (gs : List Particle) → (begin b room gs).num ≡ 0 → Rooted (cells b) (begin b room gs).st
unfolding beginning
begin_rooted b room gs =
    subst (λ (o : Out State). o.num ≡ 0 → Rooted (cells b) o.st) (sym (begin_is b room gs)) (then_keeps (Bare (cells b)) (Rooted (cells b)) (each (goes_in gs) (length gs) 0 (clear b room (length gs))) _
    (λ z. each_sound (goes_in gs) (Bare (cells b)) (length gs) (λ i u I r. goes_in_bare (cells b) gs i u r) (length gs) 0 (clear b room (length gs)) (omega arith) (clear_bare b room (length gs)))
    (λ u r. init_rooted (cells b) (cells b) u refl (cells_some b) r))

-- the heap's root is cell 0, and its first event the synchronisation at 0
pub first_of_all : (b : Domain) (room : ℕ) (gs : List Particle) (s : State) → start b room gs ≡ started s → s.mark ≡ 0 → (first s ≡ 0) × (head s ≡ sync_at fzero)
first_of_all b room gs s e m =
    let a = accepted b room gs s e in
    let r = begin_rooted b room gs (sym (ap (λ (u : State). u.mark) a.is) ∙ m) in
    let o = (begin b room gs).st in
    let f : first s ≡ 0 = ap first a.is ∙ r.root in
    (f, ap (λ (k : ℕ). head_place (queue s k)) f ∙ ap (λ (u : State). head_place (queue u 0)) a.is ∙ r.head)

-- so its first step is a synchronisation, or halts; and a run of at least one event is not spent
never_done : (r : ℕ) (u : State) (e : Event) → e ≡ Synchronisation → (finish r u e).how ≡ done → ⊥
never_done zero u e z h = let q : Stepped.synchronised ≡ done = sym (ap (λ (x : Event). (finish 0 u x).how) z) ∙ h in let n : ◌≡◌ {A = ℕ} 0 1 = cc in omega arith
never_done (suc r) u e z h = let n : ◌≡◌ {A = ℕ} 0 1 = cc in omega arith

step_not_done : (rate : Float) (s : State) → head s ≡ sync_at fzero → (step rate s).how ≡ done → ⊥
unfolding step
step_not_done rate s h = never_done (event rate s).num (event rate s).st (head_event s) (ap (λ (p : Place). event_of p.kind p) h)

onward_not_spent : (h : Stepped) (u : State) (k : ℕ → State → Ran) → (h ≡ done → ⊥) → (onward h u 0 k).how ≡ spent → ⊥
onward_not_spent done u k n e = n refl
onward_not_spent Stepped.synchronised u k n e = let n : ◌≡◌ {A = ℕ} 0 1 = cc in omega arith
onward_not_spent (halted r) u k n e = let n : ◌≡◌ {A = ℕ} 0 1 = cc in omega arith

run_not_spent : (rate : Float) (b : ℕ) (s : State) → head s ≡ sync_at fzero → 1 ≤ b → (run_from rate b 0 s).how ≡ spent → ⊥
unfolding run_from
run_not_spent rate zero s h B = absurd (omega arith)
run_not_spent rate (suc b) s h B = onward_not_spent (step rate s).how (step rate s).state (run_from rate b) (step_not_done rate s h)

refusal_not : (r : ℕ) → refused r ≡ spent → ⊥
refusal_not r e = let n : ◌≡◌ {A = ℕ} 0 1 = cc in omega arith

pub first_run_not_spent : (b : Domain) (room : ℕ) (gs : List Particle) (s : State) → start b room gs ≡ started s → (rate : Float) (budget : ℕ) → 1 ≤ budget → (run_all rate budget s).how ≡ spent → ⊥
first_run_not_spent b room gs s e rate budget B =
    run_case (λ f. (f budget).how ≡ spent → ⊥) rate s (refusal_not 2) (λ h. refusal_not s.mark) (refusal_not 3) (refusal_not 10)
    (λ h R t. elim (ℕ_discrete s.mark 0) [
      | yes m ↦ run_not_spent rate budget s (first_of_all b room gs s e m).1 B
      | no n ↦ λ x. let w = start_halts b room gs s e n in clash (sym h ∙ in_range_lem s.mark w.five w.nine)
    ])
