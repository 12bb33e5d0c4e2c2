-- NOT VACUOUS: the two claims over the history as tests, computed by the definitions after each event of two runs: that of `Shown`, and one of three grains that share a
-- cell from the start, so that pairs are tried at the start and a grain that turns has two others beside it. A test passes where its claim holds (`old_passes`,
-- `missing_passes`): of a program for which a test fails the claim is false. Box, rate and room are those of `Shown`. Assumes nothing.
use Prim.Native.Nat.{ℕ, suc, ◌<◌}
use mathlib.Core.Path.{◌≡◌, refl, ap}
use mathlib.Core.Logic.{inl, inr}
use mathlib.Core.List.{List, [], ◌∷◌, ◌++◌, map}
use mathlib.Core.Bool.{Bool, true, false, not, ◌&&◌, ◌||◌, cond, or-true}
use native.Mathlib.Omega.{arith}
use lib.Dec.{T, eqb, ltb, lit≤}
use borrow.Author.Tests.{lt-ltb, eq-eqb, eqb-true}
use lib.Count.{count_leading_zeros}
use lib.ListN.{length, replicate}
use lib.Ieee.{binary64, of_bits, round, add, sub, mul, div, neg, lt, le, eq, of_int, to_unsigned}
use Rattle.root.specs.Isqrt.{near, root}
use Rattle.root.specs.Root.{root_of, sqrt_of}
use Rattle.halting.specs.Every.{every, All}
use Rattle.order.specs.Numbers.{fzero, half}
use Rattle.myvec.specs.Vec.{vec}
use Rattle.scheduler.specs.Heap.{time_in, swap_at, child_in, down, downshifted, parent_in, up, upshifted, updated, numbered, start_heap}
use Rattle.model.specs.declared.Particle.{Particle}
use Rattle.std.specs.Prelude.{Some, None, Ok, Err}
use Rattle.model.specs.Plans.{Plan}
use Rattle.model.specs.Grid.{across, cells, position}
use Rattle.model.specs.Stepping.{grain_of, new_pos}
use Rattle.model.specs.Periodic.{apart}
use Rattle.model.specs.FromPToC.{up_from, reached, cells_at, cells_of_grain}
use Rattle.model.specs.Collision.{collision}
use Rattle.model.specs.Moves.{later, to_neighbour, out_of_cell}
use Rattle.model.specs.Walls.{wall}
use Rattle.model.specs.Events.{insert_by, keep_by, gone_by, fine_place}
use Rattle.model.specs.State.{State, listed, heads, requeued, has, but}
use Rattle.model.specs.Acts.{fine_grain, store, insert, cancelled, enter, leave, taken}
use Rattle.model.specs.Sizes.{first_bad}
use Rattle.model.specs.Execute.{event, step}
use Rattle.model.specs.Run.{run_from}
use Rattle.model.specs.Start.{Begun, refused as turned-away, started, clear, begin, start}
use Rattle.model.specs.Standing.{syncs}
use Rattle.model.specs.Check.{all, walk, settled, queued, heaped, standing, run_all}
use Rattle.model.specs.Reached.{Call, after, Reached, steps}
use Rattle.model.specs.declared.Bound.{Bound}
use Rattle.model.specs.declared.Bound.TheVariants.{ToNeighbour, OutOfCell, Wall}
use Rattle.model.specs.Rows.{Rule, pair, bound, sync, about, before, of_each, in_turn, pairing, others, doing}
use Rattle.model.specs.History.{History, row_done, step_done, steps_done, calls_done, start_done, history, latest, last_of, turned, Dated, named_by, insert_dated, keep_dated, dated, Later, NoneOld}
use Rattle.model.specs.Missing.{arrived, tried, found, executed, Among, Entry, Stays, Watched, NoneMissing}
use Rattle.halting.proofs.Bools.{clash, and_l, and_r}
use Rattle.halting.proofs.Tests.{every_true}
use Rattle.model.proofs.Lists.{has_all}
use Rattle.model.proofs.Queue.{T_of}
use Rattle.model.proofs.Starred.{same_list, same_list_lem}
use Rattle.model.proofs.Shown.{box, grains, rate, box_fits}
use Rattle.model.proofs.Exhibits.{both_passed}

-- ---- 1. the claims as tests
-- an event was put in after the last turn of each grain that it names, of n
abbrev newer : History → ℕ → Dated → Bool
newer h n d = every (λ g. not (named_by d g) || ltb (turned h g) d.by) n 0

abbrev pub none_is_old : History → State → Bool
none_is_old h s = every (λ c. all (newer h (length s.grains)) (dated h c)) (cells s.box) 0

-- act n was done after the last turn of each grain that the rule is about, and after each entered cell c
abbrev since_of : History → ℕ → ℕ → ℕ → Bool
since_of h c n g = ltb (turned h g) n && ltb (arrived h g c) n

abbrev since : History → ℕ → ℕ → Rule → Bool
since h c n (pair p q) = since_of h c n p && since_of h c n q
since h c n (bound b p d) = since_of h c n p
since h c n sync = true

-- what act n found is pending by that number; an entry may have been done instead
abbrev numbers : List Dated → List ℕ
numbers [] = []
numbers (d ∷ l) = d.by ∷ numbers l

abbrev is_entry : Rule → Bool
is_entry (pair p q) = false
is_entry (bound ToNeighbour p d) = true
is_entry (bound OutOfCell p d) = false
is_entry (bound Wall p d) = false
is_entry sync = false

abbrev stays : History → ℕ → ℕ → Rule → Plan → Bool
stays h c n r (Ok None) = true
stays h c n r (Ok (Some e)) = has n (numbers (dated h c)) || (is_entry r && executed h c n)
stays h c n r (Err _) = false

abbrev watched : History → ℕ → Rule → Bool
watched h c r = since h c (tried h c r) r && stays h c (tried h c r) r (found h c r)

-- of the grains that cell c lists: each with those after it, and each at the bounds
abbrev pairs_watched : History → ℕ → List ℕ → Bool
pairs_watched h c [] = true
pairs_watched h c (p ∷ l) = all (λ q. eqb p q || watched h c (pair p q)) l && pairs_watched h c l

abbrev bounds_watched : History → ℕ → ℕ → Bool
bounds_watched h c p = every (λ d. watched h c (bound ToNeighbour p d) && (watched h c (bound OutOfCell p d) && watched h c (bound Wall p d))) 2 0

abbrev pub none_is_missing : History → State → Bool
none_is_missing h s = every (λ c. pairs_watched h c (listed s c) && all (bounds_watched h c) (listed s c)) (cells s.box) 0

-- ---- 2. a test passes where its claim holds
implied : (a b : Bool) → (a ≡ true → b ≡ true) → (not a || b) ≡ true
implied true b f = f refl
implied false b f = refl

unless : (a b : Bool) → (a ≡ false → b ≡ true) → (a || b) ≡ true
unless true b f = refl
unless false b f = f refl

below : (t : ℕ → Bool) (n : ℕ) → ((i : ℕ) → i < n → t i ≡ true) → every t n 0 ≡ true
below t n f = every_true t n 0 (λ i a b. f i (omega arith))

all_pass : {A : Type 0} (t : A → Bool) (P : A → Type 0) → ((x : A) → P x → t x ≡ true) → (l : List A) → All P l → all t l ≡ true
all_pass t P f [] a = refl
all_pass t P f (x ∷ l) a = rw (f x a.0) (all_pass t P f l a.1)

all_listed : (t : ℕ → Bool) (l : List ℕ) → ((x : ℕ) → has x l ≡ true → t x ≡ true) → all t l ≡ true
all_listed t l f = all_pass t (λ x. t x ≡ true) (λ x e. e) l (has_all (λ x. t x ≡ true) l f)

pub old_passes : (h : History) (s : State) → NoneOld h s → none_is_old h s ≡ true
old_passes h s k = below _ (cells s.box) (λ c m. all_pass (newer h (length s.grains)) (Later h) newer-passes (dated h c) (k c m))
  where
    newer-passes : (d : Dated) → Later h d → newer h (length s.grains) d ≡ true
    newer-passes d l = below _ (length s.grains) (λ g m. implied (named_by d g) (ltb (turned h g) d.by) (λ e. lt-ltb (turned h g) d.by (l g e)))

module _ (h : History) (c : ℕ) where
  since_passes : (r : Rule) (n : ℕ) → ((g : ℕ) → about r g ≡ true → (turned h g < n) × (arrived h g c < n)) → since h c n r ≡ true
  since_passes r n k = by r k
    where
      of : (g : ℕ) → (turned h g < n) × (arrived h g c < n) → since_of h c n g ≡ true
      of g l = rw (lt-ltb (turned h g) n l.0, lt-ltb (arrived h g c) n l.1)

      by : (r : Rule) → ((g : ℕ) → about r g ≡ true → (turned h g < n) × (arrived h g c < n)) → since h c n r ≡ true
      by (pair p q) k = rw (of p (k p (rw (eq-eqb p p refl))), of q (k q (rw (eq-eqb q q refl) (or-true (eqb p q)))))
      by (bound b p d) k = of p (k p (eq-eqb p p refl))
      by sync k = refl

  among_has : (d : Dated) (l : List Dated) → Among d l → has d.by (numbers l) ≡ true
  unfolding has
  among_has d [] a = absurd a
  among_has d (x ∷ l) (inl e) = rw (eq-eqb d.by x.by (ap (λ (y : Dated). y.by) e))
  among_has d (x ∷ l) (inr a) = rw (among_has d l a) (or-true (eqb d.by x.by))

  entry_is : (r : Rule) → Entry r → is_entry r ≡ true
  entry_is (pair p q) e = absurd e
  entry_is (bound ToNeighbour p d) e = refl
  entry_is (bound OutOfCell p d) e = absurd e
  entry_is (bound Wall p d) e = absurd e
  entry_is sync e = absurd e

  stays_passes : (r : Rule) (x : Plan) → Stays h c r x → stays h c (tried h c r) r x ≡ true
  stays_passes r (Ok None) k = refl
  stays_passes r (Ok (Some e)) (inl a) = rw (among_has _ (dated h c) a)
  stays_passes r (Ok (Some e)) (inr a) = rw (entry_is r a.0, a.1) (or-true (has (tried h c r) (numbers (dated h c))))
  stays_passes r (Err _) k = absurd k

  watched_passes : (r : Rule) → Watched h c r → watched h c r ≡ true
  watched_passes r w = rw (since_passes r (tried h c r) w.since) (stays_passes r (found h c r) w.stays)

  pairs_pass : (l : List ℕ) → ((p q : ℕ) → has p l ≡ true → has q l ≡ true → eqb p q ≡ false → Watched h c (pair p q)) → pairs_watched h c l ≡ true
  unfolding has
  pairs_pass [] k = refl
  pairs_pass (p ∷ l) k =
      rw (all_listed (λ q. eqb p q || watched h c (pair p q)) l (λ q m. unless (eqb p q) (watched h c (pair p q)) (λ e. watched_passes (pair p q) (k p q (rw (eq-eqb p p refl)) (rw m (or-true (eqb q p))) e))))
      (pairs_pass l (λ x y a b e. k x y (rw a (or-true (eqb x p))) (rw b (or-true (eqb y p))) e))

  bounds_pass : (p : ℕ) → ((b : Bound) (d : ℕ) → d < 2 → Watched h c (bound b p d)) → bounds_watched h c p ≡ true
  bounds_pass p k = below _ 2 (λ d m. rw (watched_passes (bound ToNeighbour p d) (k ToNeighbour d m), watched_passes (bound OutOfCell p d) (k OutOfCell d m), watched_passes (bound Wall p d) (k Wall d m)))

pub missing_passes : (h : History) (s : State) → NoneMissing h s → none_is_missing h s ≡ true
missing_passes h s k =
    below _ (cells s.box) (λ c m. rw (pairs_pass h c (listed s c) (λ p q a b e. k c m (pair p q) (a, b, e))) (all_listed (bounds_watched h c) (listed s c) (λ p a. bounds_pass h c p (λ b d e. k c m (bound b p d) (a, e)))))

-- ---- 3. the numbers at stake: of the last turn of each grain, grain after grain; of the last try of each two grains of a cell, and of the acts that put in its pending
-- collisions, cell after cell
pub record Row : Type 0 where
  pub turns : List ℕ
  pub tries : List ℕ
  pub pending : List ℕ

abbrev row : List ℕ → List ℕ → List ℕ → Row
row x y z = record { turns = x; tries = y; pending = z }

abbrev joined : (ℕ → List ℕ) → List ℕ → List ℕ
joined f [] = []
joined f (c ∷ cs) = f c ++ joined f cs

abbrev of_cells : State → (ℕ → List ℕ) → List ℕ
of_cells s f = joined f (up_from 0 (cells s.box))

abbrev twos : List ℕ → List Rule
twos [] = []
twos (p ∷ l) = map (pair p) l ++ twos l

abbrev collisions : List Dated → List ℕ
collisions [] = []
collisions (d ∷ l) = cond (eqb d.event.kind 1) (d.by ∷ collisions l) (collisions l)

abbrev pub turns_of : History → State → List ℕ
turns_of h s = map (turned h) (up_from 0 (length s.grains))

abbrev pub tries_of : History → State → List ℕ
tries_of h s = of_cells s (λ c. map (tried h c) (twos (listed s c)))

abbrev pub pending_of : History → State → List ℕ
pending_of h s = of_cells s (λ c. collisions (dated h c))

-- ---- 4. a run, one event after another, with a row for each state: it is not halted, both tests pass, and its numbers are the row's
abbrev checks : Row → History → State → List Bool
checks r h s = eqb s.mark 0 ∷ none_is_old h s ∷ none_is_missing h s ∷ same_list (turns_of h s) r.turns ∷ same_list (tries_of h s) r.tries ∷ same_list (pending_of h s) r.pending ∷ []

abbrev good : Row → History → State → Bool
good r h s = all (λ t. t) (checks r h s)

abbrev walked : List Row → State → History → Bool
walked [] s h = true
walked (r ∷ rs) s h = good r h s && (let u = run_all rate 1 s in walked rs u.state (steps_done rate u.count s h))

abbrev tested : List Particle → List Row → Begun → Bool
tested gs rs (turned-away r i) = false
tested gs rs (started s) = walked rs s (start_done box 16 gs)

-- the run of `Shown`: its start; a synchronisation, an entry, a collision; seven entries and leavings, a reflection, a synchronisation
abbrev pub rows_of_two : List Row
rows_of_two =
    row (1 ∷ 3 ∷ []) [] [] ∷
    row (1 ∷ 3 ∷ []) [] [] ∷
    row (1 ∷ 3 ∷ []) (26 ∷ []) (26 ∷ []) ∷
    row (34 ∷ 35 ∷ []) (54 ∷ []) [] ∷
    replicate 7 (row (34 ∷ 35 ∷ []) [] []) ++
    row (110 ∷ 35 ∷ []) [] [] ∷
    row (110 ∷ 35 ∷ []) [] [] ∷
    []

-- three grains in cell 1, at a wall, at (5.53, 1.66), (4.94, 0.58) and (3.62, 2.01) with velocities (-1.03, -1.45), (-1.22, 0.68) and (0.58, -0.15)
abbrev pub three : List Particle
three =
    grain_of (vec (of_bits binary64 0x40161eb851eb851f) (of_bits binary64 0x3ffa8f5c28f5c28f)) (vec (of_bits binary64 0xbff07ae147ae147b) (of_bits binary64 0xbff7333333333333)) fzero (of_bits binary64 0x3fe999999999999a) half ∷
    grain_of (vec (of_bits binary64 0x4013c28f5c28f5c3) (of_bits binary64 0x3fe28f5c28f5c28f)) (vec (of_bits binary64 0xbff3851eb851eb85) (of_bits binary64 0x3fe5c28f5c28f5c3)) fzero (of_bits binary64 0x3fd3333333333333) half ∷
    grain_of (vec (of_bits binary64 0x400cf5c28f5c28f6) (of_bits binary64 0x4000147ae147ae14)) (vec (of_bits binary64 0x3fe28f5c28f5c28f) (of_bits binary64 0xbfc3333333333333)) fzero (of_bits binary64 0x3fe3333333333333) half ∷
    []

-- its start finds that 0 will meet 1, and 1 will meet 2; a synchronisation; 0 meets 1, and is found to meet 2 next; 1 comes to the wall, enters cell 0, leaves cell 1; 0 meets 2
abbrev pub rows_of_three : List Row
rows_of_three =
    row (1 ∷ 3 ∷ 5 ∷ []) (8 ∷ 9 ∷ 10 ∷ []) (8 ∷ 10 ∷ []) ∷
    row (1 ∷ 3 ∷ 5 ∷ []) (8 ∷ 9 ∷ 10 ∷ []) (8 ∷ 10 ∷ []) ∷
    row (35 ∷ 36 ∷ 5 ∷ []) (51 ∷ 42 ∷ 52 ∷ []) (42 ∷ []) ∷
    row (35 ∷ 60 ∷ 5 ∷ []) (64 ∷ 42 ∷ 65 ∷ []) (42 ∷ []) ∷
    row (35 ∷ 60 ∷ 5 ∷ []) (64 ∷ 42 ∷ 65 ∷ []) (42 ∷ []) ∷
    row (35 ∷ 60 ∷ 5 ∷ []) (42 ∷ []) (42 ∷ []) ∷
    row (86 ∷ 60 ∷ 87 ∷ []) (99 ∷ []) [] ∷
    []

computed : T (tested grains rows_of_two (start box 16 grains) && tested three rows_of_three (start box 16 three))
unfolding round add sub mul div neg lt le eq of_int to_unsigned of_bits root_of sqrt_of near root count_leading_zeros across position insert_by keep_by gone_by fine_place new_pos apart up_from
    reached cells_at cells_of_grain heads requeued has but fine_grain store insert cancelled enter leave taken later collision to_neighbour out_of_cell wall others doing event step
    first_bad clear begin start time_in swap_at child_in down downshifted parent_in up upshifted updated numbered start_heap every syncs walk settled queued heaped standing run_from
    run_all steps before of_each in_turn pairing row_done step_done steps_done start_done latest insert_dated keep_dated dated last_of executed
computed = tt

-- ---- 5. a reached state that is not halted, after n events from these grains, in which both tests pass, with the numbers of a row
abbrev one : Call
one = record { rate = rate; budget = 1; small = lit≤ tt }

pub record Exhibit (gs : List Particle) (n : ℕ) (r : Row) : Type 0 where
  pub state : State
  pub reached : Reached state
  pub from : (reached.grains ≡ gs) × (reached.calls ≡ replicate n one)
  pub unhalted : state.mark ≡ 0
  pub none_old : none_is_old (history state reached) state ≡ true
  pub none_missing_lem : none_is_missing (history state reached) state ≡ true
  pub turns : turns_of (history state reached) state ≡ r.turns
  pub tries : tries_of (history state reached) state ≡ r.tries
  pub pending : pending_of (history state reached) state ≡ r.pending

-- of each row and its place
abbrev pub Each : (ℕ → Row → Type 0) → List Row → Type 0
Each P [] = Unit {0}
Each P (r ∷ rs) = P 0 r × Each (λ n. P (suc n)) rs

each_to : (P Q : ℕ → Row → Type 0) → ((n : ℕ) (r : Row) → P n r → Q n r) → (rs : List Row) → Each P rs → Each Q rs
each_to P Q f [] k = tt
each_to P Q f (r ∷ rs) k = (f 0 r k.0, each_to (λ n. P (suc n)) (λ n. Q (suc n)) (λ n. f (suc n)) rs k.1)

each_good : (rs : List Row) (s : State) (h : History) → walked rs s h ≡ true → Each (λ n r. good r (calls_done (replicate n one) s h) (after (replicate n one) s) ≡ true) rs
unfolding after calls_done
each_good [] s h e = tt
each_good (r ∷ rs) s h e =
    let u = run_all rate 1 s in
    let v = steps_done rate u.count s h in
    (and_l (good r h s) (walked rs u.state v) e, each_good rs u.state v (and_r (good r h s) (walked rs u.state v) e))

each_true : (l : List Bool) → all (λ t. t) l ≡ true → All (λ t. t ≡ true) l
each_true [] e = tt
each_true (t ∷ l) e = (and_l t (all (λ x. x) l) e, each_true l (and_r t (all (λ x. x) l) e))

exhibit : (gs : List Particle) (s : State) → start box 16 gs ≡ started s → (n : ℕ) (r : Row) → good r (calls_done (replicate n one) s (start_done box 16 gs)) (after (replicate n one) s) ≡ true → Exhibit gs n r
exhibit gs s e n r g =
    let k = each_true (checks r (calls_done (replicate n one) s (start_done box 16 gs)) (after (replicate n one) s)) g in
    let same : (x y : List ℕ) → same_list x y ≡ true → x ≡ y = λ x y t. same_list_lem x y (T_of (same_list x y) t) in
    record {
      state = after (replicate n one) s;
      reached = record { box = box; fits = box_fits; room = 16; grains = gs; begun = s; accepted = e; calls = replicate n one; there = refl };
      from = (refl, refl);
      unhalted = eqb-true _ 0 k.0;
      none_old = k.1.0;
      none_missing_lem = k.1.1.0;
      turns = same _ _ k.1.1.1.0;
      tries = same _ _ k.1.1.1.1.0;
      pending = same _ _ k.1.1.1.1.1.0;
    }

exhibits : (gs : List Particle) (rs : List Row) (o : Begun) → start box 16 gs ≡ o → tested gs rs o ≡ true → Each (Exhibit gs) rs
exhibits gs rs (turned-away r i) e t = clash t
exhibits gs rs (started s) e t = each_to _ (Exhibit gs) (exhibit gs s e) rs (each_good rs s (start_done box 16 gs) t)

-- after 0 to 12 events, and after 0 to 6
pub run_of_two : Each (Exhibit grains) rows_of_two
run_of_two = exhibits grains rows_of_two (start box 16 grains) refl (both_passed _ _ computed).0

pub run_of_three : Each (Exhibit three) rows_of_three
run_of_three = exhibits three rows_of_three (start box 16 three) refl (both_passed (tested grains rows_of_two (start box 16 grains)) _ computed).1
