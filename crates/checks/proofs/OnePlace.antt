-- A place of the tables, a row of them, and the tests of one. Assumes nothing.
use mathlib.Core.Path.{◌≡◌, refl, sym, ap, ◌∙◌}
use Prim.Native.Nat.{ℕ, zero, suc, ◌+◌, ◌-◌, ◌*◌, ◌≤◌, ◌<◌}
use native.Mathlib.Nat.{mul-le-mul_right}
use native.Mathlib.Omega.{arith}
use mathlib.Core.List.{List, [], ◌∷◌, ◌++◌}
use mathlib.Core.Bool.{Bool, true, false, ◌&&◌, cond}
use lib.Dec.{eqb}
use lib.ListN.{length, get_or, take, drop, take-append-drop, length-append, get_or-append}
use lib.Seq.{drop_at, drop-drop, get_or-take, length-take-le}
use lib.Ieee.{Float, nan, le}
use borrow.Author.Tests.{eq-eqb}
use borrow.Rule.Slice.PartMut.{mid_of}
use Rattle.layout.specs.Widths.{place_nums_wide, place_reals_wide, queue_wide, events_wide}
use Rattle.model.specs.declared.Place.{Place}
use Rattle.model.specs.declared.Event.{Event}
use Rattle.model.specs.declared.Event.TheVariants.{InterParticleCollision, MoveToNeighbour, MoveOutOfCell, WallReflection, Synchronisation}
use Rattle.model.specs.State.{Row, none, live_at}
use Rattle.model.specs.Events.{event_of}
use Rattle.model.specs.Standing.{syncs, one_if}
use Rattle.model.specs.Check.{all, rising, held, queue_ok}
use Rattle.std.specs.List.{filter}
use Rattle.checks.specs.Inside.{Rowed, Used}
use Rattle.checks.proofs.Chunks.{parts, places_part}
use Rattle.chunks.proofs.Laws.{tail_is, tail_long, chunk_in}
use Rattle.tables.specs.Decode.{cut, cut_both, place_at, places_of, queue_at, queues_of}
use Rattle.checks.proofs.Cut.{both_at, both_take, both_long, counted_at, rowed_in}

-- ---- a walk over the floats of places: that their times are in order from t on is said of those that are left, from the time u of the last one on
pub record Left (t u : Float) (e rest : List Float) : Type 0 where
  pub says : (k : ℕ) → length e ≡ k * place_reals_wide → (m : ℕ) × (length rest ≡ m * place_reals_wide)
      × ((r : Bool) → ((q : List ℕ) → r ≡ rising u (places_of m q rest)) → (q : List ℕ) → r ≡ rising t (places_of k q e))

pub left_all : (t : Float) (e : List Float) → Left t t e e
left_all t e = record { says = λ k h. (k, h, λ r f q. f q) }

none_left : (u : Float) (q : List ℕ) (l : List Float) (m : ℕ) → m ≡ 0 → true ≡ rising u (places_of m q l)
unfolding cut_both
none_left u q l m z = rw z

one_left : (u : Float) (q : List ℕ) (l part others : List Float) (m k : ℕ) → l ≡ part ++ others → length part ≡ place_reals_wide → m ≡ suc k
    → rising u (places_of m q l) ≡ (le u (get_or part 0 nan) && rising (get_or part 0 nan) (places_of k (drop place_nums_wide q) others))
unfolding cut_both
one_left u q l part others m k e h z = rw (z, e, get_or-append part others nan 0 (omega arith), drop_at part others place_reals_wide h)

module _ {t u : Float} {e rest : List Float} (L : Left t u e rest) where
  pub left_none : length rest < place_reals_wide → (k : ℕ) (q : List ℕ) → length e ≡ k * place_reals_wide → true ≡ rising t (places_of k q e)
  left_none h k q f = let s = L.says k f in s.2 true (λ q. none_left u q rest s.0 (omega (arith, s.1))) q

  module _ (part others : List Float) (is : rest ≡ part ++ others) (long : length part ≡ place_reals_wide) {v : Float} (at : v ≡ get_or part 0 nan) where
    pred_left : (m : ℕ) → length rest ≡ m * place_reals_wide → m ≡ suc (m - 1)
    pred_left m f = omega (arith, ap length is, length-append part others)

    pub left_no : le u v ≡ false → (k : ℕ) (q : List ℕ) → length e ≡ k * place_reals_wide → false ≡ rising t (places_of k q e)
    left_no h k q f =
        let s = L.says k f in
        s.2 false (λ q. sym (one_left u q rest part others s.0 (s.0 - 1) is long (pred_left s.0 s.1) ∙ rw (sym (ap (le u) at) ∙ h))) q

    pub left_next : le u v ≡ true → Left t v e others
    left_next h = record {
      says = λ k f.
          let s = L.says k f in (
            s.0 - 1,
            omega (arith, s.1, ap length is, length-append part others),
            λ r g q. s.2 r (λ q. g (drop place_nums_wide q) ∙ ap (λ (w : Float). rising w (places_of (s.0 - 1) (drop place_nums_wide q) others)) at
                ∙ sym (one_left u q rest part others s.0 (s.0 - 1) is long (pred_left s.0 s.1) ∙ rw (sym (ap (le u) at) ∙ h))) q,
          );
    }

-- ---- the synchronisations of places are counted part by part: a kind is not one of the floats
abbrev sync_in : List ℕ → Bool
sync_in p = eqb (one_if (event_of (get_or p 0 0) (place_at p []))) 1

one_most : (e : Event) → one_if e ≤ 1
one_most (InterParticleCollision p q x y v w k) = omega arith
one_most (MoveToNeighbour p x k) = omega arith
one_most (MoveOutOfCell p x k) = omega arith
one_most (WallReflection p x v w) = omega arith
one_most Synchronisation = omega arith

kind_only : (n : ℕ) (x y : Place) → one_if (event_of n x) ≡ one_if (event_of n y)
kind_only zero x y = refl
kind_only (suc zero) x y = refl
kind_only (suc (suc zero)) x y = refl
kind_only (suc (suc (suc zero))) x y = refl
kind_only (suc (suc (suc (suc zero)))) x y = refl
kind_only (suc (suc (suc (suc (suc n))))) x y = refl

counted_in : {A : Type 0} (o : ℕ) (x : A) (xs : List A) → o ≤ 1 → length (cond (eqb o 1) (x ∷ xs) xs) ≡ o + length xs
counted_in zero x xs h = omega arith
counted_in (suc zero) x xs h = omega arith
counted_in (suc (suc o)) x xs h = absurd (omega arith)

pub syncs_parts : (k : ℕ) (q : List ℕ) (e : List Float) → length (filter sync_in (parts place_nums_wide k q)) ≡ syncs (places_of k q e)
unfolding cut cut_both syncs
syncs_parts zero q e = refl
syncs_parts (suc k) q e =
    let x = take place_nums_wide q in
    let o = one_if (event_of (get_or x 0 0) (place_at x [])) in
    counted_in o x (filter sync_in (parts place_nums_wide k (drop place_nums_wide q))) (one_most (event_of (get_or x 0 0) (place_at x [])))
    ∙ ap (λ (n : ℕ). o + n) (syncs_parts k (drop place_nums_wide q) (drop place_reals_wide e))
    ∙ ap (λ (n : ℕ). n + syncs (places_of k (drop place_nums_wide q) (drop place_reals_wide e)))
    (ap (λ (n : ℕ). one_if (event_of n (place_at x []))) (get_or-take 4 q 0 0 (omega arith)) ∙ kind_only (get_or q 0 0) (place_at x []) (place_at q e))

-- ---- the row of cell c of n: its places in use, by the parts of the tables that hold them
module _ (room n : ℕ) (q : List ℕ) (e : List Float) (R : Rowed room (queue_wide room) n q) (E : length e ≡ n * events_wide room) (c : ℕ) (h : c < n) where
  abbrev row_live : List Place
  row_live = live_at (queues_of room n q e) c

  -- it has all its places
  queue_whole : length row_live + length (get_or (queues_of room n q e) c none).spare ≡ room
  queue_whole =
      let l = drop (c * queue_wide room) q in
      let m = drop (c * events_wide room) e in
      ap (λ (r : Row Place). length r.live + length r.spare) (both_at (queue_at room) (queue_wide room) (events_wide room) n q e c none h)
      ∙ sym (length-append (take (get_or l 0 0) (places_of room (drop 1 l) m)) (drop (get_or l 0 0) (places_of room (drop 1 l) m)))
      ∙ ap length (take-append-drop (get_or l 0 0) (places_of room (drop 1 l) m)) ∙ both_long place_at place_nums_wide place_reals_wide room (drop 1 l) m

  -- the test of a row is that of its places in use
  pub queue_by : (t : Float) (m : ℕ) (l : List ℕ) {a b : Bool} → a ≡ rising t row_live → b ≡ all (held m c l) row_live → (a && b) ≡ queue_ok t room m c l (get_or (queues_of room n q e) c none)
  queue_by t m l f g = rw (eq-eqb _ room queue_whole, f, g)

  module _ {u a b : ℕ} (A : a ≡ c * queue_wide room) (B : b ≡ c * events_wide room) (U : u ≡ get_or (mid_of a (length q - a) q) 0 0) where
    count_is : u ≡ get_or (drop (c * queue_wide room) q) 0 0
    count_is = U ∙ ap (λ (l : List ℕ). get_or l 0 0) (tail_is a q) ∙ ap (λ (k : ℕ). get_or (drop k q) 0 0) A

    pub used_few : u ≤ room
    used_few = let k = counted_at room (queue_wide room) n q c R.counts h in omega (arith, count_is)

    pub nums_room : u * place_nums_wide ≤ length (mid_of (a + 1) (length q - (a + 1)) q)
    nums_room = omega (arith, rowed_in R c h, A, tail_long (a + 1) q, mul-le-mul_right place_nums_wide used_few)

    pub reals_room : u * place_reals_wide ≤ length (mid_of b (length e - b) e)
    reals_room = omega (arith, E, chunk_in c n (events_wide room) h, B, tail_long b e, mul-le-mul_right place_reals_wide used_few)

    pub row_used : Used (take (u * place_nums_wide) (mid_of (a + 1) (length q - (a + 1)) q)) (take (u * place_reals_wide) (mid_of b (length e - b) e)) row_live
    row_used = record {
      nums_whole = length-take-le _ _ nums_room ∙ ap (λ (k : ℕ). k * place_nums_wide) (sym long);
      reals_whole = length-take-le _ _ reals_room ∙ ap (λ (k : ℕ). k * place_reals_wide) (sym long);
      places = ap (λ (k : ℕ). places_of k (take (u * place_nums_wide) nums) (take (u * place_reals_wide) reals)) long ∙ places_part u nums reals ∙ sym live;
    }
      where
        nums : List ℕ
        nums = mid_of (a + 1) (length q - (a + 1)) q

        reals : List Float
        reals = mid_of b (length e - b) e

        k : ℕ
        k = get_or (drop (c * queue_wide room) q) 0 0

        live : row_live ≡ places_of u nums reals
        live =
            ap (λ (r : Row Place). r.live) (both_at (queue_at room) (queue_wide room) (events_wide room) n q e c none h)
            ∙ both_take place_at place_nums_wide place_reals_wide k room (drop 1 (drop (c * queue_wide room) q)) (drop (c * events_wide room) e) (counted_at room (queue_wide room) n q c R.counts h)
            ∙ ap (λ (l : List ℕ). places_of k l (drop (c * events_wide room) e)) (drop-drop 1 (c * queue_wide room) q ∙ ap (λ (j : ℕ). drop (j + 1) q) (sym A) ∙ sym (tail_is (a + 1) q))
            ∙ ap (λ (m : List Float). places_of k nums m) (ap (λ (j : ℕ). drop j e) (sym B) ∙ sym (tail_is b e))
            ∙ ap (λ (j : ℕ). places_of j nums reals) (sym count_is)

        long : length row_live ≡ u
        long = ap length live ∙ both_long place_at place_nums_wide place_reals_wide u nums reals
