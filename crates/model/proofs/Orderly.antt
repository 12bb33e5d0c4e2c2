-- Rows of moves and tries that ask for no rule twice keep that nothing else is pending. The rows of schedule_events and of init_events are such rows. Assumes nothing.
use Prim.Native.Nat.{ℕ, zero, suc, ◌+◌, ◌≤◌, ◌<◌}
use mathlib.Core.Path.{◌≡◌, refl, sym, ap, subst, ◌∙◌}
use mathlib.Core.Logic.{◌⊎◌, inl, inr}
use mathlib.Core.List.{List, [], ◌∷◌}
use mathlib.Core.Bool.{Bool, true, false, ◌&&◌, ◌||◌, cond, or-true}
use native.Mathlib.Omega.{arith}
use lib.Dec.{eqb}
use borrow.Author.Tests.{eqb-true, eq-eqb}
use Rattle.halting.proofs.Bools.{differ}
use Rattle.model.specs.State.{State, Row, live_at, grain, home, listed, has}
use Rattle.model.specs.Standing.{Once}
use Rattle.model.specs.declared.Bound.{Bound}
use Rattle.model.specs.declared.Bound.TheVariants.{ToNeighbour, OutOfCell, Wall}
use Rattle.model.specs.Rows.{about, Rule, pair, bound, sync, Act, moving, turning, trying, cancelling, entering, leaving, perform, Acts, ended, act, before, ◌⨟◌, of_each, in_turn, stepping, colliding, finding, bounding, scheduling, reschedules, pairing, first_sync, initiates, others}
use Rattle.model.specs.History.{did, History, onto, row_done}
use Rattle.model.specs.Missing.{asker, Owes}
use Rattle.model.proofs.Schedule.{has_others}
use Rattle.model.proofs.Tries.{kind_of, Fits}
use Rattle.model.proofs.Scheduled.{SameLists, lists_on, act_lists, bound_fits, collision_fits}
use Rattle.model.proofs.Asked.{This, this_is, AllMine, Clean, mine_quiet, mine_try, clean_on}

-- ---- moves, and tries of rules of T, each at most once, from states with the lists of s₀
abbrev pub Rest : ℕ → Rule → (ℕ → Rule → Type 0) → ℕ → Rule → Type 0
Rest k o T c r = T c r × ((eqb k c && This r o) ≡ false)

abbrev pub Orderly : State → (ℕ → Rule → Type 0) → Acts → Type 0
Orderly s₀ T ended = Unit {0}
Orderly s₀ T (act (moving i x t) f) = (u : State) → SameLists s₀ u → Orderly s₀ T (f u)
Orderly s₀ T (act (turning i p) f) = ⊥
Orderly s₀ T (act (trying k o x) f) = Fits o x × T k o × ((u : State) → SameLists s₀ u → Orderly s₀ (Rest k o T) (f u))
Orderly s₀ T (act (cancelling i k) f) = ⊥
Orderly s₀ T (act (entering i k) f) = ⊥
Orderly s₀ T (act (leaving i k) f) = ⊥

-- of either set; of one of a list; of one of m from i on
abbrev pub Either : (ℕ → Rule → Type 0) → (ℕ → Rule → Type 0) → ℕ → Rule → Type 0
Either A B c r = A c r ⊎ B c r

abbrev pub OfOne : (ℕ → ℕ → Rule → Type 0) → List ℕ → ℕ → Rule → Type 0
OfOne X xs c r = (x : ℕ) × (has x xs ≡ true) × X x c r

abbrev pub OfTurn : (ℕ → ℕ → Rule → Type 0) → ℕ → ℕ → ℕ → Rule → Type 0
OfTurn X m i c r = (x : ℕ) × (i ≤ x) × (x < i + m) × X x c r

module _ (n : ℕ) (s₀ : State) where
  -- such a row keeps that nothing else is pending, if its rules are owed and nothing is pending of their last tries
  pub orderly_mine : (w : Acts) (T : ℕ → Rule → Type 0) (s : State) (h : History) → SameLists s₀ s → Orderly s₀ T w → ((c : ℕ) (r : Rule) → T c r → Owes s₀ c r × Clean h c r) → AllMine n s₀ h → AllMine n s₀ (row_done w s h)
  unfolding row_done
  orderly_mine ended T s h l e t m = m
  orderly_mine (act (moving i x y) f) T s h l e t m =
      by (perform a s).num
      (orderly_mine (f u) T u (did a ∷ h) (lists_on s₀ s u l (act_lists a s tt)) (e u (lists_on s₀ s u l (act_lists a s tt))) (λ c r k. ((t c r k).0, clean_on (did a) h c r refl (t c r k).1)) (mine_quiet n s₀ h m (did a) (λ c r. refl) (λ g c. refl)))
    where
      a : Act
      a = moving i x y

      u : State
      u = (perform (moving i x y) s).st

      by : (r : ℕ) → AllMine n s₀ (row_done (f u) u (did a ∷ h)) → AllMine n s₀ (onto r a (row_done (f u) u) h)
      by zero k = k
      by (suc r) k = m
  orderly_mine (act (turning i p) f) T s h l e t m = absurd e
  orderly_mine (act (trying k o x) f) T s h l e t m =
      by (perform a s).num
      (orderly_mine (f u) (Rest k o T) u (did a ∷ h) (lists_on s₀ s u l (act_lists a s e.0)) (e.2 u (lists_on s₀ s u l (act_lists a s e.0))) (λ c r q. ((t c r q.0).0, clean_on (did a) h c r q.1 (t c r q.0).1))
      (mine_try n s₀ h m k o x e.0 (t k o e.1).0 (t k o e.1).1))
    where
      a : Act
      a = trying k o x

      u : State
      u = (perform (trying k o x) s).st

      by : (r : ℕ) → AllMine n s₀ (row_done (f u) u (did a ∷ h)) → AllMine n s₀ (onto r a (row_done (f u) u) h)
      by zero k = k
      by (suc r) k = m
  orderly_mine (act (cancelling i k) f) T s h l e t m = absurd e
  orderly_mine (act (entering i k) f) T s h l e t m = absurd e
  orderly_mine (act (leaving i k) f) T s h l e t m = absurd e

module _ (s₀ : State) where
  pub orderly_to : (w : Acts) (T U : ℕ → Rule → Type 0) → ((c : ℕ) (r : Rule) → T c r → U c r) → Orderly s₀ T w → Orderly s₀ U w
  orderly_to ended T U f e = tt
  orderly_to (act (moving i x t) g) T U f e = λ u l. orderly_to (g u) T U f (e u l)
  orderly_to (act (turning i p) g) T U f e = e
  orderly_to (act (trying k o x) g) T U f e = (e.0, f k o e.1, λ u l. orderly_to (g u) (Rest k o T) (Rest k o U) (λ c r q. (f c r q.0, q.1)) (e.2 u l))
  orderly_to (act (cancelling i k) g) T U f e = e
  orderly_to (act (entering i k) g) T U f e = e
  orderly_to (act (leaving i k) g) T U f e = e

  -- ---- one after the other, of different rules
  pub orderly_before : (w : Acts) (g : State → Acts) (A B : ℕ → Rule → Type 0) (s : State) → SameLists s₀ s → Orderly s₀ A w → ((u : State) → SameLists s₀ u → Orderly s₀ B (g u))
      → ((c : ℕ) (r : Rule) → A c r → B c r → ⊥) → Orderly s₀ (Either A B) (before w g s)
  unfolding before
  orderly_before ended g A B s l e b d = orderly_to (g s) B (Either A B) (λ c r k. inr k) (b s l)
  orderly_before (act (moving i x t) f) g A B s l e b d = λ u m. orderly_before (f u) g A B u m (e u m) b d
  orderly_before (act (turning i p) f) g A B s l e b d = e
  orderly_before (act (trying k o x) f) g A B s l e b d =
      (e.0, inl e.1, λ u m. orderly_to (before (f u) g u) (Either (Rest k o A) B) (Rest k o (Either A B)) on (orderly_before (f u) g (Rest k o A) B u m (e.2 u m) b (λ c r q y. d c r q.0 y)))
    where
      other : (c : ℕ) (r : Rule) → B c r → (a : Bool) → eqb k c ≡ a → (t : Bool) → This r o ≡ t → (a && t) ≡ false
      other c r y false p t q = refl
      other c r y true p false q = refl
      other c r y true p true q = absurd (d k o e.1 (subst (λ (z : Rule). B k z) (this_is r o q) (subst (λ (i : ℕ). B i r) (sym (eqb-true k c p)) y)))

      on : (c : ℕ) (r : Rule) → Either (Rest k o A) B c r → Rest k o (Either A B) c r
      on c r (inl q) = (inl q.0, q.1)
      on c r (inr y) = (inr y, other c r y (eqb k c) refl (This r o) refl)
  orderly_before (act (cancelling i k) f) g A B s l e b d = e
  orderly_before (act (entering i k) f) g A B s l e b d = e
  orderly_before (act (leaving i k) f) g A B s l e b d = e

  -- ---- loops whose turns ask for different rules
  module _ (f : ℕ → State → Acts) (X : ℕ → ℕ → Rule → Type 0) (apart : (x y c : ℕ) (r : Rule) → X x c r → X y c r → x ≡ y) where
    pub orderly-each : (xs : List ℕ) (s : State) → ((x : ℕ) (u : State) → has x xs ≡ true → SameLists s₀ u → Orderly s₀ (X x) (f x u)) → Once xs → SameLists s₀ s → Orderly s₀ (OfOne X xs) (of_each f xs s)
    unfolding of_each has
    orderly-each [] s k o l = tt
    orderly-each (y ∷ ys) s k o l =
        orderly_to (before (f y s) (of_each f ys) s) (Either (X y) (OfOne X ys)) (OfOne X (y ∷ ys)) on
        (orderly_before (f y s) (of_each f ys) (X y) (OfOne X ys) s l (k y s (rw (eq-eqb y y refl)) l) (λ u m. orderly-each ys u (λ x v q. k x v (rw q (or-true (eqb x y)))) o.1 m)
        (λ c r a b. differ (rw (apart y b.0 c r a b.2) b.1) o.0))
      where
        on : (c : ℕ) (r : Rule) → Either (X y) (OfOne X ys) c r → (x : ℕ) × ((eqb x y || has x ys) ≡ true) × X x c r
        on c r (inl a) = (y, rw (eq-eqb y y refl), a)
        on c r (inr b) = (b.0, rw b.1 (or-true (eqb b.0 y)), b.2)

    pub orderly-turn : (m i : ℕ) (s : State) → ((x : ℕ) (u : State) → x < i + m → SameLists s₀ u → Orderly s₀ (X x) (f x u)) → SameLists s₀ s → Orderly s₀ (OfTurn X m i) (in_turn f m i s)
    unfolding in_turn
    orderly-turn zero i s k l = tt
    orderly-turn (suc m) i s k l =
        orderly_to (before (f i s) (in_turn f m (suc i)) s) (Either (X i) (OfTurn X m (suc i))) (OfTurn X (suc m) i) on
        (orderly_before (f i s) (in_turn f m (suc i)) (X i) (OfTurn X m (suc i)) s l (k i s (omega arith) l) (λ u q. orderly-turn m (suc i) u (λ x v y. k x v (omega (arith, y))) q)
        (λ c r a b. let e = apart i b.0 c r a b.3 in let q = b.1 in omega (arith, e, q)))
      where
        on : (c : ℕ) (r : Rule) → Either (X i) (OfTurn X m (suc i)) c r → OfTurn X (suc m) i c r
        on c r (inl a) = (i, omega arith, omega arith, a)
        on c r (inr b) = (b.0, (let p = b.1 in omega (arith, p)), (let q = b.2 in omega (arith, q)), b.3)

-- ---- what a rule is about
abbrev direction : Rule → ℕ
direction (pair p q) = 0
direction (bound b p d) = d
direction sync = 0

abbrev second : Rule → ℕ
second (pair p q) = q
second (bound b p d) = 0
second sync = 0

-- a bound's is neither a pair's nor the synchronisation's
not_pair : {p d i j : ℕ} (b : Bound) → bound b p d ≡ pair i j → ⊥
not_pair ToNeighbour q = let e = ap kind_of q in omega (arith, e)
not_pair OutOfCell q = let e = ap kind_of q in omega (arith, e)
not_pair Wall q = let e = ap kind_of q in omega (arith, e)

not_sync : {p d : ℕ} (b : Bound) → bound b p d ≡ sync → ⊥
not_sync ToNeighbour q = let e = ap kind_of q in omega (arith, e)
not_sync OutOfCell q = let e = ap kind_of q in omega (arith, e)
not_sync Wall q = let e = ap kind_of q in omega (arith, e)

-- one rule in one cell; a bound of p; a pair of p and another that the cell lists
abbrev pub Just : ℕ → Rule → ℕ → Rule → Type 0
Just c o k r = (k ≡ c) × (r ≡ o)

abbrev pub BoundOf : ℕ → Rule → Type 0
BoundOf p r = (b : Bound) × (d : ℕ) × (d < 2) × (r ≡ bound b p d)

abbrev pub PairOf : List ℕ → ℕ → Rule → Type 0
PairOf l p r = (q : ℕ) × (has q l ≡ true) × (eqb p q ≡ false) × (r ≡ pair p q)

-- the rules that p asks for in cell c, which lists l
abbrev pub Asking : List ℕ → ℕ → ℕ → ℕ → Rule → Type 0
Asking l p c k r = (k ≡ c) × (PairOf l p r ⊎ BoundOf p r)

-- in all the cells of p
abbrev pub Again : State → ℕ → ℕ → Rule → Type 0
Again s p = OfOne (λ c. Asking (listed s c) p c) (home s p)

pub asking_by : (l : List ℕ) (p c k : ℕ) (r : Rule) → Asking l p c k r → asker r ≡ p
asking_by l p c k r (q, inl a) = ap asker a.3
asking_by l p c k r (q, inr a) = ap asker a.3

pub asking_within : (l : List ℕ) (p c k : ℕ) (r : Rule) → Asking l p c k r → about r p ≡ true
asking_within l p c k r (q, inl a) = rw (a.3, eq-eqb p p refl)
asking_within l p c k r (q, inr a) = rw (a.3, eq-eqb p p refl)

pub asking_owes : (s : State) (p c k : ℕ) (r : Rule) → has p (listed s c) ≡ true → Asking (listed s c) p c k r → Owes s k r
asking_owes s p c k r h (q, inl a) = rw (a.3, q) (h, a.1, a.2)
asking_owes s p c k r h (q, inr a) = rw (a.3, q) (h, a.2)

-- all but p, once each
others_once : (p : ℕ) (l : List ℕ) → Once l → Once (others p l)
unfolding others
others_once p [] o = tt
others_once p (x ∷ xs) o = by (eqb p x) (others_once p xs o.1)
  where
    not_in : (b : Bool) → has x (others p xs) ≡ b → has x (others p xs) ≡ false
    not_in true e = differ (has_others p x xs e).0 o.0
    not_in false e = e

    by : (b : Bool) → Once (others p xs) → Once (cond b (others p xs) (x ∷ others p xs))
    by true i = i
    by false i = (not_in (has x (others p xs)) refl, i)

module _ (s₀ : State) where
  -- ---- schedule_events
  bounds_orderly : (c p : ℕ) (s : State) → SameLists s₀ s → Orderly s₀ (λ k r. (k ≡ c) × BoundOf p r) (bounding c p s)
  bounds_orderly c p s l =
      orderly_to s₀ (bounding c p s) (Either (Loop ToNeighbour) (Either (Loop OutOfCell) (Loop Wall))) (λ k r. (k ≡ c) × BoundOf p r) on
      (orderly_before s₀ (in_turn (finding ToNeighbour c p) 2 0 s) (in_turn (finding OutOfCell c p) 2 0 ⨟ in_turn (finding Wall c p) 2 0) (Loop ToNeighbour) (Either (Loop OutOfCell) (Loop Wall)) s l (loop ToNeighbour s l)
      (λ u m. orderly_before s₀ (in_turn (finding OutOfCell c p) 2 0 u) (in_turn (finding Wall c p) 2 0) (Loop OutOfCell) (Loop Wall) u m (loop OutOfCell u m) (loop Wall) (λ k r a b. let e = ap kind_of (sym a.3.1 ∙ b.3.1) in omega (arith, e)))
      first)
    where
      Loop : Bound → ℕ → Rule → Type 0
      Loop b = OfTurn (λ d. Just c (bound b p d)) 2 0

      loop : (b : Bound) (u : State) → SameLists s₀ u → Orderly s₀ (OfTurn (λ d. Just c (bound b p d)) 2 0) (in_turn (finding b c p) 2 0 u)
      loop b u m =
          orderly-turn s₀ (finding b c p) (λ d. Just c (bound b p d)) (λ x y k r a e. ap direction (sym a.1 ∙ e.1)) 2 0 u
          (λ d v y q. (bound_fits b d v.box v.clock c p (grain v p), (refl, refl), λ w z. tt)) m

      first : (k : ℕ) (r : Rule) → OfTurn (λ d. Just c (bound ToNeighbour p d)) 2 0 k r → Either (OfTurn (λ d. Just c (bound OutOfCell p d)) 2 0) (OfTurn (λ d. Just c (bound Wall p d)) 2 0) k r → ⊥
      first k r a (inl b) = let e = ap kind_of (sym a.3.1 ∙ b.3.1) in omega (arith, e)
      first k r a (inr b) = let e = ap kind_of (sym a.3.1 ∙ b.3.1) in omega (arith, e)

      on : (k : ℕ) (r : Rule) → Either (OfTurn (λ d. Just c (bound ToNeighbour p d)) 2 0) (Either (OfTurn (λ d. Just c (bound OutOfCell p d)) 2 0) (OfTurn (λ d. Just c (bound Wall p d)) 2 0)) k r → (k ≡ c) × BoundOf p r
      on k r (inl a) = (a.3.0, (ToNeighbour, a.0, a.2, a.3.1))
      on k r (inr (inl a)) = (a.3.0, (OutOfCell, a.0, a.2, a.3.1))
      on k r (inr (inr a)) = (a.3.0, (Wall, a.0, a.2, a.3.1))

  collisions_orderly : (c p : ℕ) (qs : List ℕ) (s : State) → Once qs → SameLists s₀ s → Orderly s₀ (OfOne (λ q. Just c (pair p q)) qs) (of_each (colliding c p) qs s)
  collisions_orderly c p qs s o l =
      orderly-each s₀ (colliding c p) (λ q. Just c (pair p q)) (λ x y k r a e. ap second (sym a.1 ∙ e.1)) qs s
      (λ q u h m. (collision_fits u.box u.clock c p q (grain u p) (grain u q), (refl, refl), λ w z. tt)) o l

  steps_orderly : (qs : List ℕ) (s : State) → SameLists s₀ s → Orderly s₀ (λ k r. ⊥) (of_each stepping qs s)
  unfolding of_each before
  steps_orderly [] s l = tt
  steps_orderly (q ∷ qs) s l = λ u m. steps_orderly qs u m

  pub schedule_orderly : (p c : ℕ) (s : State) → Once (listed s₀ c) → SameLists s₀ s → Orderly s₀ (Asking (listed s₀ c) p c) (scheduling p c s)
  schedule_orderly p c s o l =
      let e : listed s c ≡ listed s₀ c = ap (λ (m : List (Row ℕ)). live_at m c) l.0 in
      subst (λ (x : List ℕ). Orderly s₀ (Asking (listed s₀ c) p c) ((of_each stepping (others p x) ⨟ of_each (colliding c p) (others p x) ⨟ bounding c p) s)) (sym e)
      (orderly_to s₀ ((of_each stepping qs ⨟ of_each (colliding c p) qs ⨟ bounding c p) s) (Either (λ k r. ⊥) (Either (OfOne (λ q. Just c (pair p q)) qs) (λ k r. (k ≡ c) × BoundOf p r))) (Asking (listed s₀ c) p c) on
      (orderly_before s₀ (of_each stepping qs s) (of_each (colliding c p) qs ⨟ bounding c p) (λ k r. ⊥) (Either (OfOne (λ q. Just c (pair p q)) qs) (λ k r. (k ≡ c) × BoundOf p r)) s l (steps_orderly qs s l)
      (λ u m. orderly_before s₀ (of_each (colliding c p) qs u) (bounding c p) (OfOne (λ q. Just c (pair p q)) qs) (λ k r. (k ≡ c) × BoundOf p r) u m
      (collisions_orderly c p qs u (others_once p (listed s₀ c) o) m) (bounds_orderly c p) (λ k r a b. not_pair b.1.0 (sym b.1.3 ∙ a.2.1)))
      (λ k r a b. a)))
    where
      qs : List ℕ
      qs = others p (listed s₀ c)

      on : (k : ℕ) (r : Rule) → Either (λ k r. ⊥) (Either (OfOne (λ q. Just c (pair p q)) (others p (listed s₀ c))) (λ k r. (k ≡ c) × BoundOf p r)) k r → Asking (listed s₀ c) p c k r
      on k r (inl a) = absurd a
      on k r (inr (inl a)) = let m = has_others p a.0 (listed s₀ c) a.1 in (a.2.0, inl (a.0, m.0, m.1, a.2.1))
      on k r (inr (inr a)) = (a.0, inr a.1)

  -- in all its cells
  pub again_orderly : (p : ℕ) (s : State) → Once (home s₀ p) → ((c : ℕ) → has c (home s₀ p) ≡ true → Once (listed s₀ c)) → SameLists s₀ s → Orderly s₀ (Again s₀ p) (reschedules p s)
  again_orderly p s o os l =
      let e : home s p ≡ home s₀ p = ap (λ (m : List (Row ℕ)). live_at m p) l.1 in
      subst (λ (x : List ℕ). Orderly s₀ (Again s₀ p) (of_each (scheduling p) x s)) (sym e)
      (orderly-each s₀ (scheduling p) (λ c. Asking (listed s₀ c) p c) (λ x y k r a b. sym a.0 ∙ b.0) (home s₀ p) s (λ c u h m. schedule_orderly p c u (os c h) m) o l)

  -- ---- init_events
  pairs_orderly : (c : ℕ) (l : List ℕ) (s : State) → Once l → SameLists s₀ s → Orderly s₀ (λ k r. (k ≡ c) × ((p : ℕ) × (has p l ≡ true) × PairOf l p r)) (pairing c l s)
  unfolding pairing has
  pairs_orderly c [] s o m = tt
  pairs_orderly c (p ∷ qs) s o m =
      orderly_to s₀ (before (of_each (colliding c p) qs s) (pairing c qs) s) (Either (OfOne (λ q. Just c (pair p q)) qs) (λ k r. (k ≡ c) × ((i : ℕ) × (has i qs ≡ true) × PairOf qs i r))) _ on
      (orderly_before s₀ (of_each (colliding c p) qs s) (pairing c qs) (OfOne (λ q. Just c (pair p q)) qs) (λ k r. (k ≡ c) × ((i : ℕ) × (has i qs ≡ true) × PairOf qs i r)) s m
      (collisions_orderly c p qs s o.1 m) (λ u n. pairs_orderly c qs u o.1 n)
      (λ k r a b. differ (rw (ap asker (sym a.2.1 ∙ b.1.2.3)) b.1.1) o.0))
    where
      other : (q : ℕ) → has q qs ≡ true → (b : Bool) → eqb p q ≡ b → eqb p q ≡ false
      other q h true e = differ (rw (eqb-true p q e) h) o.0
      other q h false e = e

      on : (k : ℕ) (r : Rule) → Either (OfOne (λ q. Just c (pair p q)) qs) (λ k r. (k ≡ c) × ((i : ℕ) × (has i qs ≡ true) × PairOf qs i r)) k r
          → (k ≡ c) × ((i : ℕ) × ((eqb i p || has i qs) ≡ true) × ((q : ℕ) × ((eqb q p || has q qs) ≡ true) × (eqb i q ≡ false) × (r ≡ pair i q)))
      on k r (inl a) = (a.2.0, (p, rw (eq-eqb p p refl), (a.0, rw a.1 (or-true (eqb a.0 p)), other a.0 a.1 (eqb p a.0) refl, a.2.1)))
      on k r (inr b) = let w = b.1 in (b.0, (w.0, rw w.1 (or-true (eqb w.0 p)), (w.2.0, rw w.2.1 (or-true (eqb w.2.0 p)), w.2.2, w.2.3)))

  sync_orderly : (c : ℕ) (s : State) → Orderly s₀ (λ k r. (k ≡ c) × (c ≡ 0) × (r ≡ sync)) (first_sync c s)
  sync_orderly zero s = ((refl, λ g. refl), (refl, refl, refl), λ u l. tt)
  sync_orderly (suc c) s = tt

  pub init_orderly : (c : ℕ) (s : State) → Once (listed s₀ c) → SameLists s₀ s → Orderly s₀ (λ k r. (k ≡ c) × Owes s₀ c r) (initiates c s)
  init_orderly c s o l =
      orderly_to s₀ (initiates c s) (Either Syncs (Either Pairs Bounds)) (λ k r. (k ≡ c) × Owes s₀ c r) on
      (orderly_before s₀ (first_sync c s) ((λ u. pairing c (listed u c) u) ⨟ (λ w. of_each (bounding c) (listed w c) w)) Syncs (Either Pairs Bounds) s l (sync_orderly c s)
      (λ u m. orderly_before s₀ (pairing c (listed u c) u) (λ w. of_each (bounding c) (listed w c) w) Pairs Bounds u m
      (subst (λ (x : List ℕ). Orderly s₀ Pairs (pairing c x u)) (sym (lists u m)) (pairs_orderly c (listed s₀ c) u o m))
      (λ w q. subst (λ (x : List ℕ). Orderly s₀ Bounds (of_each (bounding c) x w)) (sym (lists w q))
      (orderly-each s₀ (bounding c) (λ p k r. (k ≡ c) × BoundOf p r) (λ x y k r a b. ap asker (sym a.1.3 ∙ b.1.3)) (listed s₀ c) w (λ p v h y. bounds_orderly c p v y) o q))
      (λ k r a b. not_pair b.2.1.0 (sym b.2.1.3 ∙ a.1.2.3)))
      first)
    where
      Syncs : ℕ → Rule → Type 0
      Syncs k r = (k ≡ c) × (c ≡ 0) × (r ≡ sync)

      Pairs : ℕ → Rule → Type 0
      Pairs k r = (k ≡ c) × ((p : ℕ) × (has p (listed s₀ c) ≡ true) × PairOf (listed s₀ c) p r)

      Bounds : ℕ → Rule → Type 0
      Bounds = OfOne (λ p k r. (k ≡ c) × BoundOf p r) (listed s₀ c)

      lists : (u : State) → SameLists s₀ u → listed u c ≡ listed s₀ c
      lists u m = ap (λ (x : List (Row ℕ)). live_at x c) m.0

      first : (k : ℕ) (r : Rule) → (k ≡ c) × (c ≡ 0) × (r ≡ sync) → Either (λ k r. (k ≡ c) × ((p : ℕ) × (has p (listed s₀ c) ≡ true) × PairOf (listed s₀ c) p r)) (OfOne (λ p k r. (k ≡ c) × BoundOf p r) (listed s₀ c)) k r → ⊥
      first k r a (inl b) = let e = ap kind_of (sym a.2 ∙ b.1.2.3) in omega (arith, e)
      first k r a (inr b) = not_sync b.2.1.0 (sym b.2.1.3 ∙ a.2)

      on : (k : ℕ) (r : Rule) → Either (λ k r. (k ≡ c) × (c ≡ 0) × (r ≡ sync)) (Either (λ k r. (k ≡ c) × ((p : ℕ) × (has p (listed s₀ c) ≡ true) × PairOf (listed s₀ c) p r)) (OfOne (λ p k r. (k ≡ c) × BoundOf p r) (listed s₀ c))) k r → (k ≡ c) × Owes s₀ c r
      on k r (inl a) = (a.0, rw a.2 a.1)
      on k r (inr (inl a)) = let w = a.1 in (a.0, rw w.2.3 (w.1, w.2.1, w.2.2))
      on k r (inr (inr a)) = (a.2.0, rw a.2.1.3 (a.1, a.2.1.2))

  -- ---- grains that step
  pub steps_turn : (m i : ℕ) (s : State) → SameLists s₀ s → Orderly s₀ (λ k r. ⊥) (in_turn stepping m i s)
  unfolding in_turn before
  steps_turn zero i s l = tt
  steps_turn (suc m) i s l = λ u q. steps_turn m (suc i) u q
