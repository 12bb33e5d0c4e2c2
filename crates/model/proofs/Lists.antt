-- Lists of numbers, and rows of them: what an entry and a removal keep. Assumes nothing.
use Prim.Native.Nat.{ℕ, zero, suc, ◌+◌, ◌<◌}
use mathlib.Core.Path.{◌≡◌, refl, sym, ap, ◌∙◌}
use mathlib.Core.List.{List, [], ◌∷◌, ◌++◌}
use mathlib.Core.Bool.{Bool, true, false, not, ◌&&◌, ◌||◌, or-false, or_assoc, and_comm, and-true, or-true}
use native.Mathlib.Omega.{arith}
use native.Mathlib.Decide.{ℕ_discrete}
use lib.Dec.{eqb}
use lib.ListN.{length, get_or, set, drop, length-set}
use lib.Seq.{get_or-set_same, get_or-set_other}
use borrow.Author.Tests.{eqb-true, eq-eqb, ne_eqb}
use Rattle.halting.specs.Every.{All}
use Rattle.halting.proofs.Bools.{clash, and_l, or_case, or_false_l, or_false_r}
use Rattle.model.specs.State.{Row, none, live_at, has, but, pushed, pulled}
use Rattle.model.specs.Standing.{Once}
use Rattle.model.proofs.Sound.{Numbers, Side, Lists}

-- ---- rows: one is replaced
pub set_every : {A : Type 0} (P : ℕ → A → Type 0) (d : A) (l : List A) (m i : ℕ) (a : A) → length l ≡ m
    → ((j : ℕ) → j < m → (j ≡ i → ⊥) → P j (get_or l j d)) → P i a → (j : ℕ) → j < m → P j (get_or (set l i a) j d)
set_every P d l m i a long p q j h = elim (ℕ_discrete j i) [
  | yes e ↦ rw (e, get_or-set_same l i a d (omega (arith, long))) q
  | no n ↦ rw (get_or-set_other l i j a d n) (p j h n)
]

-- one is read, whichever was replaced and whether it is there or not
pub set_case : {A : Type 0} (P : A → Type 0) (d : A) (l : List A) (i j : ℕ) (a : A) → (i ≡ j → P a) → P (get_or l j d) → P (get_or (set l i a) j d)
set_case P d [] i j a new old = old
set_case P d (x ∷ xs) zero zero a new old = new refl
set_case P d (x ∷ xs) zero (suc j) a new old = old
set_case P d (x ∷ xs) (suc i) zero a new old = old
set_case P d (x ∷ xs) (suc i) (suc j) a new old = set_case P d xs i j a (λ e. new (ap suc e)) old

pub live_same : {A : Type 0} (l : List (Row A)) (i : ℕ) (r : Row A) → i < length l → live_at (set l i r) i ≡ r.live
live_same {A} l i r h = ap (λ (q : Row A). q.live) (get_or-set_same l i r none h)

pub live_other : {A : Type 0} (l : List (Row A)) (i j : ℕ) (r : Row A) → (j ≡ i → ⊥) → live_at (set l i r) j ≡ live_at l j
live_other {A} l i j r n = ap (λ (q : Row A). q.live) (get_or-set_other l i j r none n)

pub eqb_sym : (x y : ℕ) → eqb x y ≡ eqb y x
eqb_sym x y = elim (ℕ_discrete x y) [
  | yes e ↦ rw e
  | no n ↦ ne_eqb x y n ∙ sym (ne_eqb y x (λ e. n (sym e)))
]

-- ---- at the end
pub has_snoc : (x : ℕ) (l : List ℕ) (y : ℕ) → has x (l ++ y ∷ []) ≡ (has x l || eqb x y)
unfolding has
has_snoc x [] y = or-false (eqb x y)
has_snoc x (z ∷ zs) y = ap (λ b. eqb x z || b) (has_snoc x zs y) ∙ sym (or_assoc (eqb x z) (has x zs) (eqb x y))

pub once_snoc : (l : List ℕ) (x : ℕ) → Once l → has x l ≡ false → Once (l ++ x ∷ [])
unfolding has
once_snoc [] x o h = (refl, tt)
once_snoc (z ∷ zs) x o h =
    (has_snoc z zs x ∙ rw o.0 (eqb_sym z x ∙ or_false_l (eqb x z) (has x zs) h), once_snoc zs x o.1 (or_false_r (eqb x z) (has x zs) h))

pub length_snoc : (l : List ℕ) (x : ℕ) → length (l ++ x ∷ []) ≡ suc (length l)
length_snoc [] x = refl
length_snoc (z ∷ zs) x = ap suc (length_snoc zs x)

-- ---- all but one
pub has_but : (x y : ℕ) (l : List ℕ) → Once l → has x (but y l) ≡ (has x l && not (eqb x y))
unfolding has but
has_but x y [] o = refl
has_but x y (z ∷ zs) o = by (eqb y z) refl (eqb x z) refl (has_but x y zs o.1)
  where
    by : (a : Bool) → eqb y z ≡ a → (b : Bool) → eqb x z ≡ b → has x (but y zs) ≡ (has x zs && not (eqb x y)) → has x (but y (z ∷ zs)) ≡ ((eqb x z || has x zs) && not (eqb x y))
    by true e true f ih =
        let yz = eqb-true y z e in
        let xz = eqb-true x z f in
        rw (e, f, xz, yz, o.0, eq-eqb z z refl)
    by true e false f ih = rw (e, f, eqb-true y z e, f) (sym (and-true (has x zs)))
    by false e true f ih = rw (e, f, eqb-true x z f, eqb_sym z y, e)
    by false e false f ih = rw (e, f) ih

pub once_but : (y : ℕ) (l : List ℕ) → Once l → Once (but y l)
unfolding but
once_but y [] o = tt
once_but y (z ∷ zs) o = by (eqb y z) refl (once_but y zs o.1)
  where
    by : (a : Bool) → eqb y z ≡ a → Once (but y zs) → Once (but y (z ∷ zs))
    by true e ih = rw e o.1
    by false e ih = rw e (has_but z y zs o.1 ∙ rw o.0, ih)

pub length_but : (y : ℕ) (l : List ℕ) → has y l ≡ true → suc (length (but y l)) ≡ length l
unfolding has but
length_but y [] h = clash h
length_but y (z ∷ zs) h = by (eqb y z) refl (length_but y zs)
  where
    by : (a : Bool) → eqb y z ≡ a → (has y zs ≡ true → suc (length (but y zs)) ≡ length zs) → suc (length (but y (z ∷ zs))) ≡ suc (length zs)
    by true e ih = rw e
    by false e ih = rw e (ap suc (ih (rw e at h)))

-- ---- a row of numbers
-- who is listed, and a fact of all that are
pub all_has : (P : ℕ → Type 0) (l : List ℕ) → All P l → (x : ℕ) → has x l ≡ true → P x
unfolding has
all_has P [] a x h = clash h
all_has P (y ∷ ys) a x h = or_case (eqb x y) (has x ys) (P x) h (λ e. rw (eqb-true x y e) a.0) (λ e. all_has P ys a.1 x e)

pub has_all : (P : ℕ → Type 0) (l : List ℕ) → ((x : ℕ) → has x l ≡ true → P x) → All P l
unfolding has
has_all P [] f = tt
has_all P (y ∷ ys) f = (f y (rw (eq-eqb y y refl)), has_all P ys (λ x h. f x (rw h (or-true (eqb x y)))))

pub drop_one : {A : Type 0} (l : List A) (a k : ℕ) → a + length l ≡ k → a < k → suc a + length (drop 1 l) ≡ k
drop_one [] a k e h = absurd (omega (arith, e))
drop_one (x ∷ xs) a k e h = omega (arith, e)

pub pushed_numbers : (n k x : ℕ) (r : Row ℕ) → Numbers n k r → x < n → has x r.live ≡ false → length r.live < k → Numbers n k (pushed x r)
pushed_numbers n k x r ok h new few = record {
  full = rw (length_snoc r.live x) (drop_one r.spare (length r.live) k ok.full few);
  below = λ y e. or_case (has y r.live) (eqb y x) (y < n) (sym (has_snoc y r.live x) ∙ e) (λ f. ok.below y f) (λ f. rw (eqb-true y x f) h);
  once = once_snoc r.live x ok.once new;
}

pub pulled_numbers : (n k x : ℕ) (r : Row ℕ) → Numbers n k r → has x r.live ≡ true → Numbers n k (pulled x r)
pulled_numbers n k x r ok there = record {
  full = omega (arith, ok.full, length_but x r.live there);
  below = λ y e. ok.below y (and_l (has y r.live) (not (eqb y x)) (sym (has_but y x r.live ok.once) ∙ e));
  once = once_but x r.live ok.once;
}

-- ---- rows of numbers: who is listed where, after an entry and after a removal
module _ (m n k : ℕ) (rs : List (Row ℕ)) (side : Side m n k rs) (i x : ℕ) (I : i < m) where
  pub side_set : (r : Row ℕ) → Numbers n k r → Side m n k (set rs i r)
  side_set r ok = record {
    long = length-set rs i r ∙ side.long;
    each = set_every (λ j q. Numbers n k q) none rs m i r side.long (λ j h d. side.each j h) ok;
  }

  pub has_entered : (j y : ℕ) → has y (live_at (set rs i (pushed x (get_or rs i none))) j) ≡ (has y (live_at rs j) || (eqb j i && eqb y x))
  has_entered j y = elim (ℕ_discrete j i) [
    | yes e ↦ rw (e, live_same rs i (pushed x (get_or rs i none)) (omega (arith, side.long)), eq-eqb i i refl) (has_snoc y (live_at rs i) x)
    | no d ↦ rw (live_other rs i j (pushed x (get_or rs i none)) d, ne_eqb j i d) (sym (or-false (has y (live_at rs j))))
  ]

  pub has_left : (j y : ℕ) → has y (live_at (set rs i (pulled x (get_or rs i none))) j) ≡ (has y (live_at rs j) && not (eqb j i && eqb y x))
  has_left j y = elim (ℕ_discrete j i) [
    | yes e ↦ rw (e, live_same rs i (pulled x (get_or rs i none)) (omega (arith, side.long)), eq-eqb i i refl) (has_but y x (live_at rs i) (side.each i I).once)
    | no d ↦ rw (live_other rs i j (pulled x (get_or rs i none)) d, ne_eqb j i d) (sym (and-true (has y (live_at rs j))))
  ]

-- ---- cells and grains list each other
module _ (g n : ℕ) (hs ms : List (Row ℕ)) (lists : Lists g n hs ms) (i c : ℕ) (I : i < g) (C : c < n) where
  pub lists_enter : has i (live_at ms c) ≡ false → length (live_at ms c) < 32 → length (live_at hs i) < 8
      → Lists g n (set hs i (pushed c (get_or hs i none))) (set ms c (pushed i (get_or ms c none)))
  lists_enter new room room' = record {
    homes = side_set g n 8 hs lists.homes i c I (pushed c (get_or hs i none)) (pushed_numbers n 8 c (get_or hs i none) (lists.homes.each i I) C (lists.mutual' i c I C ∙ new) room');
    members = side_set n g 32 ms lists.members c i C (pushed i (get_or ms c none)) (pushed_numbers g 32 i (get_or ms c none) (lists.members.each c C) I new room);
    mutual' = λ j d J D.
        has_entered g n 8 hs lists.homes i c I j d ∙ (rw (lists.mutual' j d J D, and_comm (eqb j i) (eqb d c))) ∙ sym (has_entered n g 32 ms lists.members c i C d j);
  }

  pub lists_leave : has i (live_at ms c) ≡ true
      → Lists g n (set hs i (pulled c (get_or hs i none))) (set ms c (pulled i (get_or ms c none)))
  lists_leave there = record {
    homes = side_set g n 8 hs lists.homes i c I (pulled c (get_or hs i none)) (pulled_numbers n 8 c (get_or hs i none) (lists.homes.each i I) (lists.mutual' i c I C ∙ there));
    members = side_set n g 32 ms lists.members c i C (pulled i (get_or ms c none)) (pulled_numbers g 32 i (get_or ms c none) (lists.members.each c C) there);
    mutual' = λ j d J D.
        has_left g n 8 hs lists.homes i c I j d ∙ (rw (lists.mutual' j d J D, and_comm (eqb j i) (eqb d c))) ∙ sym (has_left n g 32 ms lists.members c i C d j);
  }
