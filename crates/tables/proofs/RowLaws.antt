-- Rows of numbers: what one step of each loop and recursion shows, said of lists alone. Assumes nothing.
use mathlib.Core.Path.{◌≡◌, refl, sym, ap, ◌∙◌, subst}
use Prim.Native.Nat.{ℕ, zero, suc, ◌+◌, ◌-◌, ◌≤◌, ◌<◌}
use native.Mathlib.Numerals.{add-one}
use native.Mathlib.Omega.{arith}
use mathlib.Core.List.{List, [], ◌∷◌, ◌++◌, append_assoc, append-nil}
use mathlib.Core.Bool.{true, false}
use lib.ListN.{length, get_or, set, take, drop, length-append}
use lib.Dec.{eqb}
use Rattle.std.specs.List.{list_any, copy_within, AllWithin, HoldsAt}
use lib.Seq.{take_at, set-append_seam}
use borrow.Author.Tests.{eq-eqb, ne_eqb}
use borrow.Rule.Slice.PartMut.{mid_of, put_mid}
use Rattle.chunks.proofs.Laws.{mid_tail, put_tail}
use Rattle.halting.proofs.Bools.{differ}
use Rattle.model.specs.State.{Row, row, has, but, pushed, pulled}
use Rattle.model.proofs.Lists.{length_snoc, length_but}
use Rattle.tables.specs.Layout.{places, row_nums}

-- ---- steps of `has` and `but`
pub has_first : (x y : ℕ) (l : List ℕ) → y ≡ x → has x (y ∷ l) ≡ true
unfolding has
has_first x y l e = rw (eq-eqb x y (sym e))

pub has_later : (x y : ℕ) (l : List ℕ) → (y ≡ x → ⊥) → has x (y ∷ l) ≡ has x l
unfolding has
has_later x y l e = rw (ne_eqb x y (λ q. e (sym q)))

pub has_nil : (x : ℕ) → has x [] ≡ false
unfolding has
has_nil x = refl

pub but_first : (x y : ℕ) (l : List ℕ) → y ≡ x → but x (y ∷ l) ≡ l
unfolding but
but_first x y l e = rw (eq-eqb x y (sym e))

pub but_later : (x y : ℕ) (l : List ℕ) → (y ≡ x → ⊥) → but x (y ∷ l) ≡ y ∷ but x l
unfolding but
but_later x y l e = rw (ne_eqb x y (λ q. e (sym q)))

abbrev first : List ℕ → ℕ
first l = get_or l 0 0

-- ---- has: the library's search for a number is the definition's
eqb_flip : (x y : ℕ) → eqb y x ≡ eqb x y
eqb_flip x y = grind arith

pub any_is_has : (x : ℕ) (l : List ℕ) → list_any (λ y. eqb y x) l ≡ has x l
unfolding has
any_is_has x [] = refl
any_is_has x (y ∷ l) = rw (eqb_flip x y) rw (any_is_has x l) refl

none_has : (x : ℕ) (l : List ℕ) → AllWithin (λ y. y ≡ x → ⊥) l 0 (length l) → has x l ≡ false
none_has x [] n = has_nil x
none_has x (y ∷ l) n =
    has_later x y l (n 0 0 (omega arith) (omega arith)) ∙ none_has x l (λ k d a b. n (suc k) d (omega arith) (omega arith))

-- ---- pull
abbrev pub Pulled : ℕ → List ℕ → List ℕ → Type 0
Pulled n l l' = (live spare : List ℕ) (x : ℕ) → n ≡ length live → l ≡ x ∷ live ++ spare → l' ≡ live ++ 0 ∷ spare

-- behind all but the last of a list that is not empty, the last stands before the rest
last_left : (live spare : List ℕ) (x : ℕ) → (y : ℕ) × (drop (length live) (x ∷ live ++ spare) ≡ y ∷ spare)
last_left [] spare x = (x, refl)
last_left (y ∷ live) spare x = last_left live spare y

pub pulled_down : {n : ℕ} {l k : List ℕ} → k ≡ copy_within l 1 (n + 1) 0 → Pulled n l (set k n 0)
pulled_down {n} {l} {k} c live spare x e h =
    let d = last_left live spare x in
    let from : copy_within l 1 (n + 1) 0 ≡ take n (live ++ spare) ++ drop n (x ∷ live ++ spare) = let p : n + 1 - 1 ≡ n = omega arith in let q : 0 + (n + 1 - 1) ≡ n = omega arith in rw h rw q rw p refl in
    let moved : k ≡ live ++ d.0 ∷ spare = c ∙ from ∙ (rw (take_at live spare n (sym e)) rw e rw d.1 refl) in
    ap (λ (t : List ℕ). set t n 0) moved ∙ ap (λ (i : ℕ). set (live ++ d.0 ∷ spare) i 0) e ∙ set-append_seam live d.0 spare 0

-- ---- remove
abbrev pub Removed : ℕ → ℕ → List ℕ → List ℕ → Type 0
Removed x n l l' = (live spare : List ℕ) → n ≡ length live → l ≡ live ++ spare → l' ≡ but x live ++ 0 ∷ spare

-- where x is among the first n there is a first one
pub has_some : (x n : ℕ) (l : List ℕ) → has x (take n l) ≡ true → (0 < n) × (0 < length l)
has_some x zero l h = differ h (has_nil x)
has_some x (suc n) [] h = differ h (has_nil x)
has_some x (suc n) (y ∷ l) h = (omega arith, omega arith)

-- a list in which x comes first at i
record First (x i : ℕ) (l : List ℕ) : Type 0 where
  front : List ℕ
  back : List ℕ
  is : l ≡ front ++ x ∷ back
  long : length front ≡ i
  gone : but x l ≡ front ++ back

first_at : (x i : ℕ) (l : List ℕ) → i < length l → HoldsAt (λ y. y ≡ x) l i → AllWithin (λ y. y ≡ x → ⊥) l 0 i → First x i l
first_at x i [] m h n = absurd (omega arith)
first_at x zero (y ∷ l) m h n =
    record { front = []; back = l; is = ap (λ (z : ℕ). z ∷ l) (h 0); long = refl; gone = but_first x y l (h 0) }
first_at x (suc i) (y ∷ l) m h n =
    let r = first_at x i l (omega arith) h (λ k d a b. n (suc k) d (omega arith) (omega arith)) in
    record {
      front = y ∷ r.front;
      back = r.back;
      is = ap (λ (t : List ℕ). y ∷ t) r.is;
      long = ap suc r.long;
      gone = but_later x y l (n 0 0 (omega arith) (omega arith)) ∙ ap (λ (t : List ℕ). y ∷ t) r.gone;
    }

pub removed : (x : ℕ) {n i : ℕ} {l ys : List ℕ} → i < length (take n l) → HoldsAt (λ y. y ≡ x) (take n l) i → AllWithin (λ y. y ≡ x → ⊥) (take n l) 0 i
    → Pulled (n - 1 - i) (mid_of i (length l - i) l) ys → Removed x n l (put_mid i (length l - i) l ys)
removed x {n} {i} {l} {ys} m h w pulled live spare e g =
    let t : take n l ≡ live = ap (take n) g ∙ take_at live spare n (sym e) in
    let r = first_at x i live (subst (λ (k : List ℕ). i < length k) t m) (subst (λ (k : List ℕ). HoldsAt (λ y. y ≡ x) k i) t h) (subst (λ (k : List ℕ). AllWithin (λ y. y ≡ x → ⊥) k 0 i) t w) in
    let all : l ≡ r.front ++ (x ∷ r.back ++ spare) = g ∙ ap (λ (k : List ℕ). k ++ spare) r.is ∙ append_assoc r.front (x ∷ r.back) spare in
    let long : length live ≡ length r.front + suc (length r.back) = ap length r.is ∙ length-append r.front (x ∷ r.back) in
    let a = r.long in
    put_tail r.front (x ∷ r.back ++ spare) i ys all r.long
    ∙ ap (λ (k : List ℕ). r.front ++ k) (pulled r.back spare x (omega arith) (mid_tail r.front (x ∷ r.back ++ spare) i all r.long))
    ∙ sym (append_assoc r.front r.back (0 ∷ spare)) ∙ ap (λ (k : List ℕ). k ++ 0 ∷ spare) (sym r.gone)

pub not_there : (x : ℕ) (l : List ℕ) → has x l ≡ true → AllWithin (λ y. y ≡ x → ⊥) l 0 (length l) → ⊥
not_there x l h n = differ h (none_has x l n)

-- ---- rows
pub live_most : {A : Type 0} (r : Row A) → length r.live ≤ length (places r)
live_most r = let k = length-append r.live r.spare in omega arith

-- the count, and the numbers after it
pub row_first : {l : List ℕ} (r : Row ℕ) → l ≡ row_nums r → get_or l 0 0 ≡ length r.live
row_first r h = ap first h

pub row_length : {l : List ℕ} (r : Row ℕ) → l ≡ row_nums r → length l ≡ suc (length (places r))
row_length r h = ap length h

pub row_fits : {l : List ℕ} (r : Row ℕ) → l ≡ row_nums r → get_or l 0 0 < length l
row_fits r h = let a = row_first r h in let b = row_length r h in let c = live_most r in omega arith

pub row_tail : {l : List ℕ} (r : Row ℕ) → l ≡ row_nums r → mid_of 1 (length l - 1) l ≡ r.live ++ r.spare
row_tail r h = mid_tail (length r.live ∷ []) (places r) 1 h refl

pub row_more : {l : List ℕ} (r : Row ℕ) → l ≡ row_nums r → length r.live < length (places r) → get_or l 0 0 + 1 < length l
row_more r h m = let a = row_first r h in let b = row_length r h in omega arith

pub row_added : (x : ℕ) {l : List ℕ} → get_or l 0 0 + 1 < length l → (r : Row ℕ) → l ≡ row_nums r → set (set l (get_or l 0 0 + 1) x) 0 (get_or l 0 0 + 1) ≡ row_nums (pushed x r)
row_added x {l} b r h = go r.live r.spare h
  where
    go : (live spare : List ℕ) → l ≡ length live ∷ (live ++ spare) → set (set l (first l + 1) x) 0 (first l + 1) ≡ row_nums (pushed x (row live spare))
    go live [] e =
        let f = ap first e in let k = ap length e in let m = ap length (append-nil live) in absurd (omega arith)
    go live (s ∷ spare) e =
        let f : first l ≡ length live = ap first e in
        let k : first l + 1 ≡ suc (length live) = add-one (first l) ∙ ap suc f in
        rw (k, e, length_snoc live x, append_assoc live (x ∷ []) spare) (ap (λ (m : List ℕ). suc (length live) ∷ m) (set-append_seam live s spare x))

-- the numbers that the count counts are those in use
pub row_live : {l : List ℕ} (r : Row ℕ) → l ≡ row_nums r → take (get_or l 0 0) (mid_of 1 (length l - 1) l) ≡ r.live
row_live {l} r h = ap (λ (k : List ℕ). take (get_or l 0 0) k) (row_tail r h) ∙ take_at r.live r.spare (get_or l 0 0) (sym (row_first r h))

pub row_has : (x : ℕ) {l : List ℕ} (r : Row ℕ) → l ≡ row_nums r → has x r.live ≡ true → has x (take (get_or l 0 0) (mid_of 1 (length l - 1) l)) ≡ true
row_has x r h b = ap (has x) (row_live r h) ∙ b

pub row_some : (x : ℕ) {l : List ℕ} (r : Row ℕ) → l ≡ row_nums r → has x r.live ≡ true → 0 < get_or l 0 0
row_some x {l} r h b = (has_some x (get_or l 0 0) (mid_of 1 (length l - 1) l) (row_has x r h b)).0

pub row_dropped : (x : ℕ) {l ys : List ℕ} → has x (take (get_or l 0 0) (mid_of 1 (length l - 1) l)) ≡ true → Removed x (get_or l 0 0) (mid_of 1 (length l - 1) l) ys
    → (r : Row ℕ) → l ≡ row_nums r → set (put_mid 1 (length l - 1) l ys) 0 (get_or l 0 0 - 1) ≡ row_nums (pulled x r)
row_dropped x {l} {ys} b removed r h =
    let u : has x r.live ≡ true = sym (ap (has x) (row_live r h)) ∙ b in
    let n : get_or l 0 0 - 1 ≡ length (but x r.live) = let a = row_first r h in let c = length_but x r.live u in omega arith in
    ap (λ (m : List ℕ). set m 0 (get_or l 0 0 - 1)) (put_tail (length r.live ∷ []) (places r) 1 ys h refl)
    ∙ ap (λ (m : List ℕ). (get_or l 0 0 - 1) ∷ m) (removed r.live r.spare (row_first r h) (row_tail r h)) ∙ ap (λ (k : ℕ). k ∷ (but x r.live ++ 0 ∷ r.spare)) n
