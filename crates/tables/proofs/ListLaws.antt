-- The table of lists: a grain's row and a cell's row in it, each with another put in its place. Assumes nothing.
use mathlib.Core.Path.{◌≡◌, sym, ap, ◌∙◌, subst}
use Prim.Native.Nat.{ℕ, suc, ◌+◌, ◌-◌, ◌*◌, ◌≤◌, ◌<◌}
use native.Mathlib.Omega.{arith}
use mathlib.Core.List.{List, [], ◌∷◌, ◌++◌, append_assoc, append-nil}
use mathlib.Core.Bool.{Bool, true, false, cond}
use lib.Dec.{eqb}
use lib.ListN.{length, get_or, set, take, drop, length-append, length-set}
use borrow.Rule.Slice.PartMut.{mid_of, put_mid}
use Rattle.halting.specs.Every.{All}
use Rattle.chunks.specs.Flat.{flat}
use Rattle.halting.proofs.All.{all_at, all_set, all_mid, all_to}
use Rattle.chunks.proofs.Laws.{length_flat, length_front, flat_cut, flat_set, mid_at, put_at}
use Rattle.layout.specs.Widths.{home_wide, members_wide, home_from, members_from, home_room, member_room}
use Rattle.model.specs.State.{Row, none, live_at, has, but, pushed, pulled}
use Rattle.model.proofs.Lists.{length_but}
use Rattle.tables.specs.declared.Sizes.{Sizes}
use Rattle.tables.specs.declared.parts.Part.{Part}
use Rattle.tables.specs.Layout.{places, row_nums}
use Rattle.tables.specs.Parts.{home_part, member_part, lent, back}
use Rattle.tables.specs.Rows.{count_in}
use Rattle.tables.specs.Holds.{Ranged, Rows, Listed}

-- ---- chunk c of a region of a table: what stands before the region, the region, what stands after it
module _ {A B : Type 0} (f : A → List B) (w : ℕ) where
  region_cut : (pre post : List B) (xs : List A) (c : ℕ) (d : A) {l : List B} → c < length xs → l ≡ pre ++ (flat f xs ++ post)
      → l ≡ (pre ++ flat f (take c xs)) ++ (f (get_or xs c d) ++ (flat f (drop (suc c) xs) ++ post))
  region_cut pre post xs c d h e =
      e ∙ ap (λ (k : List B). pre ++ (k ++ post)) (flat_cut f w xs c d h) ∙ simp append_assoc

  region_front : (pre : List B) (xs : List A) (c a : ℕ) → All (λ (x : A). length (f x) ≡ w) xs → c < length xs → a ≡ length pre + c * w → length (pre ++ flat f (take c xs)) ≡ a
  region_front pre xs c a v h p = length-append pre (flat f (take c xs)) ∙ ap (λ (k : ℕ). length pre + k) (length_front f w xs c v h) ∙ sym p

  pub region_mid : (pre post : List B) (xs : List A) (c : ℕ) (d : A) {l : List B} (a k : ℕ) → All (λ (x : A). length (f x) ≡ w) xs → c < length xs
      → l ≡ pre ++ (flat f xs ++ post) → a ≡ length pre + c * w → k ≡ w → mid_of a k l ≡ f (get_or xs c d)
  region_mid pre post xs c d a k v h e p q =
      mid_at (pre ++ flat f (take c xs)) (f (get_or xs c d)) (flat f (drop (suc c) xs) ++ post) a k (region_cut pre post xs c d h e)
      (region_front pre xs c a v h p) (all_at (λ (x : A). length (f x) ≡ w) xs c d v h ∙ sym q)

  pub region_put : (pre post : List B) (xs : List A) (c : ℕ) (d y : A) {l ys : List B} (a k : ℕ) → All (λ (x : A). length (f x) ≡ w) xs → c < length xs
      → l ≡ pre ++ (flat f xs ++ post) → a ≡ length pre + c * w → k ≡ w → ys ≡ f y → put_mid a k l ys ≡ pre ++ (flat f (set xs c y) ++ post)
  region_put pre post xs c d y {ys = ys} a k v h e p q g =
      put_at (pre ++ flat f (take c xs)) (f (get_or xs c d)) (flat f (drop (suc c) xs) ++ post) a k ys (region_cut pre post xs c d h e)
      (region_front pre xs c a v h p) (all_at (λ (x : A). length (f x) ≡ w) xs c d v h ∙ sym q)
      ∙ rw (g, flat_set f w xs c y h) (simp append_assoc)

-- ---- a family of rows, of w places each, with numbers below n
abbrev pub Room : ℕ → Row ℕ → Type 0
Room w r = length (places r) ≡ w

abbrev pub Below : ℕ → Row ℕ → Type 0
Below n r = All (λ (x : ℕ). x < n) r.live

wides : (w : ℕ) (rs : List (Row ℕ)) → All (Room w) rs → All (λ (r : Row ℕ). length (row_nums r) ≡ suc w) rs
wides w rs v = all_to (Room w) (λ (r : Row ℕ). length (row_nums r) ≡ suc w) rs (λ r e. ap suc e) v

module _ {m w n : ℕ} {rs : List (Row ℕ)} (R : Rows m w n rs) where
  rows_wide : All (λ (r : Row ℕ). length (row_nums r) ≡ suc w) rs
  rows_wide = wides w rs R.wide

  pub rows_long : length (flat row_nums rs) ≡ m * suc w
  rows_long = length_flat row_nums (suc w) rs rows_wide ∙ ap (λ (k : ℕ). k * suc w) R.many

  rows_in : (i : ℕ) → i < m → i < length rs
  rows_in i h = let e = R.many in omega arith

  pub row_room : (i : ℕ) → i < m → Room w (get_or rs i none)
  row_room i h = all_at (Room w) rs i none R.wide (rows_in i h)

  pub row_below : (i : ℕ) → i < m → Below n (get_or rs i none)
  row_below i h = all_at (Below n) rs i none R.below (rows_in i h)

  pub rows_set : (i : ℕ) (r : Row ℕ) → Room w r → Below n r → Rows m w n (set rs i r)
  rows_set i r v b = record {
    many = length-set rs i r ∙ R.many;
    wide = all_set (Room w) rs i r R.wide v;
    below = all_set (Below n) rs i r R.below b;
  }

  -- row i, in a table that holds the family at `from`
  pub family_mid : (pre post : List ℕ) (i : ℕ) {l : List ℕ} (a k : ℕ) → i < m → l ≡ pre ++ (flat row_nums rs ++ post) → a ≡ length pre + i * suc w → k ≡ suc w → mid_of a k l ≡ row_nums (get_or rs i none)
  family_mid pre post i a k h e p q = region_mid row_nums (suc w) pre post rs i none a k rows_wide (rows_in i h) e p q

  pub family_put : (pre post : List ℕ) (i : ℕ) (r : Row ℕ) {l ys : List ℕ} (a k : ℕ) → i < m → l ≡ pre ++ (flat row_nums rs ++ post) → a ≡ length pre + i * suc w → k ≡ suc w → ys ≡ row_nums r
      → put_mid a k l ys ≡ pre ++ (flat row_nums (set rs i r) ++ post)
  family_put pre post i r a k h e p q f = region_put row_nums (suc w) pre post rs i none r a k rows_wide (rows_in i h) e p q f

-- ---- rows with one more, and with one less
all_but : (P : ℕ → Type 0) (x : ℕ) (l : List ℕ) → All P l → All P (but x l)
unfolding but
all_but P x [] v = tt
all_but P x (y ∷ l) v = go (eqb x y) (all_but P x l v.1)
  where
    go : (b : Bool) → All P (but x l) → All P (cond b l (y ∷ but x l))
    go true w = v.1
    go false w = (v.0, w)

module _ {w : ℕ} (x : ℕ) (r : Row ℕ) (v : Room w r) where
  pub pushed_room : length r.live < w → Room w (pushed x r)
  pushed_room h = go r.live r.spare v h
    where
      go : (live spare : List ℕ) → length (live ++ spare) ≡ w → length live < w → length ((live ++ (x ∷ [])) ++ drop 1 spare) ≡ w
      go live [] e h = let k = ap length (append-nil live) in absurd (omega arith)
      go live (s ∷ spare) e h = rw (append_assoc live (x ∷ []) spare) (length-append live (x ∷ spare) ∙ sym (length-append live (s ∷ spare)) ∙ e)

  pub pulled_room : has x r.live ≡ true → Room w (pulled x r)
  pulled_room h =
      length-append (but x r.live) (0 ∷ r.spare) ∙ let a = length_but x r.live h in let b = length-append r.live r.spare in omega (arith, v)

pub pushed_below : (n x : ℕ) (r : Row ℕ) → Below n r → x < n → Below n (pushed x r)
pushed_below n x r v h = all_mid (λ (y : ℕ). y < n) x r.live [] h (subst (All (λ (y : ℕ). y < n)) (sym (append-nil r.live)) v)

pub pulled_below : (n x : ℕ) (r : Row ℕ) → Below n r → Below n (pulled x r)
pulled_below n x r v = all_but (λ (y : ℕ). y < n) x r.live v

-- ---- the two families in one table: grain g's row and cell c's row, each at its part

-- a part with some place, within the table and within the longest one
abbrev pub Within : Part → List ℕ → Type 0
Within p l = (p.from < p.to) × (p.to ≤ length l) × (p.to ≤ members_from 256 256)

module _ {z : Sizes} {l : List ℕ} {hs ms : List (Row ℕ)} (S : Listed z l hs ms) where
  homes_long : length (flat row_nums hs) ≡ home_from z.grains
  homes_long = rows_long S.homes

  pub lists_long : length l ≡ members_from z.grains z.cells
  lists_long = ap length S.is ∙ length-append (flat row_nums hs) (flat row_nums ms) ∙ let a = homes_long in let b = rows_long S.members in omega arith

  at_members : l ≡ flat row_nums hs ++ (flat row_nums ms ++ [])
  at_members = S.is ∙ ap (λ (k : List ℕ). flat row_nums hs ++ k) (sym (append-nil (flat row_nums ms)))

  module _ (g : ℕ) (h : g < z.grains) {p : Part} (e : p ≡ home_part g) where
    home-from : p.from ≡ home_from g
    home-from = ap (λ (q : Part). q.from) e

    home-wide : p.to - p.from ≡ home_wide
    home-wide = let a = home-from in let b = ap (λ (q : Part). q.to) e in omega arith

    -- the row lies within the table, and the part holds it
    pub home-in : Ranged z → Within p l
    home-in R = let a = home-from in let b = ap (λ (q : Part). q.to) e in let k = lists_long in (omega arith, omega arith, omega arith)

    pub home-part : lent p l ≡ row_nums (get_or hs g none)
    home-part = family_mid S.homes [] (flat row_nums ms) g p.from (p.to - p.from) h S.is (omega (arith, home-from)) home-wide

    pub home-count : {n : ℕ} → n ≡ count_in (lent p l) → n ≡ length (live_at hs g)
    home-count f = f ∙ ap count_in home-part

    -- with another row put back, the table holds it in its place
    pub home-back : (r : Row ℕ) {ys : List ℕ} → ys ≡ row_nums r → Room home_room r → Below z.cells r → Listed z (back p l ys) (set hs g r) ms
    home-back r f v b = record {
      is = family_put S.homes [] (flat row_nums ms) g r p.from (p.to - p.from) h S.is (omega (arith, home-from)) home-wide f;
      homes = rows_set S.homes g r v b;
      members = S.members;
    }

  module _ (c : ℕ) (h : c < z.cells) {p : Part} (e : p ≡ member_part z c) where
    member-from : p.from ≡ length (flat row_nums hs) + c * members_wide
    member-from = ap (λ (q : Part). q.from) e ∙ (let k = homes_long in omega arith)

    member-wide : p.to - p.from ≡ members_wide
    member-wide = let a = ap (λ (q : Part). q.from) e in let b = ap (λ (q : Part). q.to) e in omega arith

    pub member-in : Ranged z → Within p l
    member-in R = let a = ap (λ (q : Part). q.from) e in let b = ap (λ (q : Part). q.to) e in let k = lists_long in (omega arith, omega arith, omega arith)

    pub member-part : lent p l ≡ row_nums (get_or ms c none)
    member-part = family_mid S.members (flat row_nums hs) [] c p.from (p.to - p.from) h at_members member-from member-wide

    pub member-count : {n : ℕ} → n ≡ count_in (lent p l) → n ≡ length (live_at ms c)
    member-count f = f ∙ ap count_in member-part

    pub member_back : (r : Row ℕ) {ys : List ℕ} → ys ≡ row_nums r → Room member_room r → Below z.grains r → Listed z (back p l ys) hs (set ms c r)
    member_back r f v b = record {
      is = family_put S.members (flat row_nums hs) [] c r p.from (p.to - p.from) h at_members member-from member-wide f
          ∙ ap (λ (k : List ℕ). flat row_nums hs ++ k) (append-nil (flat row_nums (set ms c r)));
      homes = S.homes;
      members = rows_set S.members c r v b;
    }
