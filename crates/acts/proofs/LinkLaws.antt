-- Entering and leaving, from what the leaves on rows say of the parts of the table. Assumes nothing.
use mathlib.Core.Path.{◌≡◌, refl, sym, ap, ◌∙◌, subst}
use Prim.Native.Nat.{ℕ, ◌≤◌, ◌<◌}
use native.Mathlib.Omega.{arith}
use mathlib.Core.List.{List}
use mathlib.Core.Bool.{Bool, true, false}
use lib.Dec.{ltb, leb}
use lib.ListN.{length, get_or, set}
use borrow.Author.Tests.{le-leb, lt-leb, lt-ltb, le-ltb}
use Rattle.halting.specs.Out.{Out}
use Rattle.layout.specs.Widths.{home_room, member_room}
use Rattle.model.specs.State.{Row, none, State, home, listed, has, pushed, pulled}
use Rattle.model.specs.Acts.{enter, leave}
use Rattle.tables.specs.declared.Sizes.{Sizes}
use Rattle.tables.specs.declared.parts.Part.{Part}
use Rattle.tables.specs.Layout.{places, row_nums}
use Rattle.tables.specs.Holds.{Listed}
use Rattle.tables.specs.Parts.{home_part, member_part, lent, back}
use Rattle.tables.specs.Rows.{InNums}
use Rattle.tables.proofs.ListLaws.{home-part, member-part, home-back, member_back, row_room, row_below, pushed_room, pushed_below, pulled_room, pulled_below}
use Rattle.acts.specs.Tell.{InLists, Pair, ListsTold}

-- what the leaves say
abbrev pub Makes : (Row ℕ → Row ℕ) → List ℕ → List ℕ → Type 0
Makes f l l' = (r : Row ℕ) → l ≡ row_nums r → l' ≡ row_nums (f r)

abbrev pub Done : Sizes → (State → Out State) → ℕ → List ℕ → List ℕ → Type 0
Done z act r l l' = (s : State) → InLists z l s → ListsTold z l' r (act s)

-- the numbers that a list of every state in the table has
abbrev pub Reads : Sizes → List ℕ → (State → List ℕ) → List ℕ → Type 0
Reads z l f xs = (s : State) → InLists z l s → xs ≡ f s

abbrev home_row : State → ℕ → Row ℕ
home_row s g = get_or s.homes g none

abbrev member_row : State → ℕ → Row ℕ
member_row s c = get_or s.members c none

-- ---- entering where nothing is changed: listed already, the cell full, the grain full
module _ {z : Sizes} (g c : ℕ) {l : List ℕ} {ms : List ℕ} (lm : Reads z l (λ s. listed s c) ms) {b : Bool} (told : b ≡ has g ms) where
  has_told : (s : State) → InLists z l s → has g (listed s c) ≡ b
  has_told s S = ap (has g) (sym (lm s S)) ∙ sym told

  pub enter_listed : b ≡ true → Done z (enter g c) 8 l l
  unfolding enter
  enter_listed t s S = rw (has_told s S ∙ t) (refl, S)

  pub enter_full : b ≡ false → member_room ≤ length ms → Done z (enter g c) 7 l l
  unfolding enter
  enter_full t k s S =
      let v : ltb (length (listed s c)) member_room ≡ false = le-ltb _ member_room (subst (λ (n : List ℕ). member_room ≤ length n) (lm s S) k) in
      rw (has_told s S ∙ t, v) (refl, S)

  pub enter_crowded : {hs : List ℕ} → Reads z l (λ s. home s g) hs → b ≡ false → length ms < member_room → home_room ≤ length hs → Done z (enter g c) 7 l l
  unfolding enter
  enter_crowded lh t k j s S =
      let v : ltb (length (listed s c)) member_room ≡ true = lt-ltb _ member_room (subst (λ (n : List ℕ). length n < member_room) (lm s S) k) in
      let w : ltb (length (home s g)) home_room ≡ false = le-ltb _ home_room (subst (λ (n : List ℕ). home_room ≤ length n) (lh s S) j) in
      rw (has_told s S ∙ t, v, w) (refl, S)

-- ---- the grain's row is at the part h, the cell's at m
module _ {z : Sizes} {g c : ℕ} {l : List ℕ} (hg : g < z.grains) (hc : c < z.cells) {h m : Part} (eh : h ≡ home_part g) (em : m ≡ member_part z c) where
  -- a grain goes into a cell's row, then the cell into the grain's
  module _ {ms : List ℕ} (lm : Reads z l (λ s. listed s c) ms) (k : length ms < member_room) where
    less_listed : (s : State) → InLists z l s → length (listed s c) < member_room
    less_listed s S = subst (λ (n : List ℕ). length n < member_room) (lm s S) k

    member_pushed : {ys : List ℕ} (s : State) → InLists z l s → Makes (pushed g) (lent m l) ys → Listed z (back m l ys) s.homes (set s.members c (pushed g (member_row s c)))
    member_pushed s S one =
        member_back S c hc em (pushed g (member_row s c)) (one (member_row s c) (member-part S c hc em))
        (pushed_room g (member_row s c) (row_room S.members c hc) (less_listed s S))
        (pushed_below z.grains g (member_row s c) (row_below S.members c hc) hg)

    pub member_more : (s : State) → InLists z l s → InNums (lent m l) (λ r. length r.live < length (places r))
    member_more s S = (member_row s c, member-part S c hc em, let v = row_room S.members c hc in let n = less_listed s S in omega arith)

    module _ {hs : List ℕ} (lh : Reads z l (λ s. home s g) hs) (j : length hs < home_room) where
      less_home : (s : State) → InLists z l s → length (home s g) < home_room
      less_home s S = subst (λ (n : List ℕ). length n < home_room) (lh s S) j

      pub home_more : {ys : List ℕ} (s : State) → InLists z l s → Makes (pushed g) (lent m l) ys → InNums (lent h (back m l ys)) (λ r. length r.live < length (places r))
      home_more s S one = (home_row s g, home-part (member_pushed s S one) g hg eh, let v = row_room S.homes g hg in let n = less_home s S in omega arith)

      pub enter_done : {b : Bool} {ys zs : List ℕ} → b ≡ has g ms → b ≡ false → Makes (pushed g) (lent m l) ys → Makes (pushed c) (lent h (back m l ys)) zs
          → Done z (enter g c) 0 l (back h (back m l ys) zs)
      unfolding enter
      enter_done told t one two s S =
          let v : ltb (length (listed s c)) member_room ≡ true = lt-ltb _ member_room (less_listed s S) in
          let w : ltb (length (home s g)) home_room ≡ true = lt-ltb _ home_room (less_home s S) in
          let S' = member_pushed s S one in
          rw (has_told g c lm told s S ∙ t, v, w) (
            refl,
            home-back S' g hg eh (pushed c (home_row s g)) (two (home_row s g) (home-part S' g hg eh))
                (pushed_room c (home_row s g) (row_room S.homes g hg) (less_home s S))
                (pushed_below z.cells c (home_row s g) (row_below S.homes g hg) hc),
          )

  -- ---- leaving: done
  member_pulled : {ys : List ℕ} (s : State) → InLists z l s → Pair g c s → Makes (pulled g) (lent m l) ys
      → Listed z (back m l ys) s.homes (set s.members c (pulled g (member_row s c)))
  member_pulled s S p one =
      member_back S c hc em (pulled g (member_row s c)) (one (member_row s c) (member-part S c hc em))
      (pulled_room g (member_row s c) (row_room S.members c hc) p.0)
      (pulled_below z.grains g (member_row s c) (row_below S.members c hc))

  pub member_there : (s : State) → InLists z l s → Pair g c s → InNums (lent m l) (λ r. has g r.live ≡ true)
  member_there s S p = (member_row s c, member-part S c hc em, p.0)

  pub home_there : {ys : List ℕ} (s : State) → InLists z l s → Pair g c s → Makes (pulled g) (lent m l) ys → InNums (lent h (back m l ys)) (λ r. has c r.live ≡ true)
  home_there s S p one = (home_row s g, home-part (member_pulled s S p one) g hg eh, p.1)

  pub leave_done : {hs ys zs : List ℕ} → Reads z l (λ s. home s g) hs → 1 < length hs → Makes (pulled g) (lent m l) ys → Makes (pulled c) (lent h (back m l ys)) zs
      → (s : State) → InLists z l s → Pair g c s → ListsTold z (back h (back m l ys) zs) 0 (leave g c s)
  unfolding leave
  leave_done lh k one two s S p =
      let w : leb (length (home s g)) 1 ≡ false = lt-leb _ 1 (subst (λ (n : List ℕ). 1 < length n) (lh s S) k) in
      let S' = member_pulled s S p one in
      rw w (
        refl,
        home-back S' g hg eh (pulled c (home_row s g)) (two (home_row s g) (home-part S' g hg eh))
            (pulled_room c (home_row s g) (row_room S.homes g hg) p.1)
            (pulled_below z.cells c (home_row s g) (row_below S.homes g hg)),
      )

-- the grain's only cell
pub leave_refused : {z : Sizes} {g : ℕ} (c : ℕ) {l hs : List ℕ} → Reads z l (λ s. home s g) hs → length hs ≤ 1 → (s : State) → InLists z l s → Pair g c s → ListsTold z l 9 (leave g c s)
unfolding leave
leave_refused {g = g} c lh k s S p =
    let w : leb (length (home s g)) 1 ≡ true = le-leb _ 1 (subst (λ (n : List ℕ). length n ≤ 1) (lh s S) k) in
    rw w (refl, S)
