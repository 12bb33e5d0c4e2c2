-- The order laws of heads: those of times, and empty behind every one of them; and when the tables have one. Assumes nothing.
use mathlib.Core.Path.{◌≡◌, refl, sym}
use mathlib.Core.Bool.{true, false, or-true}
use mathlib.Core.List.{List}
use Prim.Native.Nat.{ℕ, ◌≤◌, ◌<◌}
use lib.ListN.{length, get_or}
use lib.Ieee.{Float, nan}
use borrow.Author.Tests.{le-leb, lt-leb, eq-eqb, ne_eqb}
use Rattle.std.specs.Prelude.{Some, None}
use Rattle.layout.specs.Widths.{queue_from, events_from}
use Rattle.halting.proofs.Bools.{clash}
use Rattle.order.proofs.Compare.{le_not_lt, lt_asym, lt_irrefl, le_of_not_lt, lt_of_not_le, not_later}
use Rattle.scheduler.specs.Head.{Head, earlier, no_later, is_nan_head}
use Rattle.scheduler.specs.Inside.{head_in}

-- None sorts after every time.
pub empty_last : (t : Float) → (earlier (Some t) None ≡ true) × (earlier None (Some t) ≡ false)
empty_last t = (refl, refl)

pub earlier_irrefl : (x : Head) → earlier x x ≡ false
earlier_irrefl None = refl
earlier_irrefl (Some t) = lt_irrefl t

pub earlier_asym : (x y : Head) → earlier x y ≡ true → earlier y x ≡ false
earlier_asym None y e = clash e
earlier_asym (Some t) None e = refl
earlier_asym (Some t) (Some u) e = lt_asym t u e

pub no_later_not_earlier : (x y : Head) → no_later x y ≡ true → earlier y x ≡ false
no_later_not_earlier x None e = refl
no_later_not_earlier None (Some u) e = clash e
no_later_not_earlier (Some t) (Some u) e = le_not_lt t u e

-- without a NaN: where y is not earlier than x, x is no later than y; and where x is not that, y is earlier
pub no_later_of_not : (x y : Head) → is_nan_head x ≡ false → is_nan_head y ≡ false → earlier y x ≡ false → no_later x y ≡ true
no_later_of_not x None p q e = refl
no_later_of_not None (Some u) p q e = clash (sym e)
no_later_of_not (Some t) (Some u) p q e = le_of_not_lt t u p q e

pub earlier_of_not : (x y : Head) → is_nan_head x ≡ false → is_nan_head y ≡ false → no_later x y ≡ false → earlier y x ≡ true
earlier_of_not x None p q e = clash (sym e)
earlier_of_not None (Some u) p q e = refl
earlier_of_not (Some t) (Some u) p q e = lt_of_not_le t u p q e

-- x is not later than y and y not later than z, so x is not later than z. Only y must be no NaN
pub none_later : (x y z : Head) → is_nan_head y ≡ false → earlier y x ≡ false → earlier z y ≡ false → earlier z x ≡ false
none_later x y None n a b = refl
none_later x None (Some v) n a b = clash (sym b)
none_later None (Some u) (Some v) n a b = clash (sym a)
none_later (Some t) (Some u) (Some v) n a b = not_later t u v n a b

-- ---- a cell's head in the tables: empty where its count is 0 or its first place is past the end, else the time there
module _ (times : List Float) (held : List ℕ) (room cell : ℕ) where
  pub head_past : length times ≤ events_from room cell → head_in times held room cell ≡ None
  unfolding head_in
  head_past o = simp (le-leb (length times) (events_from room cell) o)

  pub head_none : get_or held (queue_from room cell) 0 ≡ 0 → head_in times held room cell ≡ None
  unfolding head_in
  head_none e = simp (eq-eqb (get_or held (queue_from room cell) 0) 0 e, or-true)

  pub head_some : events_from room cell < length times → (get_or held (queue_from room cell) 0 ≡ 0 → ⊥) → head_in times held room cell ≡ Some (get_or times (events_from room cell) nan)
  unfolding head_in
  head_some i n = simp (lt-leb (length times) (events_from room cell) i, ne_eqb (get_or held (queue_from room cell) 0) 0 n)
