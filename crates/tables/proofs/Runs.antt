-- Runs of places: one place read and written, and what each step of a loop over them keeps, said of lists of places. Assumes nothing.
use mathlib.Core.Path.{◌≡◌, refl, sym, ap, ◌∙◌, subst}
use Prim.Native.Nat.{ℕ, suc, ◌+◌, ◌-◌, ◌*◌, ◌≤◌, ◌<◌}
use native.Mathlib.Nat.{suc-ne-zero}
use native.Mathlib.Omega.{arith}
use mathlib.Core.List.{List, [], ◌∷◌, ◌++◌, append_assoc, append-nil}
use lib.ListN.{length, replicate, get_or, set, take, drop, length-append, length-replicate, replicate-append-replicate}
use lib.Seq.{set_at, get_or_at, take_at, drop_at}
use Rattle.std.specs.List.{copy_within}
use lib.Ieee.{Float, le, lt}
use lib.Ieee.Scale.{finite}
use mathlib.Core.Bool.{Bool, true, false, ◌&&◌, and_assoc, cond}
use lib.Dec.{lit<}
use borrow.Rule.Slice.PartMut.{mid_of, put_mid}
use Rattle.halting.specs.Every.{All}
use Rattle.halting.proofs.All.{all_to}
use Rattle.chunks.specs.Flat.{flat}
use Rattle.chunks.proofs.Laws.{mid_tail, put_tail, row_long, row_get, row_put}
use Rattle.order.specs.Numbers.{f64_max}
use Rattle.layout.specs.Widths.{place_nums_wide, place_reals_wide, queue_wide, events_wide}
use Rattle.model.specs.declared.Place.{Place}
use Rattle.model.specs.Events.{insert_by, zero_p, keep_by, gone_by, names, event_of, fine_v, fine_place}
use Rattle.model.specs.State.{Row}
use Rattle.model.proofs.Sound.{Queue}
use Rattle.model.proofs.Queue.{length_keep}
use Rattle.tables.specs.Layout.{places, place_nums, place_reals, queue_nums, queue_reals}
use Rattle.tables.specs.Holds.{Run, Full}
use Rattle.tables.specs.Places.{Passed, Keeping}

-- ---- rule 5 of a place, in the order in which it is tested

pub fine_is : (s : Place)
    → fine_place s ≡ finite s.time && (lt s.time f64_max && (fine_v s.a && (fine_v s.b && (fine_v s.c && (fine_v s.d && finite s.val)))))
unfolding fine_place
fine_is s = and_assoc (finite s.time) (lt s.time f64_max) (fine_v s.a && (fine_v s.b && (fine_v s.c && (fine_v s.d && finite s.val))))

-- ---- one place of a run

module _ {ns : List ℕ} {rs : List Float} {ps : List Place} (h : Run ns rs ps) (i : ℕ) (m : i * place_nums_wide + place_nums_wide ≤ length ns) (n : i * place_reals_wide + place_reals_wide ≤ length rs) where
  pub place_read : Run (mid_of (i * place_nums_wide) (i * place_nums_wide + place_nums_wide - i * place_nums_wide) ns) (mid_of (i * place_reals_wide) (i * place_reals_wide + place_reals_wide - i * place_reals_wide) rs) (get_or ps i zero_p ∷ [])
  place_read = record {
    nums_is = row_get place_nums place_nums_wide (λ p. refl) (lit< tt) ps i zero_p h.nums_is m;
    reals_is = row_get place_reals place_reals_wide (λ p. refl) (lit< tt) ps i zero_p h.reals_is n;
  }

  pub place_written : {s : Place} {ns' : List ℕ} {rs' : List Float} → Run ns' rs' (s ∷ [])
      → Run (put_mid (i * place_nums_wide) (i * place_nums_wide + place_nums_wide - i * place_nums_wide) ns ns') (put_mid (i * place_reals_wide) (i * place_reals_wide + place_reals_wide - i * place_reals_wide) rs rs') (set ps i s)
  place_written {s} k = record {
    nums_is = row_put place_nums place_nums_wide (λ p. refl) (lit< tt) ps i zero_p s h.nums_is m k.nums_is;
    reals_is = row_put place_reals place_reals_wide (λ p. refl) (lit< tt) ps i zero_p s h.reals_is n k.reals_is;
  }

flat_append : {A B : Type 0} (enc : A → List B) (xs ys : List A) → flat enc (xs ++ ys) ≡ flat enc xs ++ flat enc ys
flat_append enc [] ys = refl
flat_append {B = B} enc (x ∷ xs) ys = ap (λ (l : List B). enc x ++ l) (flat_append enc xs ys) ∙ sym (append_assoc (enc x) (flat enc xs) (flat enc ys))

pub nums_long : (ps : List Place) → length (flat place_nums ps) ≡ length ps * place_nums_wide
nums_long ps = row_long place_nums place_nums_wide (λ x. refl) (omega arith) ps refl

pub reals_long : (ps : List Place) → length (flat place_reals ps) ≡ length ps * place_reals_wide
reals_long ps = row_long place_reals place_reals_wide (λ x. refl) (omega arith) ps refl

-- ---- rows of events
pub row_nums_long : (room : ℕ) (r : Row Place) → length (places r) ≡ room → length (queue_nums r) ≡ queue_wide room
row_nums_long room r f = let e = nums_long (places r) in omega (arith, e, f)

pub row_reals_long : (room : ℕ) (r : Row Place) → length (places r) ≡ room → length (queue_reals r) ≡ events_wide room
row_reals_long room r f = let e = reals_long (places r) in omega (arith, e, f)

module _ (room : ℕ) (qs : List (Row Place)) (g : All (Full room) qs) where
  pub rows_nums_wide : All (λ (r : Row Place). length (queue_nums r) ≡ queue_wide room) qs
  rows_nums_wide = all_to (Full room) (λ (r : Row Place). length (queue_nums r) ≡ queue_wide room) qs (row_nums_long room) g

  pub rows_reals_wide : All (λ (r : Row Place). length (queue_reals r) ≡ events_wide room) qs
  rows_reals_wide = all_to (Full room) (λ (r : Row Place). length (queue_reals r) ≡ events_wide room) qs (row_reals_long room) g

-- a sound queue is a full row
pub full_of : (n c : ℕ) (m : List ℕ) {t : Float} {room : ℕ} (r : Row Place) → Queue t room n c m r → Full room r
full_of n c m r q = length-append r.live r.spare ∙ q.full

-- ---- the tables behind some places
module _ (k : ℕ) (front ps : List Place) {ns : List ℕ} {rs : List Float} (e : length front ≡ k) (h : Run ns rs (front ++ ps)) where
  nums_front : length (flat place_nums front) ≡ k * place_nums_wide
  nums_front = nums_long front ∙ ap (λ (n : ℕ). n * place_nums_wide) e

  reals_front : length (flat place_reals front) ≡ k * place_reals_wide
  reals_front = reals_long front ∙ ap (λ (n : ℕ). n * place_reals_wide) e

  pub behind : Run (mid_of (k * place_nums_wide) (length ns - k * place_nums_wide) ns) (mid_of (k * place_reals_wide) (length rs - k * place_reals_wide) rs) ps
  behind = record {
    nums_is = mid_tail (flat place_nums front) (flat place_nums ps) (k * place_nums_wide) (h.nums_is ∙ flat_append place_nums front ps) nums_front;
    reals_is = mid_tail (flat place_reals front) (flat place_reals ps) (k * place_reals_wide) (h.reals_is ∙ flat_append place_reals front ps) reals_front;
  }

  pub put_behind : {ns' : List ℕ} {rs' : List Float} {qs : List Place} → Run ns' rs' qs
      → Run (put_mid (k * place_nums_wide) (length ns - k * place_nums_wide) ns ns') (put_mid (k * place_reals_wide) (length rs - k * place_reals_wide) rs rs') (front ++ qs)
  put_behind {ns'} {rs'} {qs} r = record {
    nums_is = put_tail (flat place_nums front) (flat place_nums ps) (k * place_nums_wide) ns' (h.nums_is ∙ flat_append place_nums front ps) nums_front
        ∙ ap (λ (l : List ℕ). flat place_nums front ++ l) r.nums_is ∙ sym (flat_append place_nums front qs);
    reals_is = put_tail (flat place_reals front) (flat place_reals ps) (k * place_reals_wide) rs' (h.reals_is ∙ flat_append place_reals front ps) reals_front
        ∙ ap (λ (l : List Float). flat place_reals front ++ l) r.reals_is ∙ sym (flat_append place_reals front qs);
  }

-- ---- lists cut at a place

-- an element goes from behind to the front
over_to : (front : List Place) (y : Place) (back : List Place) → front ++ y ∷ back ≡ (front ++ y ∷ []) ++ back
over_to front y back = sym (append_assoc front (y ∷ []) back)

-- a list that is not empty ends in an element
pub record Ended {A : Type 0} (l : List A) : Type 0 where
  pub front : List A
  pub end : A
  pub is : l ≡ front ++ end ∷ []

ended : {A : Type 0} (l : List A) → 0 < length l → Ended l
ended [] p = absurd (omega arith)
ended (x ∷ []) p = record { front = []; end = x; is = refl }
ended {A} (x ∷ y ∷ l) p =
    let r = ended (y ∷ l) (omega arith) in
    record { front = x ∷ r.front; end = r.end; is = ap (λ (t : List A). x ∷ t) r.is }

-- a list that is not empty starts with one
record Started (l : List Place) : Type 0 where
  head : Place
  back : List Place
  is : l ≡ head ∷ back

started : (l : List Place) → 0 < length l → Started l
started [] p = absurd (omega arith)
started (x ∷ l) p = record { head = x; back = l; is = refl }

empty : (l : List Place) → length l ≡ 0 → l ≡ []
empty [] e = refl
empty (x ∷ l) e = absurd (suc-ne-zero (length l) e)

-- ---- one step of the rules on lists
insert_only : (s : Place) → insert_by s [] ≡ s ∷ []
unfolding insert_by
insert_only s = refl

insert_later : (s y : Place) (l : List Place) → le y.time s.time ≡ true → insert_by s (y ∷ l) ≡ y ∷ insert_by s l
unfolding insert_by
insert_later s y l u = rw u refl

insert_first : (s y : Place) (l : List Place) → le y.time s.time ≡ false → insert_by s (y ∷ l) ≡ s ∷ y ∷ l
unfolding insert_by
insert_first s y l u = rw u refl

keep_none : (g : ℕ) → (keep_by g [] ≡ []) × (gone_by g [] ≡ 0)
unfolding keep_by gone_by
keep_none g = (refl, refl)

keep_out : (g : ℕ) (y : Place) (l : List Place) → names (event_of y.kind y) g ≡ true → (keep_by g (y ∷ l) ≡ keep_by g l) × (gone_by g (y ∷ l) ≡ suc (gone_by g l))
unfolding keep_by gone_by
keep_out g y l u = rw u (refl, refl)

keep_in : (g : ℕ) (y : Place) (l : List Place) → names (event_of y.kind y) g ≡ false → (keep_by g (y ∷ l) ≡ y ∷ keep_by g l) × (gone_by g (y ∷ l) ≡ gone_by g l)
unfolding keep_by gone_by
keep_in g y l u = rw u (refl, refl)

-- ---- whether an event names g, by the two numbers of its place and its kind

-- ---- push and pull: all in use move by one place

-- a row of chunks of w elements each, copied within itself by one chunk
module _ {A B : Type 0} (enc : A → List B) (w : ℕ) (wide : (x : A) → length (enc x) ≡ w) (live rest : List A) (x : A) where
  flat_wide : (l : List A) → length (flat enc l) ≡ w * length l
  flat_wide [] = omega arith
  flat_wide (y ∷ l) = let a = length-append (enc y) (flat enc l) in let b = wide y in let c = flat_wide l in omega arith

  flat_at : (i n : ℕ) (l : List A) → n ≡ length l → i ≡ w * n → length (flat enc l) ≡ i
  flat_at i n l e f = flat_wide l ∙ ap (λ (k : ℕ). w * k) (sym e) ∙ sym f

  -- up, over the free chunk behind them: the first of all stays before them
  pub chunks_up : {h : A} {t : List A} {l : List B} (n : ℕ) → n ≡ length live → l ≡ flat enc (live ++ x ∷ rest) → live ++ x ∷ rest ≡ h ∷ t → copy_within l 0 (w * n) w ≡ flat enc (h ∷ live ++ rest)
  chunks_up {h} {t} {l} n e f g =
      let m : w * n - 0 ≡ w * n = omega arith in
      let more : n + 1 ≡ length (live ++ x ∷ []) = let k = length-append live (x ∷ []) in omega arith in
      let one : take w l ≡ enc h = ap (take w) (f ∙ ap (flat enc) g) ∙ take_at (enc h) (flat enc t) w (wide h) in
      let two : take (w * n) l ≡ flat enc live = ap (take (w * n)) (f ∙ flat_append enc live (x ∷ rest)) ∙ take_at (flat enc live) (flat enc (x ∷ rest)) (w * n) (flat_at (w * n) n live e refl) in
      let three : drop (w + w * n) l ≡ flat enc rest =
      ap (drop (w + w * n)) (f ∙ ap (flat enc) (sym (append_assoc live (x ∷ []) rest)) ∙ flat_append enc (live ++ x ∷ []) rest)
      ∙ drop_at (flat enc (live ++ x ∷ [])) (flat enc rest) (w + w * n) (flat_at (w + w * n) (n + 1) (live ++ x ∷ []) more (omega arith))
      in
      rw m rw one rw two rw three (append_assoc (enc h) (flat enc live) (flat enc rest) ∙ ap (λ (k : List B). enc h ++ k) (sym (flat_append enc live rest)))

  -- down, over the first: the last of all stays behind them
  pub chunks_down : {l : List B} (n : ℕ) → n ≡ length live → l ≡ flat enc (x ∷ live ++ rest) → (z : Ended (x ∷ live)) → copy_within l w (w * (n + 1)) 0 ≡ flat enc (live ++ z.end ∷ rest)
  chunks_down {l} n e f z =
      let q : 0 + w * n ≡ w * n = omega arith in
      let m : w * (n + 1) - w ≡ w * n = omega arith in
      let d : drop w l ≡ flat enc live ++ flat enc rest = ap (drop w) f ∙ drop_at (enc x) (flat enc (live ++ rest)) w (wide x) ∙ flat_append enc live rest in
      let two : take (w * n) (drop w l) ≡ flat enc live = ap (take (w * n)) d ∙ take_at (flat enc live) (flat enc rest) (w * n) (flat_at (w * n) n live e refl) in
      let long : n ≡ length z.front = let k = ap length z.is in let j = length-append z.front (z.end ∷ []) in omega arith in
      let three : drop (w * n) l ≡ enc z.end ++ flat enc rest =
      ap (drop (w * n)) (f ∙ ap (λ (k : List A). flat enc (k ++ rest)) z.is ∙ ap (flat enc) (append_assoc z.front (z.end ∷ []) rest) ∙ flat_append enc z.front (z.end ∷ rest))
      ∙ drop_at (flat enc z.front) (flat enc (z.end ∷ rest)) (w * n) (flat_at (w * n) n z.front long refl)
      in
      rw m rw two rw q rw three (sym (flat_append enc live (z.end ∷ rest)))

module _ {s : Place} {n : ℕ} {ns ns' ns'' : List ℕ} {rs rs' rs'' : List Float} (live rest : List Place) (x : Place) (e : n ≡ length live) where
  pub pushed_up : Run ns rs (live ++ x ∷ rest) → ns' ≡ copy_within ns 0 (place_nums_wide * n) place_nums_wide → rs' ≡ copy_within rs 0 (place_reals_wide * n) place_reals_wide
      → ((x : Place) (ps : List Place) → Run ns' rs' (x ∷ ps) → Run ns'' rs'' (s ∷ ps)) → Run ns'' rs'' (s ∷ live ++ rest)
  pushed_up h p q put =
      let b = started (live ++ x ∷ rest) (let k = length-append live (x ∷ rest) in omega arith) in
      put b.head (live ++ rest) (record {
        nums_is = p ∙ chunks_up place_nums place_nums_wide (λ p. refl) live rest x n e h.nums_is b.is;
        reals_is = q ∙ chunks_up place_reals place_reals_wide (λ p. refl) live rest x n e h.reals_is b.is;
      })

  pub pulled_down : Run ns rs (x ∷ live ++ rest) → ns' ≡ copy_within ns place_nums_wide (place_nums_wide * (n + 1)) 0 → rs' ≡ copy_within rs place_reals_wide (place_reals_wide * (n + 1)) 0 → s ≡ zero_p
      → ((ps : List Place) → Run ns' rs' ps → Run ns'' rs'' (set ps n s)) → Run ns'' rs'' (live ++ zero_p ∷ rest)
  pulled_down h p q o put =
      let z = ended (x ∷ live) (omega arith) in
      let moved : Run ns' rs' (live ++ z.end ∷ rest) = record {
        nums_is = p ∙ chunks_down place_nums place_nums_wide (λ p. refl) live rest x n e h.nums_is z;
        reals_is = q ∙ chunks_down place_reals place_reals_wide (λ p. refl) live rest x n e h.reals_is z;
      } in
      subst (Run ns'' rs'') (set_at live z.end rest s n (sym e) ∙ ap (λ (y : Place). live ++ y ∷ rest) o) (put (live ++ z.end ∷ rest) moved)

-- ---- insert

-- the first i places are not later than s
pub record Passing (s : Place) (live : List Place) (i : ℕ) : Type 0 where
  pub front : List Place
  pub back : List Place
  pub is : live ≡ front ++ back
  pub many : length front ≡ i
  pub goes : insert_by s live ≡ front ++ insert_by s back

pub passing_none : (s : Place) (live : List Place) → Passing s live 0
passing_none s live = record { front = []; back = live; is = refl; many = refl; goes = refl }

module _ {s : Place} {live : List Place} {i n : ℕ} {ns : List ℕ} {rs : List Float} {first : Place} (rest : List Place) (m : Passing s live i) (e : n ≡ length live) (p : i < n) (h : Run ns rs (live ++ rest))
    (got : (ps : List Place) → Run ns rs ps → first ≡ get_or ps i zero_p) where
  later : Started m.back
  later = let k = ap length m.is in let l = length-append m.front m.back in let q = m.many in started m.back (omega arith)

  first_is : first ≡ later.head
  first_is =
      let cut : live ++ rest ≡ m.front ++ later.head ∷ (later.back ++ rest) =
      ap (λ (f : List Place). f ++ rest) (m.is ∙ ap (λ (f : List Place). m.front ++ f) later.is) ∙ append_assoc m.front (later.head ∷ later.back) rest
      in
      got (live ++ rest) h ∙ ap (λ (l : List Place). get_or l i zero_p) cut ∙ get_or_at m.front later.head (later.back ++ rest) zero_p _ m.many

  pub passing_more : le first.time s.time ≡ true → Passing s live (i + 1)
  passing_more t =
      let o = length-append m.front (later.head ∷ []) in
      let q = m.many in
      record {
        front = m.front ++ later.head ∷ [];
        back = later.back;
        is = m.is ∙ ap (λ (f : List Place). m.front ++ f) later.is ∙ over_to m.front later.head later.back;
        many = omega arith;
        goes =
            m.goes ∙ ap (λ (f : List Place). m.front ++ insert_by s f) later.is
            ∙ ap (λ (f : List Place). m.front ++ f) (insert_later s later.head later.back (subst (λ (o : Place). le o.time s.time ≡ true) first_is t))
            ∙ over_to m.front later.head (insert_by s later.back);
      }

  pub passed_here : le first.time s.time ≡ false → Passed s live i
  passed_here t = record {
    front = m.front;
    back = m.back;
    is = m.is;
    many = m.many;
    goes =
        m.goes ∙ ap (λ (f : List Place). m.front ++ insert_by s f) later.is
        ∙ ap (λ (f : List Place). m.front ++ f) (insert_first s later.head later.back (subst (λ (o : Place). le o.time s.time ≡ false) first_is t))
        ∙ ap (λ (f : List Place). m.front ++ s ∷ f) (sym later.is);
  }

pub passed_all : {s : Place} {live : List Place} {i n : ℕ} → Passing s live i → n ≡ length live → i ≡ n → Passed s live n
passed_all {s} m e p =
    let k = ap length m.is in
    let l = length-append m.front m.back in
    let q = m.many in
    let b = empty m.back (omega arith) in
    record {
      front = m.front;
      back = m.back;
      is = m.is;
      many = m.many ∙ p;
      goes = m.goes ∙ ap (λ (f : List Place). m.front ++ insert_by s f) b ∙ ap (λ (f : List Place). m.front ++ f) (insert_only s) ∙ ap (λ (f : List Place). m.front ++ s ∷ f) (sym b);
    }

pub insert_ends : {s : Place} {live : List Place} {i n : ℕ} {ns ns' : List ℕ} {rs rs' : List Float} (rest : List Place) (x : Place) → Passed s live i → n ≡ length live
    → ((live rest : List Place) (x : Place) → n - i ≡ length live → Run (mid_of (i * place_nums_wide) (length ns - i * place_nums_wide) ns) (mid_of (i * place_reals_wide) (length rs - i * place_reals_wide) rs) (live ++ x ∷ rest) → Run ns' rs' (s ∷ live ++ rest))
    → Run ns rs (live ++ x ∷ rest)
    → Run (put_mid (i * place_nums_wide) (length ns - i * place_nums_wide) ns ns') (put_mid (i * place_reals_wide) (length rs - i * place_reals_wide) rs rs') (insert_by s live ++ rest)
insert_ends {s} {live} {i} {n} {ns} {ns'} {rs} {rs'} rest x m e push h =
    let k = ap length m.is in
    let l = length-append m.front m.back in
    let q = m.many in
    let cut : live ++ x ∷ rest ≡ m.front ++ (m.back ++ x ∷ rest) = ap (λ (f : List Place). f ++ x ∷ rest) m.is ∙ append_assoc m.front m.back (x ∷ rest) in
    let h₁ : Run ns rs (m.front ++ (m.back ++ x ∷ rest)) = subst (Run ns rs) cut h in
    subst (Run (put_mid (i * place_nums_wide) (length ns - i * place_nums_wide) ns ns') (put_mid (i * place_reals_wide) (length rs - i * place_reals_wide) rs rs'))
    (sym (append_assoc m.front (s ∷ m.back) rest) ∙ ap (λ (f : List Place). f ++ rest) (sym m.goes))
    (put_behind i m.front (m.back ++ x ∷ rest) m.many h₁ (push m.back rest x (omega arith) (behind i m.front (m.back ++ x ∷ rest) m.many h₁)))

-- ---- clear

-- the places from `from` to before i are cleared
pub record Clearing (kept given rest : List Place) (from i : ℕ) (ns : List ℕ) (rs : List Float) : Type 0 where
  pub back : List Place
  pub many : i + length back ≡ length kept + length given
  pub holds : Run ns rs ((kept ++ replicate (i - from) zero_p) ++ (back ++ rest))

pub clearing_none : (kept given rest : List Place) {from : ℕ} {ns : List ℕ} {rs : List Float} → from ≡ length kept → Run ns rs (kept ++ (given ++ rest)) → Clearing kept given rest from from ns rs
clearing_none kept given rest {from} {ns} {rs} e h = record {
  back = given;
  many = ap (λ (k : ℕ). k + length given) e;
  holds =
      let z : from - from ≡ 0 = omega arith in
      subst (λ (k : ℕ). Run ns rs ((kept ++ replicate k zero_p) ++ (given ++ rest))) (sym z) (subst (λ (l : List Place). Run ns rs (l ++ (given ++ rest))) (sym (append-nil kept)) h);
}

pub clearing_more : {kept given rest : List Place} {from i n : ℕ} {ns ns' : List ℕ} {rs rs' : List Float} {z : Place} → Clearing kept given rest from i ns rs
    → from ≡ length kept → n ≡ length kept + length given → from ≤ i → i < n → z ≡ zero_p
    → ((ps : List Place) → Run ns rs ps → Run ns' rs' (set ps i z))
    → Clearing kept given rest from (i + 1) ns' rs'
clearing_more {kept} {given} {rest} {from} {i} {n} {ns} {ns'} {rs} {rs'} {z} m e d p q o put =
    let k = m.many in
    let b = started m.back (omega arith) in
    let zs = replicate (i - from) zero_p in
    let t = b.back ++ rest in
    let bk = ap length b.is in
    let fl = length-append kept zs in
    let zl = length-replicate (i - from) zero_p in
    let front : length (kept ++ zs) ≡ i = omega arith in
    let more : i - from + 1 ≡ i + 1 - from = omega arith in
    record {
      back = b.back;
      many = omega arith;
      holds =
          subst (Run ns' rs')
          (set_at (kept ++ zs) b.head t z _ front ∙ ap (λ (y : Place). (kept ++ zs) ++ y ∷ t) o ∙ over_to (kept ++ zs) zero_p t
          ∙ ap (λ (l : List Place). l ++ t) (append_assoc kept zs (zero_p ∷ []) ∙ ap (λ (l : List Place). kept ++ l) (replicate-append-replicate (i - from) 1 zero_p ∙ ap (λ (j : ℕ). replicate j zero_p) more)))
          (put ((kept ++ zs) ++ b.head ∷ t) (subst (λ (l : List Place). Run ns rs ((kept ++ zs) ++ (l ++ rest))) b.is m.holds));
    }

pub clear_ends : {kept given rest : List Place} {from i n : ℕ} {ns : List ℕ} {rs : List Float} → Clearing kept given rest from i ns rs → n ≡ length kept + length given → i ≡ n
    → Run ns rs (kept ++ (replicate (n - from) zero_p ++ rest))
clear_ends {kept} {given} {rest} {from} {i} {n} {ns} {rs} m d p =
    let k = m.many in
    let b = empty m.back (omega arith) in
    subst (λ (j : ℕ). Run ns rs (kept ++ (replicate (j - from) zero_p ++ rest))) p
    (subst (Run ns rs) (append_assoc kept (replicate (i - from) zero_p) rest) (subst (λ (l : List Place). Run ns rs ((kept ++ replicate (i - from) zero_p) ++ (l ++ rest))) b m.holds))

-- ---- keep

keep_append : (g : ℕ) (a b : List Place) → keep_by g (a ++ b) ≡ keep_by g a ++ keep_by g b
unfolding keep_by
keep_append g [] b = refl
keep_append g (x ∷ a) b = go (names (event_of x.kind x) g) (keep_append g a b)
  where
    go : (t : Bool) → keep_by g (a ++ b) ≡ keep_by g a ++ keep_by g b → cond t (keep_by g (a ++ b)) (x ∷ keep_by g (a ++ b)) ≡ cond t (keep_by g a) (x ∷ keep_by g a) ++ keep_by g b
    go true e = e
    go false e = ap (λ (l : List Place). x ∷ l) e

pub keeping_none : (g : ℕ) (live rest : List Place) {ns : List ℕ} {rs : List Float} → Run ns rs (live ++ rest) → Keeping g live rest 0 0 ns rs
unfolding keep_by
keeping_none g live rest h = record { front = []; back = live; given = []; is = refl; many = refl; kept_is = refl; given_many = refl; holds = h }

module _ {g : ℕ} {live rest : List Place} {i kept : ℕ} {ns : List ℕ} {rs : List Float} {next : Place} (m : Keeping g live rest i kept ns rs) (p : i < length live)
    (got : (ps : List Place) → Run ns rs ps → next ≡ get_or ps i zero_p) where
  ahead : Started m.back
  ahead = let k = ap length m.is in let l = length-append m.front m.back in let q = m.many in started m.back (omega arith)

  abbrev tail : List Place
  tail = ahead.back ++ rest

  holding : Run ns rs (keep_by g m.front ++ (m.given ++ ahead.head ∷ tail))
  holding = subst (λ (l : List Place). Run ns rs (keep_by g m.front ++ (m.given ++ (l ++ rest)))) ahead.is m.holds

  next_is : next ≡ ahead.head
  next_is =
      let l = length-append (keep_by g m.front) m.given in
      let k = m.kept_is in
      let d = m.given_many in
      let at : length (keep_by g m.front ++ m.given) ≡ i = omega arith in
      got (keep_by g m.front ++ (m.given ++ ahead.head ∷ tail)) holding
      ∙ ap (λ (l : List Place). get_or l i zero_p) (sym (append_assoc (keep_by g m.front) m.given (ahead.head ∷ tail)))
      ∙ get_or_at (keep_by g m.front ++ m.given) ahead.head tail zero_p _ at

  abbrev front' : List Place
  front' = m.front ++ ahead.head ∷ []

  is' : live ≡ front' ++ ahead.back
  is' = m.is ∙ ap (λ (f : List Place). m.front ++ f) ahead.is ∙ over_to m.front ahead.head ahead.back

  many' : length front' ≡ i + 1
  many' = let o = length-append m.front (ahead.head ∷ []) in let q = m.many in omega arith

  pub keeping_gone : {t : Bool} → t ≡ names (event_of next.kind next) g → t ≡ true → Keeping g live rest (i + 1) kept ns rs
  keeping_gone u v =
      let named : names (event_of ahead.head.kind ahead.head) g ≡ true = subst (λ (o : Place). names (event_of o.kind o) g ≡ true) next_is (sym u ∙ v) in
      let same : keep_by g front' ≡ keep_by g m.front =
      keep_append g m.front (ahead.head ∷ []) ∙ ap (λ (l : List Place). keep_by g m.front ++ l) ((keep_out g ahead.head [] named).0 ∙ (keep_none g).0) ∙ append-nil (keep_by g m.front)
      in
      let o = length-append m.given (ahead.head ∷ []) in
      let d = m.given_many in
      record {
        front = front';
        back = ahead.back;
        given = m.given ++ ahead.head ∷ [];
        is = is';
        many = many';
        kept_is = m.kept_is ∙ ap length (sym same);
        given_many = omega arith;
        holds =
            subst (λ (l : List Place). Run ns rs (l ++ ((m.given ++ ahead.head ∷ []) ++ tail))) (sym same)
            (subst (λ (l : List Place). Run ns rs (keep_by g m.front ++ l)) (over_to m.given ahead.head tail) holding);
      }

  pub keeping_kept : {t : Bool} {ns' : List ℕ} {rs' : List Float} → t ≡ names (event_of next.kind next) g → t ≡ false
      → ((ps : List Place) → Run ns rs ps → Run ns' rs' (set ps kept next)) → Keeping g live rest (i + 1) (kept + 1) ns' rs'
  keeping_kept {ns' = ns'} {rs'} u v put =
      let named : names (event_of ahead.head.kind ahead.head) g ≡ false = subst (λ (o : Place). names (event_of o.kind o) g ≡ false) next_is (sym u ∙ v) in
      let same : keep_by g front' ≡ keep_by g m.front ++ ahead.head ∷ [] =
      keep_append g m.front (ahead.head ∷ []) ∙ ap (λ (l : List Place). keep_by g m.front ++ l) ((keep_in g ahead.head [] named).0 ∙ ap (λ (l : List Place). ahead.head ∷ l) (keep_none g).0)
      in
      let o = length-append m.given (ahead.head ∷ []) in
      let d = m.given_many in
      let f = started (m.given ++ ahead.head ∷ []) (omega arith) in
      let k = ap length f.is in
      let c = length-append (keep_by g m.front) (ahead.head ∷ []) in
      let cs = ap length same in
      let ki = m.kept_is in
      let h : Run ns rs (keep_by g m.front ++ f.head ∷ (f.back ++ tail)) =
      subst (λ (l : List Place). Run ns rs (keep_by g m.front ++ l)) (over_to m.given ahead.head tail ∙ ap (λ (l : List Place). l ++ tail) f.is) holding
      in
      record {
        front = front';
        back = ahead.back;
        given = f.back;
        is = is';
        many = many';
        kept_is = omega arith;
        given_many = omega arith;
        holds =
            subst (Run ns' rs')
            (set_at (keep_by g m.front) f.head (f.back ++ tail) next _ (sym m.kept_is) ∙ ap (λ (y : Place). keep_by g m.front ++ y ∷ (f.back ++ tail)) next_is
            ∙ over_to (keep_by g m.front) ahead.head (f.back ++ tail) ∙ ap (λ (l : List Place). l ++ (f.back ++ tail)) (sym same))
            (put (keep_by g m.front ++ f.head ∷ (f.back ++ tail)) h);
      }

-- ---- cancel

pub cancel_ends : {g : ℕ} {live rest : List Place} {kept n : ℕ} {ns ns' : List ℕ} {rs rs' : List Float} → Keeping g live rest n kept ns rs → n ≡ length live
    → ((done given rest : List Place) → kept ≡ length done → n ≡ length done + length given → Run ns rs (done ++ (given ++ rest)) → Run ns' rs' (done ++ (replicate (n - kept) zero_p ++ rest)))
    → (kept ≡ length (keep_by g live)) × Run ns' rs' (keep_by g live ++ (replicate (gone_by g live) zero_p ++ rest))
cancel_ends {g} {live} {rest} {kept} {n} {ns} {ns'} {rs} {rs'} m e clear =
    let k = ap length m.is in
    let l = length-append m.front m.back in
    let q = m.many in
    let b = empty m.back (omega arith) in
    let same : live ≡ m.front = m.is ∙ ap (λ (f : List Place). m.front ++ f) b ∙ append-nil m.front in
    let kept_is : kept ≡ length (keep_by g live) = m.kept_is ∙ ap (λ (f : List Place). length (keep_by g f)) (sym same) in
    let holds : Run ns rs (keep_by g live ++ (m.given ++ rest)) =
    subst (λ (f : List Place). Run ns rs (keep_by g f ++ (m.given ++ rest))) (sym same)
    (subst (λ (f : List Place). Run ns rs (keep_by g m.front ++ (m.given ++ (f ++ rest)))) b m.holds)
    in
    let d = m.given_many in
    let t = length_keep g live in
    let gone : n - kept ≡ gone_by g live = omega arith in
    (kept_is, subst (λ (j : ℕ). Run ns' rs' (keep_by g live ++ (replicate j zero_p ++ rest))) gone (clear (keep_by g live) m.given rest kept_is (omega arith) holds))
