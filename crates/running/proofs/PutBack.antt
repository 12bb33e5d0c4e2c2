-- The parts behind the headers put back, the clock and the halt mark written: the tables hold the state that the run left. Assumes nothing.
use Prim.Native.Nat.{ℕ, ◌-◌}
use mathlib.Core.Path.{◌≡◌, refl, sym, ap, ◌∙◌, subst}
use mathlib.Core.Bool.{true}
use mathlib.Core.List.{List, ◌++◌}
use native.Mathlib.Omega.{arith}
use lib.ListN.{length, take, drop}
use lib.Ieee.{Float}
use lib.Seq.{length-take-le}
use borrow.Rule.Slice.PartMut.{mid_of, put_mid, mid_len}
use Rattle.std.specs.Prelude.{Result, Ok, Err, Option, MatchOption}
use Rattle.std.specs.Result.{result_err}
use Rattle.layout.specs.Widths.{lists_head_wide, grains_head_wide, order_wide}
use Rattle.model.specs.declared.Domain.{Domain}
use Rattle.model.specs.declared.Report.{Report}
use Rattle.model.specs.Sizes.{box_ok, rated}
use Rattle.model.specs.Grid.{cells}
use Rattle.model.specs.State.{State}
use Rattle.model.specs.Run.{Ran, run_from}
use Rattle.model.specs.declared.End.{End}
use Rattle.model.specs.declared.refusal.RunError.{RunError}
use Rattle.model.specs.Refusals.{run_error_number, check_number}
use Rattle.model.specs.Reports.{told}
use Rattle.cell.specs.declared.Grid.{Grid}
use Rattle.cell.specs.Cell.{grid_of}
use Rattle.tables.specs.declared.Sizes.{Sizes}
use Rattle.tables.specs.Decode.{Tables, tables, sizes_of, box_in, clock_in, decoded}
use Rattle.tables.specs.declared.lengths.Lengths.{Lengths}
use Rattle.checks.specs.Inside.{Sized}
use Rattle.tables.specs.Holds.{Holds}
use Rattle.tables.specs.Lengths.{lengths_for, lists_need, grains_need, queue_need, events_need}
use Rattle.tables.specs.Bodies.{lists_body, grains_body, queue_body, events_body, order_body}
use Rattle.checks.specs.Answered.{Answered}
use Rattle.step.specs.Placed.{Placed}
use Rattle.step.specs.declared.World.{World}
use Rattle.tables.specs.Encode.{over, lists_head, grains_head, sizes_in, with_mark, with_clock, encoded}
use Rattle.running.specs.Going.{Lent, Gone}
use Rattle.running.specs.Ran.{beside, told_tables, ran_over}
use Rattle.tables.proofs.HeadLaws.{lists_back, grains_back}
use Rattle.checks.proofs.Needs.{Ends, ends_of}
use Rattle.checks.proofs.Accepts.{checked_means, Accepted, accepted}
use Rattle.model.proofs.Stands.{standing, sound_fitted}

-- ---- what passed the checks
module _ {rate : Float} {t : Tables} (A : Answered rate t 0) where
  abbrev z : Sizes
  z = sizes_of t.lists

  whole : Accepted t
  whole = accepted rate t 0 A refl

  pub long : Sized (sizes_of t.lists) t
  long = whole.sized

  pub ends : {w : Sizes} {n : Lengths} → w ≡ sizes_of t.lists → n ≡ lengths_for w → Ends n (length t.lists) (length t.grains) (length t.queue) (length t.events)
  ends ze ne = ends_of z _ (ne ∙ ap lengths_for ze) long.lists_long long.grains_long long.queue_long long.events_long

  -- the parts by the counts and the ends as they were read
  body : {w : Sizes} {n : Lengths} → w ≡ sizes_of t.lists → n ≡ lengths_for w
      → Holds w (mid_of lists_head_wide (n.lists - lists_head_wide) t.lists) (mid_of grains_head_wide (n.grains - grains_head_wide) t.grains) (take n.queue t.queue) (take n.events t.events) (take order_wide t.order) (decoded t)
  body ze ne = rw (ne, ze) whole.hold.body

  -- with the box and the clock as they were read
  pub lent : {w : World} {n : Lengths} → w.sizes ≡ sizes_of t.lists → n ≡ lengths_for w.sizes → w.domain ≡ box_in t.lists t.grains → w.clock ≡ clock_in t.grains
      → Lent w (mid_of lists_head_wide (n.lists - lists_head_wide) t.lists) (mid_of grains_head_wide (n.grains - grains_head_wide) t.grains) (take n.queue t.queue) (take n.events t.events) (take order_wide t.order) (decoded t)
  lent ze ne be xe = record { holds = body ze ne; box = sym be; clock = sym xe; stands = standing (decoded t) whole.stands; fitted = sound_fitted (decoded t) whole.stands.sound }

  pub placed : {w : Sizes} {b : Domain} {g : Grid} → w ≡ sizes_of t.lists → b ≡ box_in t.lists t.grains → g ≡ grid_of b → Placed w b g
  placed ze be e =
      rw ze (record { laid = record { box = ap box_ok be ∙ whole.stands.sound.box; grid = e }; cells_are = ap cells be ∙ sym whole.stands.sound.heap.cells })

  pub rate_in : rated rate ≡ true
  rate_in = (checked_means rate t (sym A.is)).rate_in

-- ---- the mark, by the library's words
pub mark_is : (x : Result End RunError) (o : Option RunError) (r : ℕ) → o ≡ result_err x → MatchOption o (r ≡ 0) (λ (e : RunError). r ≡ run_error_number e) → r ≡ check_number x
mark_is (Ok a) o r e h = subst (λ (o : Option RunError). MatchOption o (r ≡ 0) (λ (e : RunError). r ≡ run_error_number e)) e h
mark_is (Err k) o r e h = subst (λ (o : Option RunError). MatchOption o (r ≡ 0) (λ (e : RunError). r ≡ run_error_number e)) e h

-- ---- a part in front put back
front_back : {A : Type 0} (l xs ys : List A) (k : ℕ) → length xs ≡ k → xs ≡ ys → xs ++ drop k l ≡ over ys l
front_back {A} l xs ys k e f = ap (λ (n : ℕ). xs ++ drop n l) (sym e) ∙ ap (λ (m : List A). over m l) f

-- THE TABLES THAT A RUN LEAVES HOLD THE STATE THAT IT LEFT
module _ {rate : Float} {t : Tables} (A : Answered rate t 0) where
  abbrev ran : ℕ → Ran
  ran budget = run_from rate budget 0 (decoded t)

  put_back : (budget : ℕ) (r : Report) {l : List ℕ} {g : List Float} {q : List ℕ} {e : List Float} {o : List ℕ} {m : ℕ} {x : Float} {l' : List ℕ} {g' : List Float}
      → length l ≡ length (lists_body (z A) t.lists) → length g ≡ length (grains_body (z A) t.grains) → length q ≡ length (queue_body (z A) t.queue) → length e ≡ length (events_body (z A) t.events) → length o ≡ length (order_body t.order)
      → l' ≡ with_mark m (put_mid lists_head_wide (lists_need (z A) - lists_head_wide) t.lists l) → g' ≡ with_clock x (put_mid grains_head_wide (grains_need (z A) - grains_head_wide) t.grains g)
      → told r (ran budget).state ≡ ran budget → Holds (z A) l g q e o (ran budget).state → (ran budget).state.box ≡ box_in t.lists t.grains → (ran budget).state.mark ≡ m → (ran budget).state.clock ≡ x
      → told_tables r (tables l' g' (q ++ drop (queue_need (z A)) t.queue) (e ++ drop (events_need (z A)) t.events) (o ++ drop order_wide t.order)) ≡ ran_over (ran budget) t
  unfolding encoded
  put_back budget r {l = l} {g = g} {q = q} {e = e} {o = o} {m = m} {x = x} {l' = l'} {g' = g'} ll lg lq le lo el eg answer holds box mark clock =
      ap (λ (u : Ran). beside u left) answer ∙ ap (beside (ran budget)) (λ i. tables (lists-is i) (grains-is i) (queue_is i) (events_is i) (order_is i))
    where
      s : State
      s = (run_from rate budget 0 (decoded t)).state

      left : Tables
      left = tables l' g' (q ++ drop (queue_need (z A)) t.queue) (e ++ drop (events_need (z A)) t.events) (o ++ drop order_wide t.order)

      sizes-are : sizes_of t.lists ≡ sizes_in s
      sizes-are = λ i. record { grains = sym holds.grained.many i; cells = sym holds.queued.heap.cells_is i; room = sym holds.queued.room_is i }

      lists-is : left.lists ≡ (encoded s t).lists
      lists-is =
          el ∙ lists_back t.lists l t.grains m (lists_need (z A) - lists_head_wide) (let h = (long A).lists_long in omega arith) (whole A).hold.flags (ll ∙ mid_len lists_head_wide (lists_need (z A)) t.lists (long A).lists_long)
          ∙ λ i. over (lists_head (sym mark i) (sizes-are i) (sym box i) ++ (holds.listed.is i)) t.lists

      grains-is : left.grains ≡ (encoded s t).grains
      grains-is =
          eg ∙ grains_back t.lists t.grains g x (grains_need (z A) - grains_head_wide) (let h = (long A).grains_long in omega arith) (lg ∙ mid_len grains_head_wide (grains_need (z A)) t.grains (long A).grains_long)
          ∙ λ i. over (grains_head (sym box i) (sym clock i) ++ (holds.grained.is i)) t.grains

      queue_is : left.queue ≡ (encoded s t).queue
      queue_is = front_back t.queue q _ (queue_need (z A)) (lq ∙ length-take-le (queue_need (z A)) t.queue (long A).queue_long) holds.queued.tables.queue_is

      events_is : left.events ≡ (encoded s t).events
      events_is = front_back t.events e _ (events_need (z A)) (le ∙ length-take-le (events_need (z A)) t.events (long A).events_long) holds.queued.tables.events_is

      order_is : left.order ≡ (encoded s t).order
      order_is = front_back t.order o _ order_wide (lo ∙ length-take-le order_wide t.order (long A).order_long) holds.queued.heap.is

  -- with the counts, the ends and the box as they were read
  pub worked : (budget : ℕ) {w : World} {n : Lengths} (r : Report) {l : List ℕ} {g : List Float} {q : List ℕ} {e : List Float} {o : List ℕ} {m : ℕ} {x : Float} {l' : List ℕ} {g' : List Float}
      → w.sizes ≡ sizes_of t.lists → n ≡ lengths_for w.sizes → w.domain ≡ box_in t.lists t.grains
      → length l ≡ length (mid_of lists_head_wide (n.lists - lists_head_wide) t.lists) → length g ≡ length (mid_of grains_head_wide (n.grains - grains_head_wide) t.grains)
      → length q ≡ length (take n.queue t.queue) → length e ≡ length (take n.events t.events) → length o ≡ length (take order_wide t.order)
      → l' ≡ with_mark m (put_mid lists_head_wide (n.lists - lists_head_wide) t.lists l) → g' ≡ with_clock x (put_mid grains_head_wide (n.grains - grains_head_wide) t.grains g) → m ≡ check_number r.end → x ≡ r.clock → Gone w l g q e o r (ran budget)
      → told_tables r (tables l' g' (q ++ drop n.queue t.queue) (e ++ drop n.events t.events) (o ++ drop order_wide t.order)) ≡ ran_over (ran budget) t
  worked budget r ze ne be ll lg lq le lo el eg em ex G =
      rw (ne, ze) (put_back budget r (rw (ne, ze) at ll) (rw (ne, ze) at lg) (rw (ne, ze) at lq) (rw (ne, ze) at le) lo (rw (ne, ze) at el) (rw (ne, ze) at eg) G.answer (rw ze at G.holds) (G.box ∙ be) (G.mark ∙ sym em) (G.clock ∙ sym ex))
