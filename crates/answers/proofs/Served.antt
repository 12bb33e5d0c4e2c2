-- What is answered over the tables is the model's answer: the tables are long enough, since a box that is not too large has nine cells, and every run over
-- them is the model's. Assumes nothing.
use Prim.Native.Nat.{ℕ, zero, suc, ◌*◌, ◌≤◌}
use mathlib.Core.Path.{◌≡◌, refl, sym, ap, ◌∙◌, subst}
use mathlib.Core.List.{List, [], ◌++◌, map}
use mathlib.Core.Bool.{Bool, true, false, cond, ◌||◌}
use native.Mathlib.Omega.{arith}
use lib.Dec.{T, eqb, ltb}
use Rattle.std.specs.Prelude.{Err}
use lib.ListN.{length, get_or, drop, replicate, length-map}
use lib.Ieee.{Float, binary64, to_bits}
use lib.Ieee.Bits.{of_bits-fits}
use borrow.Author.Tests.{le-leb, le-ltb, ltb-false}
use Rattle.chunks.specs.Flat.{flat}
use Rattle.model.specs.declared.Domain.{Domain}
use Rattle.model.specs.declared.Particle.{Particle}
use Rattle.model.specs.declared.refusal.StartError.TheVariants.{BoxOutOfRange, TooShort, BadGrain}
use Rattle.model.specs.Grid.{length_of, cells}
use Rattle.model.specs.Sizes.{box_ok}
use Rattle.model.specs.State.{State}
use Rattle.model.specs.Start.{Begun, refused, started, start}
use Rattle.model.specs.Run.{How, synchronised, spent, refused as refused_by, Ran}
use Rattle.model.specs.Check.{Fits, run_all}
use Rattle.model.specs.Reached.{after}
use Rattle.model.proofs.Reached.{Well, run_all_well, reached_well}
use Rattle.layout.specs.Widths.{input_wide}
use Rattle.tables.specs.declared.Sizes.{Sizes}
use Rattle.tables.specs.Decode.{Tables, grains_of, grains_part}
use Rattle.tables.specs.Lengths.{lists_need, grains_need, queue_need, events_need}
use Rattle.tables.specs.Inputs.{inputs_of}
use Rattle.tables.specs.Encode.{sizes_in, encoded}
use Rattle.starting.specs.Cleared.{sizes_for, cleared}
use Rattle.simulator.specs.Start.{fits, StartedWith, with, started_over, start_all}
use Rattle.simulator.specs.Start as simulator
use Rattle.running.specs.Ran.{RanTables}
use Rattle.simulator.specs.Run.{run_tables}
use Rattle.simulator.proofs.Kept.{all_kept}
use Rattle.simulator.proofs.Encoded.{Long, decoded-encoded}
use Rattle.simulator.proofs.Ran.{sizes_same, run_over}
use Rattle.simulator.proofs.Landed.{start_kept}
use Rattle.listing_text.specs.declared.writer.Answer.TheVariants.{Malformed, TooLarge}
use Rattle.listing_text.specs.declared.reader.Reader.{Reader}
use Rattle.listing_text.specs.Columns.{columns, most_kept, kept as kept_numbers}
use Rattle.listing_text.specs.Grammar.{columns_of}
use Rattle.listing_text.specs.Rows.{grains_from}
use Rattle.listing_text.specs.Reading.{closed_of, fine_of}
use Rattle.listing_text.specs.Answers.{listing_of, answer_of}
use Rattle.listing_text.specs.Size.{long_length, too_large}
use Rattle.answers.specs.Answer.{float, shown_grain, grain_from, room, budget, by_how, listing, to_next, unless_halted, after_start, answer_to}
use Rattle.answers.specs.Read.{input_from, input_of, answered}
use Rattle.answers.specs.Runs.{started_report, go_on, simulated, lent_cells, lent_sizes, blank, spelt, box_read, rows, spelling, served, judged}
use Rattle.answers.proofs.RowLaws.{inputs_are, shown_back}
use Rattle.answers.proofs.NineCells.{nine_cells}

abbrev ground : Tables
ground = cleared blank

-- ---- the tables are long enough
module _ (b : Domain) (n : ℕ) (few : n ≤ most_kept) (nine : cells b ≡ lent_cells) where
  lists_enough : lists_need (sizes_for b n room) ≤ lists_need lent_sizes
  lists_enough = omega (arith, few, nine)

  grains_enough : grains_need (sizes_for b n room) ≤ grains_need lent_sizes
  grains_enough = omega (arith, few)

  queue_enough : queue_need (sizes_for b n room) ≤ queue_need lent_sizes
  queue_enough = omega (arith, nine)

  events_enough : events_need (sizes_for b n room) ≤ events_need lent_sizes
  events_enough = omega (arith, nine)

  long_ground : Long (sizes_for b n room) ground
  unfolding blank
  long_ground = record {
    lists = lists_enough;
    grains = grains_enough;
    queue = queue_enough;
    events = events_enough;
    order = omega arith;
  }

  fits_blank : (inputs : List Float) → n * input_wide ≤ length inputs
      → fits (sizes_for b n room) (length inputs) (length blank.lists) (length blank.grains) (length blank.queue) (length blank.events) (length blank.order) ≡ true
  unfolding fits blank
  fits_blank inputs h =
      rw (
        le-leb n 256 (omega (arith, few)),
        le-leb (n * input_wide) (length inputs) h,
        le-leb (lists_need (sizes_for b n room)) (lists_need lent_sizes) lists_enough,
        le-leb (grains_need (sizes_for b n room)) (grains_need lent_sizes) grains_enough,
        le-leb (queue_need (sizes_for b n room)) (queue_need lent_sizes) queue_enough,
        le-leb (events_need (sizes_for b n room)) (events_need lent_sizes) events_enough,
      )

-- ---- two runs behind a start
module _ (b : Domain) (F : Fits b) (n : ℕ) (few : n ≤ most_kept) (nine : cells b ≡ lent_cells) (inputs : List Float) (rate : Float) (s : State) (e : start b room (inputs_of n inputs) ≡ started s) where
  well : Well s
  well = reached_well s (record { box = b; fits = F; room = room; grains = inputs_of n inputs; begun = s; accepted = e; calls = []; there = unfold after in refl })

  kept : (s.box ≡ b) × (s.room ≡ room) × (length s.grains ≡ n)
  kept = start_kept b room n inputs s e

  long_s : Long (sizes_in s) ground
  long_s =
      let z : sizes_for b n room ≡ sizes_in s = λ i. record { grains = sym kept.2 i; cells = sym (well.sound.heap.cells ∙ ap cells kept.0) i; room = sym kept.1 i } in
      subst (λ (y : Sizes). Long y ground) z (long_ground b n few nine)

  abbrev first : Ran
  first = run_all rate budget s

  abbrev u : State
  u = (run_all rate budget s).state

  abbrev second : Ran
  second = run_all rate budget u

  abbrev v : State
  v = (run_all rate budget u).state

  well_u : Well u
  well_u = run_all_well rate budget s well

  well_v : Well v
  well_v = run_all_well rate budget u well_u

  sizes_u : sizes_in u ≡ sizes_in s
  sizes_u = sizes_same s u well.sound well_u.sound (all_kept rate budget s)

  sizes_v : sizes_in v ≡ sizes_in s
  sizes_v = sizes_same u v well_u.sound well_v.sound (all_kept rate budget u) ∙ sizes_u

  long_u : Long (sizes_in u) ground
  long_u = subst (λ (y : Sizes). Long y ground) (sym sizes_u) long_s

  long_v : Long (sizes_in v) ground
  long_v = subst (λ (y : Sizes). Long y ground) (sym sizes_v) long_s

  many : length v.grains ≡ n
  many = ap (λ (y : Sizes). y.grains) sizes_v ∙ kept.2

  count_read_lem : get_or (encoded v ground).lists 1 0 ≡ length v.grains
  unfolding encoded
  count_read_lem = refl

  -- the grains in the tables are those of the state
  grains_read : grains_of n (grains_part (encoded v ground).grains) ≡ v.grains
  grains_read = ap (λ (k : ℕ). grains_of k (grains_part (encoded v ground).grains)) (sym (count_read_lem ∙ many)) ∙ ap (λ (x : State). x.grains) (decoded-encoded v well_v.sound ground long_v)

  shown_read : grains_from (rows n (encoded v ground)) 0 n ≡ map shown_grain v.grains
  shown_read =
      ap (λ (ps : List Particle). grains_from (flat columns_of (map shown_grain ps) ++ drop (n * columns) (replicate {A = ℕ} kept_numbers 0)) 0 n) grains_read
      ∙ shown_back (map shown_grain v.grains) n (length-map v.grains shown_grain ∙ many) few

  listing_is : (h : How) → spelt h second.clock n (rows n (encoded v ground)) ≡ by_how h (listing_of (to_bits binary64 second.clock) (map shown_grain v.grains))
  listing_is synchronised = ap (λ (x : Bool). cond x [] (listing_of (to_bits binary64 second.clock) (grains_from (rows n (encoded v ground)) 0 n))) (le-ltb most_kept n few) ∙ ap (listing_of (to_bits binary64 second.clock)) shown_read
  listing_is spent = refl
  listing_is (refused_by r) = refl

  next_is : (h : How) (t : Float) (k : ℕ) → spelling (go_on rate (record { how = h; clock = t; count = k; after = encoded u ground })) n ≡ by_how h (listing second)
  next_is synchronised t k = ap (λ (x : RanTables). spelling x n) (run_over u ground well_u.sound long_u rate budget) ∙ listing_is second.how
  next_is spent t k = refl
  next_is (refused_by r) t k = refl

  runs_are : spelling (go_on rate (run_tables rate budget (encoded s ground))) n ≡ to_next rate first
  runs_are = ap (λ (x : RanTables). spelling (go_on rate x) n) (run_over s ground well.sound long_s rate budget) ∙ next_is first.how first.clock first.count

-- ---- a start
module _ (b : Domain) (F : Fits b) (n : ℕ) (few : n ≤ most_kept) (inputs : List Float) (rate : Float) where
  abbrev both_runs : StartedWith → RanTables
  both_runs w = go_on rate (go_on rate (started_report w))

  begun_is : cells b ≡ lent_cells → (x : Begun) → start b room (inputs_of n inputs) ≡ x → spelling (both_runs (started_over x blank)) n ≡ after_start rate x
  begun_is nine (refused r g) e = by (eqb r 4) (eqb r 1)
    where
      by : (y z : Bool) → spelling (both_runs (record { number = r; grain = g; answer = Err (cond y (BadGrain g) (cond z BoxOutOfRange TooShort)); after = blank })) n ≡ after_start rate (refused r g)
      by true z = refl
      by false true = refl
      by false false = refl
  begun_is nine (started s) e = by s.mark
    where
      by : (m : ℕ) → spelling (both_runs (record { number = m; grain = 0; answer = simulator.mark_told m; after = encoded s ground })) n ≡ unless_halted m (to_next rate (run_all rate budget s))
      by zero = runs_are b F n few nine inputs rate s e
      by (suc r) = refl

  open_start : box_ok b ≡ true → cells b ≡ lent_cells → n * input_wide ≤ length inputs → start_all b n room inputs blank ≡ started_over (start b room (inputs_of n inputs)) blank
  unfolding start_all
  open_start h nine k = rw (h, fits_blank b n few nine inputs k)

  shut_tables : box_ok b ≡ false → start_all b n room inputs blank ≡ with (simulator.by_number 1 0) blank
  unfolding start_all
  shut_tables h = rw h

  shut_start : box_ok b ≡ false → start b room (inputs_of n inputs) ≡ refused 1 0
  unfolding start
  shut_start h = rw h

  served_is : n * input_wide ≤ length inputs → long_length (length_of 0 b) ≡ false → long_length (length_of 1 b) ≡ false → spelling (simulated b n rate inputs blank) n ≡ after_start rate (start b room (inputs_of n inputs))
  unfolding simulated
  served_is k p q = by (box_ok b) refl
    where
      by : (x : Bool) → box_ok b ≡ x → spelling (both_runs (start_all b n room inputs blank)) n ≡ after_start rate (start b room (inputs_of n inputs))
      by true h = let nine = nine_cells b F.first F.second h p q in ap (λ (w : StartedWith). spelling (both_runs w) n) (open_start h nine k) ∙ begun_is nine (start b room (inputs_of n inputs)) refl
      by false h = ap (λ (w : StartedWith). spelling (both_runs w) n) (shut_tables h) ∙ sym (ap (after_start rate) (shut_start h))

-- ---- the numbers that were read
pub counted : (k i : ℕ) (l : List ℕ) → length (grains_from l i k) ≡ k
counted zero i l = refl
counted (suc k) i l = ap suc (counted k (suc i) l)

split : (x y z : Bool) → (x || (y || z)) ≡ false → (x ≡ false) × (y ≡ false) × (z ≡ false)
split false false false h = (refl, refl, refl)
split false false true h = absurd (subst T h tt)
split false true z h = absurd (subst T h tt)
split true y z h = absurd (subst T h tt)

module _ (numbers grains : List ℕ) (n : ℕ) (long : length grains ≡ kept_numbers) where
  abbrev rate : Float
  rate = float (get_or numbers 4 0)

  box_fits : Fits (box_read numbers)
  box_fits = record { first = of_bits-fits binary64 (get_or numbers 0 0); second = of_bits-fits binary64 (get_or numbers 1 0) }

  small_is : ltb most_kept n ≡ false → long_length (float (get_or numbers 0 0)) ≡ false → long_length (float (get_or numbers 1 0)) ≡ false → served (box_read numbers) rate grains n ≡ after_start rate (start (box_read numbers) room (map grain_from (grains_from grains 0 n)))
  unfolding served
  small_is h p q =
      let few = ltb-false most_kept n h in
      let k : n * input_wide ≤ length (map float grains) = let m = length-map grains float in omega (arith, m, long, few) in
      served_is (box_read numbers) box_fits n few (map float grains) rate k p q ∙ ap (λ (gs : List Particle). after_start rate (start (box_read numbers) room gs)) (inputs_are n grains (omega (arith, long, few)))

  pub judged_is : judged numbers grains n ≡ answer_to (input_from numbers grains n)
  unfolding judged answer_to
  judged_is =
      by (too_large n (float (get_or numbers 0 0)) (float (get_or numbers 1 0))) refl
      ∙ ap (λ (k : ℕ). cond (too_large k (float (get_or numbers 0 0)) (float (get_or numbers 1 0))) (answer_of TooLarge) (after_start rate (start (box_read numbers) room (map grain_from (grains_from grains 0 n)))))
      (sym (counted n 0 grains))
    where
      by : (x : Bool) → too_large n (float (get_or numbers 0 0)) (float (get_or numbers 1 0)) ≡ x
          → cond (too_large n (float (get_or numbers 0 0)) (float (get_or numbers 1 0))) (answer_of TooLarge) (served (box_read numbers) rate grains n)
          ≡ cond (too_large n (float (get_or numbers 0 0)) (float (get_or numbers 1 0))) (answer_of TooLarge) (after_start rate (start (box_read numbers) room (map grain_from (grains_from grains 0 n))))
      by true e = rw e
      by false e = let k = split (ltb most_kept n) (long_length (float (get_or numbers 0 0))) (long_length (float (get_or numbers 1 0))) e in rw e (small_is k.0 k.1 k.2)

-- ---- the whole answer
pub fine_is : (r w : Reader) (x : Bool) → w ≡ closed_of r → x ≡ fine_of w → x ≡ true → length w.grains ≡ kept_numbers → judged w.text.numbers w.grains w.text.n ≡ answered r
unfolding answered
fine_is r w x e f h k =
    judged_is w.text.numbers w.grains w.text.n k
    ∙ sym (ap (λ (y : Bool). cond y (answer_to (input_of (closed_of r))) (answer_of Malformed)) (sym (ap fine_of e) ∙ sym f ∙ h) ∙ ap (λ (y : Reader). answer_to (input_of y)) (sym e))

pub malformed_is : (r w : Reader) (x : Bool) → w ≡ closed_of r → x ≡ fine_of w → x ≡ false → answer_of Malformed ≡ answered r
unfolding answered
malformed_is r w x e f h = sym (ap (λ (y : Bool). cond y (answer_to (input_of (closed_of r))) (answer_of Malformed)) (sym (ap fine_of e) ∙ sym f ∙ h))
