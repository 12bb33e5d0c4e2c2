-- A start's answer and tables, by what its tests and its calls say. Assumes nothing.
use Prim.Native.Nat.{ℕ, zero, suc, ◌*◌, ◌≤◌, ◌<◌}
use mathlib.Core.Path.{◌≡◌, refl, sym, ap, ◌∙◌}
use mathlib.Core.Bool.{Bool, true, false, ◌&&◌}
use mathlib.Core.List.{List}
use native.Mathlib.Nat.{suc-ne-zero}
use native.Mathlib.Omega.{arith}
use lib.Dec.{leb}
use lib.ListN.{length}
use lib.Ieee.{Float}
use borrow.Author.Tests.{leb-true, eq-eqb, ne_eqb}
use Rattle.std.specs.Prelude.{Ok, Err}
use Rattle.std.specs.Result.{IsErrAnd}
use Rattle.std.proofs.lemmas.Bool.Decides.{nat_tests}
use Rattle.layout.specs.Widths.{input_wide}
use Rattle.model.specs.declared.Domain.{Domain}
use Rattle.model.specs.declared.Particle.{Particle}
use Rattle.model.specs.declared.refusal.Halt.{Halt}
use Rattle.model.specs.declared.refusal.Halt.TheVariants.{NotFinite, QueueFull, ListFull, AlreadyListed, OnlyCell}
use Rattle.model.specs.declared.refusal.StartError.TheVariants.{BoxOutOfRange, TooShort, BadGrain, Halted}
use Rattle.model.specs.Refusals.{halt_number}
use Rattle.model.specs.Sizes.{box_ok, counts_ok, first_bad}
use Rattle.model.specs.Grid.{cells}
use Rattle.model.specs.Check.{Fits}
use Rattle.model.specs.Start.{Begun, refused, started_at, start, begin}
use Rattle.model.specs.Reports.{start_number, grain_named}
use Rattle.halting.proofs.Bools.{and_l, and_r}
use Rattle.cell.specs.declared.Grid.{Grid}
use Rattle.cell.specs.Cell.{grid_of}
use Rattle.tables.specs.declared.Sizes.{Sizes}
use Rattle.tables.specs.Decode.{Tables}
use Rattle.tables.specs.Lengths.{long, lists_need, grains_need, queue_need, events_need}
use Rattle.checks.proofs.Cut.{cut_long}
use Rattle.tables.specs.Inputs.{input_at, inputs_of}
use Rattle.starting.specs.Cleared.{sizes_for}
use Rattle.simulator.specs.Start.{Started, fits, with, halt_of, mark_told, started_over, start_all, StartPromise}
use Rattle.starting.specs.Begin.{Startable, Began}

-- ---- counts in range
pub record Counts (room n : ℕ) : Type 0 where
  pub grains_most : n ≤ 256
  pub room_least : 16 ≤ room
  pub room_most : room ≤ 256

pub counts_mean : (room n : ℕ) → counts_ok room n ≡ true → Counts room n
counts_mean room n e =
    let r = and_r (leb n 256) _ e in
    record { grains_most = leb-true _ _ (and_l (leb n 256) _ e); room_least = leb-true _ _ (and_l (leb 16 room) _ r); room_most = leb-true _ _ (and_r (leb 16 room) _ r) }

-- ---- what it is that checks 1 and 2 are passed
module _ (z : Sizes) (ni nl ng nq ne no : ℕ) (e : fits z ni nl ng nq ne no ≡ true) where
  counts_pass : counts_ok z.room z.grains ≡ true
  unfolding fits
  counts_pass = and_l (counts_ok z.room z.grains) _ e

  inputs_pass : leb (z.grains * input_wide) ni ≡ true
  unfolding fits
  inputs_pass = and_l (leb (z.grains * input_wide) ni) _ (and_r (counts_ok z.room z.grains) _ e)

  long_pass : long z nl ng nq ne no ≡ true
  unfolding fits
  long_pass = and_r (leb (z.grains * input_wide) ni) _ (and_r (counts_ok z.room z.grains) _ e)

  pub startable : (b : Domain) (g : Grid) → box_ok b ≡ true → g ≡ grid_of b → z.cells ≡ cells b → Startable z b g ni nl ng nq ne no
  startable b g box grid are =
      let k = counts_mean z.room z.grains counts_pass in
      let p = and_l (leb (lists_need z) nl && leb (grains_need z) ng) _ long_pass in
      let q = and_r (leb (lists_need z) nl && leb (grains_need z) ng) _ long_pass in
      let u = and_l (leb (queue_need z) nq && leb (events_need z) ne) _ q in
      record {
        laid = record { box = box; grid = grid };
        cells_are = are;
        grains_most = k.grains_most;
        room_least = k.room_least;
        room_most = k.room_most;
        inputs_long = leb-true _ _ inputs_pass;
        lists_long = leb-true _ _ (and_l (leb (lists_need z) nl) _ p);
        grains_long = leb-true _ _ (and_r (leb (lists_need z) nl) _ p);
        queue_long = leb-true _ _ (and_l (leb (queue_need z) nq) _ u);
        events_long = leb-true _ _ (and_r (leb (queue_need z) nq) _ u);
        order_long = leb-true _ _ (and_r (leb (queue_need z) nq && leb (events_need z) ne) _ q);
      }

-- the sizes by the cells that were counted
pub sized_as : (b : Domain) (n c room ni nl ng nq ne no : ℕ) {v : Bool} → c ≡ cells b → fits (record { grains = n; cells = c; room = room }) ni nl ng nq ne no ≡ v
    → fits (sizes_for b n room) ni nl ng nq ne no ≡ v
sized_as b n c room i l g q v o e f = ap (λ (k : ℕ). fits (record { grains = n; cells = k; room = room }) i l g q v o) (sym e) ∙ f

pub cells_counted : (b : Domain) (g : Grid) (c : ℕ) → g ≡ grid_of b → c ≡ g.n0 * g.n1 → c ≡ cells b
cells_counted b g c e f = f ∙ ap (λ (k : Grid). k.n0 * k.n1) e

-- ---- the model's start, by its tests
module _ (b : Domain) (room : ℕ) (gs : List Particle) (box : box_ok b ≡ true) (counts : counts_ok room (length gs) ≡ true) where
  start_bad : (first_bad b gs ≡ length gs → ⊥) → start b room gs ≡ refused 4 (first_bad b gs)
  unfolding start
  start_bad u = rw (box, counts, ne_eqb (first_bad b gs) (length gs) u)

  pub start_good : first_bad b gs ≡ length gs → start b room gs ≡ started_at (begin b room gs)
  unfolding start
  start_good u = rw (box, counts, eq-eqb (first_bad b gs) (length gs) u)

-- ---- a halt by its number
told_halt : (h : Halt) → ◌≡◌ {A = Started} (Err (Halted h)) (mark_told (halt_number h))
told_halt NotFinite = refl
told_halt QueueFull = refl
told_halt ListFull = refl
told_halt AlreadyListed = refl
told_halt OnlyCell = refl

is_halted : (r : Started) (h : Halt) → IsErrAnd r (λ e. e ≡ Halted h) → r ≡ Err (Halted h)
is_halted (Ok a) h e = absurd e
is_halted (Err x) h e = ap Err e

pub number_back : (r : ℕ) → 5 ≤ r → r ≤ 9 → halt_number (halt_of r) ≡ r
number_back r h k = grind (arith, nat_tests)

-- ---- the number of a start that was not refused is its mark, 0 or a halt's, and no grain is named
pub mark_number : (m : ℕ) → ((m ≡ 0 → ⊥) → (5 ≤ m) × (m ≤ 9)) → start_number (mark_told m) ≡ m
mark_number zero h = refl
mark_number (suc m) h = let k = h (suc-ne-zero m) in number_back (suc m) k.0 k.1

pub mark_grain : (m : ℕ) → grain_named (mark_told m) ≡ 0
mark_grain zero = refl
mark_grain (suc m) = refl

-- ---- refused by 1; by 2; by 4; accepted
module _ (b : Domain) (n room : ℕ) (inputs : List Float) (t : Tables) where
  pub start_1 : box_ok b ≡ false → with (Err BoxOutOfRange) t ≡ start_all b n room inputs t
  unfolding start_all
  start_1 e = rw e

  abbrev passed : Bool
  passed = fits (sizes_for b n room) (length inputs) (length t.lists) (length t.grains) (length t.queue) (length t.events) (length t.order)

  module _ (box : box_ok b ≡ true) where
    pub start-2 : passed ≡ false → with (Err TooShort) t ≡ start_all b n room inputs t
    unfolding start_all
    start-2 e = rw (box, e)

    module _ (e : passed ≡ true) where
      pub start_is : start_all b n room inputs t ≡ started_over (start b room (inputs_of n inputs)) t
      unfolding start_all
      start_is = rw (box, e)

      pub counts-ok : counts_ok room (length (inputs_of n inputs)) ≡ true
      counts-ok =
          ap (counts_ok room) (cut_long input_at input_wide n inputs)
          ∙ counts_pass (sizes_for b n room) (length inputs) (length t.lists) (length t.grains) (length t.queue) (length t.events) (length t.order) e

      pub start-4 : (bad : ℕ) → bad ≡ first_bad b (inputs_of n inputs) → (bad ≡ n → ⊥) → with (Err (BadGrain bad)) t ≡ start_all b n room inputs t
      start-4 bad f u =
          ap (λ (k : ℕ). with (Err (BadGrain k)) t) f
          ∙ sym (start_is ∙ ap (λ (r : Begun). started_over r t) (start_bad b room (inputs_of n inputs) box counts-ok (λ q. u (f ∙ q ∙ cut_long input_at input_wide n inputs))))

      -- not refused: by what the start's acts answered
      begun_is : (r : ℕ) (u : Tables) → first_bad b (inputs_of n inputs) ≡ n → Began (begin b room (inputs_of n inputs)) r t u
          → record { number = r; grain = 0; answer = mark_told r; after = u } ≡ start_all b n room inputs t
      begun_is r u f B =
          (λ i. record { number = B.number i; grain = 0; answer = mark_told (B.number i); after = B.left i })
          ∙ sym (start_is ∙ ap (λ (r : Begun). started_over r t) (start_good b room (inputs_of n inputs) box counts-ok (f ∙ sym (cut_long input_at input_wide n inputs))))

      pub start-halted : (r : Started) (h : Halt) (u : Tables) → first_bad b (inputs_of n inputs) ≡ n → IsErrAnd r (λ e. e ≡ Halted h) → Began (begin b room (inputs_of n inputs)) (halt_number h) t u
          → with r u ≡ start_all b n room inputs t
      start-halted r h u f e B =
          ap (λ (x : Started). with x u) (is_halted r h e)
          ∙ (λ i. record { number = halt_number h; grain = 0; answer = told_halt h i; after = u })
          ∙ begun_is (halt_number h) u f B

-- ---- what the calls behind check 2 ask, by what the calls before them answer: the box's test, the grid, its cells, and check 2
pub ready : (b : Domain) (n room : ℕ) (inputs : List Float) (t : Tables) (ok : Bool) → ok ≡ box_ok b → ok ≡ true → (g : Grid) (c : ℕ) → g ≡ grid_of b → c ≡ g.n0 * g.n1 → (long : Bool)
    → long ≡ fits (record { grains = n; cells = c; room = room }) (length inputs) (length t.lists) (length t.grains) (length t.queue) (length t.events) (length t.order) → long ≡ true
    → Startable (record { grains = n; cells = c; room = room }) b g (length inputs) (length t.lists) (length t.grains) (length t.queue) (length t.events) (length t.order)
ready b n room inputs t ok test box g c grid count long are enough = startable _ _ _ _ _ _ _ (sym are ∙ enough) b g (sym test ∙ box) grid (cells_counted b g c grid count)

-- ---- what a start promises, by what its calls answer
module _ (b : Domain) (n room : ℕ) (inputs : List Float) (t : Tables) (fine : Fits b) (ok : Bool) (test : ok ≡ box_ok b) where
  pub promise_1 : ok ≡ false → StartPromise b n room inputs t (Err BoxOutOfRange) t
  promise_1 e = record { box_fits = fine; is = start_1 b n room inputs t (sym test ∙ e) }

  module _ (box : ok ≡ true) (g : Grid) (c : ℕ) (grid : g ≡ grid_of b) (count : c ≡ g.n0 * g.n1) (long : Bool)
      (are : long ≡ fits (record { grains = n; cells = c; room = room }) (length inputs) (length t.lists) (length t.grains) (length t.queue) (length t.events) (length t.order)) where
    sized : {v : Bool} → long ≡ v → passed b n room inputs t ≡ v
    sized e = sized_as b n c room _ _ _ _ _ _ (cells_counted b g c grid count) (sym are ∙ e)

    pub promise_2 : long ≡ false → StartPromise b n room inputs t (Err TooShort) t
    promise_2 e = record { box_fits = fine; is = start-2 b n room inputs t (sym test ∙ box) (sized e) }

    module _ (enough : long ≡ true) where
      pub promise_4 : (i : ℕ) → (first_bad b (inputs_of n inputs) ≡ i) × (i < n) → StartPromise b n room inputs t (Err (BadGrain i)) t
      promise_4 i e = record { box_fits = fine; is = start-4 b n room inputs t (sym test ∙ box) (sized enough) i (sym e.0) (λ q. let l = e.1 in omega (arith, q, l)) }

      pub promise_halted : (r : Started) (h : Halt) (u : Tables) → first_bad b (inputs_of n inputs) ≡ n → IsErrAnd r (λ e. e ≡ Halted h) → Began (begin b room (inputs_of n inputs)) (halt_number h) t u
          → StartPromise b n room inputs t r u
      promise_halted r h u f e B = record { box_fits = fine; is = start-halted b n room inputs t (sym test ∙ box) (sized enough) r h u f e B }

      pub promise_accepted : (u : Tables) → first_bad b (inputs_of n inputs) ≡ n → Began (begin b room (inputs_of n inputs)) 0 t u → StartPromise b n room inputs t (Ok tt) u
      promise_accepted u f B = record { box_fits = fine; is = begun_is b n room inputs t (sym test ∙ box) (sized enough) 0 u f B }
