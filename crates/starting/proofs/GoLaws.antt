-- A grain goes in: its numbers stored, then its cells entered; and the cells that its two pairs of spans stand for. Assumes nothing.
use Prim.Native.Nat.{ℕ, ◌+◌, ◌-◌, ◌≤◌, ◌<◌}
use native.Mathlib.Omega.{arith}
use mathlib.Core.Path.{◌≡◌, refl, sym, ap, ◌∙◌, subst}
use mathlib.Core.Bool.{true, ◌||◌}
use mathlib.Core.List.{List, [], ◌∷◌}
use lib.Dec.{eqb}
use lib.ListN.{get_or}
use lib.Ieee.{Float}
use borrow.Author.Tests.{eq-eqb}
use Rattle.std.specs.Prelude.{Result}
use Rattle.std.specs.Result.{IsErrAnd}
use Rattle.halting.specs.Every.{All}
use Rattle.halting.specs.Out.{Out, then, each, each_of}
use Rattle.model.specs.declared.Domain.{Domain}
use Rattle.model.specs.declared.Particle.{Particle}
use Rattle.model.specs.Grid.{length_of, across, cells}
use Rattle.model.specs.Stepping.{at_zero}
use Rattle.model.specs.FromPToC.{cells_of_grain}
use Rattle.model.specs.declared.refusal.Halt.{Halt}
use Rattle.model.specs.Refusals.{halt_number, number_of}
use Rattle.model.specs.State.{State, zero_g, has}
use Rattle.model.specs.Acts.{store, enter}
use Rattle.model.specs.Doing.{goes_in}
use Rattle.model.proofs.Grid.{Under, across_max, cells_under}
use Rattle.cell.specs.declared.Grid.{Grid}
use Rattle.cell.specs.Cell.{grid_of}
use Rattle.particle.specs.declared.Spans.{Spans}
use Rattle.particle.specs.Spans.{cells_in, spans_of}
use Rattle.particle.proofs.Laws.{grain_list}
use Rattle.tables.specs.Inputs.{inputs_of}
use Rattle.step.specs.declared.World.{World}
use Rattle.acts.specs.Tell.{InLists, InGrains, ListsTold, GrainsTold}
use Rattle.acts.proofs.InTurn.{told_halt, told_next, each-end, each-halt, each-next}
use Rattle.acts.proofs.StoreLaws.{all_told}
use Rattle.acts.proofs.Touch.{OnlyLists, store_only, enter_only, grains_along, lists_along, lists_none, lists_both, touch_of}
use Rattle.starting.specs.Entries.{grid_cells, Enters}
use Rattle.starting.specs.Grains.{InBoth, BothTold, Going}
use Rattle.starting.proofs.EntryLaws.{rows_grid}

-- ---- the cells
pub cells_are : (b : Domain) (g : Grid) (p : Particle) (x y : Spans) → g ≡ grid_of b
    → x ≡ spans_of (length_of 0 b) g.n0 p.rad p.pos.x → y ≡ spans_of (length_of 1 b) g.n1 p.rad p.pos.y → grid_cells g.n0 (cells_in x) (cells_in y) ≡ cells_of_grain b p
cells_are b g p x y e h k =
    (λ i. grid_cells g.n0 (cells_in (h i)) (cells_in (k i)))
    ∙ (λ i. grid_cells (e i).n0 (cells_in (spans_of (length_of 0 b) (e i).n0 p.rad p.pos.x)) (cells_in (spans_of (length_of 1 b) (e i).n1 p.rad p.pos.y)))
    ∙ sym (rows_grid b (cells_in (spans_of (length_of 0 b) (across 0 b) p.rad p.pos.x)) (cells_in (spans_of (length_of 1 b) (across 1 b) p.rad p.pos.y)))
    ∙ grain_list b p

under_every : (n : ℕ) (l : List ℕ) → Under n l → All (λ (c : ℕ). c < n) l
unfolding has
under_every n [] u = tt
under_every n (x ∷ l) u = (u x (first x), under_every n l (λ y h. u y (later y h)))
  where
    first : (x : ℕ) → (eqb x x || has x l) ≡ true
    first x = rw (eq-eqb x x refl)

    later : (y : ℕ) → has y l ≡ true → (eqb y x || has y l) ≡ true
    later y h = rw h (or_yes (eqb y x))
      where
        or_yes : (a : mathlib.Core.Bool.Bool) → (a || true) ≡ true
        or_yes mathlib.Core.Bool.true = refl
        or_yes mathlib.Core.Bool.false = refl

module _ {w : World} {inputs : List Float} {l : List ℕ} {t : List Float} (G : Going w inputs l t) where
  pub enters_all : (i : ℕ) (p : Particle) (x y : Spans) → i < w.sizes.grains
      → x ≡ spans_of (length_of 0 w.domain) w.grid.n0 p.rad p.pos.x → y ≡ spans_of (length_of 1 w.domain) w.grid.n1 p.rad p.pos.y → Enters w.sizes l i (grid_cells w.grid.n0 (cells_in x) (cells_in y))
  enters_all i p x y h j k = record {
    lists = (G.held.0, G.held.1.lists);
    ranged = G.ranged;
    known = h;
    below = subst (λ (n : ℕ). All (λ (c : ℕ). c < n) (grid_cells w.grid.n0 (cells_in x) (cells_in y))) w.placed.cells_are
        (subst (All (λ (c : ℕ). c < cells w.domain)) (sym (cells_are w.domain w.grid p x y w.placed.laid.grid j k))
        (under_every (cells w.domain) (cells_of_grain w.domain p) (cells_under w.domain p w.placed.laid.box)));
  }

pub grid_few : (w : World) → (w.grid.n0 ≤ 16) × (w.grid.n1 ≤ 16)
grid_few w = subst (λ (k : Grid). (k.n0 ≤ 16) × (k.n1 ≤ 16)) (sym w.placed.laid.grid) (across_max w.domain w.placed.laid.box)

-- ---- the grain's numbers stored, refused or done, and its cells entered
module _ (gs : List Particle) (i : ℕ) (p : Particle) where
  goes_is : p ≡ get_or gs i zero_g → at_zero p ≡ p → (s : State) → goes_in gs i s ≡ then (store i p s) (λ u. each_of (enter i) (cells_of_grain u.box p) u)
  unfolding goes_in
  goes_is e timed s =
      ap (λ (q : Particle). then (store i (at_zero q) s) (λ u. each_of (enter i) (cells_of_grain u.box q) u)) (sym e)
      ∙ ap (λ (q : Particle). then (store i q s) (λ u. each_of (enter i) (cells_of_grain u.box p) u)) timed

  stored : {w : World} {l : List ℕ} {t t' : List Float} {r : ℕ} → ((s : State) → InGrains w.sizes t s → GrainsTold w.sizes t' r (store i p s)) → (s : State) → InBoth w l t s → BothTold w l t' r (store i p s)
  stored {w} {l} f s S =
      let told = f s S.grains in
      let u = (store i p s).st in (
        told.0,
        record {
          lists = grains_along (InLists w.sizes l) s u (store_only i p s) S.lists;
          grains = told.1;
          box = grains_along (λ (v : State). v.box ≡ w.domain) s u (store_only i p s) S.box;
        },
      )

  entered : {w : World} {l l' : List ℕ} {t' : List Float} {r : ℕ} (cs : List ℕ) → cs ≡ cells_of_grain w.domain p → ((s : State) → InLists w.sizes l s → ListsTold w.sizes l' r (each_of (enter i) cs s))
      → (u : State) → InBoth w l t' u → BothTold w l' t' r (each_of (enter i) (cells_of_grain u.box p) u)
  entered {w} {l' = l'} {t' = t'} {r = r} cs c f u U =
      let told = f u U.lists in
      let v = (each_of (enter i) cs u).st in
      let o : OnlyLists u v = touch_of OnlyLists lists_none lists_both (enter i) (λ c y. enter_only i c y) cs u in
      subst (λ (k : List ℕ). BothTold w l' t' r (each_of (enter i) k u)) (c ∙ ap (λ (d : Domain). cells_of_grain d p) (sym U.box)) (
        told.0,
        record {
          lists = told.1;
          grains = lists_along (InGrains w.sizes t') u v o U.grains;
          box = lists_along (λ (y : State). y.box ≡ w.domain) u v o U.box;
        },
      )

  module _ {w : World} {l : List ℕ} {t t' : List Float} (e : p ≡ get_or gs i zero_g) (timed : at_zero p ≡ p) where
    pub goes-halt : {A : Type 0} (r : Result A Halt) (h : Halt) → IsErrAnd r (λ (x : Halt). x ≡ h) → ((s : State) → InGrains w.sizes t s → GrainsTold w.sizes t' (halt_number h) (store i p s))
        → (s : State) → InBoth w l t s → BothTold w l t' (number_of r) (goes_in gs i s)
    goes-halt r h b f s S =
        subst (λ (o : Out State). BothTold w l t' (number_of r) o) (sym (goes_is e timed s))
        (told_halt (InBoth w l t') (store i p s) (λ u. each_of (enter i) (cells_of_grain u.box p) u) r h b (stored f s S))

    pub goes_on : {l' : List ℕ} {r' : ℕ} (cs : List ℕ) → cs ≡ cells_of_grain w.domain p → ((s : State) → InGrains w.sizes t s → GrainsTold w.sizes t' 0 (store i p s))
        → ((s : State) → InLists w.sizes l s → ListsTold w.sizes l' r' (each_of (enter i) cs s)) → (s : State) → InBoth w l t s → BothTold w l' t' r' (goes_in gs i s)
    goes_on {l'} {r' = r'} cs c f k s S =
        subst (λ (o : Out State). BothTold w l' t' r' o) (sym (goes_is e timed s))
        (told_next (InBoth w l t') (InBoth w l' t') (store i p s) (λ u. each_of (enter i) (cells_of_grain u.box p) u) (stored f s S) (entered cs c k (store i p s).st (stored f s S).1))

-- ---- the grains from i on, of n: the tables serve, and what the others then do, all do
module _ (w : World) (inputs : List Float) where
  abbrev going : ℕ → State → Out State
  going = goes_in (inputs_of w.sizes.grains inputs)

  pub record LeftIn (i : ℕ) (l₀ : List ℕ) (t₀ : List Float) (l : List ℕ) (t : List Float) : Type 0 where
    pub asks : Going w inputs l t
    pub goes : (l' : List ℕ) (t' : List Float) (r : ℕ) → ((s : State) → InBoth w l t s → BothTold w l' t' r (each going (w.sizes.grains - i) i s))
        → (s : State) → InBoth w l₀ t₀ s → BothTold w l' t' r (each going w.sizes.grains 0 s)

  pub all_left : {l : List ℕ} {t : List Float} → Going w inputs l t → LeftIn 0 l t l t
  all_left G = record { asks = G; goes = λ l' t' r k s S. all_told (InBoth w l' t') going s refl (k s S) }

  module _ {i : ℕ} {l₀ l : List ℕ} {t₀ t : List Float} (G : LeftIn i l₀ t₀ l t) where
    pub none_left : w.sizes.grains ≤ i → i ≤ w.sizes.grains → (s : State) → InBoth w l₀ t₀ s → BothTold w l t 0 (each going w.sizes.grains 0 s)
    none_left a b = G.goes l t 0 (λ s S. each-end going s (InBoth w l t) w.sizes.grains i (omega arith) S)

    pub next_halts : {A : Type 0} {l' : List ℕ} {t' : List Float} (r : Result A Halt) (h : Halt) → i < w.sizes.grains → IsErrAnd r (λ (x : Halt). x ≡ h)
        → ((s : State) → InBoth w l t s → BothTold w l' t' (halt_number h) (going i s)) → (s : State) → InBoth w l₀ t₀ s → BothTold w l' t' (number_of r) (each going w.sizes.grains 0 s)
    next_halts {l' = l'} {t' = t'} r h b e f = G.goes l' t' (number_of r) (λ s S. each-halt going s (InBoth w l' t') w.sizes.grains i r h b e (f s S))

    pub next_left : {l' : List ℕ} {t' : List Float} → i < w.sizes.grains → ((s : State) → InBoth w l t s → BothTold w l' t' 0 (going i s)) → LeftIn (i + 1) l₀ t₀ l' t'
    next_left {l'} {t'} b f = record {
      asks = record { held = ((going i G.asks.held.0).st, (f G.asks.held.0 G.asks.held.1).1); ranged = G.asks.ranged; inputs_long = G.asks.inputs_long };
      goes = λ l'' t'' r k. G.goes l'' t'' r (λ s S. each-next going s (InBoth w l' t') (InBoth w l'' t'') w.sizes.grains i b (f s S) (k (going i s).st (f s S).1));
    }
