-- The cells that a grain enters, span by span and row by row, and entering them in a row. Assumes nothing.
use Prim.Native.Nat.{ℕ, zero, suc, ◌+◌, ◌-◌, ◌*◌, ◌≤◌, ◌<◌}
use mathlib.Core.Path.{◌≡◌, refl, sym, ap, ◌∙◌, subst}
use mathlib.Core.List.{List, [], ◌∷◌, ◌++◌, map, append_assoc}
use native.Mathlib.Numerals.{add-one}
use native.Mathlib.Omega.{arith}
use Rattle.std.specs.Prelude.{Result}
use Rattle.std.specs.Result.{IsErrAnd}
use Rattle.halting.specs.Every.{All}
use Rattle.halting.proofs.All.{all_after}
use Rattle.halting.specs.Out.{Out, next, then, each_of}
use Rattle.model.specs.declared.Domain.{Domain}
use Rattle.model.specs.Grid.{across}
use Rattle.model.specs.FromPToC.{up_from, between, cells_at}
use Rattle.model.specs.declared.refusal.Halt.{Halt}
use Rattle.model.specs.Refusals.{halt_number, number_of}
use Rattle.model.specs.State.{State}
use Rattle.model.specs.Acts.{enter}
use Rattle.particle.specs.declared.Spans.{Spans}
use Rattle.particle.specs.Spans.{cells_in}
use Rattle.acts.proofs.InTurn.{told_halt, told_next}
use Rattle.tables.specs.declared.Sizes.{Sizes}
use Rattle.tables.specs.Holds.{Ranged}
use Rattle.acts.specs.Tell.{InLists, Lists, ListsTold}
use Rattle.starting.specs.Entries.{row_cells, grid_cells, Enters}

-- ---- the numbers from lo to below hi
pub between_none : (lo hi : ℕ) → hi ≤ lo → between lo hi ≡ []
unfolding up_from
between_none lo hi h = let e : hi - lo ≡ 0 = omega arith in rw e

pub between_step : (lo hi : ℕ) → lo < hi → between lo hi ≡ lo ∷ between (lo + 1) hi
unfolding up_from
between_step lo hi h = let e : hi - lo ≡ suc (hi - (lo + 1)) = omega arith in rw (e, ← add-one lo)

-- ---- cells of a row, and of rows
map_append : {A B : Type 0} (f : A → B) (xs ys : List A) → map f (xs ++ ys) ≡ map f xs ++ map f ys
map_append f [] ys = refl
map_append {B = B} f (x ∷ xs) ys = ap (λ (l : List B). f x ∷ l) (map_append f xs ys)

module _ (n0 : ℕ) where
  pub span_none : (j lo hi : ℕ) → hi ≤ lo → row_cells n0 (between lo hi) j ≡ []
  span_none j lo hi h = ap (λ (is : List ℕ). row_cells n0 is j) (between_none lo hi h)

  pub span_step : (j lo hi : ℕ) → lo < hi → row_cells n0 (between lo hi) j ≡ (lo + n0 * j) ∷ row_cells n0 (between (lo + 1) hi) j
  span_step j lo hi h = ap (λ (is : List ℕ). row_cells n0 is j) (between_step lo hi h)

  pub row_two : (x : Spans) (j : ℕ) → row_cells n0 (cells_in x) j ≡ row_cells n0 (between x.first.lo x.first.hi) j ++ row_cells n0 (between x.second.lo x.second.hi) j
  row_two x j = map_append (λ (i : ℕ). i + n0 * j) (between x.first.lo x.first.hi) (between x.second.lo x.second.hi)

  module _ (is : List ℕ) where
    pub rows_none : (lo hi : ℕ) → hi ≤ lo → grid_cells n0 is (between lo hi) ≡ []
    unfolding grid_cells
    rows_none lo hi h = ap (grid_cells n0 is) (between_none lo hi h)

    pub rows_step : (lo hi : ℕ) → lo < hi → grid_cells n0 is (between lo hi) ≡ row_cells n0 is lo ++ grid_cells n0 is (between (lo + 1) hi)
    unfolding grid_cells
    rows_step lo hi h = ap (grid_cells n0 is) (between_step lo hi h)

    grid-append : (js ks : List ℕ) → grid_cells n0 is (js ++ ks) ≡ grid_cells n0 is js ++ grid_cells n0 is ks
    unfolding grid_cells
    grid-append [] ks = refl
    grid-append (j ∷ js) ks = ap (λ (l : List ℕ). row_cells n0 is j ++ l) (grid-append js ks) ∙ sym (append_assoc (row_cells n0 is j) (grid_cells n0 is js) (grid_cells n0 is ks))

    pub grid-two : (y : Spans) → grid_cells n0 is (cells_in y) ≡ grid_cells n0 is (between y.first.lo y.first.hi) ++ grid_cells n0 is (between y.second.lo y.second.hi)
    grid-two y = grid-append (between y.first.lo y.first.hi) (between y.second.lo y.second.hi)

-- they are the rule's
pub rows_grid : (b : Domain) (is js : List ℕ) → cells_at b is js ≡ grid_cells (across 0 b) is js
unfolding cells_at grid_cells
rows_grid b is [] = refl
rows_grid b is (j ∷ js) = ap (λ (l : List ℕ). row_cells (across 0 b) is j ++ l) (rows_grid b is js)

-- ---- what holds of each of two lists one after the other holds of each
every_front : (P : ℕ → Type 0) (xs ys : List ℕ) → All P (xs ++ ys) → All P xs
every_front P [] ys v = tt
every_front P (x ∷ xs) ys v = (v.0, every_front P xs ys v.1)

-- ---- an act at each of two lists one after the other
module _ {S : Type 0} (act : ℕ → S → Out S) where
  then_after : (n : ℕ) (s : S) (f k : S → Out S) → then (next n s f) k ≡ next n s (λ u. then (f u) k)
  then_after zero s f k = refl
  then_after (suc n) s f k = refl

  next_ext : (n : ℕ) (s : S) (f k : S → Out S) → ((u : S) → f u ≡ k u) → next n s f ≡ next n s k
  next_ext zero s f k e = e s
  next_ext (suc n) s f k e = refl

  each_append : (xs ys : List ℕ) (s : S) → each_of act (xs ++ ys) s ≡ then (each_of act xs s) (each_of act ys)
  unfolding each_of
  each_append [] ys s = refl
  each_append (x ∷ xs) ys s =
      next_ext (act x s).num (act x s).st (each_of act (xs ++ ys)) (λ u. then (each_of act xs u) (each_of act ys)) (each_append xs ys)
      ∙ sym (then_after (act x s).num (act x s).st (each_of act xs) (each_of act ys))

-- ---- a grain enters some cells, and then others
abbrev entering : ℕ → List ℕ → State → Out State
entering g cs s = each_of (enter g) cs s

-- of the cells cs a grain has only ds left to enter, and what that then does, entering all does
pub record Left (z : Sizes) (g : ℕ) (cs ds l₀ l : List ℕ) : Type 0 where
  pub asks : Enters z l g ds
  pub goes : (l' : List ℕ) (r : ℕ) → ((s : State) → InLists z l s → ListsTold z l' r (entering g ds s)) → (s : State) → InLists z l₀ s → ListsTold z l' r (entering g cs s)

pub left_all : {z : Sizes} {g : ℕ} {cs l : List ℕ} → Enters z l g cs → Left z g cs cs l l
left_all E = record { asks = E; goes = λ l' r k. k }

module _ {z : Sizes} {g : ℕ} {cs ds l₀ l : List ℕ} (G : Left z g cs ds l₀ l) where
  pub left_none : ds ≡ [] → (s : State) → InLists z l₀ s → ListsTold z l 0 (entering g cs s)
  unfolding each_of
  left_none e = G.goes l 0 (λ s S. subst (λ (k : List ℕ). ListsTold z l 0 (entering g k s)) (sym e) (refl, S))

  -- ---- one cell, and then the others
  module _ {c : ℕ} {es : List ℕ} (e : ds ≡ c ∷ es) where
    pub one_asks : Lists z l × Ranged z × (g < z.grains) × (c < z.cells)
    one_asks = (G.asks.lists, G.asks.ranged, G.asks.known, (subst (All (λ (c : ℕ). c < z.cells)) e G.asks.below).0)

    pub one_halts : {A : Type 0} {l' : List ℕ} (r : Result A Halt) (h : Halt) → IsErrAnd r (λ (x : Halt). x ≡ h) → ((s : State) → InLists z l s → ListsTold z l' (halt_number h) (enter g c s))
        → (s : State) → InLists z l₀ s → ListsTold z l' (number_of r) (entering g cs s)
    unfolding each_of
    one_halts {l' = l'} r h b t =
        G.goes l' (number_of r) (λ s S. subst (λ (k : List ℕ). ListsTold z l' (number_of r) (entering g k s)) (sym e) (told_halt (InLists z l') (enter g c s) (each_of (enter g) es) r h b (t s S)))

    pub one_left : {l' : List ℕ} → ((s : State) → InLists z l s → ListsTold z l' 0 (enter g c s)) → Left z g cs es l₀ l'
    unfolding each_of
    one_left {l'} t = record {
      asks = record {
        lists = ((enter g c G.asks.lists.0).st, (t G.asks.lists.0 G.asks.lists.1).1);
        ranged = G.asks.ranged;
        known = G.asks.known;
        below = (subst (All (λ (c : ℕ). c < z.cells)) e G.asks.below).1;
      };
      goes = λ l'' r k. G.goes l'' r
          (λ s S. subst (λ (k : List ℕ). ListsTold z l'' r (entering g k s)) (sym e) (told_next (InLists z l') (InLists z l'') (enter g c s) (each_of (enter g) es) (t s S) (k (enter g c s).st (t s S).1)));
    }

  -- ---- some cells, and then the others
  module _ (xs es : List ℕ) (e : ds ≡ xs ++ es) where
    pub some_asks : Enters z l g xs
    some_asks = record { lists = G.asks.lists; ranged = G.asks.ranged; known = G.asks.known; below = every_front (λ (c : ℕ). c < z.cells) xs es (subst (All (λ (c : ℕ). c < z.cells)) e G.asks.below) }

    entering_is : (s : State) → entering g ds s ≡ then (entering g xs s) (each_of (enter g) es)
    entering_is s = ap (λ (k : List ℕ). entering g k s) e ∙ each_append (enter g) xs es s

    pub some_halt : {A : Type 0} {l' : List ℕ} (r : Result A Halt) (h : Halt) → IsErrAnd r (λ (x : Halt). x ≡ h) → ((s : State) → InLists z l s → ListsTold z l' (halt_number h) (entering g xs s))
        → (s : State) → InLists z l₀ s → ListsTold z l' (number_of r) (entering g cs s)
    some_halt {l' = l'} r h b t =
        G.goes l' (number_of r) (λ s S. subst (λ (o : Out State). ListsTold z l' (number_of r) o) (sym (entering_is s)) (told_halt (InLists z l') (entering g xs s) (each_of (enter g) es) r h b (t s S)))

    pub some_left : {l' : List ℕ} → ((s : State) → InLists z l s → ListsTold z l' 0 (entering g xs s)) → Left z g cs es l₀ l'
    some_left {l'} t = record {
      asks = record {
        lists = ((entering g xs G.asks.lists.0).st, (t G.asks.lists.0 G.asks.lists.1).1);
        ranged = G.asks.ranged;
        known = G.asks.known;
        below = all_after (λ (c : ℕ). c < z.cells) xs es (subst (All (λ (c : ℕ). c < z.cells)) e G.asks.below);
      };
      goes = λ l'' r k. G.goes l'' r
          (λ s S. subst (λ (o : Out State). ListsTold z l'' r o) (sym (entering_is s)) (told_next (InLists z l') (InLists z l'') (entering g xs s) (each_of (enter g) es) (t s S) (k (entering g xs s).st (t s S).1)));
    }
