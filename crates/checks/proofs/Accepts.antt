-- What the check's answer says: 0, that the tables hold a state whose facts stand. Assumes nothing.
use mathlib.Core.Path.{◌≡◌, refl, sym, ap, ◌∙◌, subst}
use Prim.Native.Nat.{ℕ, zero, suc, ◌+◌}
use native.Mathlib.Omega.{arith}
use mathlib.Core.List.{List}
use mathlib.Core.Bool.{Bool, true, false, cond}
use lib.Dec.{T, leb}
use lib.ListN.{get_or, drop}
use lib.Seq.{get_or-drop}
use lib.Ieee.{Float, nan, binary64, fits}
use borrow.Author.Tests.{le-leb}
use Rattle.layout.specs.Widths.{grain_wide, queue_wide, events_wide}
use Rattle.model.specs.declared.Place.{Place}
use Rattle.model.specs.Sizes.{rated}
use Rattle.model.specs.State.{none}
use Rattle.halting.specs.Every.{All}
use Rattle.halting.proofs.All.{all_take}
use Rattle.model.specs.Check.{halt, Fitted}
use Rattle.model.specs.Check as model
use Rattle.halting.proofs.Bools.{and_l, and_r}
use Rattle.model.proofs.Halts.{halt_range}
use Rattle.model.proofs.Sound.{Stands}
use Rattle.model.proofs.Reflect.{says_stands}
use Rattle.tables.specs.Decode.{Tables, mark, sizes_of, decoded, cut_both, grain_at, grains_part, places_of, queues_of}
use Rattle.checks.specs.Check.{sized, legible, standing, checked}
use Rattle.checks.specs.Answered.{AllFit, Floats, Answered}
use Rattle.checks.specs.Inside.{Sized}
use Rattle.checks.proofs.Cut.{cut_long}
use Rattle.checks.proofs.Hold.{Hold}
use Rattle.checks.proofs.Same.{legible_means}
use Rattle.checks.proofs.Stages.{sized_means}
use Rattle.checks.proofs.Holding.{held}

-- ---- times that are read are 64-bit floats
fits_drop : (k : ℕ) (l : List Float) → AllFit l → AllFit (drop k l)
fits_drop k l f i = subst (λ (x : Float). T (fits binary64 x)) (sym (get_or-drop k l i nan)) (f (k + i))

abbrev Timed : Place → Type 0
Timed p = T (fits binary64 p.time)

places_timed : (n : ℕ) (q : List ℕ) (e : List Float) → AllFit e → All Timed (places_of n q e)
unfolding cut_both
places_timed zero q e f = tt
places_timed (suc n) q e f = (f 0, places_timed n (drop 4 q) (drop 10 e) (fits_drop 10 e f))

queues_timed : (room n : ℕ) (q : List ℕ) (e : List Float) (c : ℕ) → AllFit e → All Timed (get_or (queues_of room n q e) c none).live
unfolding cut_both
queues_timed room zero q e c f = tt
queues_timed room (suc n) q e zero f = all_take Timed (places_of room (drop 1 q) e) (get_or q 0 0) (places_timed room (drop 1 q) e f)
queues_timed room (suc n) q e (suc c) f = queues_timed room n (drop (queue_wide room) q) (drop (events_wide room) e) c (fits_drop (events_wide room) e f)

pub fitted : (t : Tables) → Floats t → Fitted (decoded t)
fitted t f = record { clock = f.grains_fit 2; times = λ c. queues_timed (sizes_of t.lists).room (sizes_of t.lists).cells t.queue t.events c f.events_fit }

-- ---- the answer 0
pub record Passed (rate : Float) (t : Tables) : Type 0 where
  pub sizes : sized t ≡ true
  pub unmarked : halt (mark t.lists) ≡ false
  pub rate_in : rated rate ≡ true
  pub stands : standing t ≡ true

pub checked_means : (rate : Float) (t : Tables) → checked rate t ≡ 0 → Passed rate t
unfolding checked
checked_means rate t z = go (sized t) (halt (mark t.lists)) (rated rate) (standing t) refl refl refl refl z
  where
    go : (a b c d : Bool) → sized t ≡ a → halt (mark t.lists) ≡ b → rated rate ≡ c → standing t ≡ d → ◌≡◌ {A = ℕ} (cond a (cond b (mark t.lists) (cond c (cond d 0 10) 3)) 2) 0 → Passed rate t
    go true false true true a b c d z = record { sizes = a; unmarked = b; rate_in = c; stands = d }
    go true false true false a b c d z = absurd (omega arith)
    go true false false d a b c d' z = absurd (omega arith)
    go true true c d a b c' d' z = absurd (let h = (halt_range (mark t.lists) b).0 in omega (arith, h, z))
    go false b c d a b' c' d' z = absurd (omega arith)

both : (t : Tables) → standing t ≡ true → (legible t ≡ true) × (model.standing (decoded t) ≡ true)
unfolding standing
both t s = (and_l (legible t) (model.standing (decoded t)) s, and_r (legible t) (model.standing (decoded t)) s)

-- nothing refuses the run: the tables hold a state whose facts stand
pub record Accepted (t : Tables) : Type 0 where
  pub sized : Sized (sizes_of t.lists) t
  pub hold : Hold (sizes_of t.lists) t (decoded t)
  pub stands : Stands (decoded t)

-- A PASSED CHECK MEANS THAT THE TABLES HOLD A STATE WHOSE FACTS STAND
pub accepted : (rate : Float) (t : Tables) (r : ℕ) → Answered rate t r → r ≡ 0 → Accepted t
accepted rate t r A e = from (checked_means rate t (sym A.is ∙ e))
  where
    from : Passed rate t → Accepted t
    from p =
        let z = sizes_of t.lists in
        let S = sized_means t p.sizes in
        let b = both t p.stands in
        let L = legible_means z t.lists t.queue b.0 in
        let f = fitted t A.floats in
        let F = (says_stands (decoded t) f).means b.1 in
        record { sized = S; hold = record { sizes = refl; mark_is = refl; flags = L.flags; box_is = refl; clock_is = refl; body = held z t S L F }; stands = F }

-- tables that pass check 2 pass it as a state
pub sized_model : (t : Tables) → sized t ≡ true → model.sized (decoded t) ≡ true
sized_model t e =
    let z = sizes_of t.lists in
    let S = sized_means t e in
    rw (
      ap (λ (n : ℕ). leb n 256) (cut_long grain_at grain_wide z.grains (grains_part t.grains)) ∙ le-leb z.grains 256 S.grains_most,
      le-leb 16 z.room S.room_least,
      le-leb z.room 256 S.room_most,
      le-leb 9 z.cells S.cells_least,
      le-leb z.cells 256 S.cells_most,
    )
