-- A cell's row of events in two parts of tables, and what the acts make of it. Assumes nothing: these are definitions.
use Rattle.std.specs.Prelude.{ℕ, ◌≤◌, ◌≡◌, List, ◌∷◌, ◌++◌, length, drop, replicate, Float}
use Rattle.model.specs.declared.Place.{Place}
use Rattle.model.specs.Events.{insert_by, keep_by, gone_by, zero_p}
use Rattle.model.specs.State.{Row, row}
use Rattle.tables.specs.Layout.{places, queue_nums, queue_reals}

-- an event more, those that name a grain gone, the first gone
abbrev pub placed : Place → Row Place → Row Place
placed e r = row (insert_by e r.live) (drop 1 r.spare)

abbrev pub without : ℕ → Row Place → Row Place
without g r = row (keep_by g r.live) (replicate (gone_by g r.live) zero_p ++ r.spare)

abbrev pub headless : Row Place → Row Place
headless r = row (drop 1 r.live) (zero_p ∷ r.spare)

-- its count and its places' numbers are in one part, their floats in another
pub record RowIn (nums : List ℕ) (reals : List Float) (r : Row Place) : Type 0 where
  pub nums_is : nums ≡ queue_nums r
  pub reals_is : reals ≡ queue_reals r

-- the parts hold some row of this kind
abbrev pub InParts : List ℕ → List Float → (Row Place → Type 0) → Type 0
InParts nums reals P = (r : Row Place) × RowIn nums reals r × (length (places r) ≤ 256) × P r
