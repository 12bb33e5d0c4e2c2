-- What each place of the lent tables is. Behind their headers:
--   lists   for each grain a count and its cells, then for each cell a count and its grains
--   grains  for each grain position, velocity, time, value, radius
--   queue   for each cell a count, then for each place kind, two grains, a cell
--   events  for each cell's places time, four pairs, a value
--   order   the heap's bytes, then the lookups'
-- How wide each is, is layout's to say (Widths).
-- Assumes nothing: these are definitions.
use Rattle.std.specs.Prelude.{ℕ, List, [], ◌∷◌, ◌++◌, length, Float}
use Rattle.chunks.specs.Flat.{flat}
use Rattle.scheduler.specs.declared.Scheduler.{Scheduler}
use Rattle.model.specs.declared.Particle.{Particle}
use Rattle.model.specs.declared.Place.{Place}
use Rattle.model.specs.State.{Row}

-- all places of a row: those in use, then those beyond
abbrev pub places : {A : Type 0} → Row A → List A
places r = r.live ++ r.spare

-- a grain's floats
abbrev pub grain_reals : Particle → List Float
grain_reals p = p.pos.x ∷ p.pos.y ∷ p.vel.x ∷ p.vel.y ∷ p.time ∷ p.val ∷ p.rad ∷ []

-- a row of numbers: its count, then its places
abbrev pub row_nums : Row ℕ → List ℕ
row_nums r = length r.live ∷ places r

-- the numbers and the floats of a place
abbrev pub place_nums : Place → List ℕ
place_nums s = s.kind ∷ s.p ∷ s.q ∷ s.cell ∷ []

abbrev pub place_reals : Place → List Float
place_reals s = s.time ∷ s.a.x ∷ s.a.y ∷ s.b.x ∷ s.b.y ∷ s.c.x ∷ s.c.y ∷ s.d.x ∷ s.d.y ∷ s.val ∷ []

-- a cell's row of events: its count, then its places
abbrev pub queue_nums : Row Place → List ℕ
queue_nums r = length r.live ∷ flat place_nums (places r)

abbrev pub queue_reals : Row Place → List Float
queue_reals r = flat place_reals (places r)

-- the heap and its lookups
abbrev pub order_bytes : Scheduler → List ℕ
order_bytes h = h.heap ++ h.lookups
