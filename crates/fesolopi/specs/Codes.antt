-- Enums as numbers and values, for callers in other languages. Assumes nothing: these are definitions.
use Rattle.std.specs.Prelude.{ℕ, Bool, Float}
use Rattle.myvec.specs.Vec.{vec}
use Rattle.model.specs.declared.Domain.{Domain}
use Rattle.model.specs.declared.Report.{Report}
use Rattle.model.specs.Grid.{box_of}
use Rattle.model.specs.Run.{How, synchronised, spent, refused}
use Rattle.model.specs.Reports.{how_of}
use Rattle.tables.specs.Decode.{Tables}
use Rattle.simulator.specs.Start.{StartedWith}
use Rattle.running.specs.Ran.{RanTables}

-- the box of these lengths and flags
abbrev pub boxed : Float → Float → Bool → Bool → Domain
boxed l0 l1 p0 p1 = box_of (vec l0 l1) p0 p1

-- a start's number, the grain that 4 names (0 beside every other number), and the tables afterwards
pub record StartGiven : Type 0 where
  pub number : ℕ
  pub grain : ℕ
  pub after : Tables

abbrev pub start_given : ℕ → ℕ → Tables → StartGiven
start_given r g a = record { number = r; grain = g; after = a }

abbrev pub start_given_by : StartedWith → StartGiven
start_given_by s = start_given s.number s.grain s.after

-- the number of a run that spent its budget: no refusal's
abbrev pub spent_number : ℕ
spent_number = 100

-- how a run ended: 0 synchronised, `spent_number` spent, else the number of the refusal or the halt, which is never either
abbrev pub run_number : How → ℕ
run_number synchronised = 0
run_number spent = spent_number
run_number (refused r) = r

-- a run's number, clock and events done, and the tables afterwards
pub record Ended : Type 0 where
  pub number : ℕ
  pub clock : Float
  pub count : ℕ
  pub after : Tables

abbrev pub ended : ℕ → Float → ℕ → Tables → Ended
ended r t n a = record { number = r; clock = t; count = n; after = a }

abbrev pub ended_by : RanTables → Ended
ended_by r = ended (run_number r.how) r.clock r.count r.after

-- the same of a report
abbrev pub report_number : Report → ℕ
report_number r = run_number (how_of r.end)
