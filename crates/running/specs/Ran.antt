-- What a run answers, beside the tables that it leaves. Assumes nothing: these are definitions.
use Rattle.std.specs.Prelude.{ℕ, Float}
use Rattle.model.specs.declared.Report.{Report}
use Rattle.model.specs.Run.{How, Ran}
use Rattle.model.specs.Reports.{told}
use Rattle.tables.specs.Decode.{Tables, decoded}
use Rattle.tables.specs.Encode.{encoded}

-- how it ended, the clock, the events done, and the tables afterwards
pub record RanTables : Type 0 where
  pub how : How
  pub clock : Float
  pub count : ℕ
  pub after : Tables

-- a run's answer beside tables
abbrev pub beside : Ran → Tables → RanTables
beside r t = record { how = r.how; clock = r.clock; count = r.count; after = t }

-- what a report says, beside tables
abbrev pub told_tables : Report → Tables → RanTables
told_tables r t = beside (told r (decoded t)) t

-- what a run answers, and the state that it left over the tables found
abbrev pub ran_over : Ran → Tables → RanTables
ran_over r t = beside r (encoded r.state t)
