-- What the code's structs hold: rows of numbers, rows of events, and the lent tables. Assumes nothing: these are definitions.
use Rattle.std.specs.Prelude.{ℕ, List}
use Rattle.model.specs.declared.Place.{Place}
use Rattle.model.specs.State.{Row}
use Rattle.tables.specs.Decode.{Tables, tables, rows_of, queues_of}
use Rattle.checks.specs.declared.rows.Rows.{Rows}
use Rattle.checks.specs.declared.places.EventRows.{EventRows}
use Rattle.checks.specs.declared.Lent.{Lent}

abbrev pub rows_in : Rows → List (Row ℕ)
rows_in r = rows_of r.room r.count r.numbers.now

abbrev pub queues_in : EventRows → List (Row Place)
queues_in q = queues_of q.room q.count q.numbers.now q.reals.now

abbrev pub tables_in : Lent → Tables
tables_in t = tables t.lists.now t.grains.now t.queue.now t.events.now t.order.now
