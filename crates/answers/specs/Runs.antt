-- The answer over the numbers that the reader holds, and a start with its two runs over the tables that the code lends. Assumes nothing: these are definitions.
use Rattle.std.specs.Prelude.{ℕ, ◌*◌, cond, List, [], ◌++◌, map, replicate, drop, Float, Result, Ok, Err}
use Rattle.std.specs.Float.{binary64}
use Rattle.std.specs.Float.Ieee.{to_bits}
use Rattle.chunks.specs.Flat.{flat}
use Rattle.order.specs.Numbers.{fzero}
use Rattle.model.specs.declared.Domain.{Domain}
use Rattle.model.specs.declared.refusal.StartError.{StartError}
use Rattle.model.specs.declared.refusal.StartError.TheVariants.{BoxOutOfRange, TooShort, BadGrain, Halted}
use Rattle.model.specs.declared.Report.{Report}
use Rattle.model.specs.Refusals.{start_error_number}
use Rattle.model.specs.Reports.{how_of}
use Rattle.model.specs.Run.{How, synchronised, spent, refused}
use Rattle.tables.specs.declared.Sizes.{Sizes}
use Rattle.tables.specs.Lengths.{lists_need, grains_need, queue_need, events_need, order_need}
use Rattle.tables.specs.Decode.{Tables, tables, grains_of, grains_part}
use Rattle.simulator.specs.Start.{Started, StartedWith, start_all}
use Rattle.running.specs.Ran.{RanTables}
use Rattle.simulator.specs.Run.{run_tables}
use Rattle.listing_text.specs.declared.writer.Answer.TheVariants as answer
use Rattle.listing_text.specs.Columns.{columns, most_kept, kept}
use Rattle.listing_text.specs.Grammar.{columns_of}
use Rattle.listing_text.specs.Rows.{rows_listing}
use Rattle.listing_text.specs.Answers.{answer_of}
use Rattle.listing_text.specs.Size.{too_large}
use Rattle.answers.specs.Answer.{float, box_from, shown_grain, room, budget}
use Rattle.answers.specs.Read.{input_from}

-- ---- how a start and its runs ended, at which clock, and how many events the last run did; a start that is not accepted is at the clock 0
abbrev pub how_ended : Result Report StartError → How
how_ended (Ok r) = how_of r.end
how_ended (Err e) = refused (start_error_number e)

abbrev pub clock_at : Result Report StartError → Float
clock_at (Ok r) = r.clock
clock_at (Err e) = fzero

abbrev pub count_done : Result Report StartError → ℕ
count_done (Ok r) = r.events
count_done (Err e) = 0

abbrev pub told_all : Result Report StartError → Tables → RanTables
told_all r t = record { how = how_ended r; clock = clock_at r; count = count_done r; after = t }

-- ---- a start's answer, of this number, as that of a run: one that is accepted stands where a run can begin, at the clock 0
abbrev pub by_answer : Started → ℕ → How
by_answer (Ok a) r = synchronised
by_answer (Err BoxOutOfRange) r = refused r
by_answer (Err TooShort) r = refused r
by_answer (Err (BadGrain g)) r = refused r
by_answer (Err (Halted h)) r = refused r

-- what the start before the runs answered: behind one that is accepted a report stands, and every other answer is handed on
abbrev pub start_before : Result Report StartError → Started
start_before (Ok r) = Ok tt
start_before (Err e) = Err e

abbrev pub started_report : StartedWith → RanTables
started_report w = record { how = by_answer w.answer w.number; clock = fzero; count = 0; after = w.after }

-- ---- a run, behind whatever synchronised
abbrev pub ran_again : How → Float → RanTables → RanTables
ran_again synchronised rate r = run_tables rate budget r.after
ran_again spent rate r = r
ran_again (refused k) rate r = r

abbrev pub go_on : Float → RanTables → RanTables
go_on rate r = ran_again r.how rate r

-- a start, and two runs behind it
unfoldable pub simulated : Domain → ℕ → Float → List Float → Tables → RanTables
simulated b n rate inputs t = go_on rate (go_on rate (started_report (start_all b n room inputs t)))

-- the tables that the code lends: for the grains that are kept, nine cells, and a cell's events
abbrev pub lent_cells : ℕ
lent_cells = 9

abbrev pub lent_sizes : Sizes
lent_sizes = record { grains = most_kept; cells = lent_cells; room = room }

unfoldable pub blank : Tables
blank =
    tables
    (replicate (lists_need lent_sizes) 0)
    (replicate (grains_need lent_sizes) fzero)
    (replicate (queue_need lent_sizes) 0)
    (replicate (events_need lent_sizes) fzero)
    (replicate order_need 0)

-- ---- what is written
abbrev pub spelt : How → Float → ℕ → List ℕ → List ℕ
spelt synchronised t n l = rows_listing (to_bits binary64 t) n l
spelt spent t n l = answer_of answer.Spent
spelt (refused r) t n l = answer_of (answer.Refused r)

-- the box that was read
abbrev pub box_read : List ℕ → Domain
box_read l = box_from (input_from l [] 0)

-- the grains' numbers in the tables afterwards, as bits, and zeros beyond
abbrev pub rows : ℕ → Tables → List ℕ
rows n t = flat columns_of (map shown_grain (grains_of n (grains_part t.grains))) ++ drop (n * columns) (replicate kept 0)

abbrev pub spelling : RanTables → ℕ → List ℕ
spelling r n = spelt r.how r.clock n (rows n r.after)

unfoldable pub served : Domain → Float → List ℕ → ℕ → List ℕ
served b rate grains n = spelling (simulated b n rate (map float grains) blank) n

unfoldable pub judged : List ℕ → List ℕ → ℕ → List ℕ
judged numbers grains n =
    let i = input_from numbers grains n in
    cond (too_large n (float i.l0) (float i.l1)) (answer_of answer.TooLarge) (served (box_from i) (float i.rate) grains n)
