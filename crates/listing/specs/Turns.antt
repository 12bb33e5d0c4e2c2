-- What reads make of a reader, and what becomes of the answer. Assumes nothing: these are definitions.
use Rattle.std.specs.Prelude.{ℕ, ◌≡◌, Bool, true, false, List}
use Rattle.pipes.specs.Reads.{Read, Reads, bytes_of, by_end, over_of}
use Rattle.pipes.specs.Writes.{HandedOut}
use Rattle.listing_text.specs.declared.reader.Reader.{Reader}
use Rattle.listing_text.specs.Reading.{feed_all}
use Rattle.answers.specs.Answer.{Answers}
use Rattle.listing.specs.declared.Turn.{Turn}
use Rattle.listing.specs.declared.Turn.TheVariants.{Reading, Ended, Failed}

-- more may follow, the end was said, or a read failed
abbrev pub ending : Reader → List Read → Turn
ending r reads = by_end (Reading r) (Failed r) (Ended r) reads

-- the reader is fed what reads gave, one after another
abbrev pub turn_of : Reader → List Read → Turn
turn_of r reads = ending (feed_all r (bytes_of reads)) reads

-- t is what a row of n reads, or of fewer where one ends it, makes of r
abbrev pub Turned : ℕ → Reader → Turn → Type 0
Turned n r t = (reads : List Read) × Reads n reads × (t ≡ turn_of r reads)

-- the reads that are made at most: more than any run uses up
abbrev pub most_reads : ℕ
most_reads = 18446744073709551615

-- where reads reached the end, the answer to the text that they gave is handed out, and r says whether all of it was taken; otherwise r is false
pub record Responded (r : Bool) : Type 0 where
  pub reads : List Read
  pub made : Reads most_reads reads
  pub answers : over_of reads ≡ true → (a : List ℕ) × Answers (bytes_of reads) a × HandedOut a r
  pub unended : over_of reads ≡ false → r ≡ false
