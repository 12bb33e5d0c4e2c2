-- A text as a row of reads gives it. Assumes nothing: these are definitions.
use Rattle.std.specs.Prelude.{ℕ, zero, suc, ◌<◌, ◌≤◌, Bool, true, false, List, [], ◌∷◌, ◌++◌, length, take, None, Some, Ok, Err}
use Rattle.std.specs.declared.option.Option.{Option}
use Rattle.std.specs.declared.result.Result.{Result}
use denote.Ref.{Bor}

-- what a read answers: it fails, the text is over, or bytes come
pub data Read : Type 0 where
  failed : Read
  over : Read
  gave : List ℕ → Read

-- by what the call gives back, and the buffer afterwards
abbrev pub read_by : {E : Type 0} → Result ℕ E → List ℕ → Read
read_by (Err e) buf = failed
read_by (Ok zero) buf = over
read_by (Ok (suc k)) buf = gave (take (suc k) buf)

-- by the bytes that are lent of it
abbrev pub heard_as : {E : Type 0} → Result (Option (Bor (List ℕ))) E → Read
heard_as (Err e) = failed
heard_as (Ok None) = over
heard_as (Ok (Some s)) = gave s.now

-- reads into 4,096 bytes, one after another, n at most: each but the last gives bytes, and the row ends earlier only where one says the end or fails
pub data Reads : ℕ → List Read → Type 0 where
  spent : Reads 0 []
  ended : {n : ℕ} → Reads (suc n) (over ∷ [])
  broken : {n : ℕ} → Reads (suc n) (failed ∷ [])
  more : {n : ℕ} {s : List ℕ} {reads : List Read} → 0 < length s → length s ≤ 4096 → Reads n reads → Reads (suc n) (gave s ∷ reads)

-- the bytes that come before the end or a failure
abbrev pub bytes_of : List Read → List ℕ
bytes_of [] = []
bytes_of (failed ∷ reads) = []
bytes_of (over ∷ reads) = []
bytes_of (gave s ∷ reads) = s ++ bytes_of reads

-- one thing while all gave bytes, another where one fails, a third where one says the end
abbrev pub by_end : {A : Type 0} → A → A → A → List Read → A
by_end goes fails ends [] = goes
by_end goes fails ends (failed ∷ reads) = fails
by_end goes fails ends (over ∷ reads) = ends
by_end goes fails ends (gave s ∷ reads) = by_end goes fails ends reads

-- whether more may follow, whether a read failed, whether one said the end
abbrev pub goes_on_of : List Read → Bool
goes_on_of reads = by_end true false false reads

abbrev pub failed_of : List Read → Bool
failed_of reads = by_end false true false reads

abbrev pub over_of : List Read → Bool
over_of reads = by_end false false true reads
