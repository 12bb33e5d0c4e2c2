-- What a read's answer says, and reads one after another. Assumes nothing.
use Rattle.std.proofs.Common.{ℕ, zero, suc, ◌+◌, ◌≤◌, ◌≡◌, refl, sym, ap, ◌∙◌, subst, true, false, List, [], ◌∷◌, ◌++◌, length, take, arith, append_assoc}
use mathlib.Core.Bool.{not, cond, true≢false, false≢true}
use native.Mathlib.Nat.{zero-add, suc-add}
use lib.Seq.{length-take-le}
use Rattle.std.specs.Prelude.{Ok, Err}
use Rattle.std.specs.declared.result.Result.{Result}
use Rattle.pipes.specs.Counts.{Moved}
use Rattle.pipes.specs.Reads.{Read, failed, over, gave, Reads, spent, ended, broken, more, read_by, bytes_of, by_end, goes_on_of, failed_of, over_of}

-- a read into 4,096 bytes is a row of one
pub one_read : {E : Type 0} (got : Result ℕ E) (buf : List ℕ) → 4096 ≡ length buf → Moved 4096 got → Reads 1 (read_by got buf ∷ [])
one_read (Err e) buf l m = broken
one_read (Ok zero) buf l m = ended
one_read (Ok (suc k)) buf l m = let e = length-take-le (suc k) buf (omega arith) in more {s = take (suc k) buf} (omega arith) (omega arith) spent

-- ---- reads one after another
-- after reads that all gave bytes, more of them
pub reads_then : {m n : ℕ} {reads next : List Read} → Reads m reads → goes_on_of reads ≡ true → Reads n next → Reads (m + n) (reads ++ next)
reads_then {n = n} {next = next} spent e k = subst (λ (z : ℕ). Reads z next) (sym (zero-add n)) k
reads_then ended e k = absurd (false≢true e)
reads_then broken e k = absurd (false≢true e)
reads_then {n = n} {next = next} (more {n = m} {s = s} {reads = reads} p q h) e k = subst (λ (z : ℕ). Reads z (gave s ∷ (reads ++ next))) (sym (suc-add m n)) (more p q (reads_then h e k))

-- more may follow only where as many as may be were made
pub reads_spent : {n : ℕ} {reads : List Read} → Reads n reads → goes_on_of reads ≡ true → length reads ≡ n
reads_spent spent e = refl
reads_spent ended e = absurd (false≢true e)
reads_spent broken e = absurd (false≢true e)
reads_spent (more p q h) e = ap suc (reads_spent h e)

-- a row that ended may have been as long as one likes
pub reads_most : {m n : ℕ} {reads : List Read} → Reads m reads → goes_on_of reads ≡ false → m ≤ n → Reads n reads
reads_most spent e h = absurd (true≢false e)
reads_most {n = zero} ended e h = absurd (omega arith)
reads_most {n = suc n} ended e h = ended
reads_most {n = zero} broken e h = absurd (omega arith)
reads_most {n = suc n} broken e h = broken
reads_most {n = zero} (more p q k) e h = absurd (omega arith)
reads_most {n = suc n} (more p q k) e h = more {n = n} p q (reads_most k e (omega arith))

pub text_then : (reads next : List Read) → goes_on_of reads ≡ true → bytes_of (reads ++ next) ≡ bytes_of reads ++ bytes_of next
text_then [] next e = refl
text_then (failed ∷ reads) next e = absurd (false≢true e)
text_then (over ∷ reads) next e = absurd (false≢true e)
text_then (gave s ∷ reads) next e = ap (λ (t : List ℕ). s ++ t) (text_then reads next e) ∙ sym (append_assoc s (bytes_of reads) (bytes_of next))

pub end_then : {A : Type 0} (goes fails ends : A) (reads next : List Read) → goes_on_of reads ≡ true → by_end goes fails ends (reads ++ next) ≡ by_end goes fails ends next
end_then goes fails ends [] next e = refl
end_then goes fails ends (failed ∷ reads) next e = absurd (false≢true e)
end_then goes fails ends (over ∷ reads) next e = absurd (false≢true e)
end_then goes fails ends (gave s ∷ reads) next e = end_then goes fails ends reads next e

-- the end was said where no more may follow and none failed
pub over_is : (reads : List Read) → cond (goes_on_of reads) false (not (failed_of reads)) ≡ over_of reads
over_is [] = refl
over_is (failed ∷ reads) = refl
over_is (over ∷ reads) = refl
over_is (gave s ∷ reads) = over_is reads
