-- Turns one after another, and what the end of them means. Assumes nothing.
use Rattle.std.proofs.Common.{ℕ, ◌+◌, ◌≤◌, ◌≡◌, refl, sym, ap, ◌∙◌, subst, Bool, true, false, List, [], ◌∷◌, ◌++◌, append-nil, length}
use mathlib.Core.Bool.{true≢false}
use Rattle.std.specs.declared.result.Result.{Result}
use Rattle.pipes.specs.Counts.{Moved}
use Rattle.pipes.specs.Reads.{Read, failed, over, gave, read_by, bytes_of, by_end, goes_on_of, over_of}
use Rattle.pipes.proofs.ReadLaws.{one_read, reads_then, reads_most, text_then, end_then}
use Rattle.pipes.specs.Writes.{HandedOut}
use Rattle.listing_text.specs.declared.reader.Reader.{Reader}
use Rattle.listing_text.specs.Reading.{start_of, feed_of, feed_all}
use Rattle.text.proofs.Turns.{feed_parts}
use Rattle.answers.specs.Read.{answered, answer}
use Rattle.answers.proofs.Texts.{the_answer}
use Rattle.listing.specs.declared.Turn.{Turn}
use Rattle.listing.specs.declared.Turn.TheVariants.{Reading, Ended, Failed}
use Rattle.listing.specs.Turns.{ending, turn_of, Turned, most_reads, Responded}

-- ---- a turn tells how its reads ended
reading_is : (r x : Reader) (reads : List Read) → Reading x ≡ ending r reads → (goes_on_of reads ≡ true) × (x ≡ r)
reading_is r x [] e = (refl, cc)
reading_is r x (failed ∷ reads) e = absurd (cc)
reading_is r x (over ∷ reads) e = absurd (cc)
reading_is r x (gave s ∷ reads) e = reading_is r x reads e

reading_not : (r : Reader) (t : Turn) (reads : List Read) → t ≡ ending r reads → ((x : Reader) → t ≡ Reading x → ⊥) → goes_on_of reads ≡ false
reading_not r t [] e n = absurd (n r e)
reading_not r t (failed ∷ reads) e n = refl
reading_not r t (over ∷ reads) e n = refl
reading_not r t (gave s ∷ reads) e n = reading_not r t reads e n

ended_is : (r x : Reader) (reads : List Read) → Ended x ≡ ending r reads → (over_of reads ≡ true) × (x ≡ r)
ended_is r x [] e = absurd (cc)
ended_is r x (failed ∷ reads) e = absurd (cc)
ended_is r x (over ∷ reads) e = (refl, cc)
ended_is r x (gave s ∷ reads) e = ended_is r x reads e

ended_not : (r : Reader) (t : Turn) (reads : List Read) → t ≡ ending r reads → ((x : Reader) → t ≡ Ended x → ⊥) → over_of reads ≡ false
ended_not r t [] e n = refl
ended_not r t (failed ∷ reads) e n = refl
ended_not r t (over ∷ reads) e n = absurd (n r e)
ended_not r t (gave s ∷ reads) e n = ended_not r t reads e n

-- ---- turns one after another
-- one read into 4,096 bytes
pub turned_once : {E : Type 0} (got : Result ℕ E) (r : Reader) (buf : List ℕ) {t : Turn} → 4096 ≡ length buf → Moved (length buf) got → t ≡ turn_of r (read_by got buf ∷ []) → Turned 1 r t
turned_once got r buf l m e = (read_by got buf ∷ [], one_read got buf l (subst (λ (n : ℕ). Moved n got) (sym l) m), e)

-- however the text is cut into reads, the reader is fed all of it
pub turn_then : (r : Reader) (reads next : List Read) → goes_on_of reads ≡ true → turn_of (feed_all r (bytes_of reads)) next ≡ turn_of r (reads ++ next)
turn_then r reads next e =
    let fed = ap (feed_all r) (text_then reads next e) ∙ feed_parts feed_of (bytes_of reads) (bytes_of next) r in
    ap (λ (x : Reader). ending x next) (sym fed) ∙ sym (end_then _ _ _ reads next e)

pub turned_then : {m n : ℕ} {r x : Reader} {u : Turn} → Turned m r (Reading x) → Turned n x u → Turned (m + n) r u
turned_then {r = r} {x = x} {u = u} a b =
    let p = reading_is (feed_all r (bytes_of a.0)) x a.0 a.2 in
    (a.0 ++ b.0, reads_then a.1 p.0 b.1, b.2 ∙ ap (λ (y : Reader). turn_of y b.0) p.1 ∙ turn_then r a.0 b.0 p.0)

-- one that ended may have been as long as one likes
pub turned_most : {m n : ℕ} {r : Reader} {t : Turn} → Turned m r t → ((x : Reader) → t ≡ Reading x → ⊥) → m ≤ n → Turned n r t
turned_most {r = r} {t = t} a e h = (a.0, reads_most a.1 (reading_not (feed_all r (bytes_of a.0)) t a.0 a.2 e) h, a.2)

-- ---- the answer is due exactly where the end was said
pub due : {x : Reader} {r : Bool} → Turned most_reads start_of (Ended x) → HandedOut (answered x) r → Responded r
due {x = x} {r = r} a h =
    let o = ended_is (feed_all start_of (bytes_of a.0)) x a.0 a.2 in
    record {
      reads = a.0;
      made = a.1;
      answers = λ _. (answer (bytes_of a.0), the_answer (bytes_of a.0), subst (λ (y : Reader). HandedOut (answered y) r) o.1 h);
      unended = λ n. absurd (true≢false (sym o.0 ∙ n));
    }

pub not_due : {t : Turn} → Turned most_reads start_of t → ((x : Reader) → t ≡ Ended x → ⊥) → Responded false
not_due {t = t} a e =
    let o = ended_not (feed_all start_of (bytes_of a.0)) t a.0 a.2 e in
    record { reads = a.0; made = a.1; answers = λ y. absurd (true≢false (sym y ∙ o)); unended = λ _. refl }
