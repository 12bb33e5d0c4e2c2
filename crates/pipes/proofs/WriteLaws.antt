-- What writes take, one after another, put together. Assumes nothing.
use Rattle.std.proofs.Common.{ℕ, suc, ◌-◌, ◌≡◌, refl, sym, ap, ◌∙◌, subst, Bool, true, false, List, [], ◌∷◌, ◌++◌, length, take, drop, arith, append_assoc, length-append, length-drop, append-nil}
use mathlib.Core.Bool.{true≢false, false≢true}
use Rattle.std.specs.Prelude.{◌==◌, None, Some}
use Rattle.std.specs.Io.KnownBytes.{Keeps, Appends}
use Rattle.std.specs.declared.option.Option.{Option}
use lib.Dec.{eqb}
use borrow.Author.Tests.{ne_eqb}
use lib.Seq.{take-length, length-take-le}
use lib.ListN.{take-append-drop}
use Rattle.pipes.specs.Writes.{Took, Grown, Handed, all, stopped, part, HandedOut, together, WrittenOut}

-- what is known of a writer, from one write to the next
keeps_none : (old : Option (List ℕ)) → Appends old old []
keeps_none None = tt
keeps_none (Some xs) = sym (append-nil _)

keeps_all : (old new : Option (List ℕ)) → Keeps old new → Appends old new ([] ++ [])
keeps_all None new k = tt
keeps_all (Some xs) None k = absurd k
keeps_all (Some xs) (Some ys) k = k ∙ sym (append-nil _)

appends_then : (old mid new : Option (List ℕ)) (p q : List ℕ) → Appends old mid p → Appends mid new q → Appends old new (p ++ q)
appends_then None mid new p q a b = tt
appends_then (Some xs) None new p q a b = absurd a
appends_then (Some xs) (Some ys) None p q a b = absurd b
appends_then (Some xs) (Some ys) (Some zs) p q a b = b ∙ ap (λ (s : List ℕ). s ++ q) a ∙ append_assoc xs p q

-- one write more, in front of those that follow
pub taken_some : (old mid new : Option (List ℕ)) (n : ℕ) (s : List ℕ) {r : Bool} → Took s (Some n) → Grown old mid s (Some n) → WrittenOut mid new (take (length s - n) (drop n s)) r → WrittenOut old new s r
taken_some old mid new n s {r} t w k =
    let l = length-take-le n s t.1 in
    let e : take n s ++ take (length s - n) (drop n s) ≡ s = ap (λ (k : ℕ). take n s ++ take k (drop n s)) (sym (length-drop n s)) ∙ ap (λ (q : List ℕ). take n s ++ q) (take-length (drop n s)) ∙ take-append-drop n s in
    (take n s ∷ k.0, subst (λ (q : List ℕ). Handed q (take n s ∷ k.0) r) e (part (omega arith) k.1), appends_then old mid new (take n s) (together k.0) w k.2)

-- the last: it took nothing, where something is left
pub taken_none : (old new : Option (List ℕ)) (s : List ℕ) → (length s == 0) ≡ false → Grown old new s None → WrittenOut old new s false
taken_none old new [] e w = absurd (true≢false e)
taken_none old new (x ∷ s) e w = ([] ∷ [], stopped (omega arith), keeps_all old new w)

-- nothing is left
pub taken_all : (old : Option (List ℕ)) (s : List ℕ) → (length s == 0) ≡ true → WrittenOut old old s true
taken_all old [] e = ([], all, keeps_none old)
taken_all old (x ∷ s) e = absurd (false≢true (sym (ne_eqb (suc (length s)) 0 (λ (q : suc (length s) ≡ 0). omega arith)) ∙ e))

pub handed_out : (old new : Option (List ℕ)) {s : List ℕ} {r : Bool} → WrittenOut old new s r → HandedOut s r
handed_out old new w = (w.0, w.1)

-- ---- what the parts make together
-- the parts are the front of s, and the answer says whether nothing is left
pub handed_front : {s : List ℕ} {parts : List (List ℕ)} {r : Bool} → Handed s parts r → (rest : List ℕ) × (s ≡ together parts ++ rest) × (r ≡ eqb (length rest) 0)
handed_front all = ([], refl, refl)
handed_front (stopped {s} h) = (s, refl, sym (ne_eqb (length s) 0 (λ (e : length s ≡ 0). omega arith)))
handed_front (part {p} {s} {parts} {r} h k) = let w = handed_front k in (w.0, ap (λ (q : List ℕ). p ++ q) w.1 ∙ sym (append_assoc p (together parts) w.0), w.2)

-- ONLY ONE ANSWER FITS the parts that were taken
pub one_answer : {s : List ℕ} {parts : List (List ℕ)} {q r : Bool} → Handed s parts q → Handed s parts r → q ≡ r
one_answer {s} {parts} h k =
    let a = handed_front h in
    let b = handed_front k in
    let e : length a.0 ≡ length b.0 = omega (arith, ap length (sym a.1 ∙ b.1), length-append (together parts) a.0, length-append (together parts) b.0) in
    a.2 ∙ ap (λ (n : ℕ). eqb n 0) e ∙ sym b.2
