-- Acts in turn: what each does to the tables, all together do. Assumes nothing.
use Prim.Native.Nat.{ℕ, zero, suc, ◌+◌, ◌-◌, ◌≤◌, ◌<◌}
use mathlib.Core.Path.{◌≡◌, refl, sym, ap, subst, ◌∙◌}
use mathlib.Core.List.{List}
use native.Mathlib.Numerals.{add-one}
use native.Mathlib.Omega.{arith}
use lib.ListN.{length, get_or, drop, drop_of_length-le}
use lib.Seq.{drop-cons}
use Rattle.std.specs.Prelude.{Result}
use Rattle.std.specs.Result.{IsErrAnd}
use Rattle.halting.specs.Out.{Out, out, next, then, each, each_of}
use Rattle.model.specs.declared.refusal.Halt.{Halt}
use Rattle.model.specs.Refusals.{halt_number, number_of}
use Rattle.model.specs.State.{State}
use Rattle.model.specs.Rows.{others}
use Rattle.model.proofs.HaltNumbers.{halt_no_zero, halted_number}
use Rattle.acts.specs.declared.queue.Queues.{Queues}
use Rattle.acts.specs.Tell.{SameTables}
use Rattle.acts.proofs.InTurn.{told_stop, told_next, others_takes, others_skips}
use Rattle.step.specs.World.{Some, Says, Does}

-- ---- one act, then another
pub does_none : {P : State → Type 0} → Does P P 0 (out 0)
does_none = record { says = λ s p. (refl, p) }

-- refused; and where the call's answer goes through a `?`
pub does_stop : {P Q : State → Type 0} {a : State → Out State} (k : State → State → Out State) (h : Halt) → Does P Q (halt_number h) a → Does P Q (halt_number h) (λ s. then (a s) (k s))
does_stop {Q = Q} {a = a} k h d = record { says = λ s p. told_stop Q (a s) (k s) (halt_no_zero h) (d.says s p) }

pub handed : {A : Type 0} {P Q : State → Type 0} {a : State → Out State} (r : Result A Halt) (h : Halt) → IsErrAnd r (λ (x : Halt). x ≡ h) → Does P Q (halt_number h) a → Does P Q (number_of r) a
handed {P = P} {Q = Q} {a = a} r h e d = subst (λ (n : ℕ). Does P Q n a) (sym (halted_number r h e)) d

pub does_halt : {A : Type 0} {P Q : State → Type 0} {a : State → Out State} (k : State → State → Out State) (r : Result A Halt) (h : Halt) → IsErrAnd r (λ (x : Halt). x ≡ h) → Does P Q (halt_number h) a
    → Does P Q (number_of r) (λ s. then (a s) (k s))
does_halt k r h e d = handed r h e (does_stop k h d)

pub does_on : {P Q R : State → Type 0} {r : ℕ} {a k : State → Out State} → Does P Q 0 a → Does Q R r k → Does P R r (λ s. then (a s) k)
does_on {Q = Q} {R = R} {a = a} {k = k} d e = record { says = λ s p. told_next Q R (a s) k (d.says s p) (e.says (a s).st (d.says s p).1) }

-- the state that an act leaves
pub after : {P Q : State → Type 0} {r : ℕ} {a : State → Out State} → Does P Q r a → Some P → Some Q
after {a = a} d o = ((a o.0).st, (d.says o.0 o.1).1)

-- another name of the same act
pub does_as : {P Q : State → Type 0} {r : ℕ} {a b : State → Out State} → ((s : State) → P s → a s ≡ b s) → Does P Q r a → Does P Q r b
does_as {Q = Q} {r = r} e d = record { says = λ s p. subst (Says Q r) (e s p) (d.says s p) }

-- nothing more to do
pub then_none : (o : Out State) → then o (out 0) ≡ o
then_none o = go o.num
  where
    go : (n : ℕ) → next n o.st (out 0) ≡ out n o.st
    go zero = refl
    go (suc n) = refl

-- three acts in turn, however they are grouped
pub then_then : (o : Out State) (f k : State → Out State) → then (then o f) k ≡ then o (λ s. then (f s) k)
then_then o f k = go o.num
  where
    go : (n : ℕ) → then (next n o.st f) k ≡ next n o.st (λ s. then (f s) k)
    go zero = refl
    go (suc n) = refl

-- ---- a loop on its way: its tables still hold some state, and what the rest does from here, the whole does from the start. H says that tables hold a state
pub record Onward {T : Type 0} (H : T → State → Type 0) (old : T) (whole : State → Out State) (now : T) (rest : State → Out State) : Type 0 where
  pub some : Some (H now)
  pub goes : (t : T) (r : ℕ) → Does (H now) (H t) r rest → Does (H old) (H t) r whole

pub at_first : {T : Type 0} {H : T → State → Type 0} {old : T} {whole : State → Out State} → Some (H old) → Onward H old whole old whole
at_first o = record { some = o; goes = λ t r d. d }

-- after another act
pub at_second : {T : Type 0} {H : T → State → Type 0} {old now : T} {a k : State → Out State} → Some (H old) → Does (H old) (H now) 0 a → Onward H old (λ s. then (a s) k) now k
at_second o d = record { some = after d o; goes = λ t r e. does_on d e }

module _ {T : Type 0} {H : T → State → Type 0} {old now : T} {whole rest : State → Out State} (on : Onward H old whole now rest) where
  -- the rest is an act and what comes then: done, or refused
  pub goes_on : {t : T} {a k : State → Out State} → ((s : State) → rest s ≡ then (a s) k) → Does (H now) (H t) 0 a → Onward H old whole t k
  goes_on e d = record { some = after d on.some; goes = λ t r f. on.goes t r (does_as (λ s p. sym (e s)) (does_on d f)) }

  pub goes_stop : {t : T} {a : State → Out State} (k : State → Out State) (h : Halt) → ((s : State) → rest s ≡ then (a s) k) → Does (H now) (H t) (halt_number h) a → Does (H old) (H t) (halt_number h) whole
  goes_stop {t = t} k h e d = on.goes t (halt_number h) (does_as (λ s p. sym (e s)) (does_stop (λ s. k) h d))

  pub goes_halt : {A : Type 0} {t : T} {a : State → Out State} (k : State → Out State) (r : Result A Halt) (h : Halt) → ((s : State) → rest s ≡ then (a s) k) → IsErrAnd r (λ (x : Halt). x ≡ h)
      → Does (H now) (H t) (halt_number h) a → Does (H old) (H t) (number_of r) whole
  goes_halt k r h e b d = handed r h b (goes_stop k h e d)

  -- it is another rest; it is nothing
  pub goes_as : {k : State → Out State} → ((s : State) → rest s ≡ k s) → Onward H old whole now k
  goes_as e = record { some = on.some; goes = λ t r d. on.goes t r (does_as (λ s p. sym (e s)) d) }

  pub goes_end : ((s : State) → rest s ≡ out 0 s) → Does (H old) (H now) 0 whole
  goes_end e = on.goes now 0 (does_as (λ s p. sym (e s)) does_none)

-- ---- the rests of loops: over a list from its i-th, over all of it but p, over the numbers from i to before m
module _ (act : ℕ → State → Out State) where
  pub list_turn : (l : List ℕ) (i : ℕ) → i < length l → (s : State) → each_of act (drop i l) s ≡ then (act (get_or l i 0) s) (each_of act (drop (i + 1) l))
  unfolding each_of
  list_turn l i h s = rw (drop-cons l i 0 h, add-one i)

  pub list_end : (l : List ℕ) (i : ℕ) → length l ≤ i → (s : State) → each_of act (drop i l) s ≡ out 0 s
  unfolding each_of
  list_end l i h s = rw (drop_of_length-le l h) refl

  pub others_turn : (p : ℕ) (l : List ℕ) (i : ℕ) → i < length l → (get_or l i 0 ≡ p → ⊥) → (s : State) → each_of act (others p (drop i l)) s ≡ then (act (get_or l i 0) s) (each_of act (others p (drop (i + 1) l)))
  unfolding each_of
  others_turn p l i h n s = ap (λ (k : List ℕ). each_of act k s) (others_takes p l i h n)

  pub others_past : (p : ℕ) (l : List ℕ) (i : ℕ) → i < length l → get_or l i 0 ≡ p → (s : State) → each_of act (others p (drop i l)) s ≡ each_of act (others p (drop (i + 1) l)) s
  others_past p l i h e s = ap (λ (k : List ℕ). each_of act k s) (others_skips p l i h e)

  pub others_none : (p : ℕ) (l : List ℕ) (i : ℕ) → length l ≤ i → (s : State) → each_of act (others p (drop i l)) s ≡ out 0 s
  unfolding each_of others
  others_none p l i h s = rw (drop_of_length-le l h) refl

  pub range_turn : (m i : ℕ) → i < m → (s : State) → each act (m - i) i s ≡ then (act i s) (each act (m - (i + 1)) (i + 1))
  unfolding each
  range_turn m i h s = let e : m - i ≡ suc (m - (i + 1)) = omega arith in rw (e, ← add-one i)

  pub range_end : (m i : ℕ) → m ≤ i → (s : State) → each act (m - i) i s ≡ out 0 s
  unfolding each
  range_end m i h s = let e : m - i ≡ 0 = omega arith in rw e refl

-- ---- the tables that are lent stay the same ones
pub same_then : {a b c : Queues} → SameTables a b → SameTables b c → SameTables a c
same_then x y = record { queue = y.queue ∙ x.queue; events = y.events ∙ x.events; order = y.order ∙ x.order }
