-- Acts in turn, from what each call told: a number r, and that the tables now hold H of the outcome's state. H and H' are any such relations. Assumes nothing.
use Prim.Native.Nat.{ℕ, zero, suc, ◌+◌, ◌-◌, ◌<◌, ◌≤◌}
use mathlib.Core.Path.{◌≡◌, refl, sym, ap, ◌∙◌, subst}
use native.Mathlib.Nat.{suc-ne-zero}
use native.Mathlib.Numerals.{add-one}
use native.Mathlib.Omega.{arith}
use mathlib.Core.List.{List, [], ◌∷◌}
use lib.ListN.{length, get_or, drop, drop_of_length-le}
use lib.Seq.{drop-cons}
use mathlib.Core.Bool.{true, false}
use lib.Dec.{eqb}
use borrow.Author.Tests.{eq-eqb, ne_eqb}
use borrow.Rule.Slice.PartMut.{mid_of}
use Rattle.std.specs.Prelude.{Result}
use Rattle.std.specs.Result.{IsErrAnd}
use Rattle.chunks.proofs.Laws.{mid_tail}
use Rattle.halting.specs.Out.{Out, next, then, each, each_of}
use Rattle.model.specs.declared.refusal.Halt.{Halt}
use Rattle.model.specs.Refusals.{halt_number, number_of}
use Rattle.model.specs.Rows.{others}
use Rattle.model.proofs.HaltNumbers.{halt_no_zero, halted_number}

-- a list's first number is p, or is another
others_first : (p : ℕ) (l : List ℕ) → (length l ≡ 0 → ⊥) → get_or l 0 0 ≡ p → others p l ≡ others p (mid_of 1 (length l - 1) l)
unfolding others
others_first p [] z e = absurd (z refl)
others_first p (x ∷ l) z e = let u : eqb p x ≡ true = eq-eqb p x (sym e) in rw u (ap (others p) (sym (mid_tail (x ∷ []) l {l = x ∷ l} 1 refl refl)))

others_later : (p : ℕ) (l : List ℕ) → (length l ≡ 0 → ⊥) → (get_or l 0 0 ≡ p → ⊥) → others p l ≡ get_or l 0 0 ∷ others p (mid_of 1 (length l - 1) l)
unfolding others
others_later p [] z e = absurd (z refl)
others_later p (x ∷ l) z e =
    let u : eqb p x ≡ false = ne_eqb p x (λ q. e (sym q)) in rw u (ap (λ (k : List ℕ). x ∷ others p k) (sym (mid_tail (x ∷ []) l {l = x ∷ l} 1 refl refl)))

-- the same from a list's i-th number on
pub others_skips : (p : ℕ) (l : List ℕ) (i : ℕ) → i < length l → get_or l i 0 ≡ p → others p (drop i l) ≡ others p (drop (i + 1) l)
unfolding others
others_skips p l i h e = let u : eqb p (get_or l i 0) ≡ true = eq-eqb p _ (sym e) in rw (drop-cons l i 0 h, u, add-one i) refl

pub others_takes : (p : ℕ) (l : List ℕ) (i : ℕ) → i < length l → (get_or l i 0 ≡ p → ⊥) → others p (drop i l) ≡ get_or l i 0 ∷ others p (drop (i + 1) l)
unfolding others
others_takes p l i h e = let u : eqb p (get_or l i 0) ≡ false = ne_eqb p _ (λ q. e (sym q)) in rw (drop-cons l i 0 h, u, add-one i) refl

module _ {S : Type 0} where
  abbrev pub Tells : (S → Type 0) → ℕ → Out S → Type 0
  Tells H r o = (r ≡ o.num) × H o.st

  -- refused, the rest is not done; done, the rest follows
  pub told_stop : (H : S → Type 0) (o : Out S) (k : S → Out S) {r : ℕ} → (r ≡ 0 → ⊥) → Tells H r o → Tells H r (then o k)
  told_stop H o k {r} z t = go o.num t.0 t.1
    where
      go : (n : ℕ) → r ≡ n → H o.st → Tells H r (next n o.st k)
      go zero e q = absurd (z e)
      go (suc n) e q = (e, q)

  pub told_on : (H H' : S → Type 0) (o : Out S) (k : S → Out S) {r r' : ℕ} → r ≡ 0 → Tells H r o → Tells H' r' (k o.st) → Tells H' r' (then o k)
  told_on H H' o k {r' = r'} z t u = go o.num (sym z ∙ t.0)
    where
      go : (n : ℕ) → 0 ≡ n → Tells H' r' (next n o.st k)
      go zero e = u
      go (suc n) e = absurd (suc-ne-zero n (sym e))

  -- the same where the call's answer goes through a `?`: handed on, or not
  pub told_halt : {A : Type 0} (H : S → Type 0) (o : Out S) (k : S → Out S) (r : Result A Halt) (h : Halt) → IsErrAnd r (λ (x : Halt). x ≡ h) → Tells H (halt_number h) o → Tells H (number_of r) (then o k)
  told_halt H o k r h e t = subst (λ (n : ℕ). Tells H n (then o k)) (sym (halted_number r h e)) (told_stop H o k (halt_no_zero h) t)

  pub told_next : (H H' : S → Type 0) (o : Out S) (k : S → Out S) {r' : ℕ} → Tells H 0 o → Tells H' r' (k o.st) → Tells H' r' (then o k)
  told_next H H' o k t u = told_on H H' o k refl t u

  -- the same for the act at each of a list, whose rest is lent on
  module _ (act : ℕ → S → Out S) (s : S) where
    pub of_none : (H : S → Type 0) (l : List ℕ) → length l ≡ 0 → H s → Tells H 0 (each_of act l s)
    unfolding each_of
    of_none H [] e q = (refl, q)
    of_none H (x ∷ l) e q = absurd (suc-ne-zero (length l) e)

    pub of-stop : (H : S → Type 0) (l : List ℕ) {r : ℕ} → (length l ≡ 0 → ⊥) → Tells H r (act (get_or l 0 0) s) → (r ≡ 0 → ⊥) → Tells H r (each_of act l s)
    unfolding each_of
    of-stop H [] z t u = absurd (z refl)
    of-stop H (x ∷ l) z t u = told_stop H (act x s) (each_of act l) u t

    pub of-on : (H H' : S → Type 0) (l : List ℕ) {r r' : ℕ} → (length l ≡ 0 → ⊥) → Tells H r (act (get_or l 0 0) s) → r ≡ 0
        → Tells H' r' (each_of act (mid_of 1 (length l - 1) l) (act (get_or l 0 0) s).st) → Tells H' r' (each_of act l s)
    unfolding each_of
    of-on H H' [] z t u v = absurd (z refl)
    of-on H H' (x ∷ l) {r' = r'} z t u v =
        told_on H H' (act x s) (each_of act l) u t
        (subst (λ (k : List ℕ). Tells H' r' (each_of act k (act x s).st)) (mid_tail (x ∷ []) l {l = x ∷ l} 1 refl refl) v)

    -- for the act at each of a list from its i-th, as a loop over the list goes
    pub from_end : (H : S → Type 0) (l : List ℕ) (i : ℕ) → length l ≤ i → H s → Tells H 0 (each_of act (drop i l) s)
    unfolding each_of
    from_end H l i e q = rw (drop_of_length-le l e) (refl, q)

    from_turn : (l : List ℕ) (i : ℕ) → i < length l → each_of act (drop i l) s ≡ then (act (get_or l i 0) s) (each_of act (drop (i + 1) l))
    unfolding each_of
    from_turn l i h = rw (drop-cons l i 0 h, add-one i)

    pub from-halt : {A : Type 0} (H : S → Type 0) (l : List ℕ) (i : ℕ) (r : Result A Halt) (h : Halt) → i < length l → IsErrAnd r (λ (x : Halt). x ≡ h) → Tells H (halt_number h) (act (get_or l i 0) s)
        → Tells H (number_of r) (each_of act (drop i l) s)
    from-halt H l i r h b e t = subst (λ (o : Out S). Tells H (number_of r) o) (sym (from_turn l i b)) (told_halt H (act (get_or l i 0) s) (each_of act (drop (i + 1) l)) r h e t)

    pub from-next : (H H' : S → Type 0) (l : List ℕ) (i : ℕ) {r' : ℕ} → i < length l → Tells H 0 (act (get_or l i 0) s)
        → Tells H' r' (each_of act (drop (i + 1) l) (act (get_or l i 0) s).st) → Tells H' r' (each_of act (drop i l) s)
    from-next H H' l i {r' = r'} b t v = subst (λ (o : Out S). Tells H' r' o) (sym (from_turn l i b)) (told_next H H' (act (get_or l i 0) s) (each_of act (drop (i + 1) l)) t v)

    -- for the act at each of a list but p
    pub others-none : (H : S → Type 0) (p : ℕ) (l : List ℕ) → length l ≡ 0 → H s → Tells H 0 (each_of act (others p l) s)
    unfolding each_of others
    others-none H p [] e q = (refl, q)
    others-none H p (x ∷ l) e q = absurd (suc-ne-zero (length l) e)

    pub others-skip : (H : S → Type 0) (p : ℕ) (l : List ℕ) {r : ℕ} → (length l ≡ 0 → ⊥) → get_or l 0 0 ≡ p → Tells H r (each_of act (others p (mid_of 1 (length l - 1) l)) s) → Tells H r (each_of act (others p l) s)
    others-skip H p l {r} z e t = subst (λ (k : List ℕ). Tells H r (each_of act k s)) (sym (others_first p l z e)) t

    pub others-stop : (H : S → Type 0) (p : ℕ) (l : List ℕ) {r : ℕ} → (length l ≡ 0 → ⊥) → (get_or l 0 0 ≡ p → ⊥) → Tells H r (act (get_or l 0 0) s) → (r ≡ 0 → ⊥) → Tells H r (each_of act (others p l) s)
    others-stop H p l {r} z e t u =
        subst (λ (k : List ℕ). Tells H r (each_of act k s)) (sym (others_later p l z e)) (of-stop H (get_or l 0 0 ∷ others p (mid_of 1 (length l - 1) l)) (suc-ne-zero _) t u)

    pub others-on : (H H' : S → Type 0) (p : ℕ) (l : List ℕ) {r r' : ℕ} → (length l ≡ 0 → ⊥) → (get_or l 0 0 ≡ p → ⊥) → Tells H r (act (get_or l 0 0) s) → r ≡ 0
        → Tells H' r' (each_of act (others p (mid_of 1 (length l - 1) l)) (act (get_or l 0 0) s).st) → Tells H' r' (each_of act (others p l) s)
    unfolding each_of
    others-on H H' p l {r' = r'} z e t u v =
        subst (λ (k : List ℕ). Tells H' r' (each_of act k s)) (sym (others_later p l z e))
        (told_on H H' (act (get_or l 0 0) s) (each_of act (others p (mid_of 1 (length l - 1) l))) u t v)

    -- the same for a list but p from the list's i-th
    pub others_end : (H : S → Type 0) (p : ℕ) (l : List ℕ) (i : ℕ) → length l ≤ i → H s → Tells H 0 (each_of act (others p (drop i l)) s)
    unfolding each_of others
    others_end H p l i e q = rw (drop_of_length-le l e) (refl, q)

    pub others-past : (H : S → Type 0) (p : ℕ) (l : List ℕ) (i : ℕ) {r : ℕ} → i < length l → get_or l i 0 ≡ p → Tells H r (each_of act (others p (drop (i + 1) l)) s) → Tells H r (each_of act (others p (drop i l)) s)
    others-past H p l i {r} h e t = subst (λ (k : List ℕ). Tells H r (each_of act k s)) (sym (others_skips p l i h e)) t

    pub others-halt : {A : Type 0} (H : S → Type 0) (p : ℕ) (l : List ℕ) (i : ℕ) (r : Result A Halt) (h : Halt) → i < length l → (get_or l i 0 ≡ p → ⊥) → IsErrAnd r (λ (x : Halt). x ≡ h)
        → Tells H (halt_number h) (act (get_or l i 0) s) → Tells H (number_of r) (each_of act (others p (drop i l)) s)
    unfolding each_of
    others-halt H p l i r h b n e t =
        subst (λ (k : List ℕ). Tells H (number_of r) (each_of act k s)) (sym (others_takes p l i b n)) (told_halt H (act (get_or l i 0) s) (each_of act (others p (drop (i + 1) l))) r h e t)

    pub others-next : (H H' : S → Type 0) (p : ℕ) (l : List ℕ) (i : ℕ) {r' : ℕ} → i < length l → (get_or l i 0 ≡ p → ⊥) → Tells H 0 (act (get_or l i 0) s)
        → Tells H' r' (each_of act (others p (drop (i + 1) l)) (act (get_or l i 0) s).st) → Tells H' r' (each_of act (others p (drop i l)) s)
    unfolding each_of
    others-next H H' p l i {r' = r'} b n t v =
        subst (λ (k : List ℕ). Tells H' r' (each_of act k s)) (sym (others_takes p l i b n)) (told_next H H' (act (get_or l i 0) s) (each_of act (others p (drop (i + 1) l))) t v)

    -- and for the act at c, up to before m
    pub each-end : (H : S → Type 0) (m c : ℕ) → c ≡ m → H s → Tells H 0 (each act (m - c) c s)
    unfolding each
    each-end H m c e q = let n : m - c ≡ 0 = omega arith in rw n (refl, q)

    each_turn : (m c : ℕ) → c < m → each act (m - c) c s ≡ then (act c s) (each act (m - (c + 1)) (c + 1))
    unfolding each
    each_turn m c h = let e : m - c ≡ suc (m - (c + 1)) = omega arith in rw (e, ← add-one c)

    pub each-stop : (H : S → Type 0) (m c : ℕ) {r : ℕ} → c < m → Tells H r (act c s) → (r ≡ 0 → ⊥) → Tells H r (each act (m - c) c s)
    each-stop H m c {r} h t u = subst (λ (o : Out S). Tells H r o) (sym (each_turn m c h)) (told_stop H (act c s) (each act (m - (c + 1)) (c + 1)) u t)

    pub each_on : (H H' : S → Type 0) (m c : ℕ) {r r' : ℕ} → c < m → Tells H r (act c s) → r ≡ 0 → Tells H' r' (each act (m - (c + 1)) (c + 1) (act c s).st) → Tells H' r' (each act (m - c) c s)
    each_on H H' m c {r' = r'} h t u v = subst (λ (o : Out S). Tells H' r' o) (sym (each_turn m c h)) (told_on H H' (act c s) (each act (m - (c + 1)) (c + 1)) u t v)

    pub each-halt : {A : Type 0} (H : S → Type 0) (m c : ℕ) (r : Result A Halt) (h : Halt) → c < m → IsErrAnd r (λ (x : Halt). x ≡ h) → Tells H (halt_number h) (act c s) → Tells H (number_of r) (each act (m - c) c s)
    each-halt H m c r h b e t = subst (λ (o : Out S). Tells H (number_of r) o) (sym (each_turn m c b)) (told_halt H (act c s) (each act (m - (c + 1)) (c + 1)) r h e t)

    pub each-next : (H H' : S → Type 0) (m c : ℕ) {r' : ℕ} → c < m → Tells H 0 (act c s) → Tells H' r' (each act (m - (c + 1)) (c + 1) (act c s).st) → Tells H' r' (each act (m - c) c s)
    each-next H H' m c {r' = r'} b t v = subst (λ (o : Out S). Tells H' r' o) (sym (each_turn m c b)) (told_next H H' (act c s) (each act (m - (c + 1)) (c + 1)) t v)
