-- Decimal digits without a leading zero: every number has them (`digits_of`), and they are its text (`shown_is`). Assumes nothing.
use mathlib.Core.Path.{◌≡◌, refl, sym, ap, ◌∙◌}
use mathlib.Core.List.{List, [], ◌∷◌, ◌++◌, append_assoc, append-nil}
use mathlib.Core.Bool.{Bool, true, false}
use Prim.Native.Nat.{ℕ, zero, suc, ◌+◌, ◌*◌, ◌/◌, ◌%◌, ◌≤◌, ◌<◌}
use native.Mathlib.Nat.{le_trans}
use native.Mathlib.Omega.{arith}
use lib.Dec.{ltb}
use borrow.Author.Tests.{lt-ltb, le-ltb, ltb-true, ltb-false}
use Rattle.text.specs.Numerals.{decimals, decimal}

-- digits, the most significant first, after v
abbrev pub value_from : ℕ → List ℕ → ℕ
value_from v [] = v
value_from v (d ∷ ds) = value_from (v * 10 + d) ds

abbrev pub Digits : List ℕ → Type 0
Digits [] = Unit {0}
Digits (d ∷ ds) = (d < 10) × Digits ds

abbrev pub shown : List ℕ → List ℕ
shown [] = []
shown (d ∷ ds) = (48 + d) ∷ shown ds

-- the digits of a number: a first one and the others, none after a 0
pub record Numeral (v d : ℕ) (ds : List ℕ) : Type 0 where
  pub all_digits : Digits (d ∷ ds)
  pub no_zero_first : d ≡ 0 → ds ≡ []
  pub value : value_from d ds ≡ v

pub grows : (ds : List ℕ) (v : ℕ) → v ≤ value_from v ds
grows [] v = omega arith
grows (d ∷ ds) v = le_trans (up v d) (grows ds (v * 10 + d))
  where
    up : (v d : ℕ) → v ≤ v * 10 + d
    up v d = omega arith

-- ---- the text computes as it should, whatever the fuel
decimals_one : (k v : ℕ) → v < 10 → decimals (suc k) v ≡ (48 + v) ∷ []
decimals_one k v h = rw (lt-ltb v 10 h, decimals)

decimals_more : (k v : ℕ) → 10 ≤ v → decimals (suc k) v ≡ decimals k (v / 10) ++ ((48 + v % 10) ∷ [])
decimals_more k v h = rw (le-ltb v 10 h, decimals)

enough : (k m v : ℕ) → v < k → v < m → decimals k v ≡ decimals m v
enough zero m v h l = absurd (omega arith)
enough (suc k) zero v h l = absurd (omega arith)
enough (suc k) (suc m) v h l = go (ltb v 10) refl (enough k m (v / 10))
  where
    go : (b : Bool) → ltb v 10 ≡ b → (v / 10 < k → v / 10 < m → decimals k (v / 10) ≡ decimals m (v / 10)) → decimals (suc k) v ≡ decimals (suc m) v
    go true e again = let s = ltb-true v 10 e in decimals_one k v s ∙ sym (decimals_one m v s)
    go false e again = let s = ltb-false v 10 e in decimals_more k v s ∙ ap (λ (l : List ℕ). l ++ ((48 + v % 10) ∷ [])) (again (omega arith) (omega arith)) ∙ sym (decimals_more m v s)

pub decimal_one : (v : ℕ) → v < 10 → decimal v ≡ (48 + v) ∷ []
unfolding decimal
decimal_one v h = decimals_one v v h

pub decimal_more : (v d : ℕ) → 0 < v → d < 10 → decimal (v * 10 + d) ≡ decimal v ++ ((48 + d) ∷ [])
unfolding decimal
decimal_more v d h l =
    let q : (v * 10 + d) / 10 ≡ v = omega arith in
    let m : (v * 10 + d) % 10 ≡ d = omega arith in
    decimals_more (v * 10 + d) (v * 10 + d) (omega arith)
    ∙ ap (λ (z : ℕ). decimals (v * 10 + d) z ++ ((48 + (v * 10 + d) % 10) ∷ [])) q
    ∙ ap (λ (z : ℕ). decimals (v * 10 + d) v ++ ((48 + z) ∷ [])) m
    ∙ ap (λ (l : List ℕ). l ++ ((48 + d) ∷ [])) (enough (v * 10 + d) (suc v) v (omega arith) (omega arith))

-- ---- digits without a leading zero are the text of their value
decimal_goes_on : (ds : List ℕ) (v : ℕ) → 0 < v → Digits ds → decimal (value_from v ds) ≡ decimal v ++ shown ds
decimal_goes_on [] v h l = sym (append-nil (decimal v))
decimal_goes_on (d ∷ ds) v h l =
    decimal_goes_on ds (v * 10 + d) (omega arith) l.1
    ∙ ap (λ (t : List ℕ). t ++ shown ds) (decimal_more v d h l.0)
    ∙ append_assoc (decimal v) ((48 + d) ∷ []) (shown ds)

pub shown_is : (d : ℕ) (ds : List ℕ) (v : ℕ) → Numeral v d ds → decimal v ≡ shown (d ∷ ds)
shown_is zero [] v m = ap decimal (sym m.value) ∙ decimal_one 0 m.all_digits.0
shown_is zero (d ∷ ds) v m = absurd (let y = m.no_zero_first refl in let t : ◌≡◌ {A = ℕ} 0 1 = cc in omega arith)
shown_is (suc d) ds v m =
    ap decimal (sym m.value) ∙ decimal_goes_on ds (suc d) (omega arith) m.all_digits.1 ∙ ap (λ (t : List ℕ). t ++ shown ds) (decimal_one (suc d) m.all_digits.0)

-- ---- every number has such digits
value_append : (ds : List ℕ) (v d : ℕ) → value_from v (ds ++ (d ∷ [])) ≡ value_from v ds * 10 + d
value_append [] v d = refl
value_append (x ∷ ds) v d = value_append ds (v * 10 + x) d

digits_append : (ds : List ℕ) (d : ℕ) → d < 10 → Digits ds → Digits (ds ++ (d ∷ []))
digits_append [] d h l = (h, tt)
digits_append (x ∷ ds) d h l = (l.0, digits_append ds d h l.1)

digits_below : (k v : ℕ) → v < k → (d : ℕ) × (ds : List ℕ) × Numeral v d ds
digits_below zero v h = absurd (omega arith)
digits_below (suc k) v h = go (ltb v 10) refl (digits_below k (v / 10))
  where
    go : (b : Bool) → ltb v 10 ≡ b → (v / 10 < k → (d : ℕ) × (ds : List ℕ) × Numeral (v / 10) d ds) → (d : ℕ) × (ds : List ℕ) × Numeral v d ds
    go true e again = (v, [], record { all_digits = (ltb-true v 10 e, tt); no_zero_first = λ _. refl; value = refl })
    go false e again =
        let l = ltb-false v 10 e in
        let (d, ds, m) = again (omega arith) in (
          d,
          ds ++ ((v % 10) ∷ []),
          record {
            all_digits = (m.all_digits.0, digits_append ds (v % 10) (omega arith) m.all_digits.1);
            no_zero_first = λ (z : d ≡ 0). absurd (nonzero d ds m l z);
            value = value_append ds d (v % 10) ∙ ap (λ (z : ℕ). z * 10 + v % 10) m.value ∙ whole;
          },
        )
      where
        whole : v / 10 * 10 + v % 10 ≡ v
        whole = omega arith

        nonzero : (d : ℕ) (ds : List ℕ) → Numeral (v / 10) d ds → 10 ≤ v → d ≡ 0 → ⊥
        nonzero d ds m l z =
            let e : v / 10 ≡ 0 = sym m.value ∙ ap (value_from d) (m.no_zero_first z) ∙ z in
            omega arith

pub digits_of : (v : ℕ) → (d : ℕ) × (ds : List ℕ) × Numeral v d ds
digits_of v = digits_below (suc v) v (omega arith)
