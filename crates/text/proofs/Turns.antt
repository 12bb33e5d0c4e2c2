-- Single turns of the reader, and turns one after the other. Assumes nothing.
use mathlib.Core.Path.{◌≡◌, refl, sym, ap, ◌∙◌}
use mathlib.Core.List.{List, [], ◌∷◌, ◌++◌}
use Prim.Native.Nat.{ℕ, ◌+◌, ◌≤◌, ◌<◌}
use native.Mathlib.Numerals.{add-one}
use native.Mathlib.Omega.{arith}
use lib.ListN.{length, get_or, drop}
use lib.Seq.{drop-cons}
use borrow.Author.Tests.{le-leb, lt-leb, eq-eqb, ne_eqb}
use Rattle.text.specs.declared.reader.Reader.{Reader}
use Rattle.text.specs.Numerals.{hex_val}
use Rattle.text.specs.Reading.{stuck_of, stepped_of, numbered_of, shifted, hexed_of, fed_by, closed_by}

module _ (last line : ℕ) (r : Reader) (b j : ℕ) where
  pub hexed_bad : 16 ≤ hex_val b → stuck_of r ≡ hexed_of last line r b j
  unfolding hexed_of
  hexed_bad h = simp (le-leb 16 (hex_val b) h)

  pub hexed_good : (d : ℕ) → d ≡ hex_val b → d < 16 → stepped_of last line (numbered_of r j (shifted (get_or r.numbers j 0) d)) ≡ hexed_of last line r b j
  unfolding hexed_of
  hexed_good d e h = simp (e, lt-leb 16 (hex_val b) (omega arith))

-- ---- the end of a text: a line is ended by it, or the state stays
module _ {R : Type 0} (feed : R → ℕ → R) (at : R → ℕ) (line : ℕ) where
  abbrev closing : R → R
  closing r = feed (feed r 13) 10

  pub closed_ended : (r q : R) → q ≡ closing r → at q ≡ line → q ≡ closed_by feed at line r
  closed_ended r q e h = e ∙ simp (eq-eqb (at (closing r)) line (ap at (sym e) ∙ h))

  pub closed_same : (r q : R) → q ≡ closing r → (at q ≡ line → ⊥) → r ≡ closed_by feed at line r
  closed_same r q e h = simp (ne_eqb (at (closing r)) line (λ (k : at (closing r) ≡ line). h (ap at e ∙ k)))

-- ---- bytes one after the other, whatever each makes of a state
module _ {R : Type 0} (feed : R → ℕ → R) where
  -- however a text is cut, the parts fed one after the other are the whole
  pub feed_parts : (s t : List ℕ) (r : R) → fed_by feed r (s ++ t) ≡ fed_by feed (fed_by feed r s) t
  feed_parts [] t r = refl
  feed_parts (b ∷ s) t r = feed_parts s t (feed r b)

  -- one turn of a loop over a part, and its end
  pub fed : (s : List ℕ) (i : ℕ) (x y z : R) → i < length s → y ≡ feed x (get_or s i 0) → fed_by feed x (drop i s) ≡ z → fed_by feed y (drop (i + 1) s) ≡ z
  fed s i x y z h e k =
      ap (λ (w : R). fed_by feed w (drop (i + 1) s)) e
      ∙ ap (λ (j : ℕ). fed_by feed (feed x (get_or s i 0)) (drop j s)) (add-one i)
      ∙ ap (λ (t : List ℕ). fed_by feed x t) (sym (drop-cons s i 0 h))
      ∙ k
