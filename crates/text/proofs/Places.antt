-- The places of a plan, and single turns of the reader at one of them. Assumes nothing.
use mathlib.Core.Path.{◌≡◌, refl, sym, ap, ◌∙◌}
use mathlib.Core.Logic.{◌⊎◌, inl, inr}
use mathlib.Core.List.{List, [], ◌∷◌}
use mathlib.Core.Bool.{Bool, true, false, cond}
use Prim.Native.Nat.{ℕ, zero, suc, ◌+◌, ◌-◌, ◌≤◌, ◌<◌}
use native.Mathlib.Numerals.{add-one}
use native.Mathlib.Omega.{arith}
use lib.Dec.{T, leb, eqb, ltb}
use lib.ListN.{length, get_or, drop, set}
use borrow.Author.Tests.{lt-ltb, le-ltb, le-leb, lt-leb, ne_eqb, eq-eqb}
use Rattle.std.specs.Prelude.{Some}
use Rattle.text.specs.declared.reader.Reader.{Reader}
use Rattle.text.specs.Letters.{numbers_held, hex_letter, flag_letter, letters_end}
use Rattle.text.specs.Numerals.{hex_val, Word}
use Rattle.text.specs.Reading.{last_of, place, reader_with, stuck_of, next_of, stepped_of, shifted, numbered_of, hexed_of, flagged_of, matched_of, first_of, more_of, wanted_of, feed_of}
use Rattle.text.specs.Plan.{plain}
use Rattle.text.proofs.Turns.{hexed_good}

-- the byte at a place from which the plan goes on with c and cs, and the place after it
pub here : (plan : List ℕ) (at c : ℕ) (cs : List ℕ) → drop at plan ≡ c ∷ cs → (get_or plan at 0 ≡ c) × (drop (suc at) plan ≡ cs)
here [] zero c cs e = absurd (let z : ◌≡◌ {A = ℕ} 0 (suc (length cs)) = ap length e in omega arith)
here [] (suc at) c cs e = absurd (let z : ◌≡◌ {A = ℕ} 0 (suc (length cs)) = ap length e in omega arith)
here (x ∷ plan) zero c cs e = (ap (λ (l : List ℕ). get_or l 0 0) e, ap (drop 1) e)
here (x ∷ plan) (suc at) c cs e = here plan at c cs e

module _ (plan : List ℕ) (line : ℕ) where
  -- a place where a byte is looked at: before the lines, or in one that is wanted
  abbrev pub Open : Reader → ℕ → Type 0
  Open r at = (at < line) ⊎ (r.seen < r.n)

  pub open_feed : (r : Reader) (b : ℕ) → place r < length plan → Open r (place r) → feed_of plan line r b ≡ wanted_of (last_of plan) line r b (get_or plan (place r) 0)
  unfolding feed_of
  open_feed r b h (inl l) = simp (lt-leb (length plan) (place r) h, ne_eqb (place r) line (λ (e : (place r) ≡ line). omega arith))
  open_feed r b h (inr l) = go (eqb (place r) line) (wanted_of (last_of plan) line r b (get_or plan (place r) 0))
    where
      go : (t : Bool) → (want : Reader) → cond (leb (length plan) (place r)) r (cond t (cond (leb r.n r.seen) (stuck_of r) want) want) ≡ want
      go true want = simp (lt-leb (length plan) (place r) h, lt-leb r.n r.seen l)
      go false want = simp (lt-leb (length plan) (place r) h)

  -- no byte follows the (last_of plan) line
  pub full_stuck : (r : Reader) (b : ℕ) → place r < length plan → place r ≡ line → r.n ≤ r.seen → feed_of plan line r b ≡ stuck_of r
  unfolding feed_of
  full_stuck r b h e l = simp (lt-leb (length plan) (place r) h, eq-eqb (place r) line e, le-leb r.n r.seen l)

  pub stuck_stays : Word (length plan) → (r : Reader) (b : ℕ) → feed_of plan line (stuck_of r) b ≡ stuck_of r
  unfolding feed_of
  stuck_stays w r b = simp (le-leb (length plan) 18446744073709551615 (most (length plan) w))
    where
      most : (k : ℕ) → k < 18446744073709551616 → k ≤ 18446744073709551615
      most k h = omega arith

  pub step_in : (r : Reader) → suc (place r) < length plan → stepped_of (last_of plan) line r ≡ reader_with r (Some (suc (place r))) r.n r.numbers
  unfolding stepped_of
  step_in r h = simp (lt-ltb (place r) (last_of plan) (omega arith)) (ap (λ (k : ℕ). reader_with r (Some k) r.n r.numbers) (add-one (place r)))

  -- from the plan's last place to the next line, where one is wanted
  pub step_on : (r : Reader) → suc (place r) ≡ length plan → r.seen < r.n → stepped_of (last_of plan) line r ≡ next_of line r
  unfolding stepped_of
  step_on r h l = simp (le-ltb (place r) (last_of plan) (omega arith), lt-leb r.n r.seen l)

  -- ---- hexadecimal digits
  wanted_hex : (r : Reader) (b j : ℕ) → j < numbers_held → wanted_of (last_of plan) line r b (hex_letter + j) ≡ hexed_of (last_of plan) line r b j
  unfolding wanted_of
  wanted_hex r b j h =
      let m : hex_letter + j - hex_letter ≡ j = omega arith in
      let hash = ne_eqb (hex_letter + j) 35 (λ (e : hex_letter + j ≡ 35). omega arith) in
      let plus = ne_eqb (hex_letter + j) 43 (λ (e : hex_letter + j ≡ 43). omega arith) in
      simp (hash, plus, le-ltb (hex_letter + j) hex_letter (omega arith), lt-ltb (hex_letter + j) flag_letter (omega arith))
      (ap (hexed_of (last_of plan) line r b) m)

  pub hex_turn : (r : Reader) (b j : ℕ) → j < numbers_held → get_or plan (place r) 0 ≡ hex_letter + j → place r < length plan → Open r (place r) → feed_of plan line r b ≡ hexed_of (last_of plan) line r b j
  hex_turn r b j J e h o = open_feed r b h o ∙ ap (wanted_of (last_of plan) line r b) e ∙ wanted_hex r b j J

  -- a digit d of number j
  pub hex_fed : (r : Reader) (b j d : ℕ) → d ≡ hex_val b → j < numbers_held → d < 16 → get_or plan (place r) 0 ≡ hex_letter + j → suc (place r) < length plan → Open r (place r)
      → feed_of plan line r b ≡ reader_with r (Some (suc (place r))) r.n (set r.numbers j (shifted (get_or r.numbers j 0) d))
  hex_fed r b j d v J D e h o =
      hex_turn r b j J e (omega arith) o ∙ sym (hexed_good (last_of plan) line r b j d v D) ∙ step_in (numbered_of r j (shifted (get_or r.numbers j 0) d)) h

  -- ---- flags
  wanted_flag : (r : Reader) (b j : ℕ) → j < numbers_held → wanted_of (last_of plan) line r b (flag_letter + j) ≡ flagged_of (last_of plan) line r b j
  unfolding wanted_of
  wanted_flag r b j h =
      let m : flag_letter + j - flag_letter ≡ j = omega arith in
      let hash = ne_eqb (flag_letter + j) 35 (λ (e : flag_letter + j ≡ 35). omega arith) in
      let plus = ne_eqb (flag_letter + j) 43 (λ (e : flag_letter + j ≡ 43). omega arith) in
      simp (hash, plus, le-ltb (flag_letter + j) hex_letter (omega arith), le-ltb (flag_letter + j) flag_letter (omega arith), lt-ltb (flag_letter + j) letters_end (omega arith))
      (ap (flagged_of (last_of plan) line r b) m)

  pub flag_turn : (r : Reader) (b j : ℕ) → j < numbers_held → get_or plan (place r) 0 ≡ flag_letter + j → place r < length plan → Open r (place r) → feed_of plan line r b ≡ flagged_of (last_of plan) line r b j
  flag_turn r b j J e h o = open_feed r b h o ∙ ap (wanted_of (last_of plan) line r b) e ∙ wanted_flag r b j J

  -- ---- n, and the CR after it
  wanted_first : (r : Reader) (b : ℕ) → wanted_of (last_of plan) line r b 35 ≡ first_of (last_of plan) line r b
  unfolding wanted_of
  wanted_first r b = refl

  wanted_more : (r : Reader) (b : ℕ) → wanted_of (last_of plan) line r b 43 ≡ more_of (last_of plan) line r b
  unfolding wanted_of
  wanted_more r b = refl

  pub first_turn : (r : Reader) (b : ℕ) → get_or plan (place r) 0 ≡ 35 → place r < length plan → Open r (place r) → feed_of plan line r b ≡ first_of (last_of plan) line r b
  first_turn r b e h o = open_feed r b h o ∙ ap (wanted_of (last_of plan) line r b) e ∙ wanted_first r b

  pub more_turn : (r : Reader) (b : ℕ) → get_or plan (place r) 0 ≡ 43 → place r < length plan → Open r (place r) → feed_of plan line r b ≡ more_of (last_of plan) line r b
  more_turn r b e h o = open_feed r b h o ∙ ap (wanted_of (last_of plan) line r b) e ∙ wanted_more r b

  -- ---- bytes of the plan's own
  wanted_plain : (r : Reader) (b c : ℕ) → T (plain c) → wanted_of (last_of plan) line r b c ≡ matched_of (last_of plan) line r b c
  unfolding wanted_of
  wanted_plain r b c t = go (matched_of (last_of plan) line r b c) (eqb c 35) (eqb c 43) (ltb c hex_letter) (ltb c flag_letter) (ltb c letters_end) t
    where
      go : (m : Reader) (p q u v w : Bool) → T (cond p false (cond q false (cond u true (cond v false (cond w false true)))))
          → cond p (first_of (last_of plan) line r b) (cond q (more_of (last_of plan) line r b) (cond u m (cond v (hexed_of (last_of plan) line r b (c - hex_letter)) (cond w (flagged_of (last_of plan) line r b (c - flag_letter)) m)))) ≡ m
      go m true q u v w t = absurd t
      go m false true u v w t = absurd t
      go m false false true v w t = refl
      go m false false false true w t = absurd t
      go m false false false false true t = absurd t
      go m false false false false false t = refl

  pub plain_turn : (r : Reader) (b c : ℕ) → T (plain c) → get_or plan (place r) 0 ≡ c → place r < length plan → Open r (place r) → feed_of plan line r b ≡ matched_of (last_of plan) line r b c
  plain_turn r b c t e h o = open_feed r b h o ∙ ap (wanted_of (last_of plan) line r b) e ∙ wanted_plain r b c t
