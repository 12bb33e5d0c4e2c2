-- What a reader's owner keeps of each line when it has ended: after a text it is what each row gives, one after the other (`text_kept`). Assumes nothing.
use mathlib.Core.Path.{◌≡◌, refl, sym, ap, ◌∙◌}
use mathlib.Core.List.{List, [], ◌∷◌, ◌++◌, append-nil}
use mathlib.Core.Bool.{Bool, true, false, cond}
use Prim.Native.Nat.{ℕ, suc, ◌+◌, ◌-◌, ◌/◌, ◌≤◌, ◌<◌}
use native.Mathlib.Nat.{add-suc, suc-add, le_refl, le_trans, le_of_eq, zero-add}
use native.Mathlib.Numerals.{add-one}
use native.Mathlib.Omega.{arith}
use lib.Dec.{ltb, leb, eqb}
use lib.ListN.{length, get_or, replicate}
use borrow.Author.Tests.{lt-ltb, le-ltb}
use Rattle.std.specs.Prelude.{Option, Some}
use Rattle.text.specs.declared.reader.Reader.{Reader}
use Rattle.text.specs.Letters.{numbers_held, hex_letter, flag_letter, letters_end}
use Rattle.text.specs.Numerals.{hex_val}
use Rattle.text.specs.Reading.{place, start_of, reader_with, stuck_of, next_of, stepped_of, hexed_of, flagged_of, matched_of, counted_of, first_of, more_of, wanted_of, feed_of, feed_all}
use Rattle.text.specs.Plan.{Values, spelled, loaded, count_read, Form, spelled_rows, spelled_text}
use Rattle.text.proofs.Forward.{loaded_length, last_place, end_fed, row_fed, before, head_fed}

-- ---- the lines ended never fall
record Up (k : ℕ) (r : Reader) : Type 0 where
  up : k ≤ r.seen

either : {k : ℕ} (b : Bool) {x y : Reader} → Up k x → Up k y → Up k (cond b x y)
either true p q = p
either false p q = q

-- the same number of lines at another place, with another n and other numbers
up_put : {k : ℕ} {r : Reader} (at : Option ℕ) (n : ℕ) (g : List ℕ) → Up k r → Up k (reader_with r at n g)
up_put at n g h = record { up = h.up }

up_stuck : {k : ℕ} {r : Reader} → Up k r → Up k (stuck_of r)
up_stuck h = record { up = h.up }

module _ (last line : ℕ) {k : ℕ} {r : Reader} (h : Up k r) where
  up_step : Up k (stepped_of last line r)
  unfolding stepped_of
  up_step = let u = h.up in either (ltb (place r) last) (up_put _ _ _ h) (either (leb r.n r.seen) (up_stuck h) (record { up = omega (arith, u) }))

module _ (last line : ℕ) {k : ℕ} {r : Reader} (h : Up k r) where
  up_first : (b : ℕ) → Up k (first_of last line r b)
  unfolding first_of
  up_first b = either (ltb b 48) (up_stuck h) (either (ltb 57 b) (up_stuck h) (up_step last line (up_put _ _ _ h)))

  up_counted : (d : ℕ) → Up k (counted_of r d)
  unfolding counted_of
  up_counted d = either (ltb ((18446744073709551615 - d) / 10) r.n) (up_stuck h) (up_put _ _ _ h)

  up_more : (b : ℕ) → Up k (more_of last line r b)
  unfolding more_of
  up_more b =
      either (eqb b 13) (up_step last line h)
      (either (ltb b 48) (up_stuck h) (either (ltb 57 b) (up_stuck h) (either (eqb r.n 0) (up_stuck h) (up_counted (b - 48)))))

  up_hexed : (b j : ℕ) → Up k (hexed_of last line r b j)
  unfolding hexed_of
  up_hexed b j = either (leb 16 (hex_val b)) (up_stuck h) (up_step last line (up_put _ _ _ h))

  up_flagged : (b j : ℕ) → Up k (flagged_of last line r b j)
  unfolding flagged_of
  up_flagged b j = either (eqb b 48) (up_step last line (up_put _ _ _ h)) (either (eqb b 49) (up_step last line (up_put _ _ _ h)) (up_stuck h))

  up_matched : (b c : ℕ) → Up k (matched_of last line r b c)
  unfolding matched_of
  up_matched b c = either (eqb b c) (up_step last line h) (up_stuck h)

  up_wanted : (b c : ℕ) → Up k (wanted_of last line r b c)
  unfolding wanted_of
  up_wanted b c =
      either (eqb c 35) (up_first b)
      (either (eqb c 43) (up_more b)
      (either (ltb c hex_letter) (up_matched b c)
      (either (ltb c flag_letter) (up_hexed b (c - hex_letter))
      (either (ltb c letters_end) (up_flagged b (c - flag_letter)) (up_matched b c)))))

module _ (plan : List ℕ) (line : ℕ) where
  up_feed : (r : Reader) (b : ℕ) → r.seen ≤ (feed_of plan line r b).seen
  unfolding feed_of
  up_feed r b = go.up
    where
      h : Up r.seen r
      h = record { up = le_refl r.seen }

      go : Up r.seen (feed_of plan line r b)
      go =
          let w = up_wanted (length plan - 1) line h b (get_or plan (place r) 0) in
          either (leb (length plan) (place r)) h (either (eqb (place r) line) (either (leb r.n r.seen) (up_stuck h) w) w)

  up_all : (s : List ℕ) (r : Reader) → r.seen ≤ (feed_all plan line r s).seen
  up_all [] r = le_refl r.seen
  up_all (b ∷ s) r = le_trans (up_feed r b) (up_all s (feed_of plan line r b))

  -- ---- at the end of a line something is kept of its number and of the numbers read
  module _ {A : Type 0} (keep : ℕ → List ℕ → A → A) where
    abbrev pub kept_of : Reader → Reader → A → A
    kept_of r q a = cond (ltb r.seen q.seen) (keep r.seen q.numbers a) a

    abbrev pub kept_all : Reader → A → List ℕ → A
    kept_all r a [] = a
    kept_all r a (b ∷ s) = kept_all (feed_of plan line r b) (kept_of r (feed_of plan line r b) a) s

    kept-parts : (s t : List ℕ) (r : Reader) (a : A) → kept_all r a (s ++ t) ≡ kept_all (feed_all plan line r s) (kept_all r a s) t
    kept-parts [] t r a = refl
    kept-parts (b ∷ s) t r a = kept-parts s t (feed_of plan line r b) (kept_of r (feed_of plan line r b) a)

    -- nothing is kept where no line ended
    quiet : (s : List ℕ) (r : Reader) (a : A) → (feed_all plan line r s).seen ≡ r.seen → kept_all r a s ≡ a
    quiet [] r a e = refl
    quiet (b ∷ s) r a e =
        let q = feed_of plan line r b in
        let x = up_feed r b in
        let y = up_all s q in
        let same : r.seen ≡ q.seen = omega (arith, x, y, e) in
        ap (λ (z : Bool). kept_all q (cond z (keep r.seen q.numbers a) a) s) (le-ltb r.seen q.seen (le_of_eq (sym same)))
        ∙ quiet s q a (e ∙ same)

    quiet_then : (s t : List ℕ) (r q : Reader) (a : A) → feed_all plan line r s ≡ q → q.seen ≡ r.seen → kept_all r a (s ++ t) ≡ kept_all q a t
    quiet_then s t r q a e f =
        kept-parts s t r a ∙ ap (λ (z : Reader). kept_all z (kept_all r a s) t) e ∙ ap (λ (z : A). kept_all q z t) (quiet s r a (ap (λ (z : Reader). z.seen) e ∙ f))

module _ {plan : List ℕ} {line : ℕ} (f : Form plan line) {A : Type 0} (keep : ℕ → List ℕ → A → A) where
  -- what rows give, the first of which is line k after the numbers g
  abbrev pub kept_rows : List (Values f.row) → ℕ → List ℕ → A → A
  kept_rows [] k g a = a
  kept_rows (w ∷ ws) k g a = kept_rows ws (suc k) (loaded f.row w g) (keep k (loaded f.row w g) a)

  line_kept : (w : Values f.row) (n seen : ℕ) (g rest : List ℕ) (a : A) → length g ≡ numbers_held → seen < n
      → kept_all plan line keep (before f n seen g) a (spelled f.row w ++ (f.end ∷ rest)) ≡ kept_all plan line keep (before f n (suc seen) (loaded f.row w g)) (keep seen (loaded f.row w g) a) rest
  line_kept w n seen g rest a N o =
      let r = before f n seen g in
      let g' = loaded f.row w g in
      let q = reader_with r (Some (last_place f)) n g' in
      let up : seen < seen + 1 = omega arith in
      quiet_then plan line keep (spelled f.row w) (f.end ∷ rest) r q a (ap (feed_all plan line r) (sym (append-nil (spelled f.row w))) ∙ row_fed f w r n g [] N o) refl
      ∙ ap (λ (z : Reader). kept_all plan line keep z (kept_of plan line keep q z a) rest) (end_fed f r n g' o)
      ∙ ap (λ (z : Bool). kept_all plan line keep (next_of line q) (cond z (keep seen g' a) a) rest) (lt-ltb seen (seen + 1) up)
      ∙ ap (λ (m : ℕ). kept_all plan line keep (before f n m g') (keep seen g' a) rest) (add-one seen)

  rows_kept : (ws : List (Values f.row)) (n seen : ℕ) (g : List ℕ) (a : A) → length g ≡ numbers_held → seen + length ws ≡ n
      → kept_all plan line keep (before f n seen g) a (spelled_rows f ws) ≡ kept_rows ws seen g a
  rows_kept [] n seen g a N e = refl
  rows_kept (w ∷ ws) n seen g a N e =
      let m : suc seen + length ws ≡ n = suc-add seen (length ws) ∙ sym (add-suc seen (length ws)) ∙ e in
      line_kept w n seen g (spelled_rows f ws) a N (omega (arith, m)) ∙ rows_kept ws n (suc seen) (loaded f.row w g) (keep seen (loaded f.row w g) a) (loaded_length f.row w g N) m

  pub text_kept : (w : Values f.head) (ws : List (Values f.row)) (a : A) → count_read f.head w 0 ≡ length ws
      → kept_all plan line keep start_of a (spelled_text f w ws) ≡ kept_rows ws 0 (loaded f.head w (replicate numbers_held 0)) a
  text_kept w ws a e =
      let g = loaded f.head w (replicate numbers_held 0) in
      let q = before f (count_read f.head w 0) 0 g in
      quiet_then plan line keep (spelled f.head w) (spelled_rows f ws) start_of q a (ap (feed_all plan line start_of) (sym (append-nil (spelled f.head w))) ∙ head_fed f w []) refl
      ∙ rows_kept ws (count_read f.head w 0) 0 g a (loaded_length f.head w (replicate numbers_held 0) refl) (zero-add (length ws) ∙ sym e)
