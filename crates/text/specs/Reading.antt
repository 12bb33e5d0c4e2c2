-- The turns of the reader that goes by a plan: `feed_all plan line start_of s` is what it makes of the bytes s. A place is one of the plan's: the plan's last
-- is `last`, and `line` is where one of the n lines begins. Assumes nothing.
use Rattle.std.specs.Prelude.{List, [], ◌∷◌, Bool, false, cond, Option, Some, None, unwrap_or, ℕ, ◌+◌, ◌-◌, ◌*◌, ◌/◌, ◌%◌, ltb, leb, eqb, length, get_or, set, replicate}
use Rattle.std.specs.Option.{option_eq}
use Rattle.text.specs.declared.reader.Reader.{Reader}
use Rattle.text.specs.Letters.{numbers_held, hex_letter, flag_letter, letters_end}
use Rattle.text.specs.Numerals.{hex_val}

abbrev pub start_of : Reader
start_of = record { at = Some 0; n = 0; seen = 0; numbers = replicate numbers_held 0 }

-- a plan's last place
abbrev pub last_of : List ℕ → ℕ
last_of plan = length plan - 1

-- the reader's place in the plan, past every plan where it is stuck
abbrev pub place : Reader → ℕ
place r = unwrap_or r.at 18446744073709551615

-- the reader at another place, with another n and other numbers
abbrev pub reader_with : Reader → Option ℕ → ℕ → List ℕ → Reader
reader_with r at n numbers = record { at = at; n = n; seen = r.seen; numbers = numbers }

-- where a reader stays that met a byte that it did not want
abbrev pub stuck_of : Reader → Reader
stuck_of r = reader_with r None r.n r.numbers

-- on to the next line
abbrev pub next_of : ℕ → Reader → Reader
next_of line r = record { at = Some line; n = r.n; seen = r.seen + 1; numbers = r.numbers }

-- on to the next place
unfoldable pub stepped_of : ℕ → ℕ → Reader → Reader
stepped_of last line r = cond (ltb (place r) last) (reader_with r (Some (place r + 1)) r.n r.numbers) (cond (leb r.n r.seen) (stuck_of r) (next_of line r))

abbrev pub numbered_of : Reader → ℕ → ℕ → Reader
numbered_of r j v = reader_with r r.at r.n (set r.numbers j v)

-- one more digit. (The top digit of a full number falls out.)
abbrev pub shifted : ℕ → ℕ → ℕ
shifted v d = v % 1152921504606846976 * 16 + d

unfoldable pub hexed_of : ℕ → ℕ → Reader → ℕ → ℕ → Reader
hexed_of last line r b j = cond (leb 16 (hex_val b)) (stuck_of r) (stepped_of last line (numbered_of r j (shifted (get_or r.numbers j 0) (hex_val b))))

unfoldable pub flagged_of : ℕ → ℕ → Reader → ℕ → ℕ → Reader
flagged_of last line r b j = cond (eqb b 48) (stepped_of last line (numbered_of r j 0)) (cond (eqb b 49) (stepped_of last line (numbered_of r j 1)) (stuck_of r))

unfoldable pub matched_of : ℕ → ℕ → Reader → ℕ → ℕ → Reader
matched_of last line r b want = cond (eqb b want) (stepped_of last line r) (stuck_of r)

-- one more digit of n, where that fits 64 bits
unfoldable pub counted_of : Reader → ℕ → Reader
counted_of r d = cond (ltb ((18446744073709551615 - d) / 10) r.n) (stuck_of r) (reader_with r r.at (r.n * 10 + d) r.numbers)

unfoldable pub first_of : ℕ → ℕ → Reader → ℕ → Reader
first_of last line r b = cond (ltb b 48) (stuck_of r) (cond (ltb 57 b) (stuck_of r) (stepped_of last line (reader_with r r.at (b - 48) r.numbers)))

unfoldable pub more_of : ℕ → ℕ → Reader → ℕ → Reader
more_of last line r b =
    cond (eqb b 13) (stepped_of last line r)
    (cond (ltb b 48) (stuck_of r)
    (cond (ltb 57 b) (stuck_of r)
    (cond (eqb r.n 0) (stuck_of r) (counted_of r (b - 48)))))

-- by what the plan shows. A to M: a hexadecimal digit of the numbers 0 to 12. N to Z: a flag among them. #: the first digit of n. +: its others, and the CR.
-- Other bytes: themselves.
unfoldable pub wanted_of : ℕ → ℕ → Reader → ℕ → ℕ → Reader
wanted_of last line r b want =
    cond (eqb want 35) (first_of last line r b)
    (cond (eqb want 43) (more_of last line r b)
    (cond (ltb want hex_letter) (matched_of last line r b want)
    (cond (ltb want flag_letter) (hexed_of last line r b (want - hex_letter))
    (cond (ltb want letters_end) (flagged_of last line r b (want - flag_letter)) (matched_of last line r b want)))))

-- one byte; after n lines none is wanted
unfoldable pub feed_of : List ℕ → ℕ → Reader → ℕ → Reader
feed_of plan line r b =
    cond (leb (length plan) (place r)) r
    (cond (eqb (place r) line) (cond (leb r.n r.seen) (stuck_of r) (wanted_of (last_of plan) line r b (get_or plan (place r) 0)))
    (wanted_of (last_of plan) line r b (get_or plan (place r) 0)))

-- bytes one after the other, whatever each makes of a state
abbrev pub fed_by : {R : Type 0} → (R → ℕ → R) → R → List ℕ → R
fed_by feed r [] = r
fed_by feed r (b ∷ s) = fed_by feed (feed r b) s

abbrev pub feed_all : List ℕ → ℕ → Reader → List ℕ → Reader
feed_all plan line r s = fed_by (feed_of plan line) r s

-- the text is over: a last line that lacks its CR LF is ended
abbrev pub closed_by : {R : Type 0} → (R → ℕ → R) → (R → ℕ) → ℕ → R → R
closed_by feed at line r = cond (eqb (at (feed (feed r 13) 10)) line) (feed (feed r 13) 10) r

abbrev pub closed_of : List ℕ → ℕ → Reader → Reader
closed_of plan line r = closed_by (feed_of plan line) place line r

-- n lines were read, and no byte more
abbrev pub fine_of : ℕ → Reader → Bool
fine_of line r = cond (option_eq eqb r.at (Some line)) (eqb r.seen r.n) false
