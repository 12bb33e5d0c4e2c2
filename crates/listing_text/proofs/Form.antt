-- The form of the listing's plan, and the input that its values stand for: texts that the plan shows are those of the grammar (`text_is`). Assumes nothing.
use mathlib.Core.Path.{◌≡◌, refl, sym, ap, ◌∙◌}
use mathlib.Core.List.{List, [], ◌∷◌, ◌++◌, map, append_assoc}
use Prim.Native.Nat.{ℕ, zero, suc}
use lib.Dec.{lit<}
use lib.ListN.{length, length-map}
use Rattle.text.specs.Bytes.{bytes}
use Rattle.text.specs.Numerals.{hex, decimal, Word}
use Rattle.text.specs.Lines.{line, flag_field}
use Rattle.text.specs.Plan.{shown, Values, count_read, Form, spelled_rows, spelled_text}
use Rattle.listing_text.specs.Columns.{columns, box_numbers}
use Rattle.listing_text.specs.Grammar.{Grain, Input, EachWord, AllWords, Words, columns_of, column_names, box_line, grain_line, grain_lines, text_of}
use Rattle.listing_text.specs.Rows.{first_grain}
use Rattle.listing_text.specs.Reading.{head_pieces, number_pieces, line_pieces, plan, line_at}

pub plan_shows : plan ≡ shown head_pieces ++ (shown line_pieces ++ (10 ∷ []))
unfolding plan
plan_shows = refl

pub plan_short : Word (length plan)
unfolding plan
plan_short = lit< tt

abbrev pub form : Form plan line_at
form = record {
  head = head_pieces;
  row = line_pieces;
  end = 10;
  shows = plan_shows;
  begins = refl;
  head_fair = tt;
  row_fair = tt;
  row_uncounted = tt;
  end_plain = tt;
  short = plan_short;
}

-- ---- the numbers of a line's values, and the values of numbers
abbrev pub numbers_in : (j k : ℕ) → Values (number_pieces j k) → List ℕ
numbers_in j zero w = []
numbers_in j (suc zero) w = w.0 ∷ []
numbers_in j (suc (suc k)) w = w.0 ∷ numbers_in (suc j) (suc k) w.2

words_in : (j k : ℕ) (w : Values (number_pieces j k)) → EachWord (numbers_in j k w)
words_in j zero w = tt
words_in j (suc zero) w = (w.1, tt)
words_in j (suc (suc k)) w = (w.1, words_in (suc j) (suc k) w.2)

abbrev pub values_of : (j : ℕ) (l : List ℕ) → EachWord l → Values (number_pieces j (length l))
values_of j [] u = tt
values_of j (v ∷ []) u = (v, u.0, tt)
values_of j (v ∷ x ∷ l) u = (v, u.0, values_of (suc j) (x ∷ l) u.1)

-- ---- the input of values, and the values of an input
abbrev pub grain_of : Values line_pieces → Grain
grain_of w = first_grain (numbers_in box_numbers columns w)

abbrev pub input_of : Values head_pieces → List (Values line_pieces) → Input
input_of w ws = record {
  l0 = w.0;
  l1 = w.2.0;
  p0 = w.2.2.0;
  p1 = w.2.2.1.0;
  rate = w.2.2.1.1.0;
  grains = map grain_of ws;
}

rows_words : (ws : List (Values line_pieces)) → AllWords (map grain_of ws)
rows_words [] = tt
rows_words (w ∷ ws) = (words_in box_numbers columns w, rows_words ws)

pub words_of : (w : Values head_pieces) (ws : List (Values line_pieces)) → Words (input_of w ws)
words_of w ws = record { l0_word = w.1; l1_word = w.2.1; rate_word = w.2.2.1.1.1; grain_words = rows_words ws }

abbrev pub rows_for : (gs : List Grain) → AllWords gs → List (Values line_pieces)
rows_for [] u = []
rows_for (g ∷ gs) u = values_of box_numbers (columns_of g) u.0 ∷ rows_for gs u.1

abbrev pub values_for : (i : Input) → Words i → Word (length i.grains) → Values head_pieces
values_for i u k = (i.l0, u.l0_word, (i.l1, u.l1_word, (i.p0, (i.p1, (i.rate, u.rate_word, (length i.grains, k, tt))))))

rows_same : (gs : List Grain) (u : AllWords gs) → map grain_of (rows_for gs u) ≡ gs
rows_same [] u = refl
rows_same (g ∷ gs) u = ap (λ (l : List Grain). g ∷ l) (rows_same gs u.1)

pub input_same : (i : Input) (u : Words i) (k : Word (length i.grains)) → input_of (values_for i u k) (rows_for i.grains u.grain_words) ≡ i
input_same i u k = ap (λ (gs : List Grain). record { l0 = i.l0; l1 = i.l1; p0 = i.p0; p1 = i.p1; rate = i.rate; grains = gs }) (rows_same i.grains u.grain_words)

pub rows_many : (gs : List Grain) (u : AllWords gs) → length gs ≡ length (rows_for gs u)
rows_many [] u = refl
rows_many (g ∷ gs) u = ap suc (rows_many gs u.1)

-- ---- their text
lines_are : (ws : List (Values line_pieces)) → spelled_rows form ws ≡ grain_lines (map grain_of ws)
lines_are [] = refl
lines_are (w ∷ ws) = ap (λ (l : List ℕ). grain_line (grain_of w) ++ l) (lines_are ws)

-- a line of six fields between its headers, and what follows
pub head_text : (a b c d e f s : List ℕ) → (a ++ (44 ∷ (b ++ (44 ∷ (c ++ (44 ∷ (d ++ (44 ∷ (e ++ (44 ∷ (f ++ (13 ∷ 10 ∷ column_names)))))))))))) ++ s
    ≡ line (a ∷ b ∷ c ∷ d ∷ e ∷ f ∷ []) ++ (column_names ++ s)
head_text a b c d e f s = simp append_assoc

pub text_is : (w : Values head_pieces) (ws : List (Values line_pieces)) → count_read head_pieces w 0 ≡ length ws → spelled_text form w ws ≡ text_of (input_of w ws)
text_is w ws e =
    let i = input_of w ws in
    ap (λ (l : List ℕ). bytes "l0,l1,p0,p1,rate,n\r\n" ++ l)
    (head_text (hex i.l0) (hex i.l1) (flag_field i.p0) (flag_field i.p1) (hex i.rate) (decimal (count_read head_pieces w 0)) (spelled_rows form ws)
    ∙ ap (λ (n : ℕ). line (hex i.l0 ∷ hex i.l1 ∷ flag_field i.p0 ∷ flag_field i.p1 ∷ hex i.rate ∷ decimal n ∷ []) ++ (column_names ++ spelled_rows form ws)) (e ∙ sym (length-map ws grain_of))
    ∙ ap (λ (l : List ℕ). box_line i ++ (column_names ++ l)) (lines_are ws))
