-- The listing's lines, put into a list one after the other. Assumes nothing.
use mathlib.Core.Path.{◌≡◌, refl, sym, ap, ◌∙◌}
use mathlib.Core.List.{List, [], ◌∷◌, ◌++◌, map, append_assoc, append-nil}
use Prim.Native.Nat.{ℕ, zero, suc, ◌+◌, ◌*◌, ◌≤◌, ◌<◌}
use native.Mathlib.Nat.{zero-add, le_of_suc-le-suc}
use native.Mathlib.Numerals.{add-one}
use native.Mathlib.Omega.{arith}
use lib.ListN.{length, get_or, take, length-append}
use lib.Seq.{take_all}
use borrow.Author.Tests.{le-ltb}
use Rattle.chunks.proofs.Laws.{take_tab}
use Rattle.text.specs.Bytes.{bytes}
use Rattle.text.specs.Numerals.{hex, decimal}
use Rattle.text.specs.Lines.{line, field_wide}
use Rattle.text.proofs.Putting.{decimal_most}
use Rattle.listing_text.specs.Columns.{columns, most_kept, grain_line_wide, listing_line_wide}
use Rattle.listing_text.specs.Grammar.{Grain, columns_of, column_names, grain_line}
use Rattle.listing_text.specs.Answers.{listing_line, listing_lines}
use Rattle.listing_text.specs.Rows.{first_grain, row_grain, grains_from, rows_listing}

-- ---- a line of numbers: all but the last with a comma behind each, the last, and CR LF
abbrev pub fields : List ℕ → List ℕ
fields [] = []
fields (v ∷ l) = (hex v ++ (44 ∷ [])) ++ fields l

pub fields_wide : (l : List ℕ) (k : ℕ) → k ≤ length l → length (fields (take k l)) ≡ k * field_wide
fields_wide l zero h = refl
fields_wide [] (suc k) h = absurd (omega arith)
fields_wide (v ∷ l) (suc k) h = let e = fields_wide l k (le_of_suc-le-suc h) in omega arith

fields_more : (l : List ℕ) (k : ℕ) → k < length l → fields (take k l) ++ (hex (get_or l k 0) ++ (44 ∷ [])) ≡ fields (take (suc k) l)
fields_more [] k h = absurd (omega arith)
fields_more (v ∷ l) zero h = sym (append-nil (hex v ++ (44 ∷ [])))
fields_more (v ∷ l) (suc k) h = append_assoc (hex v ++ (44 ∷ [])) (fields (take k l)) (hex (get_or l k 0) ++ (44 ∷ [])) ∙ ap (λ (t : List ℕ). (hex v ++ (44 ∷ [])) ++ t) (fields_more l k (le_of_suc-le-suc h))

pub field_more : (l : List ℕ) (k : ℕ) → k < length l → fields (take k l) ++ (hex (get_or l k 0) ++ (44 ∷ [])) ≡ fields (take (k + 1) l)
field_more l k h = fields_more l k h ∙ ap (λ (n : ℕ). fields (take n l)) (sym (add-one k))

pub line_fields : (l : List ℕ) (k : ℕ) → suc k ≡ length l → (fields (take k l) ++ (hex (get_or l k 0) ++ (13 ∷ []))) ++ (10 ∷ []) ≡ line (map hex l)
line_fields [] k e = absurd (omega arith)
line_fields (v ∷ []) zero e = append_assoc (hex v) (13 ∷ []) (10 ∷ [])
line_fields (v ∷ []) (suc k) e = absurd (omega arith)
line_fields (v ∷ x ∷ l) zero e = absurd (omega arith)
line_fields (v ∷ x ∷ l) (suc k) e =
    moved (hex v) (fields (take k (x ∷ l))) (hex (get_or (x ∷ l) k 0) ++ (13 ∷ [])) (10 ∷ []) ∙ ap (λ (t : List ℕ). hex v ++ (44 ∷ t)) (line_fields (x ∷ l) k (omega arith))
  where
    moved : (h a b c : List ℕ) → (((h ++ (44 ∷ [])) ++ a) ++ b) ++ c ≡ h ++ (44 ∷ ((a ++ b) ++ c))
    moved h a b c = simp append_assoc

-- ---- the listing's lines
four_pieces : (a b r : List ℕ) → (((a ++ (44 ∷ [])) ++ b) ++ (44 ∷ [])) ++ r ≡ a ++ (44 ∷ (b ++ (44 ∷ r)))
four_pieces a b r = simp append_assoc

row_is : (l : List ℕ) → length l ≡ columns → columns_of (first_grain l) ≡ l
row_is l e = sym (take_tab l 0 columns 0 (omega arith)) ∙ take_all columns l (omega arith)

pub line_is : (time i : ℕ) (l : List ℕ) → length l ≡ columns → (((hex time ++ (44 ∷ [])) ++ decimal i) ++ (44 ∷ [])) ++ line (map hex l) ≡ listing_line time i (first_grain l)
line_is time i l e = four_pieces (hex time) (decimal i) (line (map hex l)) ∙ ap (λ (t : List ℕ). hex time ++ (44 ∷ (decimal i ++ (44 ∷ line (map hex t))))) (sym (row_is l e))

pub line_short : (time i : ℕ) (g : Grain) → i < 1000 → length (listing_line time i g) ≤ listing_line_wide
line_short time i g h =
    let d = decimal_most 2 i h in
    let e : length (listing_line time i g) ≡ field_wide + (length (decimal i) + (1 + grain_line_wide)) = ap length (sym (four_pieces (hex time) (decimal i) (grain_line g))) ∙ counted (hex time ++ (44 ∷ [])) (decimal i) (grain_line g) refl refl in
    omega arith
  where
    counted : (a b c : List ℕ) → length a ≡ field_wide → length c ≡ grain_line_wide → length (((a ++ b) ++ (44 ∷ [])) ++ c) ≡ field_wide + (length b + (1 + grain_line_wide))
    counted a b c p q = simp length-append (omega arith)

pub lines_short : (time i n : ℕ) (l : List ℕ) → i + n ≤ 1000 → length (listing_lines time i (grains_from l i n)) ≤ n * listing_line_wide
lines_short time i zero l h = omega arith
lines_short time i (suc n) l h =
    let a = length-append (listing_line time i (row_grain l i)) (listing_lines time (suc i) (grains_from l (suc i) n)) in
    let b = line_short time i (row_grain l i) (omega arith) in
    let c = lines_short time (suc i) n l (omega arith) in
    omega arith

lines_after : (time i n k : ℕ) (l : List ℕ) → i + n ≡ k → listing_lines time i (grains_from l i n) ++ listing_line time k (row_grain l k) ≡ listing_lines time i (grains_from l i (suc n))
lines_after time i zero k l e = let h : k ≡ i = omega arith in ap (λ (z : ℕ). listing_line time z (row_grain l z)) h ∙ sym (append-nil _)
lines_after time i (suc n) k l e =
    append_assoc (listing_line time i (row_grain l i)) (listing_lines time (suc i) (grains_from l (suc i) n)) (listing_line time k (row_grain l k))
    ∙ ap (λ (t : List ℕ). listing_line time i (row_grain l i) ++ t) (lines_after time (suc i) n k l (omega arith))

pub lines_more : (time n : ℕ) (l : List ℕ) {g : Grain} → g ≡ row_grain l n
    → listing_lines time 0 (grains_from l 0 n) ++ listing_line time n g ≡ listing_lines time 0 (grains_from l 0 (n + 1))
lines_more time n l e =
    ap (λ (g : Grain). listing_lines time 0 (grains_from l 0 n) ++ listing_line time n g) e
    ∙ lines_after time 0 n n l (zero-add n)
    ∙ ap (λ (k : ℕ). listing_lines time 0 (grains_from l 0 k)) (sym (add-one n))

pub listed_is : (time n : ℕ) (l : List ℕ) → n ≤ most_kept → bytes "time,index," ++ (column_names ++ listing_lines time 0 (grains_from l 0 n)) ≡ rows_listing time n l
listed_is time n l h = simp (le-ltb most_kept n h)
