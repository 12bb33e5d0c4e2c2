-- Texts written into a list one after the other are their sum, written once. Assumes nothing.
use mathlib.Core.Path.{◌≡◌, refl, sym, ap, ◌∙◌, subst}
use mathlib.Core.List.{List, [], ◌∷◌, ◌++◌, append_assoc}
use mathlib.Core.Bool.{Bool, true, false}
use Prim.Native.Nat.{ℕ, zero, suc, ◌+◌, ◌-◌, ◌*◌, ◌/◌, ◌%◌, ◌^◌, ◌≤◌, ◌<◌}
use native.Mathlib.Nat.{add-zero, mul-suc, pow-suc, mod-eq_of_lt}
use native.Mathlib.Numerals.{add-one}
use native.Mathlib.Omega.{arith}
use lib.Dec.{ltb}
use lib.Pow.{pow-add}
use lib.ListN.{length, take, drop, length-append, length-drop, take-append-drop}
use lib.Seq.{take_at, drop_at, drop-drop, length-take-le}
use borrow.Author.Tests.{ltb-true, ltb-false}
use Rattle.text.specs.declared.writer.Writer.{Writer}
use Rattle.text.specs.Numerals.{glyph, spell, hex, decimal}
use Rattle.text.specs.Put.{Put, Puts, laid}
use Rattle.text.proofs.DecimalDigits.{decimal_one, decimal_more}

length_laid : (at : ℕ) (t s : List ℕ) → at + length t ≤ length s → length (laid at t s) ≡ length s
length_laid at t s h =
    let a : length (take at s) ≡ at = length-take-le at s (omega arith) in
    let b = length-append (take at s) (t ++ drop (at + length t) s) in
    let c = length-append t (drop (at + length t) s) in
    let d = length-drop (at + length t) s in
    omega arith

pub put_none : (at : ℕ) (s : List ℕ) → at ≤ length s → Put at [] s s at
put_none at s h = record {
  room = omega (arith, add-zero at);
  written = sym (ap (λ (k : ℕ). take at s ++ drop k s) (add-zero at) ∙ take-append-drop at s);
  place = sym (add-zero at);
}

pub put_then : {at m n : ℕ} {t v s u w : List ℕ} → Put at t s u m → Put m v u w n → Put at (t ++ v) s w n
put_then {at} {m} {n} {t} {v} {s} {u} {w} a b =
    let l : length u ≡ length s = ap length a.written ∙ length_laid at t s a.room in
    let k : length (t ++ v) ≡ length t + length v = length-append t v in
    let ra = a.room in
    let rb = b.room in
    let pa = a.place in
    let pb = b.place in
    let h : length (take at s ++ t) ≡ m = length-append (take at s) t ∙ ap (λ (z : ℕ). z + length t) (length-take-le at s (omega arith)) ∙ sym pa in
    let split : u ≡ (take at s ++ t) ++ drop m s = a.written ∙ ap (λ (z : ℕ). take at s ++ (t ++ drop z s)) (sym pa) ∙ sym (append_assoc (take at s) t (drop m s)) in
    let front : take m u ≡ take at s ++ t = ap (take m) split ∙ take_at (take at s ++ t) (drop m s) m h in
    let back : drop (m + length v) u ≡ drop (at + length (t ++ v)) s =
    sym (drop-drop (length v) m u)
    ∙ ap (λ (z : List ℕ). drop (length v) (drop m z)) split
    ∙ ap (drop (length v)) (drop_at (take at s ++ t) (drop m s) m h)
    ∙ drop-drop (length v) m s
    ∙ ap (λ (z : ℕ). drop z s) (whole at m (length t) (length v) (length (t ++ v)) pa k) in
    record {
      room = omega arith;
      written =
          b.written
          ∙ ap (λ (z : List ℕ). z ++ (v ++ drop (m + length v) u)) front
          ∙ ap (λ (z : List ℕ). (take at s ++ t) ++ (v ++ z)) back
          ∙ append_assoc (take at s) t (v ++ drop (at + length (t ++ v)) s)
          ∙ ap (λ (z : List ℕ). take at s ++ z) (sym (append_assoc t v (drop (at + length (t ++ v)) s)));
      place = omega arith;
    }
  where
    whole : (at m a b c : ℕ) → m ≡ at + a → c ≡ a + b → m + b ≡ at + c
    whole at m a b c e f = omega arith

pub put_length : {at m : ℕ} {t s u : List ℕ} → Put at t s u m → length u ≡ length s
put_length {at} {m} {t} {s} {u} p = ap length p.written ∙ length_laid at t s p.room

-- the same text by another name
pub put_as : {at m : ℕ} {t v s u : List ℕ} → t ≡ v → Put at t s u m → Put at v s u m
put_as {at} {m} {t} {v} {s} {u} e p = subst (λ (z : List ℕ). Put at z s u m) e p

-- ---- a writer's texts
pub puts_then : {t v : List ℕ} {w x u : Writer} → Puts t w x → Puts v x u → Puts (t ++ v) w u
puts_then p q = record { same_buffer = q.same_buffer ∙ p.same_buffer; put = put_then p.put q.put }

pub puts_as : {t v : List ℕ} {w u : Writer} → t ≡ v → Puts t w u → Puts v w u
puts_as {t} {v} {w} {u} e p = subst (λ (z : List ℕ). Puts z w u) e p

puts_none : (w : Writer) → w.at ≤ length w.out.now → Puts [] w w
puts_none w h = record { same_buffer = refl; put = put_none w.at w.out.now h }

-- what a new writer put into its buffer
pub puts_from : {t s : List ℕ} {w u : Writer} → w.at ≡ 0 → w.out.now ≡ s → Puts t w u → Put 0 t s u.out.now u.at
puts_from {t} {s} {w} {u} a o p = subst (λ (z : ℕ). Put z t s u.out.now u.at) a (subst (λ (z : List ℕ). Put w.at t z u.out.now u.at) o p.put)

-- the room that is left behind a text
pub puts_room : (k : ℕ) {t : List ℕ} {w u : Writer} → Puts t w u → w.at + (length t + k) ≤ length w.out.now → u.at + k ≤ length u.out.now
puts_room k {t} {w} {u} p h = let l = put_length p.put in let q = p.put.place in omega arith

-- ---- hexadecimal digits
pow_sixteen : (k : ℕ) → 2 ^ (4 * k) ≡ 16 ^ k
pow_sixteen zero = refl
pow_sixteen (suc k) = ap (λ (z : ℕ). 2 ^ z) (mul-suc 4 k) ∙ pow-add 2 (4 * k) 4 ∙ ap (λ (z : ℕ). z * 16) (pow_sixteen k) ∙ sym (pow-suc 16 k)

-- the digit behind the first k of n, before m others
digit_more : (n k m v : ℕ) → k + suc m ≡ n → take k (spell n v) ++ (glyph (v / 16 ^ m % 16) ∷ []) ≡ take (suc k) (spell n v)
digit_more zero k m v e = absurd (omega arith)
digit_more (suc n) zero m v e = let h : m ≡ n = omega arith in ap (λ (z : ℕ). glyph (v / 16 ^ z % 16) ∷ []) h
digit_more (suc n) (suc k) m v e = ap (λ (l : List ℕ). glyph (v / 16 ^ n % 16) ∷ l) (digit_more n k m v (omega arith))

pub hex_more : (k v g : ℕ) → k < 16 → g ≡ glyph (v / 2 ^ (4 * (15 - k)) % 16) → take k (hex v) ++ (g ∷ []) ≡ take (k + 1) (hex v)
hex_more k v g h e =
    ap (λ (z : ℕ). take k (hex v) ++ (z ∷ [])) (e ∙ ap (λ (z : ℕ). glyph (v / z % 16)) (pow_sixteen (15 - k)))
    ∙ digit_more 16 k (15 - k) v (omega arith)
    ∙ ap (λ (j : ℕ). take j (hex v)) (sym (add-one k))

-- ---- decimal digits
pub decimal_short : (v : ℕ) → v < 10 → decimal v ≡ (48 + v % 10) ∷ []
decimal_short v h = decimal_one v h ∙ ap (λ (z : ℕ). (48 + z) ∷ []) (sym (mod-eq_of_lt h))

pub decimal_split : (v : ℕ) → 10 ≤ v → decimal v ≡ decimal (v / 10) ++ ((48 + v % 10) ∷ [])
decimal_split v h = let e : v / 10 * 10 + v % 10 ≡ v = omega arith in ap decimal (sym e) ∙ decimal_more (v / 10) (v % 10) (omega arith) (omega arith)

pub decimal_longer : (v : ℕ) → 10 ≤ v → length (decimal v) ≡ length (decimal (v / 10)) + 1
decimal_longer v h = ap length (decimal_split v h) ∙ length-append (decimal (v / 10)) ((48 + v % 10) ∷ [])

-- all digits of v but the last are written
pub record ButLast (v : ℕ) (w u : Writer) : Type 0 where
  pub text : List ℕ
  pub puts : Puts text w u
  pub split : decimal v ≡ text ++ ((48 + v % 10) ∷ [])

pub but_last_none : (v : ℕ) {w u : Writer} → v < 10 → w.at + length (decimal v) ≤ length w.out.now → u ≡ w → ButLast v w u
but_last_none v {w} {u} h r e = record { text = []; puts = rw e (puts_none w (omega arith)); split = decimal_short v h }

pub but_last_more : (v : ℕ) {w x u : Writer} → 10 ≤ v → Puts (decimal (v / 10)) w x → u ≡ x → ButLast v w u
but_last_more v {w} {x} {u} h p e = record { text = decimal (v / 10); puts = rw e p; split = decimal_split v h }

pub last_room : {v : ℕ} {w u : Writer} → ButLast v w u → w.at + length (decimal v) ≤ length w.out.now → u.at + 1 ≤ length u.out.now
last_room {v} {w} {u} b r = puts_room 1 b.puts (omega (arith, ap length b.split, length-append b.text ((48 + v % 10) ∷ [])))

pub decimal_most : (k v : ℕ) → v < 10 ^ suc k → length (decimal v) ≤ suc k
decimal_most zero v h = omega (arith, ap length (decimal_short v h))
decimal_most (suc k) v h = go (ltb v 10) refl (decimal_most k (v / 10))
  where
    go : (b : Bool) → ltb v 10 ≡ b → (v / 10 < 10 ^ suc k → length (decimal (v / 10)) ≤ suc k) → length (decimal v) ≤ suc (suc k)
    go true e again = omega (arith, ap length (decimal_short v (ltb-true v 10 e)))
    go false e again = omega (arith, decimal_longer v (ltb-false v 10 e), again (let p = pow-suc 10 (suc k) in omega (arith, h, p)))

-- ONLY ONE OUTCOME FITS what a writer promises: the list afterwards, and the place behind the text
pub one_put : (at : ℕ) (t s u v : List ℕ) (j k : ℕ) → Put at t s u j → Put at t s v k → (u ≡ v) × (j ≡ k)
one_put at t s u v j k p q = (p.written ∙ sym q.written, p.place ∙ sym q.place)
