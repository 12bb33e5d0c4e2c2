-- The test that a value is finite: `x - x == 0`. Assumes nothing.
use mathlib.Core.Path.{◌≡◌, refl, sym, ap, ◌∙◌}
use Prim.Native.Nat.{ℕ, suc, ◌+◌, ◌-◌, ◌*◌, ◌^◌, ◌<◌}
use native.Mathlib.Nat.{mul-pos, zero-mul, sub_self, lt_irrefl}
use mathlib.Core.Bool.{Bool, true, false, not, cond}
use lib.IntN.{ℤ, pos}
use lib.Dec.{T, ltb, ltb→lt, not_T}
use lib.Pow.{pow_pos}
use lib.Ieee.{Float, nan, inf, fin, Format, prec, emax, low, up, down, round, sum, sub, eq, fits}
use lib.Ieee.Bits.{is_false}
use lib.Ieee.Fits.{round-fits, down_pos}
use lib.Ieee.Exact.{round_exact}
use lib.Ieee.Scale.{finite}
use Rattle.order.proofs.Value.{value_unique}

pub round_zero : (f : Format) (c : ℕ) → 0 < c → round f false 0 c ≡ fin false 0 (pos 0)
round_zero f c C =
    value_unique f (round f false 0 c) (fin false 0 (pos 0)) false 0 c C (round-fits f false 0 c) (unfold fits in tt)
    (round_exact f false 0 c 0 0 C (pow_pos (prec f)) (pow_pos (low f + suc (emax f))) (zero-mul (2 ^ low f) ∙ sym (zero-mul c)))
    (refl, zero-mul c)

not_below_itself : (a : ℕ) → ltb a a ≡ false
not_below_itself a = is_false (ltb a a) (not_T (ltb a a) (λ (t : T (ltb a a)). lt_irrefl a (ltb→lt a a t)))

less_self : (f : Format) (s : Bool) (a c : ℕ) → 0 < c → sum f s a (not s) a c ≡ fin false 0 (pos 0)
unfolding sum
less_self f false a c C = ap (λ (b : Bool). cond b (round f true (a - a) c) (round f false (a - a) c)) (not_below_itself a) ∙ ap (λ (n : ℕ). round f false n c) (sub_self a) ∙ round_zero f c C
less_self f true a c C = ap (λ (b : Bool). cond b (round f false (a - a) c) (round f b (a - a) c)) (not_below_itself a) ∙ ap (λ (n : ℕ). round f false n c) (sub_self a) ∙ round_zero f c C

opened : (f : Format) (s : Bool) (m : ℕ) (e : ℤ) → sub f (fin s m e) (fin s m e) ≡ sum f s (m * up e * down e) (not s) (m * up e * down e) (down e * down e)
unfolding sub
opened f s m e = refl

zero_is : eq (fin false 0 (pos 0)) (fin false 0 (pos 0)) ≡ true
unfolding eq
zero_is = refl

pub finite_sub : (f : Format) (x : Float) → eq (sub f x x) (fin false 0 (pos 0)) ≡ finite x
finite_sub f nan = unfold sub eq in refl
finite_sub f (inf true) = unfold sub eq in refl
finite_sub f (inf false) = unfold sub eq in refl
finite_sub f (fin s m e) = ap (λ (z : Float). eq z (fin false 0 (pos 0))) (opened f s m e ∙ less_self f s (m * up e * down e) (down e * down e) (mul-pos (down_pos e) (down_pos e))) ∙ zero_is
