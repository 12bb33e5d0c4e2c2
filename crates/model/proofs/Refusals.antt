-- THE CHECKS OF A RUN AND OF A START: a run behind its checks, in 01's order; a halted state answers its number and changes nothing; the numbers that change
-- nothing, each given exactly if. Assumes nothing.
use Prim.Native.Nat.{ℕ}
use mathlib.Core.Path.{◌≡◌, refl}
use mathlib.Core.List.{List}
use mathlib.Core.Bool.{Bool, true, false, cond}
use lib.Dec.{eqb}
use lib.ListN.{length}
use lib.Ieee.{Float}
use Rattle.order.specs.Numbers.{fzero}
use Rattle.model.specs.declared.Domain.{Domain}
use Rattle.model.specs.declared.Particle.{Particle}
use Rattle.model.specs.State.{State}
use Rattle.model.specs.Sizes.{box_ok, counts_ok, rated, first_bad}
use Rattle.model.specs.Run.{refused, Ran, run_from}
use Rattle.model.specs.Start.{begin, started_at, start}
use Rattle.model.specs.Start as begun
use Rattle.model.specs.Check.{standing, sized, halt, refusal, run_all}

-- ---- a halted state that passes check 2: its number, the clock +0, no events, nothing changed; for any rate and budget
pub halted_again : (rate : Float) (b : ℕ) (s : State) → sized s ≡ true → halt s.mark ≡ true → run_all rate b s ≡ record { how = refused s.mark; clock = fzero; count = 0; state = s }
unfolding run_all
halted_again rate b s z h = rw (z, h)

-- ---- a run refused by 2, 3 or 10: the number, zeros, nothing changed; and else its steps
pub run_refused_2 : (rate : Float) (b : ℕ) (s : State) → sized s ≡ false → run_all rate b s ≡ refusal 2 s
unfolding run_all
run_refused_2 rate b s z = rw z

pub run_refused_3 : (rate : Float) (b : ℕ) (s : State) → sized s ≡ true → halt s.mark ≡ false → rated rate ≡ false → run_all rate b s ≡ refusal 3 s
unfolding run_all
run_refused_3 rate b s z h r = rw (z, h, r)

pub run_refused_10 : (rate : Float) (b : ℕ) (s : State) → sized s ≡ true → halt s.mark ≡ false → rated rate ≡ true → standing s ≡ false → run_all rate b s ≡ refusal 10 s
unfolding run_all
run_refused_10 rate b s z h r t = rw (z, h, r, t)

pub run_goes : (rate : Float) (b : ℕ) (s : State) → sized s ≡ true → halt s.mark ≡ false → rated rate ≡ true → standing s ≡ true → run_all rate b s ≡ run_from rate b 0 s
unfolding run_all
run_goes rate b s z h r t = rw (z, h, r, t)

-- so what holds of each of these answers, over the budget, holds of a run's
pub run_case : (P : (ℕ → Ran) → Type 0) (rate : Float) (s : State) → P (λ b. refusal 2 s) → (halt s.mark ≡ true → P (λ b. refusal s.mark s)) → P (λ b. refusal 3 s) → P (λ b. refusal 10 s)
    → (halt s.mark ≡ false → rated rate ≡ true → standing s ≡ true → P (λ b. run_from rate b 0 s)) → P (λ b. run_all rate b s)
unfolding run_all
run_case P rate s two mark three ten go = by (sized s) (halt s.mark) refl (rated rate) refl (standing s) refl
  where
    by : (a h : Bool) → halt s.mark ≡ h → (r : Bool) → rated rate ≡ r → (t : Bool) → standing s ≡ t
        → P (λ b. cond a (cond h (refusal s.mark s) (cond r (cond t (run_from rate b 0 s) (refusal 10 s)) (refusal 3 s))) (refusal 2 s))
    by true true h r e t f = mark h
    by true false h true e true f = go h e f
    by true false h true e false f = ten
    by true false h false e t f = three
    by false a h r e t f = two

-- ---- a start refused by 1, 2 or 4 gives no state; any other is accepted
pub start_refused_1 : (b : Domain) (room : ℕ) (gs : List Particle) → box_ok b ≡ false → start b room gs ≡ begun.refused 1 0
unfolding start
start_refused_1 b room gs e = rw e

pub start_refused_2 : (b : Domain) (room : ℕ) (gs : List Particle) → box_ok b ≡ true → counts_ok room (length gs) ≡ false → start b room gs ≡ begun.refused 2 0
unfolding start
start_refused_2 b room gs e f = rw (e, f)

pub start_refused_4 : (b : Domain) (room : ℕ) (gs : List Particle) → box_ok b ≡ true → counts_ok room (length gs) ≡ true → eqb (first_bad b gs) (length gs) ≡ false → start b room gs ≡ begun.refused 4 (first_bad b gs)
unfolding start
start_refused_4 b room gs e f g = rw (e, f, g)

pub start_accepted : (b : Domain) (room : ℕ) (gs : List Particle) → box_ok b ≡ true → counts_ok room (length gs) ≡ true → eqb (first_bad b gs) (length gs) ≡ true → start b room gs ≡ started_at (begin b room gs)
unfolding start
start_accepted b room gs e f g = rw (e, f, g)
