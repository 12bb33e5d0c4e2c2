use Prim.Native.Nat.{ℕ}
use mathlib.Core.Path.{◌≡◌, sym, ap, ◌∙◌}
use mathlib.Core.Bool.{Bool}
use mathlib.Core.List.{List}
use native.Mathlib.Nat.{zero-add}
use native.Mathlib.Omega.{arith}
use lib.ListN.{take}
use lib.Seq.{take_at}
use Rattle.pipes.specs.Writes.{HandedOut}
use Rattle.text.specs.Put.{Put}
use Rattle.text.proofs.Putting.{put_length}
use Rattle.answers.proofs.Texts.{of_answer}
use Rattle.answers.proofs.output.write_answer.Goals as goal

at_start : {n : ℕ} {t s u : List ℕ} → Put 0 t s u n → take n u ≡ t
at_start {n} {t} {s} {u} p = ap (take n) p.written ∙ take_at t _ n (sym (p.place ∙ zero-add _))

handed : {n : ℕ} {t s u : List ℕ} {r : Bool} → Put 0 t s u n → HandedOut (take n u) r → HandedOut t r
handed p h = rw (← at_start p) h

pub slice_bounds-out-end : goal.slice_bounds-out-end
slice_bounds-out-end c = let p = c.answer-n.ensures.put in omega (arith, p.room, p.place, put_length p)

pub returns : goal.returns
returns c =
    let h = handed c.answer-n.ensures.put c.hand_out.ensures.handed_out in
    record { of_answer = of_answer _ (λ a. HandedOut a c.hand_out.result) h; handed_out = h }
