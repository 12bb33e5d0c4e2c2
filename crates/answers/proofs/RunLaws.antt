-- Two runs behind a start, and the answers' bytes. Assumes nothing.
use Prim.Native.Nat.{ℕ, ◌*◌, ◌≤◌}
use mathlib.Core.Path.{◌≡◌, refl, sym, ap, ◌∙◌}
use mathlib.Core.List.{List, ◌++◌, map}
use mathlib.Core.Bool.{Bool, true, false, ◌||◌, cond}
use lib.Dec.{ltb}
use lib.ListN.{get_or, drop, replicate}
use lib.Ieee.{Float}
use borrow.Author.Tests.{ltb-false}
use Rattle.std.specs.Prelude.{Result, Ok, Err}
use Rattle.std.specs.Result.{IsErrAnd}
use Rattle.chunks.specs.Flat.{flat}
use Rattle.model.specs.declared.Domain.{Domain}
use Rattle.model.specs.declared.Report.{Report}
use Rattle.model.specs.declared.refusal.StartError.{StartError}
use Rattle.model.specs.declared.refusal.StartError.TheVariants.{BoxOutOfRange, TooShort, BadGrain, Halted}
use Rattle.tables.specs.Decode.{Tables, grains_of, grains_part}
use Rattle.running.specs.Ran.{RanTables}
use Rattle.simulator.specs.Start.{StartedWith, with, start_all}
use Rattle.simulator.specs.Run.{run_tables}
use Rattle.listing_text.specs.declared.writer.Answer.TheVariants as answer
use Rattle.text.specs.Put.{Put}
use Rattle.listing_text.specs.Columns.{columns, most_kept, kept as kept_numbers}
use Rattle.listing_text.specs.Grammar.{columns_of}
use Rattle.listing_text.specs.Size.{long_length, too_large}
use Rattle.listing_text.specs.Answers.{answer_of}
use Rattle.text.proofs.Putting.{put_as}
use Rattle.answers.specs.Answer.{float, shown_grain, room, budget}
use Rattle.answers.specs.Runs.{how_ended, clock_at, told_all, start_before, started_report, go_on, simulated, blank, spelt, box_read, spelling, served, judged}

-- ---- two runs behind a start
module _ (b : Domain) (n : ℕ) (rate : Float) (inputs : List Float) (t : Tables) where
  pub simulated_by : (p q : RanTables) (u : Tables) → with (Ok tt) u ≡ start_all b n room inputs t → p ≡ run_tables rate budget u → q ≡ go_on rate p → q ≡ simulated b n rate inputs t
  unfolding simulated
  simulated_by p q u e f g = g ∙ ap (go_on rate) (f ∙ ap (λ (w : StartedWith). go_on rate (started_report w)) e)

  pub simulated_not : (o : Result Report StartError) (x : StartError) (u : Tables) → IsErrAnd o (λ y. y ≡ x) → with (Err x) u ≡ start_all b n room inputs t → told_all o u ≡ simulated b n rate inputs t
  unfolding simulated
  simulated_not (Ok r) x u h e = absurd h
  simulated_not (Err y) BoxOutOfRange u h e = ap (λ (z : StartError). told_all (Err z) u) h ∙ ap (λ (w : StartedWith). go_on rate (go_on rate (started_report w))) e
  simulated_not (Err y) TooShort u h e = ap (λ (z : StartError). told_all (Err z) u) h ∙ ap (λ (w : StartedWith). go_on rate (go_on rate (started_report w))) e
  simulated_not (Err y) (BadGrain g) u h e = ap (λ (z : StartError). told_all (Err z) u) h ∙ ap (λ (w : StartedWith). go_on rate (go_on rate (started_report w))) e
  simulated_not (Err y) (Halted k) u h e = ap (λ (z : StartError). told_all (Err z) u) h ∙ ap (λ (w : StartedWith). go_on rate (go_on rate (started_report w))) e

  -- the answer of the start before them
  pub before_by : (r : Report) (u : Tables) → with (Ok tt) u ≡ start_all b n room inputs t → start_before (Ok r) ≡ (start_all b n room inputs t).answer
  before_by r u e = ap (λ (w : StartedWith). w.answer) e

  pub before_not : (o : Result Report StartError) (x : StartError) (u : Tables) → IsErrAnd o (λ y. y ≡ x) → with (Err x) u ≡ start_all b n room inputs t → start_before o ≡ (start_all b n room inputs t).answer
  before_not (Ok r) x u h e = absurd h
  before_not (Err y) x u h e = ap (λ (z : StartError). start_before (Err z)) h ∙ ap (λ (w : StartedWith). w.answer) e

-- ---- what is written
pub serve_ends : (o : Result Report StartError) (b : Domain) (n : ℕ) (rate : Float) (inputs : List Float) (u : Tables) (v s : List ℕ)
    → told_all o u ≡ simulated b n rate inputs blank
    → v ≡ flat columns_of (map shown_grain (grains_of n (grains_part u.grains))) ++ drop (n * columns) s
    → (told_all o (simulated b n rate inputs blank).after ≡ simulated b n rate inputs blank) × (v ≡ flat columns_of (map shown_grain (grains_of n (grains_part (simulated b n rate inputs blank).after.grains))) ++ drop (n * columns) s)
serve_ends o b n rate inputs u v s e h = (
  ap (λ (x : RanTables). told_all o x.after) (sym e) ∙ e,
  h ∙ ap (λ (x : RanTables). flat columns_of (map shown_grain (grains_of n (grains_part x.after.grains))) ++ drop (n * columns) s) e,
)

pub served_put : (b : Domain) (rate : Float) (grains : List ℕ) (n : ℕ) (inputs : List Float) (o : Result Report StartError) (v s u : List ℕ) (k : ℕ) → inputs ≡ map float grains
    → (told_all o (simulated b n rate inputs blank).after ≡ simulated b n rate inputs blank)
    × (v ≡ flat columns_of (map shown_grain (grains_of n (grains_part (simulated b n rate inputs blank).after.grains))) ++ drop (n * columns) (replicate kept_numbers 0))
    → Put 0 (spelt (how_ended o) (clock_at o) n v) s u k → Put 0 (served b rate grains n) s u k
unfolding served
served_put b rate grains n inputs o v s u k ei e p =
    put_as
    ((λ i. spelt (e.0 i).how (e.0 i).clock n (e.1 i))
    ∙ (λ i. spelling (simulated b n rate (ei i) blank) n))
    p

-- ---- too large, or served: by the test x, which is y
pub judged_put : (numbers grains : List ℕ) (n : ℕ) (x y : Bool) (b : Domain) (s u : List ℕ) (k : ℕ) → b ≡ box_read numbers → x ≡ too_large n b.lengths.x b.lengths.y → x ≡ y
    → Put 0 (cond y (answer_of answer.TooLarge) (served (box_read numbers) (float (get_or numbers 4 0)) grains n)) s u k → Put 0 (judged numbers grains n) s u k
unfolding judged
judged_put numbers grains n x y b s u k eb e h p =
    put_as (ap (λ (z : Bool). cond z (answer_of answer.TooLarge) (served (box_read numbers) (float (get_or numbers 4 0)) grains n)) (sym h ∙ e ∙ ap (λ (w : Domain). too_large n w.lengths.x w.lengths.y) eb)) p

pub few : (n : ℕ) (a b : Float) (x : Bool) → x ≡ too_large n a b → x ≡ false → n ≤ most_kept
few n a b x e h = ltb-false most_kept n (by (ltb most_kept n) (sym e ∙ h))
  where
    by : (y : Bool) → (y || (long_length a || long_length b)) ≡ false → y ≡ false
    by true z = z
    by false z = refl
