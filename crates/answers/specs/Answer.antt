-- 01, "The listing program": the answer to a text, by the text's grammar. Assumes nothing: these are definitions.
use Rattle.std.specs.Prelude.{ℕ, zero, suc, ◌≡◌, List, map, cond, length, Float}
use Rattle.std.specs.Float.{binary64}
use Rattle.std.specs.Float.Ieee.{of_bits, to_bits}
use Rattle.order.specs.Numbers.{fzero}
use Rattle.myvec.specs.Vec.{vec}
use Rattle.model.specs.declared.Domain.{Domain}
use Rattle.model.specs.declared.Particle.{Particle}
use Rattle.model.specs.Grid.{box_of}
use Rattle.model.specs.Stepping.{grain_of}
use Rattle.model.specs.Start.{Begun, refused, started, start}
use Rattle.model.specs.Run.{How, synchronised, spent, refused as refused_by, Ran}
use Rattle.model.specs.Check.{run_all}
use Rattle.text.specs.Numerals.{Word}
use Rattle.listing_text.specs.declared.writer.Answer.TheVariants.{Malformed, TooLarge, Refused, Spent}
use Rattle.listing_text.specs.Grammar.{Grain, Input, Words, Text}
use Rattle.listing_text.specs.Answers.{listing_of, answer_of}
use Rattle.listing_text.specs.Size.{too_large}

-- ---- floats by their bits
abbrev pub float : ℕ → Float
float b = of_bits binary64 b

-- the box and a grain of a text; a grain as it is listed
abbrev pub box_from : Input → Domain
box_from i = box_of (vec (float i.l0) (float i.l1)) i.p0 i.p1

abbrev pub grain_from : Grain → Particle
grain_from g = grain_of (vec (float g.x) (float g.y)) (vec (float g.vx) (float g.vy)) fzero (float g.val) (float g.rad)

abbrev pub shown_grain : Particle → Grain
shown_grain p = record {
  x = to_bits binary64 p.pos.x;
  y = to_bits binary64 p.pos.y;
  vx = to_bits binary64 p.vel.x;
  vy = to_bits binary64 p.vel.y;
  val = to_bits binary64 p.val;
  rad = to_bits binary64 p.rad;
}

-- ---- "64 events a cell", "65,536 events at most in each run"
abbrev pub room : ℕ
room = 64

abbrev pub budget : ℕ
budget = 65536

-- ---- "runs through the synchronisation at 0 to the next"; `spent` if the budget runs out, `refused` and the number
abbrev pub by_how : How → List ℕ → List ℕ
by_how synchronised l = l
by_how spent l = answer_of Spent
by_how (refused_by r) l = answer_of (Refused r)

-- what follows the run to the next, and the run through the first
abbrev pub listing : Ran → List ℕ
listing r = by_how r.how (listing_of (to_bits binary64 r.clock) (map shown_grain r.state.grains))

abbrev pub to_next : Float → Ran → List ℕ
to_next rate r = by_how r.how (listing (run_all rate budget r.state))

-- a start that halts is answered before the rate is looked at
abbrev pub unless_halted : ℕ → List ℕ → List ℕ
unless_halted zero l = l
unless_halted (suc r) l = answer_of (Refused (suc r))

abbrev pub after_start : Float → Begun → List ℕ
after_start rate (refused r g) = answer_of (Refused r)
after_start rate (started s) = unless_halted s.mark (to_next rate (run_all rate budget s))

-- ---- the answer to the numbers of a text of the form: `too large`, "then" refused, spent, or the listing
unfoldable pub answer_to : Input → List ℕ
answer_to i =
    cond (too_large (length i.grains) (float i.l0) (float i.l1)) (answer_of TooLarge)
    (after_start (float i.rate) (start (box_from i) room (map grain_from i.grains)))

-- ---- s is the text of the input, whose numbers, n among them, are of 64 bits
pub record Formed (s : List ℕ) (i : Input) : Type 0 where
  pub is_text : Text s i
  pub words : Words i
  pub countable : Word (length i.grains)

-- ---- a is the answer to the text s: that to its input, or `malformed` where it is not of this form. Every text has one, and only one (Texts)
pub record Answers (s a : List ℕ) : Type 0 where
  pub formed : (i : Input) → Formed s i → a ≡ answer_to i
  pub malformed : ((i : Input) → Formed s i → ⊥) → a ≡ answer_of Malformed
