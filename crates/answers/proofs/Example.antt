-- 01, "The listing program": the answer to its example's text, from byte to byte, computed by the definitions. Assumes nothing.
use mathlib.Core.Path.{◌≡◌, refl, subst}
use mathlib.Core.Logic.{inl}
use mathlib.Core.List.{[], ◌∷◌}
use mathlib.Core.Bool.{true}
use lib.Dec.{lit<}
use lib.Ieee.{of_bits, to_bits, round, add, sub, mul, div, neg, lt, le, eq, of_int, to_unsigned}
use Rattle.halting.specs.Every.{every}
use Rattle.scheduler.specs.Heap.{time_in, child_in, down, downshifted, parent_in, up, upshifted, updated, numbered, start_heap}
use Rattle.model.specs.Sizes.{first_bad}
use Rattle.model.specs.Grid.{across}
use Rattle.model.specs.Stepping.{new_pos}
use Rattle.model.specs.FromPToC.{up_from, reached, cells_at as rows, cells_of_grain}
use Rattle.model.specs.Moves.{to_neighbour, out_of_cell}
use Rattle.model.specs.Walls.{wall}
use Rattle.model.specs.Events.{insert_by, fine_place}
use Rattle.model.specs.State.{heads, requeued, has}
use Rattle.model.specs.Acts.{fine_grain, store, insert, enter, taken}
use Rattle.model.specs.Rows.{doing, before, of_each, in_turn, pairing}
use Rattle.model.specs.Execute.{event, step}
use Rattle.model.specs.Start.{clear, begin, start}
use Rattle.model.specs.Check.{walk, settled, queued, heaped, standing, run_all}
use Rattle.model.specs.Standing.{syncs}
use Rattle.model.specs.Run.{run_from}
use Rattle.text.specs.Bytes.{bytes}
use Rattle.text.specs.Numerals.{decimal}
use Rattle.listing_text.specs.Grammar.{Input, text_of}
use Rattle.listing_text.specs.Answers.{listing_of}
use Rattle.answers.specs.Answer.{answer_to, Formed, Answers}
use Rattle.answers.proofs.Texts.{answer_input}

-- a 9 by 9 periodic box, rate 1, a still grain at (4.5, 4.5), value 0.5, radius 0.5
abbrev example : Input
example = record {
  l0 = 0x4022_0000_0000_0000;
  l1 = 0x4022_0000_0000_0000;
  p0 = true;
  p1 = true;
  rate = 0x3ff0_0000_0000_0000;
  grains = record { x = 0x4012_0000_0000_0000; y = 0x4012_0000_0000_0000; vx = 0; vy = 0; val = 0x3fe0_0000_0000_0000; rad = 0x3fe0_0000_0000_0000 } ∷ [];
}

example_formed : Formed (text_of example) example
example_formed = record {
  is_text = inl refl;
  words = record {
    l0_word = lit< tt;
    l1_word = lit< tt;
    rate_word = lit< tt;
    grain_words = ((lit< tt, (lit< tt, (lit< tt, (lit< tt, (lit< tt, (lit< tt, tt)))))), tt);
  };
  countable = lit< tt;
}

-- at time 1 it is where it was
example_listed : answer_to example ≡ listing_of 0x3ff0_0000_0000_0000 example.grains
unfolding answer_to decimal round add sub mul div neg lt le eq of_int to_unsigned of_bits to_bits across new_pos up_from reached rows cells_of_grain to_neighbour out_of_cell wall insert_by
    fine_place heads requeued has fine_grain store insert enter taken doing before of_each in_turn pairing event step first_bad clear begin start time_in child_in down downshifted
    parent_in up upshifted updated numbered start_heap every syncs walk settled queued heaped standing run_from run_all
example_listed = refl

pub example_answer : Answers (bytes "l0,l1,p0,p1,rate,n\r\n4022000000000000,4022000000000000,1,1,3FF0000000000000,1\r\nx,y,vx,vy,val,rad\r\n4012000000000000,4012000000000000,0000000000000000,0000000000000000,3FE0000000000000,3FE0000000000000\r\n")
    (bytes "time,index,x,y,vx,vy,val,rad\r\n3FF0000000000000,0,4012000000000000,4012000000000000,0000000000000000,0000000000000000,3FE0000000000000,3FE0000000000000\r\n")
unfolding decimal
example_answer = subst (Answers (text_of example)) example_listed (answer_input (text_of example) example example_formed)
