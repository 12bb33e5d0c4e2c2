-- The oracle's traces (each state after the start and after each event) and its answers, computed by the definitions of document 01. Assumes nothing.
use mathlib.Core.List.{List, [], ◌∷◌}
use lib.Dec.{T}
use lib.Count.{count_leading_zeros}
use lib.Ieee.{of_bits, to_bits, round, add, sub, mul, div, neg, lt, le, eq, of_int, to_unsigned}
use Rattle.root.specs.Isqrt.{near, root}
use Rattle.root.specs.Root.{root_of, sqrt_of}
use Rattle.scheduler.specs.Heap.{time_in, swap_at, child_in, down, downshifted, parent_in, up, upshifted, updated, numbered, start_heap}
use Rattle.model.specs.Sizes.{first_bad}
use Rattle.model.specs.Grid.{across, position}
use Rattle.model.specs.Stepping.{new_pos}
use Rattle.model.specs.Periodic.{apart}
use Rattle.model.specs.FromPToC.{up_from, reached, cells_at, cells_of_grain}
use Rattle.model.specs.Collision.{collision}
use Rattle.model.specs.Moves.{later, to_neighbour, out_of_cell}
use Rattle.model.specs.Walls.{wall}
use Rattle.model.specs.Events.{insert_by, keep_by, gone_by, fine_place}
use Rattle.model.specs.State.{heads, requeued, has, but}
use Rattle.model.specs.Acts.{fine_grain, store, insert, cancelled, enter, leave, taken}
use Rattle.model.specs.Rows.{others, doing, before, of_each, in_turn, pairing}
use Rattle.model.specs.Execute.{event, step}
use Rattle.model.specs.Start.{clear, begin, start}
use Rattle.model.specs.Check.{all, walk, settled, queued, heaped, standing, run_all}
use Rattle.model.specs.Standing.{syncs}
use Rattle.model.specs.Run.{run_from}
use Rattle.halting.specs.Every.{every}
use Rattle.examples.specs.Dump.{Trace, follows, answers_so}
use Rattle.examples.specs.AtTheWall.{at_the_wall_trace}
use Rattle.examples.specs.Correction.{correction_trace}
use Rattle.examples.specs.Empty.{empty_trace}
use Rattle.examples.specs.Fast.{fast_trace}
use Rattle.examples.specs.OddLengths.{odd_lengths_trace}
use Rattle.examples.specs.OddRadii.{odd_radii_trace}
use Rattle.examples.specs.Periodic.{periodic_trace}
use Rattle.examples.specs.Still.{still_trace}
use Rattle.examples.specs.ThreeSizes.{three_sizes_trace}
use Rattle.examples.specs.Touching.{touching_trace}
use Rattle.examples.specs.Walls.{walls_trace}
use Rattle.examples.specs.WallsInY.{walls_in_y_trace}
use Rattle.examples.specs.Answers.{answers}
use Rattle.examples.specs.Runs.{synchronises, spends, runs, refusals}

abbrev traces : List Trace
traces = at_the_wall_trace ∷ correction_trace ∷ empty_trace ∷ fast_trace ∷ odd_lengths_trace ∷ odd_radii_trace ∷ periodic_trace ∷ still_trace ∷ three_sizes_trace ∷ touching_trace ∷ walls_trace ∷ walls_in_y_trace ∷ []

pub traces_follow : T (all follows traces)
unfolding at_the_wall_trace correction_trace empty_trace fast_trace odd_lengths_trace odd_radii_trace periodic_trace still_trace three_sizes_trace touching_trace walls_trace walls_in_y_trace round add sub mul div neg lt le eq of_int to_unsigned of_bits to_bits root_of sqrt_of near root
    count_leading_zeros across position new_pos apart up_from reached cells_at cells_of_grain collision later to_neighbour out_of_cell wall insert_by keep_by gone_by fine_place heads requeued has but
    fine_grain store insert cancelled enter leave taken others doing before of_each in_turn pairing event step first_bad clear begin start time_in swap_at child_in down downshifted
    parent_in up upshifted updated numbered start_heap
traces_follow = tt

pub answers_end : T (all answers_so answers)
unfolding answers round add sub mul div neg lt le eq of_int to_unsigned of_bits to_bits root_of sqrt_of near root count_leading_zeros across position new_pos apart up_from reached cells_at
    cells_of_grain collision later to_neighbour out_of_cell wall insert_by keep_by gone_by fine_place heads requeued has but fine_grain store insert cancelled enter leave taken others doing
    before of_each in_turn pairing event step first_bad clear begin start time_in swap_at child_in down downshifted parent_in up upshifted updated numbered start_heap
answers_end = tt

-- runs of the walled box: S NW S CS ONS NNNNNS OOS OO OS WNONS S OW; one whose last budgeted event is a synchronisation has synchronised
pub walls_run : T (runs walls_trace (synchronises 20 1 ∷ spends 2 2 ∷ synchronises 20 1 ∷ synchronises 2 2 ∷ synchronises 20 3 ∷ synchronises 20 6 ∷ synchronises 20 3 ∷ spends 2 2 ∷ synchronises 20 2 ∷ spends 0 0 ∷ synchronises 20 5 ∷ synchronises 20 1 ∷ spends 2 2 ∷ []))
unfolding walls_trace round add sub mul div neg lt le eq of_int to_unsigned of_bits to_bits root_of sqrt_of near root count_leading_zeros across position new_pos apart up_from reached cells_at
    cells_of_grain collision later to_neighbour out_of_cell wall insert_by keep_by gone_by fine_place heads requeued has but fine_grain store insert cancelled enter leave taken others doing
    before of_each in_turn pairing event step first_bad clear begin start time_in swap_at child_in down downshifted parent_in up upshifted updated numbered start_heap every syncs walk
    settled queued heaped standing run_from run_all
walls_run = tt

pub walls_refuse : T (refusals walls_trace)
unfolding walls_trace round add sub mul div neg lt le eq of_int to_unsigned of_bits to_bits root_of sqrt_of near root count_leading_zeros across position new_pos apart up_from reached cells_at
    cells_of_grain collision later to_neighbour out_of_cell wall insert_by keep_by gone_by fine_place heads requeued has but fine_grain store insert cancelled enter leave taken others doing
    before of_each in_turn pairing event step first_bad clear begin start time_in swap_at child_in down downshifted parent_in up upshifted updated numbered start_heap every syncs walk
    settled queued heaped standing run_from run_all
walls_refuse = tt
