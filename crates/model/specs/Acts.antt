-- 01, "Numbers given back": the acts, each done whole or refused by its number (5 to 9) with nothing of it done. Assumes nothing: these are definitions.
use Rattle.std.specs.Prelude.{ℕ, ◌∷◌, ◌++◌, Bool, ◌&&◌, cond, ltb, leb, length, get_or, set, drop, replicate, Some, None, Ok, Err}
use Rattle.std.specs.Float.Ieee.Scale.{finite}
use Rattle.halting.specs.Out.{Out, out}
use Rattle.model.specs.declared.Particle.{Particle}
use Rattle.model.specs.declared.Place.{Place}
use Rattle.model.specs.Plans.{Plan}
use Rattle.layout.specs.Widths.{home_room, member_room}
use Rattle.model.specs.Events.{place_of, insert_by, keep_by, gone_by, head_place, zero_p, fine_place, fine_v}
use Rattle.model.specs.State.{Row, row, none, State, home, listed, queue, with_grains, with_lists, with_clock, requeued, has, pushed, pulled}

-- storing a grain's new numbers: 5
unfoldable pub fine_grain : Particle → Bool
fine_grain p = fine_v p.pos && (fine_v p.vel && (finite p.time && (finite p.val && finite p.rad)))

unfoldable pub store : ℕ → Particle → State → Out State
store g p s = cond (fine_grain p) (out 0 (with_grains (set s.grains g p) s)) (out 5 s)

-- an insertion with its heap update: 5 before 6
abbrev pub queue_row : State → ℕ → Row Place
queue_row s c = get_or s.queues c none

abbrev pub inserted : ℕ → Place → State → State
inserted c e s = requeued c (row (insert_by e (queue s c)) (drop 1 (queue_row s c).spare)) s

unfoldable pub insert : ℕ → Place → State → Out State
insert c e s = cond (fine_place e) (cond (ltb (length (queue s c)) s.room) (out 0 (inserted c e s)) (out 6 s)) (out 5 s)

-- what the scheduling of one kind found goes in
abbrev pub put : ℕ → Plan → State → Out State
put c (Ok None) s = out 0 s
put c (Ok (Some e)) s = insert c (place_of e) s
put c (Err _) s = out 5 s

-- cancelling a grain's events in one cell, with its heap update
unfoldable pub cancelled : ℕ → ℕ → State → State
cancelled g c s = requeued c (row (keep_by g (queue s c)) (replicate (gone_by g (queue s c)) zero_p ++ (queue_row s c).spare)) s

abbrev pub cancel : ℕ → ℕ → State → Out State
cancel g c s = out 0 (cancelled g c s)

-- entering a cell, in both lists: 8 before 7, the cell's room before the grain's
abbrev pub entered : ℕ → ℕ → State → State
entered g c s = with_lists (set s.homes g (pushed c (get_or s.homes g none))) (set s.members c (pushed g (get_or s.members c none))) s

unfoldable pub enter : ℕ → ℕ → State → Out State
enter g c s =
    cond (has g (listed s c)) (out 8 s)
    (cond (ltb (length (listed s c)) member_room) (cond (ltb (length (home s g)) home_room) (out 0 (entered g c s)) (out 7 s)) (out 7 s))

-- leaving it: 9
abbrev pub gone : ℕ → ℕ → State → State
gone g c s = with_lists (set s.homes g (pulled c (get_or s.homes g none))) (set s.members c (pulled g (get_or s.members c none))) s

unfoldable pub leave : ℕ → ℕ → State → Out State
leave g c s = cond (leb (length (home s g)) 1) (out 9 s) (out 0 (gone g c s))

-- the first event of all: the heap's root, its head, and the state without it, at its time
abbrev pub first : State → ℕ
first s = get_or s.sched.heap 0 0

abbrev pub head : State → Place
head s = head_place (queue s (first s))

unfoldable pub taken : State → State
taken s = with_clock (head s).time (requeued (first s) (row (drop 1 (queue s (first s))) (zero_p ∷ (queue_row s (first s)).spare)) s)
