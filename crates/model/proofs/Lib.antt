-- The theorems over the definitions of document 01, and what leads to them.
-- What is claimed: demand 3 (Demand3) of what is reached (Reached), shown not to be empty (Shown); halts (Halts, OneHalt), the numbers given exactly if (Exactly, Refusals), the
-- grain named and the budgets (Allowed), what counts are (Counts), what cannot happen (Never); an equal waits (Inserts), a cancelling forgets (Forgets), no grain is born outside
-- every cell (Born), a radius is for life (Radii); 01's examples (Starred, over the boxes and grains of Scenes).
pub mod Demand3
pub mod Reached
pub mod Shown
pub mod Halts
pub mod OneHalt
pub mod Exactly
pub mod Allowed
pub mod Refusals
pub mod Counts
pub mod Never
pub mod Inserts
pub mod Forgets
pub mod Born
pub mod Radii
pub mod Starred
pub mod Scenes
-- That the heap does, and check 10 answers, what they did when an empty list read as a time (AsBefore), and so every start and every run (Results).
pub mod AsBefore
pub mod Results
-- What is said over the history of acts (Histories): no event from an old velocity (NoneOld), none missing (Watched), nothing else pending (NothingElse), and that the history is
-- true (True), with velocities that only turns change (Velocities); computed on two runs (Stake, Tested; Exhibits).
pub mod Histories
pub mod NoneOld
pub mod Watched
pub mod NothingElse
pub mod True
pub mod Velocities
pub mod Exhibits
pub mod Stake
pub mod Tested
-- Laws of histories: what is pending by them (Told), the induction over steps and runs (Along), grains made free of events (Renews), tries at the clock (AtClock), of a rule (Tries),
-- by schedule_events (Scheduled), and of a rule by who asks (Asked), each once (Orderly).
pub mod Told
pub mod Along
pub mod Renews
pub mod AtClock
pub mod Tries
pub mod Scheduled
pub mod Asked
pub mod Orderly
-- Acts: outcomes by their tests (Cases), rows of acts (Performs), what they leave (Frame) and keep (Keeps), of lists (Lists), a queue (Queue) and an event's place (Places).
pub mod Cases
pub mod Performs
pub mod Frame
pub mod Keeps
pub mod Lists
pub mod Queue
pub mod Places
-- A step: what scheduling finds (Plans, told by numbers Answers), executions (Schedule), the step (Steps); a run of them (Runs), behind its checks (Whole); the checks (Sound, Stands,
-- Reflect, with tests of lists, Turns).
pub mod Plans
pub mod Answers
pub mod Schedule
pub mod Steps
pub mod Runs
pub mod Whole
pub mod Sound
pub mod Stands
pub mod Reflect
pub mod Turns
-- Numbers of halts, after a call's `?` (HaltNumbers).
pub mod HaltNumbers
-- A start: from cleared places (Cleared) to the standing facts (Starts); no 8 or 9 (Fresh), the first event of all (Roots).
pub mod Cleared
pub mod Starts
pub mod Fresh
pub mod Roots
-- from_p_to_c: the box's cells (Grid, and by eighths of a length Eighths), ends of a kernel (Kernels), at most two in a direction (Few), and lists of cells (Placed).
pub mod Grid
pub mod Eighths
pub mod Kernels
pub mod Few
pub mod Placed
