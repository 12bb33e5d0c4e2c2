-- What the oracle dumped: the form (Dump), its traces, its answers to starts that are refused or halt (Answers), and runs along a trace (Runs).
pub mod Dump
pub mod AtTheWall
pub mod Correction
pub mod Empty
pub mod Fast
pub mod OddLengths
pub mod OddRadii
pub mod Periodic
pub mod Still
pub mod ThreeSizes
pub mod Touching
pub mod Walls
pub mod WallsInY
pub mod Answers
pub mod Runs
