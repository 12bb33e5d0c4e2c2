-- A start (Start) and a run (Run), with what each promises, and what both reach (Reached).
pub mod Start
pub mod Run
pub mod Reached
