-- Theorems: what a start's answers say (Answers), the run as the definition's (Ran), when each number is given (Exactly) and which there are (Numbers), the halts over any
-- tables (Halted), demand 3 and the halts over reached ones (Landed).
-- Laws: a start by its tests (StartLaws), a run by its check (RunLaws), what steps leave as it was (Kept), and tables that hold a sound state (Encoded).
pub mod Answers
pub mod StartLaws
pub mod RunLaws
pub mod Kept
pub mod Encoded
pub mod Ran
pub mod Exactly
pub mod Numbers
pub mod Halted
pub mod Landed
