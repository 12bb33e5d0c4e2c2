-- What a run answers beside the tables that it leaves (Ran), and what its loop asks and leaves (Going).
pub mod Ran
pub mod Going
