-- The laws that the proofs of this crate and its callers cite: acts in turn (Does), tables after each kind of act (Leaves), scheduling, executions, a start, a step.
pub mod Does
pub mod Leaves
pub mod Scheduling
pub mod Executions
pub mod Starting
pub mod Steps
