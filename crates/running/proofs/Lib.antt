-- The loop over a run's steps (Going), and the tables that it leaves (PutBack).
pub mod Going
pub mod PutBack
