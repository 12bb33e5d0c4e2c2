-- The listing program's answer to a text, by the grammar (Answer); the same over the reader that was fed the text (Read), and over the numbers that it holds and
-- the tables that the code lends (Runs).
pub mod Answer
pub mod Read
pub mod Runs
