-- What the benchmark's call answers.
pub mod Asked
