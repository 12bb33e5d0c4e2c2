-- What reads answer, one after another (Reads), by how many bytes one may move (Counts), and what writes take (Writes).
pub mod Counts
pub mod Reads
pub mod Writes
