-- What reads make of a reader, and the answer that is handed out (Turns).
pub mod Turns
