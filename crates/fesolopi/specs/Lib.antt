-- What the exported calls answer.
pub mod Codes
pub mod Needed
