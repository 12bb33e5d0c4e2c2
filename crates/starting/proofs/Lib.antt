-- leaves as it was (OnlyIn), cleared tables hold the cleared state (Zeros), and an accepted start (BeginLaws).
pub mod InputLaws
pub mod EntryLaws
pub mod GoLaws
pub mod OnlyIn
pub mod Zeros
pub mod BeginLaws
