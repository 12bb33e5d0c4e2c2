-- The definitions of this crate.
pub mod Course
