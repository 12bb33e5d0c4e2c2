-- Bytes, digits, fields and lines; a text put into a list; a plan's letters, what a plan shows, and the turns of the reader that goes by one.
pub mod Bytes
pub mod Numerals
pub mod Lines
pub mod Put
pub mod Letters
pub mod Reading
pub mod Plan
