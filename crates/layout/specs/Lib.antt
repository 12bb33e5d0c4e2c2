-- The widths of the lent tables.
pub mod Widths
