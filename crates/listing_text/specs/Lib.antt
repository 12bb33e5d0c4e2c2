-- How many columns and grains there are (Columns); the listing's text (Grammar) and the lines that are written (Answers); what is too large (Size); the reader's turns and what it holds (Reading, Rows, Held).
pub mod Columns
pub mod Grammar
pub mod Answers
pub mod Size
pub mod Rows
pub mod Reading
pub mod Held
