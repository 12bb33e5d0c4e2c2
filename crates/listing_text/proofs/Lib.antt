pub mod Form
pub mod Rows
pub mod Forward
pub mod Backward
pub mod Single
pub mod Examples
pub mod Putting
