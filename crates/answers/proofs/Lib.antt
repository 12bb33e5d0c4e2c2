pub mod NineCells
pub mod RowLaws
pub mod RunLaws
pub mod Served
pub mod Texts
pub mod Never
pub mod Example
