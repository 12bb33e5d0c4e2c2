-- The laws of the tables' reading and of the tests.
pub mod Cut
pub mod Chunks
pub mod Lists
pub mod OneRow
pub mod OnePlace
pub mod Order
pub mod Heads
pub mod Same
pub mod Stages
pub mod Hold
pub mod Holding
pub mod Back
pub mod Accepts
pub mod Again
pub mod Needs
