-- The laws of floats that every crate cites.
pub mod Order
pub mod Compare
pub mod Value
pub mod Clock
pub mod Finite
pub mod Cut
pub mod Mono
