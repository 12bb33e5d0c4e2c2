-- The laws of the square root; `Rule` is the theorem.
pub mod Isqrt
pub mod Law
pub mod Unique
pub mod Rule
pub mod Longer
pub mod Loop
pub mod Finish
pub mod Cases
