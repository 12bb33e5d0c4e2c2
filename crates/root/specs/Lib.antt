-- The square root: how it is found (Isqrt, Bits, Root), what taking digits asks and gives (Step), and what 01 says of it (Rule).
pub mod Isqrt
pub mod Bits
pub mod Root
pub mod Step
pub mod Rule
