-- What the proofs of several functions use (Heads, Laws, Swaps), the theorems on the heap (Inverse, Order), on the swaps of an update (Swaps, Worst, Exact), and
-- that the heap does what it did (Agrees).
pub mod Heads
pub mod Laws
pub mod Swaps
pub mod Inverse
pub mod Order
pub mod Worst
pub mod Exact
pub mod Agrees
