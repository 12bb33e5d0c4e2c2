-- A cell's head (Head), the heap (Heap), its standing facts (Standing), the logarithm that its swaps are held to (Log2), and what the functions say to each other (Inside).
pub mod Head
pub mod Heap
pub mod Standing
pub mod Log2
pub mod Inside
