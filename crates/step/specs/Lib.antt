-- What the sizes, the box and the grid of a world are to each other (Placed).
pub mod Placed
-- What it means that the tables hold a state of this box at this clock, and what an act over them answers and leaves.
pub mod World
