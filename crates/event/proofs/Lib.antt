-- The ways through the functions, over plain values.
mod Moves
mod Collision
