-- Where one cell's row of events stands, and where a heap index goes first (Queues).
pub mod Queues
-- What the acts ask of the tables, and what they answer and leave.
pub mod Tell
