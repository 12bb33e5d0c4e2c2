-- Laws of the acts: the heap's update in its table (Updates), one row of events (Rows), all of them with the heap (Queues), lists (LinkLaws) and grains (StoreLaws);
-- for callers, acts in turn (InTurn), what an act leaves as it was (Touch, and Frame for the queues'), and tables that hold a sound state (FromSound).
pub mod Updates
pub mod Rows
pub mod Queues
pub mod InTurn
pub mod Frame
pub mod Touch
pub mod FromSound
pub mod LinkLaws
pub mod StoreLaws
