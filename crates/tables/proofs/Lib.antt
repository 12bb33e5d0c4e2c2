-- Laws of the tables: places in front of a table (Over), headers (HeadLaws), runs of places (Runs) and rows of them (QueueLaws), rows of numbers (RowLaws), at parts (PartLaws) and in the
-- table of lists (ListLaws), grains (GrainLaws), the scheduler (HeapLaws).
pub mod Over
pub mod HeadLaws
pub mod Runs
pub mod QueueLaws
pub mod RowLaws
pub mod PartLaws
pub mod ListLaws
pub mod GrainLaws
pub mod HeapLaws
