-- The tables with every place cleared (Cleared); inside a start, the cells that a grain enters (Entries),
-- grains that go in (Grains), and an accepted start (Begin).
pub mod Cleared
pub mod Entries
pub mod Grains
pub mod Begin
