-- The oracle's traces and answers, computed by the definitions of document 01 (Computed); and what is not so (Straight).
pub mod Computed
pub mod Straight
