-- Histories of the nodes, merged into one run.
pub mod Merge
pub mod Determined
pub mod Weave
pub mod Bounded
