pub mod Counts
pub mod Order
pub mod Own
pub mod Merged
