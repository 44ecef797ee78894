pub mod Bytes
pub mod Heap
pub mod Holes
pub mod Kept
pub mod Neighbours
