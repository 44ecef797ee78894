pub mod Writing
pub mod Threads
pub mod Rules
pub mod Packed
pub mod Moving
