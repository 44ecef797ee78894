pub mod Layout
pub mod Faults
pub mod Bytes
pub mod Images
