pub mod Parts
pub mod Sound
pub mod Misfits
pub mod Values
