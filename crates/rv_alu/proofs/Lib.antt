pub mod Halves
pub mod WideProducts
