pub mod CutOff
pub mod Hands
pub mod Listing
