mod Crosses
mod Lodging
mod Values
pub mod Zeros
