pub mod Again
pub mod Digits
pub mod Ends
pub mod Joins
pub mod Readings
pub mod Splits
pub mod Words
mod Fitting
