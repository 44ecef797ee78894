pub mod Between
pub mod Digits
pub mod Giving
pub mod Twice
pub mod Valued
