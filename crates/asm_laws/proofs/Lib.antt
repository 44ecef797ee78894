pub mod Sums
pub mod Running
pub mod Quotients
pub mod Uppers
