pub mod Limits
pub mod Views
pub mod Runs
pub mod Newcomers
