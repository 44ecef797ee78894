pub mod Buying
pub mod Lending
pub mod Runs
pub mod Turns
