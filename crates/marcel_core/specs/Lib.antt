pub mod Homes
pub mod Births
