pub mod Loads
pub mod Products
