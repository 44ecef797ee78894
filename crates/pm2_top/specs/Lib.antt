pub mod Number
pub mod Asked
pub mod Delivery
pub mod Outcome
pub mod Texts
