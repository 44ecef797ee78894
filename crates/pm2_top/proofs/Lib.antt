pub mod Given
pub mod Acts
pub mod Ran
pub mod Traced
