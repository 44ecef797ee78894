pub mod Rest
pub mod Services
pub mod Faultless
pub mod Reached
pub mod Imaged
pub mod Readable
pub mod Answered
