pub mod Runs
pub mod Zeros
pub mod Own
pub mod Aligned
pub mod Travel
pub mod RunsTaken
