pub mod Parts
pub mod Acts
pub mod Schedules
pub mod Written
pub mod Summaries
pub mod Stress
pub mod Fitting
