pub mod Drawn
pub mod Ends
pub mod Course
pub mod Underway
pub mod Schedules
pub mod Replayed
pub mod Rounds
