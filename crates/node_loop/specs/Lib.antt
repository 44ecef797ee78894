pub mod View
pub mod Turns
pub mod Links
pub mod Histories
pub mod Passes
pub mod Rounds
