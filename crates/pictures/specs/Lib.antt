pub mod Moments
pub mod Windows
pub mod Threads
pub mod Drawing
pub mod Telling
