pub mod Calls
pub mod Words
pub mod Fits
pub mod Lines
pub mod Reading
pub mod Texts
