pub mod Statements
pub mod Slots
pub mod Rows
pub mod Lines
