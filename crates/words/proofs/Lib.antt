pub mod Lemmas
pub mod Rules
pub mod Rows
pub mod Values
pub mod Walks
pub mod Parses
pub mod Uses
