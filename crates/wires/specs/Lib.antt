pub mod Built
pub mod Ends
pub mod Link
pub mod Pairs
pub mod Ring
pub mod Wires
