pub mod Expansions
pub mod Labels
