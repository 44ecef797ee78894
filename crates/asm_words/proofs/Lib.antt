pub mod Onto
pub mod Spans
pub mod Lemmas
