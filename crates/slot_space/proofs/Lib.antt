pub mod Lemmas
pub mod Ascending
pub mod Lengths
mod Ones
pub mod Runs
mod Search
pub mod Sets
mod Words
