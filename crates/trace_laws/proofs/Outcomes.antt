-- What holds after each run, and of a legal trace.
pub mod Consequences
pub mod Wholes
pub mod Stillness
pub mod NothingOutside
pub mod RunLists
pub mod Arrivals
pub mod Beginnings
pub mod Legals
