pub mod Lemmas
mod Booted
mod Wiring
mod Stepping
mod Locally
mod ManyTurns
mod Rounding
