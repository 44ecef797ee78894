-- Packets that no run has.
pub mod NoStrays
pub mod Unexpected
pub mod Holdings
pub mod Grants
pub mod Strangers
