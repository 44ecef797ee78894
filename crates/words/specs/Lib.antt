pub mod Words
pub mod Parser
pub mod Uses
pub mod Seen
