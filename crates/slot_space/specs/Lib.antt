pub mod Limits
pub mod Addresses
pub mod Replies
pub mod Sets
pub mod Words
pub mod WordsBack
