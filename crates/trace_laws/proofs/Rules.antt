-- The rules of the labels alone, and that the machine is one with them.
pub mod Nexts
pub mod OneTrace
pub mod Entries
