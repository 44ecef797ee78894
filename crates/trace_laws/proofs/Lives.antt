-- A thread's run, its blocks and its life by itself.
pub mod RunLemmas
pub mod Heaps
pub mod OwnLives
pub mod Tales
pub mod OwnReplies
pub mod Goings
pub mod Signals
pub mod OwnLabels
pub mod SameLives
